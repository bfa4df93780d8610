-- Diagrams 1 to 3.
use Rattle.std.proofs.Common.{refl, [], ◌∷◌}
use Rattle.procedure.specs.Sound.{sound}
use Rattle.host.specs.Meanings.{Meaning}
use Rattle.rules.specs.Growing.{tree_of}
use Rattle.rules.specs.Moves.{join, placed, over, for_each, past_zero, if_some, one_if, targets}
use Rattle.rules.specs.Ends.{arranged}
use Rattle.worked.specs.Files.{axle_file}
use Rattle.worked.specs.Drawn.{axle}
use Rattle.worked.specs.Worked.{FromFile, Diagram1, Diagram2, Diagram3}
use Rattle.worked.proofs.Steps.{after, answered}
use Rattle.worked.proofs.Readings.{reads-axle}
use Rattle.worked.proofs.Told.{type_0_told}

pub first : (m : Meaning) → FromFile axle_file axle (type_0_told (1 ∷ 2 ∷ 3 ∷ [])) 128 (λ t. Diagram1 t m)
unfolding tree_of join placed over for_each past_zero if_some one_if targets arranged sound
first m = record {
  reads = reads-axle;
  opens = refl;
  holds = record {
    first = after (type_0_told (1 ∷ 2 ∷ 3 ∷ [])) axle m _ _ _ refl refl refl;
    done = refl;
  };
}

pub second : (m : Meaning) → FromFile axle_file axle (type_0_told (1 ∷ 2 ∷ 3 ∷ [])) 128 (λ t. Diagram2 t m)
unfolding tree_of join placed over for_each past_zero if_some one_if targets arranged sound
second m = record {
  reads = reads-axle;
  opens = refl;
  holds = record {
    takes_2 = answered _ _ _ _ _ _ refl;
    after_2 = after (type_0_told (1 ∷ 2 ∷ 3 ∷ [])) axle m _ _ _ refl refl refl;
    undone = refl;
  };
}

pub third : (m : Meaning) → FromFile axle_file axle (type_0_told (1 ∷ 2 ∷ 3 ∷ [])) 128 (λ t. Diagram3 t m)
unfolding tree_of join placed over for_each past_zero if_some one_if targets arranged sound
third m = record {
  reads = reads-axle;
  opens = refl;
  holds = record {
    refuses_3 = answered _ _ _ _ _ _ refl;
    takes_4 = answered _ _ _ _ _ _ refl;
    after_4 = after (type_0_told (1 ∷ 2 ∷ 3 ∷ [])) axle m _ _ _ refl refl refl;
    done = refl;
  };
}

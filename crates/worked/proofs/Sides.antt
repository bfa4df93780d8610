-- Diagrams 4 and 5.
use Rattle.std.proofs.Common.{refl, [], ◌∷◌}
use Rattle.procedure.specs.Sound.{sound}
use Rattle.host.specs.Meanings.{Meaning}
use Rattle.rules.specs.Growing.{tree_of}
use Rattle.rules.specs.Moves.{join, placed, over, for_each, past_zero, if_some, one_if, targets}
use Rattle.rules.specs.Ends.{arranged}
use Rattle.worked.specs.Files.{apart_file, together_file}
use Rattle.worked.specs.Drawn.{sides}
use Rattle.worked.specs.Worked.{Types, FromFile, Diagram4, Diagram4Under1, Diagram5}
use Rattle.worked.proofs.Steps.{after, answered}
use Rattle.worked.proofs.Readings.{reads-apart, reads-together}

pub apart : (told : Types) (m : Meaning) → FromFile apart_file (sides []) told 128 (λ t. Diagram4 t m)
unfolding tree_of join placed over for_each past_zero if_some one_if targets arranged sound
apart told m = record {
  reads = reads-apart;
  opens = refl;
  holds = record {
    first = after told (sides []) m _ _ _ refl refl refl;
    takes_5 = answered _ _ _ _ _ _ refl;
    after_5 = after told (sides []) m _ _ _ refl refl refl;
    takes_5_again = answered _ _ _ _ _ _ refl;
    after_both = after told (sides []) m _ _ _ refl refl refl;
  };
}

pub too-many : (told : Types) (m : Meaning) → FromFile apart_file (sides []) told 1 (λ t. Diagram4Under1 t m)
unfolding tree_of join placed over for_each past_zero if_some one_if targets arranged sound
too-many told m = record {
  reads = reads-apart;
  opens = refl;
  holds = answered _ _ _ _ _ _ refl;
}

pub together : (told : Types) (m : Meaning) → FromFile together_file (sides (5 ∷ [])) told 128 (λ t. Diagram5 t m)
unfolding tree_of join placed over for_each past_zero if_some one_if targets arranged sound
together told m = record {
  reads = reads-together;
  opens = refl;
  holds = record {
    first = after told (sides (5 ∷ [])) m _ _ _ refl refl refl;
    takes_5 = answered _ _ _ _ _ _ refl;
    after_5 = after told (sides (5 ∷ [])) m _ _ _ refl refl refl;
    refuses_5 = answered _ _ _ _ _ _ refl;
  };
}

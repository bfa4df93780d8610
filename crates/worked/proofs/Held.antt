-- Diagrams 8 to 10, in which events have to wait, or come too late.
use Rattle.std.proofs.Common.{refl, [], ◌∷◌}
use Rattle.procedure.specs.Sound.{sound}
use Rattle.host.specs.Meanings.{Meaning}
use Rattle.rules.specs.Growing.{tree_of}
use Rattle.rules.specs.Moves.{join, placed, over, for_each, past_zero, if_some, one_if, targets}
use Rattle.rules.specs.Ends.{arranged}
use Rattle.worked.specs.Files.{guarded_file, wheels_file, waiting_file}
use Rattle.worked.specs.Drawn.{guarded, wheels, waiting}
use Rattle.worked.specs.Worked.{Types, FromFile, Diagram8, Diagram9, Diagram10}
use Rattle.worked.proofs.Steps.{after, answered}
use Rattle.worked.proofs.Readings.{reads-guarded, reads-wheels, reads-waiting}
use Rattle.worked.proofs.Told.{type_0_told, table_once, by_table}

pub once : (told : Types) → FromFile guarded_file guarded told 128 (λ t. Diagram8 t (by_table table_once))
unfolding tree_of join placed over for_each past_zero if_some one_if targets arranged sound
once told = record {
  reads = reads-guarded;
  opens = refl;
  holds = record {
    first = after told guarded (by_table table_once) _ _ _ refl refl refl;
    takes_8 = answered _ _ _ _ _ _ refl;
    after_8 = after told guarded (by_table table_once) _ _ _ refl refl refl;
    takes_8_again = answered _ _ _ _ _ _ refl;
    after_both = after told guarded (by_table table_once) _ _ _ refl refl refl;
    refuses_8 = answered _ _ _ _ _ _ refl;
  };
}

pub all-together : (m : Meaning) → FromFile wheels_file wheels (type_0_told (1 ∷ 2 ∷ [])) 128 (λ t. Diagram9 t m)
unfolding tree_of join placed over for_each past_zero if_some one_if targets arranged sound
all-together m = record {
  reads = reads-wheels;
  opens = refl;
  holds = record {
    first = after (type_0_told (1 ∷ 2 ∷ [])) wheels m _ _ _ refl refl refl;
    refuses_10 = answered _ _ _ _ _ _ refl;
    takes_9_1 = answered _ _ _ _ _ _ refl;
    after_9_1 = after (type_0_told (1 ∷ 2 ∷ [])) wheels m _ _ _ refl refl refl;
    takes_9_2 = answered _ _ _ _ _ _ refl;
    after_9_2 = after (type_0_told (1 ∷ 2 ∷ [])) wheels m _ _ _ refl refl refl;
    takes_10 = answered _ _ _ _ _ _ refl;
    after_10 = after (type_0_told (1 ∷ 2 ∷ [])) wheels m _ _ _ refl refl refl;
  };
}

pub waited : (told : Types) (m : Meaning) → FromFile waiting_file waiting told 128 (λ t. Diagram10 t m)
unfolding tree_of join placed over for_each past_zero if_some one_if targets arranged sound
waited told m = record {
  reads = reads-waiting;
  opens = refl;
  holds = record {
    first = after told waiting m _ _ _ refl refl refl;
    refuses_12 = answered _ _ _ _ _ _ refl;
    takes_11 = answered _ _ _ _ _ _ refl;
    after_11 = after told waiting m _ _ _ refl refl refl;
    takes_12 = answered _ _ _ _ _ _ refl;
    after_12 = after told waiting m _ _ _ refl refl refl;
  };
}

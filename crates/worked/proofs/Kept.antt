-- Diagrams 6 and 7, which keep two readings of one event.
use Rattle.std.proofs.Common.{refl}
use Rattle.procedure.specs.Sound.{sound}
use Rattle.host.specs.Meanings.{Meaning}
use Rattle.rules.specs.Growing.{tree_of}
use Rattle.rules.specs.Moves.{join, placed, over, for_each, past_zero, if_some, one_if, targets}
use Rattle.rules.specs.Ends.{arranged}
use Rattle.worked.specs.Files.{handing_over_file, either_file}
use Rattle.worked.specs.Drawn.{handing_over, either}
use Rattle.worked.specs.Worked.{Types, FromFile, Diagram6, Diagram7}
use Rattle.worked.proofs.Steps.{after, answered}
use Rattle.worked.proofs.Readings.{reads-handing-over, reads-either}

pub handed-over : (told : Types) (m : Meaning) → FromFile handing_over_file handing_over told 128 (λ t. Diagram6 t m)
unfolding tree_of join placed over for_each past_zero if_some one_if targets arranged sound
handed-over told m = record {
  reads = reads-handing-over;
  opens = refl;
  holds = record {
    first = after told handing_over m _ _ _ refl refl refl;
    takes_6 = answered _ _ _ _ _ _ refl;
    after_6 = after told handing_over m _ _ _ refl refl refl;
    takes_6_again = answered _ _ _ _ _ _ refl;
    after_both = after told handing_over m _ _ _ refl refl refl;
  };
}

pub either-side : (told : Types) (m : Meaning) → FromFile either_file either told 128 (λ t. Diagram7 t m)
unfolding tree_of join placed over for_each past_zero if_some one_if targets arranged sound
either-side told m = record {
  reads = reads-either;
  opens = refl;
  holds = record {
    first = after told either m _ _ _ refl refl refl;
    takes_7 = answered _ _ _ _ _ _ refl;
    after_7 = after told either m _ _ _ refl refl refl;
  };
}

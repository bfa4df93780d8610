use Rattle.rules.proofs.Willing.{still-moves}
use Rattle.rules.proofs.laws.guards_only_hinder.Goals as goal

pub returns : goal.returns
returns c = record { where_they_say_yes_to_more_what_moved_still_moves = λ t g g' e v r r' more. still-moves g g' more t e v r r' }

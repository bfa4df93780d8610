use Rattle.motions.specs.Laws.{Replaced}
use Rattle.motions.proofs.Adds.{fits-excludes-overflow}
use Rattle.motions.proofs.laws.outcomes_are_told_apart.Goals as goal

pub returns : goal.returns
returns c = record { a_fit_excludes_an_overflow = λ t g e v r at n before after. fits-excludes-overflow (Replaced t g e v r at) n before after }

use Rattle.std.proofs.Common.{refl}
use Rattle.script.proofs.Fresh.{none_at}
use Rattle.script.proofs.hosting.Host.of.Goals as goal

pub returns-in-Limits-clause-says_no : goal.returns-in-Limits-clause-says_no
returns-in-Limits-clause-says_no c = λ w guard e v. rw (c.new.ensures.has_none_set, none_at 32 guard) refl

pub returns-in-Tallies-clause-says_no : goal.returns-in-Tallies-clause-says_no
returns-in-Tallies-clause-says_no c = λ w guard e v. rw (c.new-in-Tallies.ensures.has_none_set, none_at 32 guard) refl

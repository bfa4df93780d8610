use Rattle.rules.proofs.Fits.{fits}
use Rattle.rules.proofs.laws.moves_are_adequate.Goals as goal

pub returns-clause-what_is_listed_is_derived : goal.returns-clause-what_is_listed_is_derived
returns-clause-what_is_listed_is_derived c t g e v = (fits t g e v).sound

pub returns-clause-what_is_derived_is_listed : goal.returns-clause-what_is_derived_is_listed
returns-clause-what_is_derived_is_listed c t g e v = (fits t g e v).complete

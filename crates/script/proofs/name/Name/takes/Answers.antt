use Rattle.std.proofs.Common.{refl, inl, inr}
use Rattle.std.specs.Fmt.{digits}
use Rattle.script.proofs.name.Name.takes.Goals as goal

pub returns-in-Range : goal.returns-in-Range
unfolding digits
returns-in-Range c = elim c.in-Range.is [ inl e ↦ rw e refl | inr e ↦ rw e refl ]

pub returns-in-Limit : goal.returns-in-Limit
unfolding digits
returns-in-Limit c = elim c.in-Limit.is [ inl e ↦ rw e refl | inr e ↦ rw e refl ]

pub returns-in-Open : goal.returns-in-Open
unfolding digits
returns-in-Open c = rw c.in-Open.is refl

pub returns-in-Offer : goal.returns-in-Offer
unfolding digits
returns-in-Offer c = rw c.in-Offer.is refl

pub returns-in-Menu : goal.returns-in-Menu
unfolding digits
returns-in-Menu c = rw c.in-Menu.is refl

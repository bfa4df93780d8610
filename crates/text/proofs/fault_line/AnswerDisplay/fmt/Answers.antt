use Rattle.std.proofs.Common.{inl, inr, ne_eqb}
use Rattle.text.proofs.fault_line.AnswerDisplay.fmt.Goals as goal

pub returns-in-KindKnown-clause-writes : goal.returns-in-KindKnown-clause-writes
returns-in-KindKnown-clause-writes g c plain ok =
    let put = c.write-in-KindKnown.ensures.writes plain ok in
    elim c.in-KindKnown.is [ inl e ↦ rw e put | inr (inl e) ↦ rw e put | inr (inr (inl e)) ↦ rw e put | inr (inr (inr e)) ↦ rw e put ]

pub returns-in-OneRoot-2-clause-writes : goal.returns-in-OneRoot-2-clause-writes
returns-in-OneRoot-2-clause-writes g c plain ok = rw (c.in-OneRoot.is, ne_eqb _ 65535 c.if-place-eq-NO_NODE.false) (c.write-in-OneRoot-2.ensures.writes plain ok)

use Rattle.std.proofs.Common.{take}
use Rattle.diagram.proofs.Placing.{Put}
use Rattle.diagram.proofs.measuring.place.Given as goal

abbrev pub invariant-loop-child : goal.invariant-loop-child
invariant-loop-child l = Put l.above (take l.child-index l.child-items) l.initial.binders l.binders

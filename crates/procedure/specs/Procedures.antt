-- What a procedure holds, and how it relates to the file that it was read from.
use Rattle.std.specs.Prelude.{◌≡◌, ℕ, true, List, length, is_ok, Some, None, Ok, Err, Result, MatchResult}
use Rattle.fault.specs.Asking.{refusal}
use Rattle.fault.specs.declared.fault.Fault.{Fault}
use Rattle.procedure.specs.Drawings.{Drawing}
use Rattle.procedure.specs.Layout.{Lays}
use Rattle.procedure.specs.Reading.{whole_asks, Accepted, Refused}
use Rattle.procedure.specs.declared.procedure.Procedure.{Procedure}

-- its nodes and arrows, in file order
abbrev pub drawing : Procedure → Drawing
drawing p = record { nodes = p.nodes.items; arrows = p.arrows.items }

-- a drawing becomes a procedure if it is whole; or the first question that it answers no to is the refusal
abbrev pub BecomesWhole : Drawing → Result Procedure Fault → Type 0
BecomesWhole d r = MatchResult r (λ p. (drawing p ≡ d) × (refusal (whole_asks d) ≡ None)) (λ f. refusal (whole_asks d) ≡ Some f)

-- one implies the other, both ways (as the library's arrow does; here in words)
pub record Exactly (P Q : Type 0) : Type 0 where
  pub then : P → Q
  pub back : Q → P

-- an answer is the refusal f exactly when, of all questions, f's is the first that the file answers no to, at f's place
abbrev pub RefusedExactly : List ℕ → Result ℕ Fault → Type 0
RefusedExactly b r = (f : Fault) → Exactly (r ≡ Err f) (Refused b f)

-- an answer is no refusal exactly when the file answers yes to every question
abbrev pub AcceptedExactly : List ℕ → Result ℕ Fault → Type 0
AcceptedExactly b r = Exactly (is_ok r ≡ true) (Accepted b)

-- a reading gives the drawing d exactly for the files that lay out d and are accepted
abbrev pub LaidOutExactly : List ℕ → Result ℕ Fault → Drawing → Type 0
LaidOutExactly b r held = (d : Drawing) → Exactly ((r ≡ Ok (length d.nodes)) × (held ≡ d)) (Accepted b × Lays b d)

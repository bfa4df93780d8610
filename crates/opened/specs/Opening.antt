-- The questions of an opening.
use Rattle.std.specs.Prelude.{ℕ, ◌-◌, Bool, true, false, ◌&&◌, List, [], ◌∷◌, ◌++◌, length, Option, Some, None, Result, nat_le, nat_lt, slice_index_or}
use Rattle.fault.specs.Asking.{Asked, refusal, asked_of_each, answer_or}
use Rattle.fault.specs.declared.fault.Fault.{Fault}
use Rattle.fault.specs.declared.fault.Question.TheVariants.{ProcedureDrawn, TypesKnown, WidthsWithinRow, CeilingInRange}
use Rattle.notation.specs.Parts.{blank_node, over_of}
use Rattle.procedure.specs.Drawings.{Drawing}
use Rattle.rules.specs.Trees.{Tree}
use Rattle.rules.specs.Cells.{width}
use Rattle.rules.specs.Growing.{Values, tree_of}

-- the values of a list, none where it is unknown
abbrev pub listed_or_none : Option (List ℕ) → List ℕ
listed_or_none None = []
listed_or_none (Some xs) = xs

-- the values of each type, as a roster tells them
abbrev pub told_values : (ℕ → Option (List ℕ)) → Values
told_values told ty = listed_or_none (told ty)

-- the tree of the root, which is the last node
abbrev pub root_tree : Values → Drawing → Tree
root_tree values d = tree_of values d (length d.nodes - 1)

-- whether a type is known, with 1 to 16 values
abbrev pub has_few : Option (List ℕ) → Bool
has_few None = false
has_few (Some xs) = nat_le 1 (length xs) && nat_le (length xs) 16

-- whether the type that a node binds a variable over, if it is a binder, is such a one
abbrev pub type_known : (ℕ → Option (List ℕ)) → Option ℕ → Bool
type_known told None = true
type_known told (Some ty) = has_few (told ty)

-- question 12 of each node
abbrev pub type_asks : Drawing → (ℕ → Option (List ℕ)) → List Asked
type_asks d told = asked_of_each TypesKnown (length d.nodes) (λ i. type_known told (over_of (slice_index_or d.nodes i blank_node)))

-- question 13 of each node
abbrev pub width_asks : Drawing → (ℕ → Option (List ℕ)) → List Asked
width_asks d told = asked_of_each WidthsWithinRow (length d.nodes) (λ i. nat_le (width (tree_of (told_values told) d i)) 48)

-- the questions of an opening: 11, then 12 and 13 of each node, then 14
abbrev pub open_asks : Drawing → (ℕ → Option (List ℕ)) → ℕ → List Asked
open_asks d told ceiling =
    record { question = ProcedureDrawn; place = 0; yes = nat_lt 0 (length d.nodes) }
    ∷ (type_asks d told
    ++ (width_asks d told ++ (record { question = CeilingInRange; place = ceiling; yes = nat_le 1 ceiling && nat_le ceiling 128 } ∷ [])))

-- what an opening is answered: the fault of the first no, or else 1, the number of states that it holds
abbrev pub open_answer : Drawing → (ℕ → Option (List ℕ)) → ℕ → Result ℕ Fault
open_answer d told ceiling = answer_or (refusal (open_asks d told ceiling)) 1

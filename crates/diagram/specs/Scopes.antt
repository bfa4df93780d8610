-- The binders above each node, and the values that variables can have under them.
use Rattle.std.specs.Prelude.{◌≡◌, ℕ, zero, suc, ◌+◌, ◌-◌, List, length, Option, Some, None, slice_index_or}
use Rattle.std.specs.List.{slice_get}
use mathlib.Core.List.{Memᴰ}
use Rattle.notation.specs.Parts.{children_of}
use Rattle.notation.specs.declared.node.Node.{Node}
use Rattle.notation.specs.declared.node.Node.TheVariants.{Closure, Automaton, Sequence, Guard, Choice, Synchronisation, QuantifiedChoice, QuantifiedSynchronisation}
use Rattle.host.specs.declared.variables.Variables.{Variables}
use Rattle.rules.specs.Trees.{bound}
use Rattle.rules.specs.Growing.{Values}
use Rattle.diagram.specs.Plans.{nodes_of}
use Rattle.diagram.specs.declared.binders.Binders.{Binders}
use Rattle.diagram.specs.declared.plan.Plan.{Plan}
use Rattle.diagram.specs.declared.scope.Scope.{Scope}

-- above the root there is no binder
abbrev pub no_binders : Binders
no_binders = record { outer = None; inner = None }

-- the types under a binder over a type, by the outermost one's above it
abbrev pub typed_under : Option ℕ → ℕ → Binders
typed_under None ty = record { outer = Some ty; inner = None }
typed_under (Some outer) ty = record { outer = Some outer; inner = Some ty }

-- what is above the child of a node: what is above the node, and the node if it is a binder
abbrev pub binders_under : Node → Binders → Binders
binders_under (Closure body) b = b
binders_under (Automaton states) b = b
binders_under (Sequence first second) b = b
binders_under (Guard guard body) b = b
binders_under (Choice left right) b = b
binders_under (Synchronisation left right labels) b = b
binders_under (QuantifiedChoice over body) b = typed_under b.outer over
binders_under (QuantifiedSynchronisation over body labels) b = typed_under b.outer over

-- what a table tells of a node
abbrev pub binders_at : List Binders → ℕ → Binders
binders_at bs i = slice_index_or bs i no_binders

-- a table tells of each child what is above it
abbrev pub Placed : Plan → List Binders → Type 0
Placed p bs = (i k : ℕ) (n : Node) → slice_get (nodes_of p) i ≡ Some n → Memᴰ k (children_of n) → binders_at bs k ≡ binders_under n (binders_at bs i)

-- and of the root that nothing is
abbrev pub Rooted : Plan → List Binders → Type 0
Rooted p bs = binders_at bs (length (nodes_of p) - 1) ≡ no_binders

-- a variable of this value, if there is one
abbrev pub given : Option ℕ → Option (Option ℕ)
given None = None
given (Some x) = Some (Some x)

-- what a variable is at a position of its type's values, counted from 1; one without a type is absent, at 0; at other positions it is nothing
abbrev pub variable_at : Values → Option ℕ → ℕ → Option (Option ℕ)
variable_at values None zero = Some None
variable_at values None (suc k) = None
variable_at values (Some ty) zero = None
variable_at values (Some ty) (suc k) = given (slice_get (values ty) k)

-- how many positions there are for a variable, that of absence included: the values of its type stand at those from 1 on; one without a type is absent, at 0
abbrev pub positions_of : Values → Option ℕ → ℕ
positions_of values None = 1
positions_of values (Some ty) = length (values ty) + 1

-- the variables of two, if there are both
abbrev pub variables_of : Option (Option ℕ) → Option (Option ℕ) → Option Variables
variables_of None inner = None
variables_of (Some x) None = None
variables_of (Some x) (Some y) = Some (record { outer = x; inner = y })

-- the variables under some binders at two positions, if they are positions of values
abbrev pub variables_at : Values → Binders → ℕ → ℕ → Option Variables
variables_at values b outer inner = variables_of (variable_at values b.outer outer) (variable_at values b.inner inner)

-- a scope's variables are those at its positions, under some binders
abbrev pub Suits : Values → Binders → Scope → Type 0
Suits values b s = variables_at values b s.outer s.inner ≡ Some s.variables

-- the scope under a binder that gives a value at a position, by the outermost variable above it
abbrev pub scope_under : Option ℕ → Scope → ℕ → ℕ → Scope
scope_under None s position x = record { outer = position; inner = 0; variables = bound x s.variables }
scope_under (Some y) s position x = record { outer = s.outer; inner = position; variables = bound x s.variables }

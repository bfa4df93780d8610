-- An opened diagram as a tree, the variables that its binders give, and what guards answer.
use Rattle.std.specs.Prelude.{ℕ, Bool, true, List, Option, Some, None}
use Rattle.notation.specs.declared.node.Mark.{Mark}
use Rattle.notation.specs.declared.arrow.Arrow.{Arrow}
use Rattle.notation.specs.declared.arrow.Argument.{Argument}
use Rattle.notation.specs.declared.arrow.Argument.TheVariants.{Absent, Constant, Outer, Inner}
use Rattle.host.specs.declared.variables.Variables.{Variables}

-- an arrow with its number in the file
pub record NumberedArrow : Type 0 where
  pub number : ℕ
  pub arrow : Arrow

-- A diagram whose binders have their values. An elementary state is a tree of its own.
-- An automaton has `count` states, and for each of them a mark and a child.
pub data Tree : Type 0 where
  elementary : Tree
  automaton : (count start : ℕ) (mark : ℕ → Mark) (child : ℕ → Tree) (arrows : List NumberedArrow) → Tree
  sequence : (first second : Tree) → Tree
  closure : (body : Tree) → Tree
  guarded : (guard : ℕ) (body : Tree) → Tree
  choice : (left right : Tree) → Tree
  synchronisation : (labels : List ℕ) (left right : Tree) → Tree
  quantified_choice : (values : List ℕ) (body : Tree) → Tree
  quantified_synchronisation : (values labels : List ℕ) (body : Tree) → Tree

-- above every binder, none is in scope
abbrev pub no_variables : Variables
no_variables = record { outer = None; inner = None }

-- the variables under a binder that gives x, by the outer variable above it
abbrev pub bound_under : Option ℕ → ℕ → Variables
bound_under None x = record { outer = Some x; inner = None }
bound_under (Some y) x = record { outer = Some y; inner = Some x }

-- a binder gives x: the outermost binder gives the outer variable, the next one the inner
abbrev pub bound : ℕ → Variables → Variables
bound x v = bound_under v.outer x

-- what each guard answers to one event, under the variables in scope
abbrev pub Guards : Type 0
Guards = ℕ → Variables → Bool

-- the guard of an arrow holds; one without a guard always does
abbrev pub guard_holds : Guards → Option ℕ → Variables → Bool
guard_holds g None v = true
guard_holds g (Some guard) v = g guard v

-- the value that an arrow's argument stands for, absent if it stands for none
abbrev pub argument_of : Argument → Variables → Option ℕ
argument_of Absent v = None
argument_of (Constant value) v = Some value
argument_of Outer v = v.outer
argument_of Inner v = v.inner

-- What the files of the ten diagrams draw.
use Rattle.std.specs.Prelude.{ℕ, ◌-◌, List, [], ◌∷◌, length, replicate}
use Rattle.notation.specs.Parts.{blank_state}
use Rattle.notation.specs.declared.node.Mark.TheVariants.{Unmarked}
use Rattle.notation.specs.declared.node.State.{State}
use Rattle.notation.specs.Tables.{Table}
use Rattle.notation.specs.declared.node.Node.{Node}
use Rattle.notation.specs.declared.node.Node.TheVariants.{Closure, Automaton, Sequence, Guard, Choice, Synchronisation, QuantifiedChoice, QuantifiedSynchronisation}
use Rattle.notation.specs.declared.arrow.Argument.TheVariants.{Absent, Outer}
use Rattle.procedure.specs.Drawings.{Drawing}
use Rattle.rules.specs.Examples.{plain, final, holding, arrow, waiting_arrow}

-- an automaton that starts in state 0; of its 32 places for states the others are blank
abbrev pub states : List State → Node
states s = Automaton (record { start = 0; table = record { items = s; spare = replicate (32 - length s) blank_state } })

-- a set of labels; of its 16 places the others are blank
abbrev pub set_of : List ℕ → Table ℕ
set_of ls = record { items = ls; spare = replicate (16 - length ls) 0 }

-- 1, 2, 3: an axle is selected on 2, measured on 3, stored on 4; then the next
abbrev pub axle : Drawing
axle = record {
  nodes = states (plain ∷ plain ∷ final ∷ []) ∷ QuantifiedChoice 0 0 ∷ Closure 1 ∷ [];
  arrows = arrow 0 0 1 2 Outer ∷ arrow 0 1 1 3 Outer ∷ arrow 0 1 2 4 Absent ∷ [];
}

-- 4, 5: two sides, each from 0 to 1 on 5, synchronised on a set
abbrev pub sides : List ℕ → Drawing
sides ls = record {
  nodes = states (plain ∷ plain ∷ []) ∷ states (plain ∷ plain ∷ []) ∷ Synchronisation 0 1 (set_of ls) ∷ [];
  arrows = arrow 0 0 1 5 Absent ∷ arrow 1 0 1 5 Absent ∷ [];
}

-- 6: a first part from 0 to 1 and from 1 to 1 on 6, state 1 final; a second from 0 to 1 on 6
abbrev pub handing_over : Drawing
handing_over = record {
  nodes = states (plain ∷ final ∷ []) ∷ states (plain ∷ plain ∷ []) ∷ Sequence 0 1 ∷ [];
  arrows = arrow 0 0 1 6 Absent ∷ arrow 0 1 1 6 Absent ∷ arrow 1 0 1 6 Absent ∷ [];
}

-- 7: a choice of two sides, each from 0 to 1 on 7
abbrev pub either : Drawing
either = record {
  nodes = states (plain ∷ plain ∷ []) ∷ states (plain ∷ plain ∷ []) ∷ Choice 0 1 ∷ [];
  arrows = arrow 0 0 1 7 Absent ∷ arrow 1 0 1 7 Absent ∷ [];
}

-- 8: guard 0 over 0 to 1 to 2 on 8
abbrev pub guarded : Drawing
guarded = record {
  nodes = states (plain ∷ plain ∷ plain ∷ []) ∷ Guard 0 0 ∷ [];
  arrows = arrow 0 0 1 8 Absent ∷ arrow 0 1 2 8 Absent ∷ [];
}

-- 9: for each value of type 0 from 0 to 1 on 9 with that value, and all together from 1 to 2 on 10
abbrev pub wheels : Drawing
wheels = record {
  nodes = states (plain ∷ plain ∷ plain ∷ []) ∷ QuantifiedSynchronisation 0 0 (set_of (10 ∷ [])) ∷ [];
  arrows = arrow 0 0 1 9 Outer ∷ arrow 0 1 2 10 Absent ∷ [];
}

-- 10: state 0 holds a child with 0 to 1 on 11, its 1 final; the arrow from 0 to 1 on 12 waits for it
abbrev pub waiting : Drawing
waiting = record {
  nodes = states (plain ∷ final ∷ []) ∷ states (holding Unmarked 0 ∷ plain ∷ []) ∷ [];
  arrows = arrow 0 0 1 11 Absent ∷ waiting_arrow 1 0 1 12 ∷ [];
}

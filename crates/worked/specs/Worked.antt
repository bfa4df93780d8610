-- Ten worked diagrams, from the bytes of their files: after each event which cells are held, which events are possible, and what an offer is answered.
use Rattle.std.specs.Prelude.{◌≡◌, ℕ, suc, true, false, ◌↔◌, List, [], ◌∷◌, length, nat_lt, Option, Some, None, Ok, Err, Result}
use Rattle.fault.specs.Faults.{number_of}
use Rattle.fault.specs.declared.fault.Fault.{Fault}
use Rattle.procedure.specs.Drawings.{Drawing}
use Rattle.procedure.specs.Reading.{reading}
use Rattle.event.specs.declared.event.Event.{Event}
use Rattle.host.specs.Meanings.{Meaning}
use Rattle.host.specs.Tallying.{events_of}
use Rattle.host.specs.declared.variables.Variables.{Variables}
use Rattle.rules.specs.Trees.{Tree}
use Rattle.rules.specs.Cells.{Cells, finished}
use Rattle.rules.specs.Examples.{bare, with_one, EndsExactly, MenuExactly}
use Rattle.law.specs.Chained.{no_successor, too_many, OfferLaw, MenuLaw}
use Rattle.opened.specs.Opening.{told_values, root_tree, open_answer}
use Rattle.worked.specs.Files.{axle_file, apart_file, together_file, handing_over_file, either_file, guarded_file, wheels_file, waiting_file}
use Rattle.worked.specs.Drawn.{axle, sides, handing_over, either, guarded, wheels, waiting}

-- ---- words

-- what a roster tells: the values of each type, or that it is unknown
abbrev pub Types : Type 0
Types = ℕ → Option (List ℕ)

-- a file reads as a drawing, this opens with a ceiling under the values that are told, and P holds of the tree of its root
pub record FromFile (file : List ℕ) (d : Drawing) (told : Types) (ceiling : ℕ) (P : Tree → Type 0) : Type 0 where
  pub reads : reading file ≡ Ok d
  pub opens : open_answer d told ceiling ≡ Ok 1
  pub holds : P (root_tree (told_values told) d)

-- After the events w the chains end in these cells and no others, and they go on with these events in form and no others. And of all answers to a
-- menu into as many places, with what it lists, the law of a menu allows only this: their number, and these events, in this order.
pub record After (t : Tree) (m : Meaning) (w : List Event) (held : List Cells) (possible : List Event) : Type 0 where
  pub cells : EndsExactly t m w held
  pub menu : MenuExactly t m w possible
  pub listed : (r : Result ℕ Fault) (l : List Event) → MenuLaw t m w (length possible) r l ↔ ((r ≡ Ok (length possible)) × (l ≡ possible))

-- after the events w an offer of e is answered r: the law of an offer allows this answer, and no other
abbrev pub Answered : Tree → ℕ → Meaning → List Event → Event → Result ℕ Fault → Type 0
Answered t ceiling m w e r = (r' : Result ℕ Fault) → OfferLaw t ceiling m w e r' ↔ (r' ≡ r)

-- 16, at the number of held states: none has a successor
abbrev pub refused_16 : ℕ → Result ℕ Fault
refused_16 held = Err (no_successor held)

-- 17, at the ceiling: more would be held
abbrev pub refused_17 : ℕ → Result ℕ Fault
refused_17 ceiling = Err (too_many ceiling)

-- 16 and 17 are the numbers of their questions
pub record NumbersAreThese : Type 0 where
  pub sixteen : (place : ℕ) → number_of (no_successor place).question ≡ 16
  pub seventeen : (place : ℕ) → number_of (too_many place).question ≡ 17

-- ---- the ten diagrams, where t is the tree of the root and m is what the host means

-- 1. At first nothing is selected: any of the axles 1, 2, 3 can be, and the whole is finished.
pub record Diagram1 (t : Tree) (m : Meaning) : Type 0 where
  pub first : After t m [] ((0 ∷ 0 ∷ 0 ∷ []) ∷ []) (with_one 2 1 ∷ with_one 2 2 ∷ with_one 2 3 ∷ [])
  pub done : finished t (0 ∷ 0 ∷ 0 ∷ []) ≡ true

-- 2. Then 2(2) selects axle 2: only that one can be measured, or stored, and the whole is not finished.
pub record Diagram2 (t : Tree) (m : Meaning) : Type 0 where
  pub takes_2 : Answered t 128 m [] (with_one 2 2) (Ok 1)
  pub after_2 : After t m (with_one 2 2 ∷ []) ((1 ∷ 2 ∷ 1 ∷ []) ∷ []) (with_one 3 2 ∷ bare 4 ∷ [])
  pub undone : finished t (1 ∷ 2 ∷ 1 ∷ []) ≡ false

-- 3. Then 3(1), another axle's, is refused, and 4 stores axle 2: the whole is finished, and any axle can be selected again.
pub record Diagram3 (t : Tree) (m : Meaning) : Type 0 where
  pub refuses_3 : Answered t 128 m (with_one 2 2 ∷ []) (with_one 3 1) (refused_16 1)
  pub takes_4 : Answered t 128 m (with_one 2 2 ∷ []) (bare 4) (Ok 1)
  pub after_4 : After t m (with_one 2 2 ∷ bare 4 ∷ []) ((1 ∷ 2 ∷ 2 ∷ []) ∷ []) (with_one 2 1 ∷ with_one 2 2 ∷ with_one 2 3 ∷ [])
  pub done : finished t (1 ∷ 2 ∷ 2 ∷ []) ≡ true

-- 4. With an empty set one side moves, and at the second 5 the other.
pub record Diagram4 (t : Tree) (m : Meaning) : Type 0 where
  pub first : After t m [] ((0 ∷ 0 ∷ []) ∷ []) (bare 5 ∷ [])
  pub takes_5 : Answered t 128 m [] (bare 5) (Ok 2)
  pub after_5 : After t m (bare 5 ∷ []) ((0 ∷ 1 ∷ []) ∷ (1 ∷ 0 ∷ []) ∷ []) (bare 5 ∷ [])
  pub takes_5_again : Answered t 128 m (bare 5 ∷ []) (bare 5) (Ok 1)
  pub after_both : After t m (bare 5 ∷ bare 5 ∷ []) ((1 ∷ 1 ∷ []) ∷ []) []

-- With a ceiling of 1 the first 5 is refused, since two ends would come.
abbrev pub Diagram4Under1 : Tree → Meaning → Type 0
Diagram4Under1 t m = Answered t 1 m [] (bare 5) (refused_17 1)

-- 5. With 5 in the set both sides move at once, and there is no second 5.
pub record Diagram5 (t : Tree) (m : Meaning) : Type 0 where
  pub first : After t m [] ((0 ∷ 0 ∷ []) ∷ []) (bare 5 ∷ [])
  pub takes_5 : Answered t 128 m [] (bare 5) (Ok 1)
  pub after_5 : After t m (bare 5 ∷ []) ((1 ∷ 1 ∷ []) ∷ []) []
  pub refuses_5 : Answered t 128 m (bare 5 ∷ []) (bare 5) (refused_16 1)

-- 6. The second 6 is the first part's, or it hands over to the second part: both are kept.
pub record Diagram6 (t : Tree) (m : Meaning) : Type 0 where
  pub first : After t m [] ((0 ∷ 0 ∷ []) ∷ []) (bare 6 ∷ [])
  pub takes_6 : Answered t 128 m [] (bare 6) (Ok 1)
  pub after_6 : After t m (bare 6 ∷ []) ((0 ∷ 1 ∷ []) ∷ []) (bare 6 ∷ [])
  pub takes_6_again : Answered t 128 m (bare 6 ∷ []) (bare 6) (Ok 2)
  pub after_both : After t m (bare 6 ∷ bare 6 ∷ []) ((0 ∷ 1 ∷ []) ∷ (1 ∷ 1 ∷ []) ∷ []) (bare 6 ∷ [])

-- 7. The 7 is the left side's or the right side's: both are kept.
pub record Diagram7 (t : Tree) (m : Meaning) : Type 0 where
  pub first : After t m [] ((0 ∷ 0 ∷ []) ∷ []) (bare 7 ∷ [])
  pub takes_7 : Answered t 128 m [] (bare 7) (Ok 2)
  pub after_7 : After t m (bare 7 ∷ []) ((1 ∷ 1 ∷ []) ∷ (2 ∷ 1 ∷ []) ∷ []) []

-- 8. The guard says yes while no 8 was taken, and is asked at the first only: a second is taken too, and there is no third.
pub record Diagram8 (t : Tree) (m : Meaning) : Type 0 where
  pub first : After t m [] ((0 ∷ 0 ∷ []) ∷ []) (bare 8 ∷ [])
  pub takes_8 : Answered t 128 m [] (bare 8) (Ok 1)
  pub after_8 : After t m (bare 8 ∷ []) ((1 ∷ 1 ∷ []) ∷ []) (bare 8 ∷ [])
  pub takes_8_again : Answered t 128 m (bare 8 ∷ []) (bare 8) (Ok 1)
  pub after_both : After t m (bare 8 ∷ bare 8 ∷ []) ((1 ∷ 2 ∷ []) ∷ []) []
  pub refuses_8 : Answered t 128 m (bare 8 ∷ bare 8 ∷ []) (bare 8) (refused_16 1)

-- 9. A 10 is refused until each value has had its 9, and then both instances move at once.
pub record Diagram9 (t : Tree) (m : Meaning) : Type 0 where
  pub first : After t m [] ((0 ∷ 0 ∷ []) ∷ []) (with_one 9 1 ∷ with_one 9 2 ∷ [])
  pub refuses_10 : Answered t 128 m [] (bare 10) (refused_16 1)
  pub takes_9_1 : Answered t 128 m [] (with_one 9 1) (Ok 1)
  pub after_9_1 : After t m (with_one 9 1 ∷ []) ((1 ∷ 0 ∷ []) ∷ []) (with_one 9 2 ∷ [])
  pub takes_9_2 : Answered t 128 m (with_one 9 1 ∷ []) (with_one 9 2) (Ok 1)
  pub after_9_2 : After t m (with_one 9 1 ∷ with_one 9 2 ∷ []) ((1 ∷ 1 ∷ []) ∷ []) (bare 10 ∷ [])
  pub takes_10 : Answered t 128 m (with_one 9 1 ∷ with_one 9 2 ∷ []) (bare 10) (Ok 1)
  pub after_10 : After t m (with_one 9 1 ∷ with_one 9 2 ∷ bare 10 ∷ []) ((2 ∷ 2 ∷ []) ∷ []) []

-- 10. The arrow on 12 waits until 11 has finished the child.
pub record Diagram10 (t : Tree) (m : Meaning) : Type 0 where
  pub first : After t m [] ((0 ∷ 0 ∷ []) ∷ []) (bare 11 ∷ [])
  pub refuses_12 : Answered t 128 m [] (bare 12) (refused_16 1)
  pub takes_11 : Answered t 128 m [] (bare 11) (Ok 1)
  pub after_11 : After t m (bare 11 ∷ []) ((0 ∷ 1 ∷ []) ∷ []) (bare 12 ∷ [])
  pub takes_12 : Answered t 128 m (bare 11 ∷ []) (bare 12) (Ok 1)
  pub after_12 : After t m (bare 11 ∷ bare 12 ∷ []) ((1 ∷ 0 ∷ []) ∷ []) []

-- what the settings tell and mean: of type 0 the axles 1, 2, 3 and the wheels 1, 2, and every other type is unknown; and guard 0 says yes while
-- fewer than one event of label 8 was told, and every other guard no
pub record AreSet (axles_told wheels_told : Types) (once : Meaning) : Type 0 where
  pub axles_are : axles_told 0 ≡ Some (1 ∷ 2 ∷ 3 ∷ [])
  pub no_other_axles : (n : ℕ) → axles_told (suc n) ≡ None
  pub wheels_are : wheels_told 0 ≡ Some (1 ∷ 2 ∷ [])
  pub no_other_wheels : (n : ℕ) → wheels_told (suc n) ≡ None
  pub once_counts : (w : List Event) (e : Event) (v : Variables) → once w 0 e v ≡ nat_lt (events_of 8 w) 1
  pub no_other_guard : (w : List Event) (n : ℕ) (e : Event) (v : Variables) → once w (suc n) e v ≡ false

-- All ten: 1 to 3 under what `axles_told` says of type 0, 9 under what `wheels_told` says, 8 with the host `once`; the others under any values, and all
-- but 8 with any host.
pub record TenDiagrams (axles_told wheels_told : Types) (once : Meaning) : Type 0 where
  pub numbers : NumbersAreThese
  pub settings : AreSet axles_told wheels_told once
  pub one : (m : Meaning) → FromFile axle_file axle axles_told 128 (λ t. Diagram1 t m)
  pub two : (m : Meaning) → FromFile axle_file axle axles_told 128 (λ t. Diagram2 t m)
  pub three : (m : Meaning) → FromFile axle_file axle axles_told 128 (λ t. Diagram3 t m)
  pub four : (told : Types) (m : Meaning) → FromFile apart_file (sides []) told 128 (λ t. Diagram4 t m)
  pub four_under_1 : (told : Types) (m : Meaning) → FromFile apart_file (sides []) told 1 (λ t. Diagram4Under1 t m)
  pub five : (told : Types) (m : Meaning) → FromFile together_file (sides (5 ∷ [])) told 128 (λ t. Diagram5 t m)
  pub six : (told : Types) (m : Meaning) → FromFile handing_over_file handing_over told 128 (λ t. Diagram6 t m)
  pub seven : (told : Types) (m : Meaning) → FromFile either_file either told 128 (λ t. Diagram7 t m)
  pub eight : (told : Types) → FromFile guarded_file guarded told 128 (λ t. Diagram8 t once)
  pub nine : (m : Meaning) → FromFile wheels_file wheels wheels_told 128 (λ t. Diagram9 t m)
  pub ten : (told : Types) (m : Meaning) → FromFile waiting_file waiting told 128 (λ t. Diagram10 t m)

-- Cells that can occur: state numbers and tags within their bounds.
use Rattle.std.specs.Prelude.{◌≡◌, ℕ, zero, suc, ◌<◌, ◌≤◌, List, [], ◌∷◌, length, drop}
use mathlib.Core.List.{Memᴰ}
use Rattle.rules.specs.Trees.{NumberedArrow, Tree, elementary, automaton, sequence, closure, guarded, choice, synchronisation, quantified_choice, quantified_synchronisation}
use Rattle.rules.specs.Cells.{Cells, cell, rest, fit, width, part}

-- P for the tag 0, Q for 1; no other tag occurs
abbrev pub AtTag : ℕ → Type 0 → Type 0 → Type 0
AtTag zero P Q = P
AtTag (suc zero) P Q = Q
AtTag (suc (suc n)) P Q = ⊥

-- P for the tag 0, Q for 1, R for 2; no other tag occurs
abbrev pub AtSide : ℕ → Type 0 → Type 0 → Type 0 → Type 0
AtSide zero P Q R = P
AtSide (suc n) P Q R = AtTag n Q R

-- nothing for 0; a position from 1 is that of one of n values, and P
abbrev pub AtPosition : ℕ → ℕ → Type 0 → Type 0
AtPosition n zero P = Unit {0}
AtPosition n (suc k) P = (k < n) × P

-- P of each instance of n cells
abbrev pub EachInstance : (Cells → Type 0) → ℕ → List ℕ → Cells → Type 0
EachInstance P n [] r = Unit {0}
EachInstance P n (x ∷ xs) r = P (fit n r) × EachInstance P n xs (drop n r)

-- A state number is below the count of states, a tag is one of its kind's, and so on in every part that is there.
abbrev pub InRange : Tree → Cells → Type 0
InRange elementary r = Unit {0}
InRange (automaton count start mark child arrows) r = (cell r < count) × InRange (child (cell r)) (part (child (cell r)) (rest r))
InRange (sequence a b) r = AtTag (cell r) (InRange a (part a (rest r))) (InRange b (part b (rest r)))
InRange (closure b) r = AtTag (cell r) (Unit {0}) (InRange b (part b (rest r)))
InRange (guarded guard b) r = AtTag (cell r) (Unit {0}) (InRange b (part b (rest r)))
InRange (choice a b) r = AtSide (cell r) (Unit {0}) (InRange a (part a (rest r))) (InRange b (part b (rest r)))
InRange (synchronisation labels a b) r = InRange a (part a r) × InRange b (part b (drop (width a) r))
InRange (quantified_choice xs b) r = AtPosition (length xs) (cell r) (InRange b (part b (rest r)))
InRange (quantified_synchronisation xs labels b) r = EachInstance (λ s. InRange b s) (width b) xs r

-- Each automaton begins in one of its states, its arrows lead to its states, and a number that is no state's has no child.
abbrev pub Sound : Tree → Type 0
Sound elementary = Unit {0}
Sound (automaton count start mark child arrows) =
    (start < count) × ((a : NumberedArrow) → Memᴰ a arrows → a.arrow.to < count) × ((q : ℕ) → count ≤ q → child q ≡ elementary) × ((q : ℕ) → Sound (child q))
Sound (sequence a b) = Sound a × Sound b
Sound (closure b) = Sound b
Sound (guarded guard b) = Sound b
Sound (choice a b) = Sound a × Sound b
Sound (synchronisation labels a b) = Sound a × Sound b
Sound (quantified_choice xs b) = Sound b
Sound (quantified_synchronisation xs labels b) = Sound b

-- Lists in rising order without repeats, by a comparison. (Own words, though the library has some like them: the reader of a promise
-- meets them here, and they say no more than is promised.)
use Rattle.std.specs.Prelude.{◌≡◌, ℕ, Bool, false, ◌⊎◌, ◌↔◌, List, [], ◌∷◌, length, take, nat_lt}
use Rattle.std.specs.declared.cmp.Ordering.TheVariants.{Less, Equal, Greater}
use Rattle.std.specs.declared.cmp.Ordering.{Ordering}
use mathlib.Core.List.{Memᴰ}
use Rattle.std.specs.Ordering.{ordering_reverse, Ordering-set}
use Rattle.std.specs.Coded.{×_prop, Unit-prop}

-- the laws of a total order
pub record Order {X : Type 0} (c : X → X → Ordering) : Type 0 where
  pub flip : (x y : X) → c x y ≡ ordering_reverse (c y x)
  pub chain : (x y z : X) → c x y ≡ Less → c y z ≡ Less → c x z ≡ Less
  pub same : (x y : X) → c x y ≡ Equal → x ≡ y

-- x is below each of ys
abbrev pub Below : {X : Type 0} → (X → X → Ordering) → X → List X → Type 0
Below c x [] = Unit {0}
Below c x (y ∷ ys) = (c x y ≡ Less) × Below c x ys

-- each is below all that come after it: rising, and so without repeats
abbrev pub Rising : {X : Type 0} → (X → X → Ordering) → List X → Type 0
Rising c [] = Unit {0}
Rising c (x ∷ xs) = Below c x xs × Rising c xs

-- there is one proof of it at most, as a struct that keeps the fact asks
Below-prop : {X : Type 0} (c : X → X → Ordering) (x : X) (ys : List X) → IsProp (Below c x ys)
Below-prop c x [] = Unit-prop
Below-prop c x (y ∷ ys) = ×_prop (Ordering-set (c x y) Less) (Below-prop c x ys)

pub Rising-prop : {X : Type 0} (c : X → X → Ordering) (xs : List X) → IsProp (Rising c xs)
Rising-prop c [] = Unit-prop
Rising-prop c (x ∷ xs) = ×_prop (Below-prop c x xs) (Rising-prop c xs)

-- one of three, by the answer of a comparison
abbrev pub by_rank : {X : Type 0} → Ordering → X → X → X → X
by_rank Less a b c = a
by_rank Equal a b c = b
by_rank Greater a b c = c

-- xs with x before the first that x is below, unless it meets an equal one before that
abbrev pub insert_ordered : {X : Type 0} → (X → X → Ordering) → List X → X → List X
insert_ordered c [] x = x ∷ []
insert_ordered c (y ∷ ys) x = by_rank (c x y) (x ∷ y ∷ ys) (y ∷ ys) (y ∷ insert_ordered c ys x)

-- what of that has room in n places: the first n
abbrev pub kept : {X : Type 0} → (X → X → Ordering) → ℕ → List X → X → List X
kept c n xs x = take n (insert_ordered c xs x)

-- whether one is left out
abbrev pub spills : {X : Type 0} → (X → X → Ordering) → ℕ → List X → X → Bool
spills c n xs x = nat_lt n (length (insert_ordered c xs x))

-- y was held before, or is the new element x
abbrev pub HeldOrNew : {X : Type 0} → List X → X → X → Type 0
HeldOrNew before x y = Memᴰ y before ⊎ (y ≡ x)

-- where the list rises before, it rises after
abbrev pub StaysRising : {X : Type 0} → (X → X → Ordering) → List X → List X → Type 0
StaysRising c before after = Rising c before → Rising c after

-- nothing is held after but what was held before and x
abbrev pub HoldsNothingElse : {X : Type 0} → List X → X → List X → Type 0
HoldsNothingElse {X} before x after = (y : X) → Memᴰ y after → HeldOrNew before x y

-- unless one is left out, an element is held after exactly when it was held before or is x
abbrev pub HoldsExactly : {X : Type 0} → List X → X → List X → Bool → Type 0
HoldsExactly {X} before x after over = over ≡ false → (y : X) → Memᴰ y after ↔ HeldOrNew before x y

-- where the list rises before, whatever is left out is above everything that is held after
abbrev pub LeavesOutAbove : {X : Type 0} → (X → X → Ordering) → List X → X → List X → Type 0
LeavesOutAbove {X} c before x after =
    Rising c before → (y z : X) → HeldOrNew before x y → (Memᴰ y after → ⊥) → Memᴰ z after → c z y ≡ Less

-- Lists of exactly the elements of a kind, in order, and how many different ones there are.
use Rattle.std.specs.Prelude.{◌≡◌, ℕ, ◌<◌, List, length}
use Rattle.std.specs.declared.cmp.Ordering.{Ordering}
use mathlib.Core.List.{Memᴰ}
use Rattle.ordered.specs.Order.{Rising}

-- a list holds exactly the elements of P, rising, and so each once
pub record ListsExactly {X : Type 0} (c : X → X → Ordering) (P : X → Type 0) (l : List X) : Type 0 where
  pub rises : Rising c l
  pub only : (x : X) → Memᴰ x l → P x
  pub all : (x : X) → P x → Memᴰ x l

-- there are n different elements of P: a list of exactly these has so many
pub record NumberOf {X : Type 0} (c : X → X → Ordering) (P : X → Type 0) (n : ℕ) : Type 0 where
  pub list : List X
  pub holds : ListsExactly c P list
  pub counts : n ≡ length list

-- there are more than n different elements of P: a list of some of these, which rises and so has no repeats, has more
pub record MoreThan {X : Type 0} (c : X → X → Ordering) (P : X → Type 0) (n : ℕ) : Type 0 where
  pub list : List X
  pub rises : Rising c list
  pub only : (x : X) → Memᴰ x list → P x
  pub more : n < length list

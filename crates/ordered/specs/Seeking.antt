-- Where an element stands in a list, or comes in: the place before which it is above each.
use Rattle.std.specs.Prelude.{◌≡◌, ℕ, ◌<◌, ◌≤◌, List, length, slice_index_or}
use Rattle.std.specs.declared.cmp.Ordering.TheVariants.{Less, Equal, Greater}
use Rattle.std.specs.declared.cmp.Ordering.{Ordering}

-- x is above each of the first n
abbrev pub AboveFirst : {X : Type 0} → (X → X → Ordering) → List X → X → ℕ → Type 0
AboveFirst {X} c xs x n = (k : ℕ) (d : X) → k < n → c x (slice_index_or xs k d) ≡ Greater

-- x is above the first i, and equal to the next
pub record MetAt {X : Type 0} (c : X → X → Ordering) (xs : List X) (x : X) (i : ℕ) : Type 0 where
  pub there : i < length xs
  pub past : AboveFirst c xs x i
  pub meets : (d : X) → c x (slice_index_or xs i d) ≡ Equal

-- x is above the first i, and below the next if there is one
pub record ComesAt {X : Type 0} (c : X → X → Ordering) (xs : List X) (x : X) (i : ℕ) : Type 0 where
  pub there : i ≤ length xs
  pub past : AboveFirst c xs x i
  pub next : (d : X) → i < length xs → c x (slice_index_or xs i d) ≡ Less

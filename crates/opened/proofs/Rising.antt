-- Rising lists that are mapped.
use Rattle.std.proofs.Common.{◌≡◌, refl, sym, ◌∙◌, List, [], ◌∷◌, map, Ordering}
use mathlib.Core.List.{Memᴰ}
use Rattle.ordered.specs.Order.{Below, Rising}

module _ {X Y : Type 0} (c : X → X → Ordering) (k : Y → Y → Ordering) (h : X → Y) where
  -- what is mapped stays below the others
  below-mapped : (x : X) (xs : List X) → ((y : X) → Memᴰ y xs → c x y ≡ k (h x) (h y)) → Below c x xs → Below k (h x) (map h xs)
  below-mapped x [] f b = tt
  below-mapped x (y ∷ ys) f b = (sym (f y (Memᴰ.head refl)) ∙ b.0, below-mapped x ys (λ z i. f z (Memᴰ.tail i)) b.1)

  -- what elements are mapped to rises as they do, where one order says of them what the other says of these
  pub rising-mapped : (xs : List X) → ((x y : X) → Memᴰ x xs → Memᴰ y xs → c x y ≡ k (h x) (h y)) → Rising c xs → Rising k (map h xs)
  rising-mapped [] f r = tt
  rising-mapped (x ∷ xs) f r =
      (below-mapped x xs (λ y i. f x y (Memᴰ.head refl) (Memᴰ.tail i)) r.0, rising-mapped xs (λ y z i j. f y z (Memᴰ.tail i) (Memᴰ.tail j)) r.1)

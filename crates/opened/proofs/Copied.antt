-- Rows that are copied one by one into the first places of others.
use Rattle.std.proofs.Common.{◌≡◌, sym, ◌∙◌, ap, subst, ℕ, ◌+◌, ◌<◌, List, [], ◌∷◌, ◌++◌, length, take, slice_index_or, slice_set}
use Rattle.std.proofs.lemmas.List.{take_more, take_more_set}
use Rattle.std.proofs.lemmas.List.Elements.{All-nil}
use Rattle.std.specs.List.{All}
use Rattle.row.specs.declared.row.Row.{Row}
use Rattle.opened.proofs.Filled.{IsFilled}

-- one more is copied
pub copied-more : {X : Type 0} (to from : List X) (i : ℕ) (x : X) → i < length to → i < length from → take i to ≡ take i from → x ≡ slice_index_or from i x
    → take (i + 1) (slice_set to i x) ≡ take (i + 1) from
copied-more to from i x h k same is =
    take_more_set to i x h ∙ ap (λ l. l ++ x ∷ []) same ∙ ap (λ y. take i from ++ y ∷ []) is ∙ sym (take_more from i x k)

-- copied, they are filled as they were
pub copied-filled : (n m : ℕ) (xs ys : List Row) → n ≡ m → xs ≡ ys → All (IsFilled n) ys → All (IsFilled m) xs
copied-filled n m xs ys same is filled = subst (λ (k : ℕ). All (IsFilled k) xs) same (subst (λ (l : List Row). All (IsFilled n) l) (sym is) filled)

-- among none, each is filled
pub none-filled : (n used : ℕ) (xs : List Row) → used ≡ 0 → All (IsFilled n) (take used xs)
none-filled n used xs none = subst (λ (k : ℕ). All (IsFilled n) (take k xs)) (sym none) (All-nil (IsFilled n))

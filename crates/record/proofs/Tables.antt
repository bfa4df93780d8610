-- Tables that a loop fills from the front.
use Rattle.std.proofs.Common.{◌≡◌, ℕ, ◌+◌, ◌-◌, ◌<◌, List, [], ◌∷◌, ◌++◌, length, get_or, replicate, refl, ap, ⊎_elim, arith}
use Rattle.std.proofs.lemmas.Bool.{cases_lt}
use Rattle.std.proofs.lemmas.List.{get_or_append_left, get_or_push}
use Rattle.std.proofs.lemmas.List.FromFn.{fill_by_all}
use Rattle.notation.specs.Tables.{Table}
use Rattle.record.specs.Decoding.{tabled}

module _ {X : Type 0} (blank : X) where
  -- what holds of each element of a list and of one more holds of each element of both
  pub each-more : (P : ℕ → X → Type 0) (xs : List X) (x : X) (n : ℕ) → length xs ≡ n → ((k : ℕ) → k < n → P k (get_or xs k blank)) → P n x → (k : ℕ) → k < n + 1 → P k (get_or (xs ++ x ∷ []) k blank)
  each-more P xs x n l h p k lt =
      ⊎_elim
      (λ s. rw (get_or_append_left xs (x ∷ []) blank k (omega arith)) (h k s))
      (λ s. let e : k ≡ n = omega arith in rw (e, get_or_push xs x blank n l) p)
      (cases_lt k n)

  -- a table of n elements that f gives
  pub filled : (size n : ℕ) (f : ℕ → X) (t : Table X) → ((k : ℕ) → k < n → get_or t.items k blank ≡ f k) → length t.items ≡ n → t.spare ≡ replicate (size - n) blank → t ≡ tabled size blank n f
  filled size n f t h l s = ap (λ (p : List X × List X). let r : Table X = record { items = p.0; spare = p.1 } in r) (pair (fill_by_all f t.items n blank l h) s)
    where
      pair : {a b : List X} {c d : List X} → a ≡ b → c ≡ d → ◌≡◌ {A = List X × List X} (a, c) (b, d)
      pair e k = rw (e, k) refl

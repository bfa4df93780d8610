-- What a search finds, against the list that the definition gives, which goes from the front.
use Rattle.std.proofs.Common.{◌≡◌, ℕ, zero, suc, List, [], ◌∷◌, Ordering, Less, Equal, Greater, refl, ap, ◌∙◌, arith}
use Rattle.std.specs.List.{insert}
use Rattle.ordered.specs.Order.{by_rank, insert_ordered}
use Rattle.ordered.specs.Seeking.{MetAt, ComesAt}

module _ {X : Type 0} (c : X → X → Ordering) (x : X) where
  by : (y : X) (ys : List X) (r : Ordering) → c x y ≡ r → insert_ordered c (y ∷ ys) x ≡ by_rank r (x ∷ y ∷ ys) (y ∷ ys) (y ∷ insert_ordered c ys x)
  by y ys r e = ap (λ (k : Ordering). by_rank k (x ∷ y ∷ ys) (y ∷ ys) (y ∷ insert_ordered c ys x)) e

  pub comes : (xs : List X) (i : ℕ) → ComesAt c xs x i → insert_ordered c xs x ≡ insert xs i x
  comes [] zero h = refl
  comes [] (suc i) h = absurd (omega (arith, h.there))
  comes (y ∷ ys) zero h = by y ys Less (h.next y (omega arith))
  comes (y ∷ ys) (suc i) h =
      let rest : ComesAt c ys x i = record { there = omega (arith, h.there); past = λ k d l. h.past (suc k) d (omega arith); next = λ d l. h.next d (omega arith) } in
      by y ys Greater (h.past 0 y (omega arith)) ∙ ap (λ (z : List X). y ∷ z) (comes ys i rest)

  pub met : (xs : List X) (i : ℕ) → MetAt c xs x i → insert_ordered c xs x ≡ xs
  met [] i h = absurd (omega (arith, h.there))
  met (y ∷ ys) zero h = by y ys Equal (h.meets y)
  met (y ∷ ys) (suc i) h =
      let rest : MetAt c ys x i = record { there = omega (arith, h.there); past = λ k d l. h.past (suc k) d (omega arith); meets = λ d. h.meets d } in
      by y ys Greater (h.past 0 y (omega arith)) ∙ ap (λ (z : List X). y ∷ z) (met ys i rest)

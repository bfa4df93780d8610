-- The list that the definition gives rises, holds what it should, and leaves out only what is above.
use Rattle.std.proofs.Common.{◌≡◌, ℕ, zero, suc, ◌≤◌, Bool, List, [], ◌∷◌, length, take, Ordering, Less, Equal, Greater, sym, refl, ap, ◌∙◌, subst, inl, inr, ⊎_elim, arith, ltb-false}
use mathlib.Core.List.Memᴰ
use mathlib.Core.List.{Memᴰ}
use Rattle.std.proofs.lemmas.List.{take_all, length-take}
use Rattle.std.specs.Ordering.{ordering_reverse}
use Rattle.ordered.specs.Order.{by_rank, insert_ordered, kept, spills, Below, Rising, Order, HeldOrNew, StaysRising, HoldsNothingElse, HoldsExactly, LeavesOutAbove}

-- what is promised of an insertion besides the definition's list
pub record Promised {X : Type 0} (c : X → X → Ordering) (xs : List X) (x : X) (after : List X) (over : Bool) : Type 0 where
  pub grows : length xs ≤ length after
  pub rises : StaysRising c xs after
  pub only : HoldsNothingElse xs x after
  pub exactly : HoldsExactly xs x after over
  pub above : LeavesOutAbove c xs x after

module _ {X : Type 0} (c : X → X → Ordering) where
  below-insert : (w x : X) (xs : List X) → c w x ≡ Less → Below c w xs → Below c w (insert_ordered c xs x)
  below-insert w x [] h b = (h, tt)
  below-insert w x (y ∷ ys) h b =
      elim (c x y) as (λ r. Below c w (by_rank r (x ∷ y ∷ ys) (y ∷ ys) (y ∷ insert_ordered c ys x))) [
        | Less ↦ (h, b)
        | Equal ↦ b
        | Greater ↦ (b.0, below-insert w x ys h b.1)
      ]

  below-take : (w : X) (k : ℕ) (xs : List X) → Below c w xs → Below c w (take k xs)
  below-take w zero xs b = tt
  below-take w (suc k) [] b = tt
  below-take w (suc k) (x ∷ xs) b = (b.0, below-take w k xs b.1)

  pub rising-take : (k : ℕ) (xs : List X) → Rising c xs → Rising c (take k xs)
  rising-take zero xs r = tt
  rising-take (suc k) [] r = tt
  rising-take (suc k) (x ∷ xs) r = (below-take x k xs r.0, rising-take k xs r.1)

  pub below-in : (w y : X) (xs : List X) → Below c w xs → Memᴰ y xs → c w y ≡ Less
  below-in w y [] b i = absurd (Memᴰ.not-nil i)
  below-in w y (x ∷ xs) b i =
      ⊎_elim (λ e. subst (λ (z : X). c w z ≡ Less) (sym e) b.0) (λ m. below-in w y xs b.1 m) (Memᴰ.cases_cons i)

  in-take : (k : ℕ) (xs : List X) (y : X) → Memᴰ y (take k xs) → Memᴰ y xs
  in-take zero xs y i = absurd (Memᴰ.not-nil i)
  in-take (suc k) [] y i = absurd (Memᴰ.not-nil i)
  in-take (suc k) (x ∷ xs) y i = ⊎_elim (λ e. Memᴰ.head e) (λ m. Memᴰ.tail (in-take k xs y m)) (Memᴰ.cases_cons i)

  left-out : (k : ℕ) (xs : List X) (y z : X) → Rising c xs → Memᴰ y xs → (Memᴰ y (take k xs) → ⊥) → Memᴰ z (take k xs) → c z y ≡ Less
  left-out zero xs y z r i n j = absurd (Memᴰ.not-nil j)
  left-out (suc k) [] y z r i n j = absurd (Memᴰ.not-nil j)
  left-out (suc k) (x ∷ xs) y z r i n j =
      ⊎_elim
      (λ e. absurd (n (Memᴰ.head e)))
      (λ i'.
      ⊎_elim
      (λ e. subst (λ (w : X). c w y ≡ Less) (sym e) (below-in x y xs r.0 i'))
      (λ j'. left-out k xs y z r.1 i' (λ m. n (Memᴰ.tail m)) j')
      (Memᴰ.cases_cons j))
      (Memᴰ.cases_cons i)

  pub in-insert : (xs : List X) (x y : X) → Memᴰ y (insert_ordered c xs x) → HeldOrNew xs x y
  in-insert [] x y = λ i. ⊎_elim (λ e. inr e) (λ m. absurd (Memᴰ.not-nil m)) (Memᴰ.cases_cons i)
  in-insert (w ∷ ws) x y =
      elim (c x w) as (λ r. Memᴰ y (by_rank r (x ∷ w ∷ ws) (w ∷ ws) (w ∷ insert_ordered c ws x)) → HeldOrNew (w ∷ ws) x y) [
        | Less ↦ (λ i. ⊎_elim (λ e. inr e) (λ m. inl m) (Memᴰ.cases_cons i))
        | Equal ↦ (λ i. inl i)
        | Greater ↦ (λ i. ⊎_elim (λ e. inl (Memᴰ.head e)) (λ m. ⊎_elim (λ k. inl (Memᴰ.tail k)) (λ e. inr e) (in-insert ws x y m)) (Memᴰ.cases_cons i))
      ]

  longer : (xs : List X) (x : X) → length xs ≤ length (insert_ordered c xs x)
  longer [] x = omega arith
  longer (w ∷ ws) x =
      let h : length ws ≤ length (insert_ordered c ws x) = longer ws x in
      elim (c x w) as (λ r. suc (length ws) ≤ length (by_rank r (x ∷ w ∷ ws) (w ∷ ws) (w ∷ insert_ordered c ws x))) [
        | Less ↦ omega arith
        | Equal ↦ omega arith
        | Greater ↦ omega arith
      ]

  module _ (o : Order c) where
    below-trans : (x y : X) (ys : List X) → c x y ≡ Less → Below c y ys → Below c x ys
    below-trans x y [] h b = tt
    below-trans x y (z ∷ zs) h b = (o.chain x y z h b.0, below-trans x y zs h b.1)

    pub rising-insert : (xs : List X) (x : X) → Rising c xs → Rising c (insert_ordered c xs x)
    rising-insert [] x r = (tt, tt)
    rising-insert (y ∷ ys) x r =
        let go : (k : Ordering) → c x y ≡ k → Rising c (by_rank k (x ∷ y ∷ ys) (y ∷ ys) (y ∷ insert_ordered c ys x)) =
        λ k. elim k as (λ k. c x y ≡ k → Rising c (by_rank k (x ∷ y ∷ ys) (y ∷ ys) (y ∷ insert_ordered c ys x))) [
          | Less ↦ (λ e. ((e, below-trans x y ys e r.0), r))
          | Equal ↦ (λ e. r)
          | Greater ↦ (λ e. (below-insert y x ys (o.flip y x ∙ ap ordering_reverse e) r.0, rising-insert ys x r.1))
        ] in
        go (c x y) refl

    pub rising-kept : (n : ℕ) (xs : List X) (x : X) → Rising c xs → Rising c (kept c n xs x)
    rising-kept n xs x r = rising-take n (insert_ordered c xs x) (rising-insert xs x r)

    pub in-back : (xs : List X) (x y : X) → HeldOrNew xs x y → Memᴰ y (insert_ordered c xs x)
    in-back [] x y i = ⊎_elim (λ m. absurd (Memᴰ.not-nil m)) (λ e. Memᴰ.head e) i
    in-back (w ∷ ws) x y i =
        let go : (k : Ordering) → c x w ≡ k → Memᴰ y (by_rank k (x ∷ w ∷ ws) (w ∷ ws) (w ∷ insert_ordered c ws x)) =
        λ k. elim k as (λ k. c x w ≡ k → Memᴰ y (by_rank k (x ∷ w ∷ ws) (w ∷ ws) (w ∷ insert_ordered c ws x))) [
          | Less ↦ (λ e. ⊎_elim (λ m. Memᴰ.tail m) (λ p. Memᴰ.head p) i)
          | Equal ↦ (λ e. ⊎_elim (λ m. m) (λ p. Memᴰ.head (p ∙ o.same x w e)) i)
          | Greater ↦ (λ e.
              ⊎_elim
              (λ m. ⊎_elim (λ p. Memᴰ.head p) (λ q. Memᴰ.tail (in-back ws x y (inl q))) (Memᴰ.cases_cons m))
              (λ p. Memᴰ.tail (in-back ws x y (inr p)))
              i)
        ] in
        go (c x w) refl

    -- they hold of a list that was shown to be the one that the definition gives
    module _ (n : ℕ) (xs : List X) (x : X) (after : List X) (over : Bool) (fits : length xs ≤ n) (is : after ≡ kept c n xs x) (is-over : over ≡ spills c n xs x) where
      only : HoldsNothingElse xs x after
      only y i = in-insert xs x y (in-take n (insert_ordered c xs x) y (rw is at i))

      pub promised : Promised c xs x after over
      promised = record {
        grows = rw is (omega (arith, longer xs x, length-take n (insert_ordered c xs x)));
        rises = λ r. rw is (rising-kept n xs x r);
        only = only;
        exactly = λ none y.
            let short : length (insert_ordered c xs x) ≤ n = ltb-false n (length (insert_ordered c xs x)) (sym is-over ∙ none) in
            (only y, λ i. rw (is, take_all n (insert_ordered c xs x) short) (in-back xs x y i));
        above = λ r y z i out j. left-out n (insert_ordered c xs x) y z (rising-insert xs x r) (in-back xs x y i) (λ m. out (rw is m)) (rw is at j);
      }

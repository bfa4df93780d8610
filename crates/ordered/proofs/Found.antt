-- Where a list that rises is found to meet an element or to take it in, and that it then has or lacks the element.
use Rattle.std.proofs.Common.{◌≡◌, ℕ, zero, suc, ◌+◌, ◌-◌, ◌<◌, true, List, [], ◌∷◌, length, slice_index_or, Ordering, Less, Equal, Greater, Result, Ok, Err, MatchResult, Decides, refl, sym, ap, ◌∙◌, subst, inr, ⊎_elim, true≢false, arith}
use Rattle.std.proofs.lemmas.Bool.{cases_lt}
use Rattle.std.proofs.lemmas.List.Sorted.{searchable_from_sorted}
use Rattle.std.specs.Cmp.{IsTotalOrder}
use Rattle.std.specs.List.Sorted.{IsSearchInRange, IsBinarySearchResult, IsSortedBy}
use Rattle.std.specs.Ordering.{ordering_reverse, is_lt, is_gt}
use Rattle.std.specs.Result.{is_ok}
use mathlib.Core.List.{Memᴰ}
use mathlib.Core.List.Memᴰ
use Rattle.ordered.specs.Order.{Order, Below, Rising}
use Rattle.ordered.specs.Seeking.{MetAt, ComesAt}
use Rattle.ordered.proofs.Alone.{not-below-itself}
use Rattle.ordered.proofs.Laws.{below-in, in-back}
use Rattle.ordered.proofs.Steps.{met}

greater : (k : Ordering) → is_gt k ≡ true → k ≡ Greater
greater Less e = absurd (true≢false (sym e))
greater Equal e = absurd (true≢false (sym e))
greater Greater e = refl

module _ {X : Type 0} (c : X → X → Ordering) (o : Order c) where
  below-at : (x : X) (ys : List X) → Below c x ys → (j : ℕ) (d : X) → j < length ys → c x (slice_index_or ys j d) ≡ Less
  below-at x [] b j d h = absurd (omega arith)
  below-at x (y ∷ ys) b zero d h = b.0
  below-at x (y ∷ ys) b (suc j) d h = below-at x ys b.1 j d (omega arith)

  rising-at : (xs : List X) → Rising c xs → (i j : ℕ) (d : X) → i < j → j < length xs → c (slice_index_or xs i d) (slice_index_or xs j d) ≡ Less
  rising-at [] r i j d l h = absurd (omega arith)
  rising-at (x ∷ xs) r i zero d l h = absurd (omega arith)
  rising-at (x ∷ xs) r zero (suc j) d l h = below-at x xs r.0 j d (omega arith)
  rising-at (x ∷ xs) r (suc i) (suc j) d l h = rising-at xs r.1 i j d (omega arith) (omega arith)

  turned : (x y : X) (k : Ordering) → c x y ≡ k → c y x ≡ ordering_reverse k
  turned x y k e = o.flip y x ∙ ap ordering_reverse e

  total : IsTotalOrder c
  total = record { antisymm = o.flip; trans = o.chain; congr = λ x y z e. ap (λ (w : X). c w z) (o.same x y e) }

  module _ (xs : List X) (x : X) (rises : Rising c xs) where
    sorted : IsSortedBy (λ a b. is_lt (c a b)) xs
    sorted k d _ h = ap is_lt (turned (slice_index_or xs k d) (slice_index_or xs (k + 1) d) Less (rising-at xs rises k (k + 1) d (omega arith) h))

    -- what a binary search says
    pub searched : (r : Result ℕ ℕ) → IsSearchInRange r (length xs) → IsBinarySearchResult (λ y. c y x) xs r → MatchResult r (MetAt c xs x) (ComesAt c xs x)
    searched (Ok i) there is = record {
      there = there;
      past = λ k d l. turned (slice_index_or xs k d) x Less (subst (λ (z : X). c (slice_index_or xs k d) z ≡ Less) (o.same (slice_index_or xs i d) x (is d)) (rising-at xs rises k i d l there));
      meets = λ d. turned (slice_index_or xs i d) x Equal (is d);
    }
    searched (Err i) there is =
        let parts = is (searchable_from_sorted total (λ y. y) xs x sorted) in
        record {
          there = there;
          past = λ k d l. turned (slice_index_or xs k d) x Less (parts.0 k d (omega arith) l);
          next = λ d l. turned (slice_index_or xs i d) x Greater (parts.1 i d (omega arith) l);
        }

    -- what is above the last comes in at the end
    pub at-end : (last : X) → ((d : X) → last ≡ slice_index_or xs (length xs - 1) d) → is_gt (c x last) ≡ true → ComesAt c xs x (length xs)
    at-end last is e =
        let above : c x last ≡ Greater = greater (c x last) e in
        let low : c last x ≡ Less = turned x last Greater above in
        let below : (k : ℕ) (d : X) → k < length xs → c (slice_index_or xs k d) x ≡ Less = λ k d l.
        ⊎_elim
        (λ h. o.chain (slice_index_or xs k d) last x (subst (λ (z : X). c (slice_index_or xs k d) z ≡ Less) (sym (is d)) (rising-at xs rises k (length xs - 1) d h (omega arith))) low)
        (λ h. subst (λ (z : X). c z x ≡ Less) (is d ∙ ap (λ (i : ℕ). slice_index_or xs i d) (omega arith)) low)
        (cases_lt k (length xs - 1)) in
        record { there = omega arith; past = λ k d l. turned (slice_index_or xs k d) x Less (below k d l); next = λ d l. absurd (omega arith) }

  -- what is met is held
  pub has : (xs : List X) (x : X) (i : ℕ) → MetAt c xs x i → Memᴰ x xs
  has xs x i h = subst (λ (ys : List X). Memᴰ x ys) (met c x xs i h) (in-back c o xs x x (inr refl))

  -- what comes in is not held
  pub lacks : (xs : List X) (x : X) (i : ℕ) → Rising c xs → ComesAt c xs x i → Memᴰ x xs → ⊥
  lacks [] x i r h m = Memᴰ.not-nil m
  lacks (y ∷ ys) x zero r h m =
      let lower : c x y ≡ Less = h.next y (omega arith) in
      ⊎_elim
      (λ e. not-below-itself c o x (subst (λ (z : X). c x z ≡ Less) (sym e) lower))
      (λ k. not-below-itself c o x (o.chain x y x lower (below-in c y x ys r.0 k)))
      (Memᴰ.cases_cons m)
  lacks (y ∷ ys) x (suc i) r h m =
      let rest : ComesAt c ys x i = record { there = omega (arith, h.there); past = λ k d l. h.past (suc k) d (omega arith); next = λ d l. h.next d (omega arith) } in
      ⊎_elim
      (λ e. not-below-itself c o x (subst (λ (z : X). c z x ≡ Less) (sym e) (turned x y Greater (h.past 0 y (omega arith)))))
      (λ k. lacks ys x i r.1 rest k)
      (Memᴰ.cases_cons m)

  -- so the answer tells whether it is held
  pub tells : (xs : List X) (x : X) (r : Result ℕ ℕ) → Rising c xs → MatchResult r (MetAt c xs x) (ComesAt c xs x) → Decides (is_ok r) (Memᴰ x xs)
  tells xs x (Ok i) rises h = (λ _. has xs x i h, λ _. refl)
  tells xs x (Err i) rises h = (λ e. absurd (true≢false (sym e)), λ m. absurd (lacks xs x i rises h m))

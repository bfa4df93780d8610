-- Two rising lists with the same members are one list; one with some of the members is no longer.
use Rattle.std.proofs.Common.{◌≡◌, Ordering, Less, refl, sym, ap, ◌∙◌, subst, true≢false, suc, ◌≤◌, length, List, [], ◌∷◌, ◌⊎◌, inl, inr, ⊎_elim, arith}
use mathlib.Core.List.{Memᴰ}
use mathlib.Core.List.Memᴰ
use Rattle.std.specs.Ordering.{ordering_reverse, is_lt}
use Rattle.ordered.specs.Order.{Order, Rising}
use Rattle.ordered.proofs.Laws.{below-in}

module _ {X : Type 0} (c : X → X → Ordering) (o : Order c) where
  -- nothing is below itself
  pub not-below-itself : (x : X) → c x x ≡ Less → ⊥
  not-below-itself x e = true≢false (ap is_lt (sym e ∙ o.flip x x ∙ ap ordering_reverse e))

  heads : (x y : X) (xs ys : List X) → Rising c (x ∷ xs) → Rising c (y ∷ ys) → Memᴰ x (y ∷ ys) → Memᴰ y (x ∷ xs) → x ≡ y
  heads x y xs ys p q i j = by-place (Memᴰ.cases_cons i) (Memᴰ.cases_cons j)
    where
      by-place : (x ≡ y) ⊎ Memᴰ x ys → (y ≡ x) ⊎ Memᴰ y xs → x ≡ y
      by-place (inl e) v = e
      by-place (inr a) (inl e) = sym e
      by-place (inr a) (inr b) = absurd (not-below-itself x (o.chain x y x (below-in c x y xs p.0 b) (below-in c y x ys q.0 a)))

  pub one-rising : (xs ys : List X) → Rising c xs → Rising c ys → ((z : X) → Memᴰ z xs → Memᴰ z ys) → ((z : X) → Memᴰ z ys → Memᴰ z xs) → xs ≡ ys
  one-rising [] [] p q f g = refl
  one-rising [] (y ∷ ys) p q f g = absurd (Memᴰ.not-nil (g y (Memᴰ.head refl)))
  one-rising (x ∷ xs) [] p q f g = absurd (Memᴰ.not-nil (f x (Memᴰ.head refl)))
  one-rising (x ∷ xs) (y ∷ ys) p q f g =
      let e : x ≡ y = heads x y xs ys p q (f x (Memᴰ.head refl)) (g y (Memᴰ.head refl)) in
      let s : xs ≡ ys = one-rising xs ys p.1 q.1 (to e) (fro e) in
      cc
    where
      to : x ≡ y → (z : X) → Memᴰ z xs → Memᴰ z ys
      to e z i = ⊎_elim (λ w. absurd (not-below-itself x (subst (λ (u : X). c x u ≡ Less) (w ∙ sym e) (below-in c x z xs p.0 i)))) (λ k. k) (Memᴰ.cases_cons (f z (Memᴰ.tail i)))

      fro : x ≡ y → (z : X) → Memᴰ z ys → Memᴰ z xs
      fro e z i = ⊎_elim (λ w. absurd (not-below-itself y (subst (λ (u : X). c y u ≡ Less) (w ∙ e) (below-in c y z ys q.0 i)))) (λ k. k) (Memᴰ.cases_cons (g z (Memᴰ.tail i)))

  -- one that is below another is not that one
  not-one : (x y : X) → c x y ≡ Less → x ≡ y → ⊥
  not-one x y h e = not-below-itself x (subst (λ (z : X). c x z ≡ Less) (sym e) h)

  -- a rising list whose members are among those of another rising one is no longer
  pub shorter : (ys xs : List X) → Rising c xs → Rising c ys → ((z : X) → Memᴰ z xs → Memᴰ z ys) → length xs ≤ length ys
  shorter ys [] r s f = omega arith
  shorter [] (x ∷ xs) r s f = absurd (Memᴰ.not-nil (f x (Memᴰ.head refl)))
  shorter (y ∷ ys) (x ∷ xs) r s f =
      ⊎_elim
      (λ e. let h : length xs ≤ length ys = shorter ys xs r.1 s.1 (without e) in omega arith)
      (λ j. let h : suc (length xs) ≤ length ys = shorter ys (x ∷ xs) r s.1 (all-above j) in omega arith)
      (Memᴰ.cases_cons (f x (Memᴰ.head refl)))
    where
      without : x ≡ y → (z : X) → Memᴰ z xs → Memᴰ z ys
      without e z i = ⊎_elim (λ q. absurd (not-one x z (below-in c x z xs r.0 i) (e ∙ sym q))) (λ k. k) (Memᴰ.cases_cons (f z (Memᴰ.tail i)))

      above : Memᴰ x ys → (z : X) → Memᴰ z (x ∷ xs) → c y z ≡ Less
      above j z i =
          let lower : c y x ≡ Less = below-in c y x ys s.0 j in
          ⊎_elim
          (λ q. subst (λ (w : X). c y w ≡ Less) (sym q) lower)
          (λ k. o.chain y x z lower (below-in c x z xs r.0 k))
          (Memᴰ.cases_cons i)

      all-above : Memᴰ x ys → (z : X) → Memᴰ z (x ∷ xs) → Memᴰ z ys
      all-above j z i = ⊎_elim (λ q. absurd (not-one y z (above j z i) (sym q))) (λ k. k) (Memᴰ.cases_cons (f z i))

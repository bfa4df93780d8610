-- The instances of a quantified synchronisation, position by position.
use Rattle.std.proofs.Common.{◌≡◌, refl, sym, ◌∙◌, ap, subst, ℕ, zero, suc, ◌<◌, ◌≤◌, ◌≢◌, List, [], ◌∷◌, ◌++◌, length, drop, slice_index, length-append, length-drop, le_of_suc-le-suc, not-suc-le-zero, arith}
use Rattle.std.proofs.lemmas.List.{nil_from_length}
use Rattle.std.proofs.Math.Seq.{drop-append_seam}
use Rattle.rules.specs.Cells.{Cells, fit, times}
use Rattle.rules.specs.Rules.{Motion, OneMoves, AllMove}
use Rattle.rules.specs.Rules.OneMoves.{this_one, later_one}
use Rattle.rules.specs.Rules.AllMove.{none_left, this_too}
use Rattle.rules.specs.Instances.{instance_at, EveryInstanceMoves, OneInstanceMoves}
use Rattle.rules.proofs.Widths.{length-fit, Keeps, one-keeps}

pub fit-append : (n : ℕ) (s q : Cells) → length s ≡ n → fit n (s ++ q) ≡ s
fit-append zero [] q e = refl
fit-append zero (x ∷ s) q e = absurd (omega arith)
fit-append (suc n) [] q e = absurd (omega arith)
fit-append (suc n) (x ∷ s) q e = ap {B = Cells} (λ r. x ∷ r) (fit-append n s q (omega arith))

pub drop-append : (n : ℕ) (s q : Cells) → length s ≡ n → drop n (s ++ q) ≡ q
drop-append n s q e = subst (λ (m : ℕ). drop m (s ++ q) ≡ q) e (drop-append_seam s q)

pub fit-drop : (n : ℕ) (r : Cells) → n ≤ length r → fit n r ++ drop n r ≡ r
fit-drop zero r h = refl
fit-drop (suc n) [] h = absurd (not-suc-le-zero h)
fit-drop (suc n) (x ∷ r) h = ap {B = Cells} (λ s. x ∷ s) (fit-drop n r (le_of_suc-le-suc h))

module _ (n : ℕ) (B : ℕ → Motion) where
  pub every-out : ((x : ℕ) → Keeps n (B x)) → (xs : List ℕ) (r r' : Cells) → AllMove n B xs r r' → EveryInstanceMoves n B xs r r'
  every-out k xs r r' (none_left e) = record { long = ap length e; each = λ i h. absurd (not-suc-le-zero h) }
  every-out k xs r r' (this_too {x = x} {xs = ys} s' q' h g e) =
      let l : length s' ≡ n = k x _ s' (length-fit n r) h in
      let o = every-out k ys (drop n r) q' g in
      let d : drop n r' ≡ q' = ap (drop n) e ∙ drop-append n s' q' l in
      let f : fit n r' ≡ s' = ap (fit n) e ∙ fit-append n s' q' l in
      record { long = omega (arith, o.long, simp length-append at (ap length e)); each = at d f o.each }
    where
      at : drop n r' ≡ q' → fit n r' ≡ s' → ((i : ℕ) → i < length ys → B (slice_index ys i) (instance_at n i (drop n r)) (instance_at n i q')) → (i : ℕ) → i < suc (length ys) → B (slice_index (x ∷ ys) i) (instance_at n i r) (instance_at n i r')
      at d f below zero u = rw f h
      at d f below (suc i) u = rw d (below i (le_of_suc-le-suc u))

  pub every-in : (xs : List ℕ) (r r' : Cells) → EveryInstanceMoves n B xs r r' → AllMove n B xs r r'
  every-in [] r r' h = none_left (nil_from_length r' h.long)
  every-in (x ∷ xs) r r' h =
      this_too (fit n r') (drop n r') (h.each 0 (omega arith))
      (every-in xs (drop n r) (drop n r') (record { long = simp length-drop (omega (arith, h.long)); each = λ i u. h.each (suc i) (omega arith) }))
      (sym (fit-drop n r' (omega (arith, h.long))))

  pub one-out : ((x : ℕ) → Keeps n (B x)) → (xs : List ℕ) (r r' : Cells) → length r ≡ times xs n → OneMoves n B xs r r' → OneInstanceMoves n B xs r r'
  one-out k xs r r' w (this_one {x = x} {xs = ys} s' h e) =
      let l : length s' ≡ n = k x _ s' (length-fit n r) h in
      let d : drop n r' ≡ drop n r = ap (drop n) e ∙ drop-append n s' (drop n r) l in
      let f : fit n r' ≡ s' = ap (fit n) e ∙ fit-append n s' (drop n r) l in
      record {
        long = one-keeps n B k (x ∷ ys) r r' w (this_one s' h e);
        which = 0;
        within = omega arith;
        moves = rw f h;
        stay = others d;
      }
    where
      others : drop n r' ≡ drop n r → (i : ℕ) → i < suc (length ys) → i ≢ 0 → instance_at n i r' ≡ instance_at n i r
      others d zero u ne = absurd (ne refl)
      others d (suc i) u ne = ap (instance_at n i) d
  one-out k xs r r' w (later_one {x = x} {xs = ys} q' h e) =
      let o = one-out k ys (drop n r) q' (simp length-drop (omega (arith, w))) h in
      let d : drop n r' ≡ q' = ap (drop n) e ∙ drop-append n (fit n r) q' (length-fit n r) in
      let f : fit n r' ≡ fit n r = ap (fit n) e ∙ fit-append n (fit n r) q' (length-fit n r) in
      record {
        long = one-keeps n B k (x ∷ ys) r r' w (later_one q' h e);
        which = suc o.which;
        within = omega (arith, o.within);
        moves = rw d o.moves;
        stay = others d f o.which o.stay;
      }
    where
      others : drop n r' ≡ q' → fit n r' ≡ fit n r → (j : ℕ) → ((i : ℕ) → i < length ys → i ≢ j → instance_at n i q' ≡ instance_at n i (drop n r)) → (i : ℕ) → i < suc (length ys) → i ≢ suc j → instance_at n i r' ≡ instance_at n i r
      others d f j below zero u ne = f
      others d f j below (suc i) u ne = ap (instance_at n i) d ∙ below i (le_of_suc-le-suc u) (λ q. ne (ap suc q))

  -- cells are known by their instances
  by-instances : (xs : List ℕ) (r s : Cells) → length r ≡ times xs n → length s ≡ times xs n → ((i : ℕ) → i < length xs → instance_at n i r ≡ instance_at n i s) → r ≡ s
  by-instances [] r s l k h = nil_from_length r l ∙ sym (nil_from_length s k)
  by-instances (x ∷ xs) r s l k h =
      let d : drop n r ≡ drop n s = by-instances xs (drop n r) (drop n s) (simp length-drop (omega arith)) (simp length-drop (omega arith)) (λ i u. h (suc i) (omega arith)) in
      let f : fit n r ≡ fit n s = h 0 (omega arith) in
      sym (fit-drop n r (omega arith)) ∙ ap (λ q. fit n r ++ q) d ∙ ap (λ q. q ++ drop n s) f ∙ fit-drop n s (omega arith)

  pub one-in : (xs : List ℕ) (r r' : Cells) → length r ≡ times xs n → OneInstanceMoves n B xs r r' → OneMoves n B xs r r'
  one-in xs r r' w h = at xs r r' h.which w h.long h.within h.moves h.stay
    where
      at : (xs : List ℕ) (r r' : Cells) (j : ℕ) → length r ≡ times xs n → length r' ≡ times xs n → j < length xs → B (slice_index xs j) (instance_at n j r) (instance_at n j r') → ((i : ℕ) → i < length xs → i ≢ j → instance_at n i r' ≡ instance_at n i r) → OneMoves n B xs r r'
      at [] r r' j w l u m s = absurd (not-suc-le-zero u)
      at (x ∷ xs) r r' zero w l u m s =
          let d : drop n r' ≡ drop n r = by-instances xs (drop n r') (drop n r) (simp length-drop (omega arith)) (simp length-drop (omega arith)) (λ i p. s (suc i) (omega arith) (λ z. absurd (omega arith))) in
          this_one (fit n r') m (sym (fit-drop n r' (omega arith)) ∙ ap (λ q. fit n r' ++ q) d)
      at (x ∷ xs) r r' (suc j) w l u m s =
          let f : fit n r' ≡ fit n r = s 0 (omega arith) (λ z. absurd (omega arith)) in
          later_one (drop n r')
          (at xs (drop n r) (drop n r') j (simp length-drop (omega arith)) (simp length-drop (omega arith)) (le_of_suc-le-suc u) m (λ i p ne. s (suc i) (omega arith) (λ z. ne (omega arith))))
          (sym (fit-drop n r' (omega arith)) ∙ ap (λ q. q ++ drop n r') f)

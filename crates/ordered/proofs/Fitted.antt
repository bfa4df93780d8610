-- What an insertion leaves in the places that are in use after it, against the list that the definition gives.
use Rattle.std.proofs.Common.{◌≡◌, ℕ, zero, suc, ◌+◌, ◌≤◌, min, eqb, ltb, List, [], ◌∷◌, length, take, Ordering, sym, refl, ap, ◌∙◌, ⊎_elim, arith}
use Rattle.std.proofs.lemmas.Bool.{cases_lt}
use Rattle.std.proofs.lemmas.Bool.Decides.{nat_tests}
use Rattle.std.proofs.lemmas.List.{take_all, take-take, length-take, length-take-le}
use Rattle.std.proofs.lemmas.List.Edits.{length-insert}
use Rattle.std.specs.List.{insert}
use Rattle.ordered.specs.Order.{kept, spills}
use Rattle.ordered.specs.Seeking.{ComesAt}
use Rattle.ordered.proofs.Steps.{comes}

module _ {X : Type 0} where
  cut : (s : List X) (at len : ℕ) (x : X) → at ≤ len → at ≤ length s → insert (take len s) at x ≡ take (suc len) (insert s at x)
  cut s zero len x h k = refl
  cut [] (suc a) len x h k = absurd (omega arith)
  cut (y ∷ ys) (suc a) zero x h k = absurd (omega arith)
  cut (y ∷ ys) (suc a) (suc l) x h k = ap (λ (zs : List X). y ∷ zs) (cut ys a l x (omega arith) (omega arith))

  take-both : (m n : ℕ) (l : List X) → take m (take n l) ≡ take (min m n) l
  take-both m n l =
      ⊎_elim
      (λ h. take-take m n l (omega arith) ∙ ap (λ (k : ℕ). take k l) (omega arith))
      (λ h. take_all m (take n l) (omega (arith, length-take n l)) ∙ ap (λ (k : ℕ). take k l) (omega arith))
      (cases_lt m n)

  module _ (s : List X) (at used : ℕ) (x : X) (low : at ≤ used) (fits : used ≤ length s) where
    fitted : take (min (length s) (used + 1)) (insert s at x) ≡ take (length s) (insert (take used s) at x)
    fitted =
        let e : suc used ≡ used + 1 = omega arith in
        rw (cut s at used x low (omega arith), e) (sym (take-both (length s) (used + 1) (insert s at x)))

    left-out : eqb (min (length s) (used + 1)) used ≡ ltb (length s) (length (insert (take used s) at x))
    left-out =
        let n : length (insert (take used s) at x) ≡ used + 1 = omega (arith, length-insert (take used s) at x, length-take-le used s fits) in
        grind (arith, nat_tests)

-- where x comes in is where it is put
pub put-in : {X : Type 0} (c : X → X → Ordering) (s t : List X) (at used end : ℕ) (x : X) → used ≤ length s → ComesAt c (take used s) x at → end ≡ min (length s) (used + 1)
    → take end t ≡ take end (insert s at x) → take end t ≡ kept c (length s) (take used s) x
put-in c s t at used end x fits here end-is puts =
    let low : at ≤ used = omega (arith, here.there, length-take-le used s fits) in
    puts ∙ rw (end-is, comes c x (take used s) at here) (fitted s at used x low fits)

-- and one is left out just where the end stays
pub full-spills : {X : Type 0} (c : X → X → Ordering) (s : List X) (at used end : ℕ) (x : X) → used ≤ length s → ComesAt c (take used s) x at → end ≡ min (length s) (used + 1)
    → eqb end used ≡ spills c (length s) (take used s) x
full-spills c s at used end x fits here end-is =
    let low : at ≤ used = omega (arith, here.there, length-take-le used s fits) in
    rw (end-is, comes c x (take used s) at here) (left-out s at used x low fits)

-- Widths that are within a row, and those of what is made of them.
use Rattle.std.proofs.Common.{◌≡◌, ℕ, zero, suc, ◌+◌, ◌*◌, ◌<◌, ◌≤◌, List, [], ◌∷◌, length, Some, None, sym, ap, ◌∙◌, ⊎_elim, arith}
use Rattle.std.proofs.Math.Nat.{le-max_left, le-max_right}
use Rattle.std.proofs.lemmas.Bool.{cases_lt}
use Rattle.rules.specs.Cells.{most, times}
use Rattle.diagram.specs.Plans.{within_row}

pub wide : (n : ℕ) → None ≡ within_row n → 48 < n
wide n e = grind arith

pub past-row : (n : ℕ) → 48 < n → None ≡ within_row n
past-row n lt = grind arith

pub narrow : (n m : ℕ) → Some m ≡ within_row n → (m ≡ n) × (n ≤ 48)
narrow n m e = grind arith

most-above : (n q : ℕ) (f : ℕ → ℕ) → q < n → f q ≤ most n f
most-above zero q f h = absurd (omega arith)
most-above (suc n) q f h =
    let l = le-max_left (f n) (most n f) in
    let r = le-max_right (f n) (most n f) in
    ⊎_elim
    (λ lt. let k = most-above n q f lt in omega arith)
    (λ le. let e : f q ≡ f n = ap f (omega arith) in omega arith)
    (cases_lt q n)

-- if one of some widths is past a row, so is the greatest
pub most-wide : (n q : ℕ) (f : ℕ → ℕ) → q < n → None ≡ within_row (f q) → None ≡ within_row (most n f)
most-wide n q f h e =
    let w = wide (f q) e in
    let m = most-above n q f h in
    past-row (most n f) (omega arith)

times-product : (xs : List ℕ) (n : ℕ) → times xs n ≡ n * length xs
times-product [] n = omega arith
times-product (x ∷ xs) n = let h = times-product xs n in omega arith

-- a product of widths, of which the first is found to be m
pub times-narrow : (xs : List ℕ) (n m : ℕ) → Some m ≡ within_row n → within_row (m * length xs) ≡ within_row (times xs n)
times-narrow xs n m e =
    let t = times-product xs n in
    ap within_row (ap (λ k. k * length xs) (narrow n m e).0 ∙ sym t)

-- one of some instances is past a row
pub times-wide : (xs : List ℕ) (n : ℕ) → 0 < length xs → None ≡ within_row n → None ≡ within_row (times xs n)
times-wide [] n l e = absurd (omega arith)
times-wide (x ∷ xs) n l e = let w = wide n e in past-row (n + times xs n) (omega arith)

-- A row of bits, which is filled bit by bit.
use Rattle.std.proofs.Common.{◌≡◌, sym, ◌∙◌, ap, subst, ℕ, ◌+◌, ◌*◌, ◌%◌, ◌^◌, ◌<◌, ◌≤◌, ◌≢◌, Bool, true, false, ◌==◌, bit_or, ⊎_elim, arith}
use Rattle.std.proofs.lemmas.Bool.{cases_eq, cases_lt}
use Rattle.std.proofs.lemmas.Nat.Bits.{bit_at-zero, bit_at_set_same, bit_at_set_other, bit_at_above}
use Rattle.std.specs.Int.{bit_at, w32}

-- each bit below n is one that P has there, and there are no others
pub record Filled (P : ℕ → Bool → Type 0) (n row : ℕ) : Type 0 where
  pub below : (j : ℕ) → j < n → P j (bit_at row j == 1)
  pub above : (j : ℕ) → n ≤ j → bit_at row j == 1 ≡ false

pub filled-none : (P : ℕ → Bool → Type 0) → Filled P 0 0
filled-none P = record { below = λ j h. absurd (omega arith); above = λ j h. ap (λ b. b == 1) (bit_at-zero j) }

pub filled-no : (P : ℕ → Bool → Type 0) (n row : ℕ) → Filled P n row → P n false → Filled P (n + 1) row
filled-no P n row r p = record {
  below = λ j h.
      ⊎_elim
      (λ e. subst (λ (k : ℕ). P k (bit_at row k == 1)) (sym e) (subst (P n) (sym (r.above n (omega arith))) p))
      (λ ne. r.below j (omega arith))
      (cases_eq j n);
  above = λ j h. r.above j (omega arith);
}

pub filled-yes : (P : ℕ → Bool → Type 0) (n row : ℕ) → Filled P n row → n < 32 → P n true → Filled P (n + 1) (bit_or row (1 * 2 ^ n % 2 ^ 32))
filled-yes P n row r l p =
    let next = bit_or row (1 * 2 ^ n % 2 ^ 32) in
    record {
      below = λ j h.
          ⊎_elim
          (λ e. subst (λ (k : ℕ). P k (bit_at next k == 1)) (sym e) (subst (P n) (sym (ap (λ b. b == 1) (bit_at_set_same w32 row n l))) p))
          (λ ne. subst (P j) (sym (ap (λ b. b == 1) (bit_at_set_other w32 row n l j ne))) (r.below j (omega arith)))
          (cases_eq j n);
      above = λ j h. let ne : j ≢ n = omega arith in ap (λ b. b == 1) (bit_at_set_other w32 row n l j ne) ∙ r.above j (omega arith);
    }

pub filled-all : (P : ℕ → Bool → Type 0) (n row : ℕ) → Filled P n row → ((j : ℕ) → n ≤ j → (b : Bool) → P j b) → (j : ℕ) → P j (bit_at row j == 1)
filled-all P n row r past j = ⊎_elim (λ lt. r.below j lt) (λ ge. past j ge (bit_at row j == 1)) (cases_lt j n)

-- a row of 32 bits has none past them
pub none-past : (row j : ℕ) → row < 2 ^ 32 → 32 ≤ j → bit_at row j == 1 ≡ false
none-past row j h l = ap (λ b. b == 1) (bit_at_above row 32 j h l)

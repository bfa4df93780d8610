-- A test that holds of every number below a bound.
use Rattle.std.proofs.Common.{◌≡◌, ℕ, zero, suc, ◌+◌, ◌<◌, Bool, true, false, ◌&&◌, sym, refl, ap, ◌∙◌, ⊎_elim, add-one, arith}
use Rattle.std.proofs.Math.Bool.{and-false}
use Rattle.std.proofs.lemmas.Bool.{cases_lt, cases_Bool}
use Rattle.record.specs.Ranges.{all_below}

pub all_more : (f : ℕ → Bool) (n : ℕ) → all_below n f ≡ true → f n ≡ true → all_below (n + 1) f ≡ true
all_more f n a h = rw add-one (rw (a, h) refl)

pub all-stop : (f : ℕ → Bool) (n i : ℕ) → i < n → f i ≡ false → all_below n f ≡ false
all-stop f zero i lt h = absurd (omega arith)
all-stop f (suc n) i lt h =
    ⊎_elim (λ s. ap (λ a. a && f n) (all-stop f n i s h))
    (λ s. let e : i ≡ n = omega arith in ap (λ a. all_below n f && a) (ap f (sym e) ∙ h) ∙ and-false (all_below n f))
    (cases_lt i n)

pub all-at : (f : ℕ → Bool) (n i : ℕ) → all_below n f ≡ true → i < n → f i ≡ true
all-at f n i a lt = ⊎_elim (λ h. h) (λ h. let s = sym a ∙ all-stop f n i lt h in cc) (cases_Bool (f i))

pub all_from : (f : ℕ → Bool) (n : ℕ) → ((i : ℕ) → i < n → f i ≡ true) → all_below n f ≡ true
all_from f zero h = refl
all_from f (suc n) h = rw (all_from f n (λ i lt. h i (omega arith)), h n (omega arith)) refl

pub all-as : (f g : ℕ → Bool) (n : ℕ) → ((i : ℕ) → i < n → f i ≡ true → g i ≡ true) → all_below n f ≡ true → all_below n g ≡ true
all-as f g n h a = all_from g n (λ i lt. h i lt (all-at f n i a lt))

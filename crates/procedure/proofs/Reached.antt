-- How far a reading has come.
use Rattle.std.proofs.Common.{◌≡◌, ℕ, zero, suc, ◌+◌, ◌-◌, ◌<◌, ◌≤◌, ltb, List, length, Some, None, sym, refl, ap, ◌∙◌, ⊎_elim, add-one, arith, below_more}
use Rattle.std.proofs.lemmas.Bool.{cases_Bool, lt-ltb, le-ltb, le-leb}
use Rattle.fault.specs.Asking.{refusal}
use Rattle.fault.specs.declared.fault.Fault.{Fault}
use Rattle.fault.proofs.Refusals.{all_asked, first-asked}
use Rattle.record.specs.Bytes.{field_at}
use Rattle.procedure.specs.Drawings.{Drawing, grown}
use Rattle.procedure.specs.Reading.{start_of, records_from, records, entry_here, drawn_by, record_asks, file_asks}

-- the first i records answered yes to all, they end at `at` and drew d
pub record Reached (b : List ℕ) (i at : ℕ) (d : Drawing) : Type 0 where
  pub start : at ≡ start_of b i
  pub passed : (j : ℕ) → j < i → refusal (record_asks b (start_of b j) j (drawn_by b j)) ≡ None
  pub drawing : d ≡ drawn_by b i
  pub within : at ≤ length b
  pub low : i ≤ at
  pub counted : records_from (length b - i) b i ≡ records b

records-step : (b : List ℕ) (i s t : ℕ) → s ≡ suc t → start_of b i < length b → records_from s b i ≡ records_from t b (suc i)
records-step b i s t e lt = rw (e, lt-ltb (start_of b i) (length b) lt) refl

records-end : (s : ℕ) (b : List ℕ) (i : ℕ) → length b ≤ start_of b i → records_from s b i ≡ i
records-end zero b i ge = refl
records-end (suc s) b i ge = rw (le-ltb (start_of b i) (length b) ge) refl

records-low : (s : ℕ) (b : List ℕ) (i : ℕ) → i ≤ records_from s b i
records-low zero b i = omega arith
records-low (suc s) b i =
    ⊎_elim (λ t. let h = records-low s b (suc i) in rw t (omega arith)) (λ f. rw f (omega arith)) (cases_Bool (ltb (start_of b i) (length b)))

pub reached-more : (b : List ℕ) (i at next : ℕ) (d d' : Drawing) → Reached b i at d → at < length b → refusal (record_asks b at i d) ≡ None
    → d' ≡ grown d (entry_here b at) → next ≡ at + 2 + field_at b at → next ≤ length b → Reached b (i + 1) next d'
reached-more b i at next d d' r lt p g n le =
    let e = r.start in
    let f = r.drawing in
    let l = r.low in
    let more : start_of b i < length b = omega arith in
    record {
      start = rw add-one (rw e at n);
      passed = below_more _ _ r.passed (rw (← e, ← f) p);
      drawing = rw add-one (rw (← e, ← f) g);
      within = le;
      low = omega arith;
      counted = rw add-one (sym (records-step b i (length b - i) (length b - suc i) (omega arith) more) ∙ r.counted);
    }

-- every record was read
pub reached-all : (b : List ℕ) (i at : ℕ) (d : Drawing) → length b ≤ 16384 → Reached b i at d → length b ≤ at → (d ≡ drawn_by b (records b)) × (refusal (file_asks b) ≡ None)
reached-all b i at d s r ge =
    let e = r.start in
    let n : records b ≡ i = sym r.counted ∙ records-end (length b - i) b i (omega arith) in (
      r.drawing ∙ ap (drawn_by b) (sym n),
      rw (le-leb (length b) 16384 s, n) (all_asked i (λ j. record_asks b (start_of b j) j (drawn_by b j)) r.passed),
    )

-- record i is refused
pub reached-stop : (b : List ℕ) (i at : ℕ) (d : Drawing) (f : Fault) → length b ≤ 16384 → Reached b i at d → at < length b → refusal (record_asks b at i d) ≡ Some f → refusal (file_asks b) ≡ Some f
reached-stop b i at d f s r lt p =
    let e = r.start in
    let g = r.drawing in
    let l = r.low in
    let more : start_of b i < length b = omega arith in
    let c = sym r.counted ∙ records-step b i (length b - i) (length b - suc i) (omega arith) more in
    let h = records-low (length b - suc i) b (suc i) in
    let i-below : i < records b = omega (arith, c) in
    rw (le-leb (length b) 16384 s) (first-asked (records b) i (λ j. record_asks b (start_of b j) j (drawn_by b j)) f i-below r.passed (rw (← e, ← g) p))

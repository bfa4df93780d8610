-- An event is in form exactly when no question of its fields is answered no.
use Rattle.std.proofs.Common.{◌≡◌, ℕ, ◌<◌, true, ◌||◌, None, ◌==◌, nat_le, ⊎_elim, le-leb, leb-true, eq-eqb, eqb-true, arith}
use Rattle.std.proofs.lemmas.Bool.{cases_lt, or_cases, or_left, or_right}
use Rattle.fault.specs.Asking.{refusal}
use Rattle.fault.proofs.Refusals.{all_yes, no-refusal}
use Rattle.event.specs.Forms.{InForm, form_asks}
use Rattle.event.specs.declared.event.Event.{Event}

-- an argument is used, or it is 0
unused : (n count x : ℕ) → (count < n → x ≡ 0) → (nat_le n count || x == 0) ≡ true
unused n count x h =
    ⊎_elim
    (λ lt. or_right (nat_le n count) (x == 0) (eq-eqb x 0 (h lt)))
    (λ le. or_left (nat_le n count) (x == 0) (le-leb n count le))
    (cases_lt count n)

used-or : (n count x : ℕ) → (nat_le n count || x == 0) ≡ true → count < n → x ≡ 0
used-or n count x h lt =
    ⊎_elim
    (λ le. let l = leb-true n count le in absurd (omega arith))
    (λ e. eqb-true x 0 e)
    (or_cases (nat_le n count) (x == 0) h)

pub form-none : (e : Event) → InForm e → refusal (form_asks e) ≡ None
form-none e f =
    no-refusal (form_asks e)
    (le-leb e.label 255 f.label, (le-leb e.count 2 f.count, (unused 1 e.count e.first f.first, (unused 2 e.count e.second f.second, tt))))

pub none-form : (e : Event) → refusal (form_asks e) ≡ None → InForm e
none-form e h =
    let y = all_yes (form_asks e) h in
    record {
      label = leb-true e.label 255 y.0;
      count = leb-true e.count 2 y.1.0;
      first = used-or 1 e.count e.first y.1.1.0;
      second = used-or 2 e.count e.second y.1.1.1.0;
    }

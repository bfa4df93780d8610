-- An entry whose fields are in range is sound.
use Rattle.std.proofs.Common.{◌≡◌, ℕ, zero, suc, ◌+◌, ◌-◌, ◌*◌, ◌<◌, Bool, true, false, cond, not, ◌&&◌, ◌||◌, eqb, ltb, leb, List, get_or, refl, ap, ⊎_elim, arith}
use Rattle.std.proofs.lemmas.Bool.{cases_eq, and_parts, and_from, or_cases, leb-true, eqb-true, eq-eqb, ne_eqb, not-true}
use Rattle.notation.specs.Parts.{blank_state, is_absent}
use Rattle.notation.specs.declared.arrow.Argument.TheVariants.{Absent, Constant, Outer, Inner}
use Rattle.record.specs.Bytes.{field_at}
use Rattle.record.specs.Decoding.{mark_of, unless_none, argument_of, state_at, states_at, labels_at, arrow_at, entry_at}
use Rattle.record.specs.Ranges.{all_below, mark_fits, state_fits, states_fit, label_fits, labels_fit, argument_fits, arguments_fit, guard_fits, arrow_fits, fields_fit}
use Rattle.record.specs.declared.kind.Kind.{Kind}
use Rattle.record.specs.declared.kind.Kind.TheVariants as k
use Rattle.record.proofs.Below.{all-as}
use Rattle.procedure.proofs.Fields.{table_length, table_below}
use Rattle.procedure.specs.Sound.{mark_sound, states_sound, labels_sound, guard_sound, arrow_sound, entry_sound}

mark-sound : (m c : ℕ) → mark_fits m c ≡ true → mark_sound (mark_of m) (unless_none c) ≡ true
mark-sound m c h =
    ⊎_elim
    (λ e. rw (eq-eqb m 0 e) refl)
    (λ n0. ⊎_elim
    (λ e. rw (ne_eqb m 0 n0, eq-eqb m 1 e) refl)
    (λ n1. ⊎_elim
    (λ low. absurd (n1 (let l = leb-true m 1 low in omega arith)))
    (λ deep. let p = and_parts (eqb m 2) (not (eqb c 65535)) deep in rw (ne_eqb m 0 n0, ne_eqb m 1 n1, not-true (eqb c 65535) p.1) refl)
    (or_cases (leb m 1) (eqb m 2 && not (eqb c 65535)) h))
    (cases_eq m 1))
    (cases_eq m 0)

states-sound : (b : List ℕ) (at : ℕ) → states_fit b at ≡ true → states_sound (states_at b at) ≡ true
states-sound b at h =
    let n = field_at b (at + 4) in
    let f : ℕ → Bool = λ i. state_fits b (at + 8 + 4 * i) in
    let p = and_parts (leb 1 n) (leb n 32 && (ltb (field_at b (at + 6)) n && all_below n f)) h in
    let q = and_parts (leb n 32) (ltb (field_at b (at + 6)) n && all_below n f) p.1 in
    let r = and_parts (ltb (field_at b (at + 6)) n) (all_below n f) q.1 in
    rw (table_length 32 blank_state n (λ j. state_at b (at + 8 + 4 * j)), p.0, q.0, r.0)
    (all-as f (λ i. mark_sound (get_or (states_at b at).table.items i blank_state).mark (get_or (states_at b at).table.items i blank_state).child) n
    (λ i lt y. rw (table_below 32 blank_state n (λ j. state_at b (at + 8 + 4 * j)) i lt) (mark-sound (field_at b (at + 8 + 4 * i)) (field_at b (at + 8 + 4 * i + 2)) y)) r.1)

label-sound : (b : List ℕ) (at i : ℕ) → i < field_at b (at + 8) → label_fits b at i ≡ true
    → (leb (get_or (labels_at b at).items i 0) 255 && (eqb i 0 || ltb (get_or (labels_at b at).items (i - 1) 0) (get_or (labels_at b at).items i 0))) ≡ true
label-sound b at zero lt y =
    let p = and_parts (leb (field_at b (at + 10 + 2 * 0)) 255) (eqb 0 0 || ltb (field_at b (at + 8 + 2 * 0)) (field_at b (at + 10 + 2 * 0))) y in
    and_from (leb (get_or (labels_at b at).items 0 0) 255) true (rw (table_below 16 0 (field_at b (at + 8)) (λ j. field_at b (at + 10 + 2 * j)) 0 lt) p.0) refl
label-sound b at (suc i) lt y =
    let f : ℕ → ℕ = λ j. field_at b (at + 10 + 2 * j) in
    let here = table_below 16 0 (field_at b (at + 8)) f (suc i) lt in
    let back : suc i - 1 ≡ i = omega arith in
    let before = table_below 16 0 (field_at b (at + 8)) f i (omega arith) in
    let same : field_at b (at + 8 + 2 * suc i) ≡ f i = ap (field_at b) (omega arith) in
    rw (here, back, before, ← same) y

labels-sound : (b : List ℕ) (at : ℕ) → labels_fit b at ≡ true → labels_sound (labels_at b at) ≡ true
labels-sound b at h =
    let n = field_at b (at + 8) in
    let p = and_parts (leb n 16) (all_below n (label_fits b at)) h in
    rw (table_length 16 0 n (λ j. field_at b (at + 10 + 2 * j)), p.0)
    (all-as (label_fits b at) (λ i. leb (get_or (labels_at b at).items i 0) 255 && (eqb i 0 || ltb (get_or (labels_at b at).items (i - 1) 0) (get_or (labels_at b at).items i 0))) n
    (λ i lt y. label-sound b at i lt y) p.1)

guard-sound : (g : ℕ) → guard_fits g ≡ true → guard_sound (unless_none g) ≡ true
guard-sound g h =
    ⊎_elim
    (λ e. rw (eq-eqb g 65535 e) refl)
    (λ ne. ⊎_elim (λ low. rw (ne_eqb g 65535 ne) low) (λ none. absurd (ne (eqb-true g 65535 none))) (or_cases (leb g 31) (eqb g 65535) h))
    (cases_eq g 65535)

absent-kind : (c v : ℕ) → is_absent (argument_of c v) ≡ eqb c 0
absent-kind c v =
    by (eqb c 0) (eqb c 1) (eqb c 2)
  where
    by : (x y z : Bool) → is_absent (cond x Absent (cond y (Constant v) (cond z Outer Inner))) ≡ x
    by true y z = refl
    by false true z = refl
    by false false true = refl
    by false false false = refl

arrow-sound : (b : List ℕ) (at : ℕ) → arrow_fits b at ≡ true → arrow_sound (arrow_at b at) ≡ true
arrow-sound b at h =
    let p = and_parts (leb (field_at b (at + 10)) 255) (leb (field_at b (at + 12)) 1 && (guard_fits (field_at b (at + 14)) && arguments_fit b (at + 16))) h in
    let q = and_parts (leb (field_at b (at + 12)) 1) (guard_fits (field_at b (at + 14)) && arguments_fit b (at + 16)) p.1 in
    let r = and_parts (guard_fits (field_at b (at + 14))) (arguments_fit b (at + 16)) q.1 in
    let second = at + 16 + 4 in
    let s = and_parts (argument_fits (field_at b (at + 16)) (field_at b (at + 16 + 2))) (argument_fits (field_at b second) (field_at b (at + 16 + 6)) && (eqb (field_at b second) 0 || not (eqb (field_at b (at + 16)) 0))) r.1 in
    let t = and_parts (argument_fits (field_at b second) (field_at b (at + 16 + 6))) (eqb (field_at b second) 0 || not (eqb (field_at b (at + 16)) 0)) s.1 in
    rw (p.0, guard-sound (field_at b (at + 14)) r.0, absent-kind (field_at b second) (field_at b (at + 16 + 6)), absent-kind (field_at b (at + 16)) (field_at b (at + 16 + 2))) t.1

pub fits-sound : (x : Kind) (b : List ℕ) (at : ℕ) → fields_fit x b at ≡ true → entry_sound (entry_at x b at) ≡ true
fits-sound k.Automaton b at h = states-sound b at h
fits-sound k.Sequence b at h = refl
fits-sound k.Closure b at h = refl
fits-sound k.Guard b at h = h
fits-sound k.Choice b at h = refl
fits-sound k.Synchronisation b at h = labels-sound b at h
fits-sound k.QuantifiedChoice b at h = h
fits-sound k.QuantifiedSynchronisation b at h =
    let p = and_parts (leb (field_at b (at + 4)) 7) (labels_fit b at) h in and_from (leb (field_at b (at + 4)) 7) _ p.0 (labels-sound b at p.1)
fits-sound k.Arrow b at h = arrow-sound b at h

-- The record of each kind, from its fields in a file.
use Rattle.std.proofs.Common.{◌≡◌, ℕ, zero, suc, ◌+◌, ◌*◌, ◌<◌, ◌≤◌, true, cond, not, ◌&&◌, ◌||◌, eqb, ltb, leb, List, [], ◌∷◌, ◌++◌, map, get_or, Some, None, Option, sym, refl, ap, ◌∙◌, ⊎_elim, add_assoc, arith}
use Rattle.std.specs.List.{range_with_len}
use Rattle.std.proofs.lemmas.Bool.{cases_lt, cond_both, eqb-true, eqb-false, leb-true, and_parts, or_cases}
use Rattle.notation.specs.Parts.{blank_state}
use Rattle.record.specs.Bytes.{field_at}
use Rattle.record.specs.Kinds.{kind_of, length_of, count_at}
use Rattle.record.specs.Decoding.{mark_of, unless_none, argument_of, state_at, states_at, entry_at}
use Rattle.record.specs.Ranges.{mark_fits, state_fits, argument_fits, guard_fits, arrow_fits, fields_fit}
use Rattle.record.specs.declared.kind.Kind.{Kind}
use Rattle.record.specs.declared.kind.Kind.TheVariants as k
use Rattle.record.specs.declared.entry.Entry.{Entry}
use Rattle.record.proofs.Below.{all-at}
use Rattle.procedure.specs.Layout.{mark_field, option_field, argument_fields, state_fields, fields_of, Written, NeatEntry}
use Rattle.procedure.proofs.Fields.{fields_from, table_length, table_below, table-past, table-neat}

-- fields that are read and written again
mark-kept : (c : ℕ) → c ≤ 2 → mark_field (mark_of c) ≡ c
mark-kept zero h = refl
mark-kept (suc zero) h = refl
mark-kept (suc (suc zero)) h = refl
mark-kept (suc (suc (suc c))) h = absurd (omega arith)

mark-small : (c v : ℕ) → mark_fits c v ≡ true → c ≤ 2
mark-small c v h =
    ⊎_elim (λ s. omega (arith, leb-true c 1 s)) (λ s. omega (arith, eqb-true c 2 (and_parts (eqb c 2) (not (eqb v 65535)) s).0))
    (or_cases (leb c 1) (eqb c 2 && not (eqb v 65535)) h)

option-kept : (c : ℕ) → option_field (unless_none c) ≡ c
option-kept c = cond_both (eqb c 65535) None (Some c) (λ o. option_field o ≡ c) (λ h. sym (eqb-true c 65535 h)) (λ h. refl)

option-written : (c : ℕ) → Written (unless_none c)
option-written c = cond_both (eqb c 65535) None (Some c) Written (λ h. tt) (λ h. eqb-false c 65535 h)

argument-kept : (c v : ℕ) → argument_fits c v ≡ true → argument_fields (argument_of c v) ≡ c ∷ v ∷ []
argument-kept zero v h = ap (λ z. 0 ∷ z ∷ []) (sym (eqb-true v 0 h))
argument-kept (suc zero) v h = refl
argument-kept (suc (suc zero)) v h = ap (λ z. 2 ∷ z ∷ []) (sym (eqb-true v 0 h))
argument-kept (suc (suc (suc zero))) v h = ap (λ z. 3 ∷ z ∷ []) (sym (eqb-true v 0 h))
argument-kept (suc (suc (suc (suc c)))) v h =
    let p = and_parts (leb (suc (suc (suc (suc c)))) 3) (eqb (suc (suc (suc (suc c)))) 1 || eqb v 0) h in
    absurd (omega (arith, leb-true (suc (suc (suc (suc c)))) 3 p.0))

waits_kept : (c : ℕ) → c ≤ 1 → cond (eqb c 1) 1 0 ≡ c
waits_kept zero h = refl
waits_kept (suc zero) h = refl
waits_kept (suc (suc c)) h = absurd (omega arith)

-- tables that are read and written again
states-kept : (b : List ℕ) (p a n : ℕ) → ((i : ℕ) → i < a + n → state_fits b (p + 4 * i) ≡ true)
    → state_fields (map (λ i. state_at b (p + 4 * i)) (range_with_len a n)) ≡ fields_from b (p + 4 * a) (2 * n)
states-kept b p a zero h = refl
states-kept b p a (suc n) h =
    let e : 2 * suc n ≡ suc (suc (2 * n)) = omega arith in
    let q : p + 4 * (a + 1) ≡ p + 4 * a + 2 + 2 = omega arith in
    let r = states-kept b p (a + 1) n (λ i s. h i (omega arith)) in
    let m = mark-kept (field_at b (p + 4 * a)) (mark-small (field_at b (p + 4 * a)) (field_at b (p + 4 * a + 2)) (h a (omega arith))) in
    let o = option-kept (field_at b (p + 4 * a + 2)) in
    rw e (cc (r, m, o))

labels-kept : (b : List ℕ) (p a n : ℕ) → map (λ i. field_at b (p + 2 * i)) (range_with_len a n) ≡ fields_from b (p + 2 * a) n
labels-kept b p a zero = refl
labels-kept b p a (suc n) =
    let q : p + 2 * (a + 1) ≡ p + 2 * a + 2 = omega arith in
    ap (λ r. field_at b (p + 2 * a) ∷ r) (labels-kept b p (a + 1) n ∙ ap (λ x. fields_from b x n) q)

-- the number of a kind
abbrev pub code_of : Kind → ℕ
code_of k.Automaton = 1
code_of k.Sequence = 2
code_of k.Closure = 3
code_of k.Guard = 4
code_of k.Choice = 5
code_of k.Synchronisation = 6
code_of k.QuantifiedChoice = 7
code_of k.QuantifiedSynchronisation = 8
code_of k.Arrow = 9

code-next : (c : ℕ) (x y : Kind) (rest : Option Kind) → (rest ≡ Some y → c ≡ code_of y) → cond (eqb c (code_of x)) (Some x) rest ≡ Some y → c ≡ code_of y
code-next c x y rest f =
    cond_both (eqb c (code_of x)) (Some x) rest (λ o. o ≡ Some y → c ≡ code_of y)
    (λ h e. let s : x ≡ y = cc in eqb-true c (code_of x) h ∙ ap code_of s) (λ h e. f e)

code-none : (c : ℕ) (y : Kind) → None ≡ Some y → c ≡ code_of y
code-none c y e = cc

pub kind-code : (c : ℕ) (y : Kind) → kind_of c ≡ Some y → c ≡ code_of y
kind-code c y =
    code-next c k.Automaton y _ (code-next c k.Sequence y _ (code-next c k.Closure y _ (code-next c k.Guard y _
    (code-next c k.Choice y _ (code-next c k.Synchronisation y _ (code-next c k.QuantifiedChoice y _
    (code-next c k.QuantifiedSynchronisation y _ (code-next c k.Arrow y _ (code-none c y)))))))))

arrow-same : (c d p q r s v w m n : ℕ) (x y z u : List ℕ) → c ≡ d → v ≡ w → m ≡ n → x ≡ y → z ≡ u
    → c ∷ p ∷ q ∷ r ∷ s ∷ v ∷ m ∷ (x ++ z) ≡ d ∷ p ∷ q ∷ r ∷ s ∷ w ∷ n ∷ (y ++ u)
arrow-same c d p q r s v w m n x y z u e₀ e₁ e₂ e₃ e₄ = cc

-- the fields behind the length field of the record at `at` are those of an entry
pub record Read (b : List ℕ) (at : ℕ) (x : Entry) : Type 0 where
  pub count : ℕ
  pub size : field_at b at ≡ 2 * count
  pub fields : fields_of x ≡ fields_from b (at + 2) count
  pub neat : NeatEntry x

module _ (b : List ℕ) (at : ℕ) where
  two_fields : (code : ℕ) → field_at b (at + 2) ≡ code → code ∷ field_at b (at + 4) ∷ [] ≡ fields_from b (at + 2) 2
  two_fields code h = ap (λ c. c ∷ field_at b (at + 4) ∷ []) (sym h) ∙ simp add_assoc

  three-fields : (code : ℕ) → field_at b (at + 2) ≡ code → code ∷ field_at b (at + 4) ∷ field_at b (at + 6) ∷ [] ≡ fields_from b (at + 2) 3
  three-fields code h = ap (λ c. c ∷ field_at b (at + 4) ∷ field_at b (at + 6) ∷ []) (sym h) ∙ simp add_assoc

  states-read : field_at b (at + 2) ≡ 1 → ((i : ℕ) → i < field_at b (at + 4) → state_fits b (at + 8 + 4 * i) ≡ true)
      → 1 ∷ field_at b (at + 4) ∷ field_at b (at + 6) ∷ state_fields (map (λ i. state_at b (at + 8 + 4 * i)) (range_with_len 0 (field_at b (at + 4))))
      ≡ fields_from b (at + 2) (suc (suc (suc (2 * field_at b (at + 4)))))
  states-read h fit =
      let n = field_at b (at + 4) in
      let t = states-kept b (at + 8) 0 n (λ i s. fit i (omega arith)) in
      ap (λ c. c ∷ n ∷ field_at b (at + 6) ∷ state_fields (map (λ i. state_at b (at + 8 + 4 * i)) (range_with_len 0 n))) (sym h)
      ∙ ap (λ r. field_at b (at + 2) ∷ n ∷ field_at b (at + 6) ∷ r) t ∙ simp add_assoc

  states-written : (i : ℕ) → Written (get_or (states_at b at).table.items i blank_state).child
  states-written i =
      let n = field_at b (at + 4) in
      ⊎_elim (λ s. rw (table_below 32 blank_state n (λ i. state_at b (at + 8 + 4 * i)) i s) (option-written (field_at b (at + 8 + 4 * i + 2))))
      (λ s. rw (table-past 32 blank_state n (λ i. state_at b (at + 8 + 4 * i)) i s) tt)
      (cases_lt i n)

  labels-read : (code : ℕ) → field_at b (at + 2) ≡ code
      → code ∷ field_at b (at + 4) ∷ field_at b (at + 6) ∷ field_at b (at + 8) ∷ map (λ i. field_at b (at + 10 + 2 * i)) (range_with_len 0 (field_at b (at + 8)))
      ≡ fields_from b (at + 2) (suc (suc (suc (suc (field_at b (at + 8))))))
  labels-read code h =
      let n = field_at b (at + 8) in
      let t = labels-kept b (at + 10) 0 n in
      ap (λ c. c ∷ field_at b (at + 4) ∷ field_at b (at + 6) ∷ n ∷ map (λ i. field_at b (at + 10 + 2 * i)) (range_with_len 0 n)) (sym h)
      ∙ ap (λ r. field_at b (at + 2) ∷ field_at b (at + 4) ∷ field_at b (at + 6) ∷ n ∷ r) t ∙ simp add_assoc

  arrow-read : field_at b (at + 2) ≡ 9 → arrow_fits b at ≡ true → fields_of (entry_at k.Arrow b at) ≡ fields_from b (at + 2) 11
  arrow-read h f =
      let w = field_at b (at + 12) in
      let g = field_at b (at + 14) in
      let c = field_at b (at + 16) in
      let v = field_at b (at + 16 + 2) in
      let d = field_at b (at + 16 + 4) in
      let u = field_at b (at + 16 + 6) in
      let p = and_parts (leb (field_at b (at + 10)) 255) _ f in
      let q = and_parts (leb w 1) _ p.1 in
      let r = and_parts (guard_fits g) _ q.1 in
      let s = and_parts (argument_fits c v) _ r.1 in
      let t = and_parts (argument_fits d u) _ s.1 in
      arrow-same 9 (field_at b (at + 2)) (field_at b (at + 4)) (field_at b (at + 6)) (field_at b (at + 8)) (field_at b (at + 10))
      (cond (eqb w 1) 1 0) w (option_field (unless_none g)) g (argument_fields (argument_of c v)) (c ∷ v ∷ []) (argument_fields (argument_of d u)) (d ∷ u ∷ [])
      (sym h) (waits_kept w (leb-true w 1 q.0)) (option-kept g) (argument-kept c v s.0) (argument-kept d u t.0)
      ∙ simp add_assoc

  pub entry_read : (x : Kind) → field_at b (at + 2) ≡ code_of x → field_at b at ≡ length_of x (count_at x b at) → fields_fit x b at ≡ true → Read b at (entry_at x b at)
  entry_read k.Automaton h l f =
      let n = field_at b (at + 4) in
      let p = and_parts (leb 1 n) _ f in
      let q = and_parts (leb n 32) _ p.1 in
      let r = and_parts (ltb (field_at b (at + 6)) n) _ q.1 in
      record { count = suc (suc (suc (2 * n))); size = omega arith; fields = rw (table_length 32 blank_state n (λ i. state_at b (at + 8 + 4 * i))) (states-read h (λ i lt. all-at (λ j. state_fits b (at + 8 + 4 * j)) n i r.1 lt)); neat = (table-neat 32 blank_state n (λ i. state_at b (at + 8 + 4 * i)) (leb-true n 32 q.0), states-written) }
  entry_read k.Sequence h l f = record { count = 3; size = l; fields = three-fields 2 h; neat = tt }
  entry_read k.Closure h l f = record { count = 2; size = l; fields = two_fields 3 h; neat = tt }
  entry_read k.Guard h l f = record { count = 3; size = l; fields = three-fields 4 h; neat = tt }
  entry_read k.Choice h l f = record { count = 3; size = l; fields = three-fields 5 h; neat = tt }
  entry_read k.Synchronisation h l f =
      let n = field_at b (at + 8) in
      let few = leb-true n 16 (and_parts (leb n 16) _ f).0 in
      record { count = suc (suc (suc (suc n))); size = omega arith; fields = rw (table_length 16 0 n (λ i. field_at b (at + 10 + 2 * i))) (labels-read 6 h); neat = table-neat 16 0 n (λ i. field_at b (at + 10 + 2 * i)) few }
  entry_read k.QuantifiedChoice h l f = record { count = 3; size = l; fields = three-fields 7 h; neat = tt }
  entry_read k.QuantifiedSynchronisation h l f =
      let n = field_at b (at + 8) in
      let few = leb-true n 16 (and_parts (leb n 16) _ (and_parts (leb (field_at b (at + 4)) 7) _ f).1).0 in
      record { count = suc (suc (suc (suc n))); size = omega arith; fields = rw (table_length 16 0 n (λ i. field_at b (at + 10 + 2 * i))) (labels-read 8 h); neat = table-neat 16 0 n (λ i. field_at b (at + 10 + 2 * i)) few }
  entry_read k.Arrow h l f = record { count = 11; size = l; fields = arrow-read h f; neat = option-written (field_at b (at + 14)) }

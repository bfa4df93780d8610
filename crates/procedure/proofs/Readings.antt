-- What a reading comes to, in the words of the questions and of the layout.
use Rattle.std.proofs.Common.{◌≡◌, ℕ, zero, suc, ◌+◌, ◌<◌, ◌≤◌, Bool, true, ◌&&◌, ltb, leb, List, [], ◌∷◌, ◌++◌, length, get_or, is_ok, Some, None, Ok, Err, Option, Result, sym, refl, ap, ◌∙◌, ⊎_elim, arith}
use Rattle.std.proofs.lemmas.Bool.{cases_Bool, and_parts, ltb-false}
use Rattle.fault.specs.Asking.{refusal, asked_up_to, answer_or}
use Rattle.fault.specs.declared.fault.Fault.{Fault}
use Rattle.fault.specs.declared.fault.Question.{Question}
use Rattle.fault.specs.declared.fault.Question.TheVariants.{FileWithinLimit, RecordWhole, KindKnown, LengthExact, FieldsInRange, ChildrenFree, ArrowPlaced, OneRoot, BindersFew, VariablesInScope}
use Rattle.fault.proofs.Refusals.{refusal-more, refusal-stop, refusal-parts, asked-each, yes-first, all_yes, no-refusal, first-no, refused-by}
use Rattle.notation.specs.Parts.{blank_arrow}
use Rattle.record.specs.Frames.{whole, known, exact, frame_asks}
use Rattle.record.proofs.Below.{all_from}
use Rattle.procedure.specs.Drawings.{Drawing, nothing_drawn, grown}
use Rattle.procedure.proofs.Framed.{Framed}
use Rattle.procedure.specs.Procedures.{RefusedExactly, AcceptedExactly, LaidOutExactly}
use Rattle.procedure.specs.Reading.{start_of, records_from, records, entry_here, drawn_by, ranged, few, entry_free, entry_placed, entry_asks, record_asks, root_asks, binder_asks, scope_asks, whole_asks, file_asks, asks, reading, answer_of, left_by, Refused, Accepted}
use Rattle.procedure.specs.Scopes.{attached, binders_few, in_scope}
use Rattle.procedure.specs.Sound.{nodes_sound, arrows_sound, sound}
use Rattle.procedure.proofs.Laying.{laid_out, laid-once}
use Rattle.procedure.proofs.Stepping.{whole_is}

pub asks-stop : (b : List ℕ) (f : Fault) → refusal (file_asks b) ≡ Some f → refusal (asks b) ≡ Some f
unfolding asks
asks-stop b f h = refusal-stop (file_asks b) (whole_asks (drawn_by b (records b))) f h

pub asks-more : (b : List ℕ) (d : Drawing) → d ≡ drawn_by b (records b) → refusal (file_asks b) ≡ None → refusal (asks b) ≡ refusal (whole_asks d)
unfolding asks
asks-more b d e h = refusal-more (file_asks b) (whole_asks (drawn_by b (records b))) h ∙ ap (λ x. refusal (whole_asks x)) (sym e)

each-yes : (q : Question) (n : ℕ) (f : ℕ → Bool) → refusal (asked_up_to n (λ k. record { question = q; place = k; yes = f k } ∷ [])) ≡ None → (k : ℕ) → k < n → f k ≡ true
each-yes q n f h k lt = (yes-first (record { question = q; place = k; yes = f k }) [] (asked-each n (λ j. record { question = q; place = j; yes = f j } ∷ []) h k lt)).0

-- a drawing whose nodes and arrows are sound, and which answers yes to the questions of a whole file, is sound
pub sound-whole : (d : Drawing) → nodes_sound d.nodes ≡ true → arrows_sound d.nodes d.arrows ≡ true → refusal (whole_asks d) ≡ None → sound d.nodes d.arrows ≡ true
unfolding sound
sound-whole d n a h =
    let p = refusal-parts (root_asks d) (binder_asks d ++ scope_asks d) h in
    let q = refusal-parts (binder_asks d) (scope_asks d) p.1 in
    let r = yes-first (record { question = OneRoot; place = 65535; yes = ltb 0 (length d.nodes) }) (asked_up_to (length d.nodes) (λ k. record { question = OneRoot; place = k; yes = attached d.nodes k } ∷ [])) p.0 in
    rw (
      n,
      a,
      all_from (attached d.nodes) (length d.nodes) (each-yes OneRoot (length d.nodes) (attached d.nodes) r.1),
      all_from (binders_few d.nodes) (length d.nodes) (each-yes BindersFew (length d.nodes) (binders_few d.nodes) q.0),
    )
    (all_from (λ j. in_scope d.nodes (get_or d.arrows j blank_arrow)) (length d.arrows) (each-yes VariablesInScope (length d.arrows) (λ j. in_scope d.nodes (get_or d.arrows j blank_arrow)) q.1))

pub sound-nothing : (d : Drawing) → d ≡ nothing_drawn → sound d.nodes d.arrows ≡ true
unfolding sound
sound-nothing d e = ap (λ x. sound x.nodes x.arrows) e

-- the records of a file reach its end
records-reach : (s : ℕ) (b : List ℕ) (i : ℕ) → length b ≤ start_of b i + s → length b ≤ start_of b (records_from s b i)
records-reach zero b i h = omega arith
records-reach (suc s) b i h =
    ⊎_elim
    (λ t. rw t (records-reach s b (suc i) (omega arith)))
    (λ f. rw f (ltb-false (start_of b i) (length b) f))
    (cases_Bool (ltb (start_of b i) (length b)))

start-within : (b : List ℕ) (n : ℕ) → ((i : ℕ) → i < n → whole b (start_of b i) ≡ true) → start_of b n ≤ length b
start-within b zero w = omega arith
start-within b (suc n) w = whole_is b (start_of b n) (w n (omega arith))

pub accepted-framed : (b : List ℕ) → refusal (asks b) ≡ None → Framed b (records b)
unfolding asks
accepted-framed b h =
    let p = refusal-parts (file_asks b) (whole_asks (drawn_by b (records b))) h in
    let q = yes-first (record { question = FileWithinLimit; place = 0; yes = leb (length b) 16384 }) (asked_up_to (records b) (λ i. record_asks b (start_of b i) i (drawn_by b i))) p.0 in
    let each = asked-each (records b) (λ i. record_asks b (start_of b i) i (drawn_by b i)) q.1 in
    let w : (i : ℕ) → i < records b → whole b (start_of b i) ≡ true = λ i lt. (frame-parts b (start_of b i) i (refusal-parts (frame_asks b (start_of b i) i) (entry_asks (drawn_by b i) i (ranged b (start_of b i)) (entry_here b (start_of b i))) (each i lt)).0).0 in
    let low = start-within b (records b) w in
    let high = records-reach (length b) b 0 (omega arith) in
    record {
      ends = omega arith;
      each-whole = w;
      each-exact = λ i lt. (frame-parts b (start_of b i) i (refusal-parts (frame_asks b (start_of b i) i) (entry_asks (drawn_by b i) i (ranged b (start_of b i)) (entry_here b (start_of b i))) (each i lt)).0).1;
      each-ranged = λ i lt. entry-ranged b (start_of b i) i (drawn_by b i) (refusal-parts (frame_asks b (start_of b i) i) (entry_asks (drawn_by b i) i (ranged b (start_of b i)) (entry_here b (start_of b i))) (each i lt)).1;
    }
  where
    frame-parts : (b : List ℕ) (at place : ℕ) → refusal (frame_asks b at place) ≡ None → (whole b at ≡ true) × (exact b at ≡ true)
    frame-parts b at place h =
        let p = yes-first (record { question = RecordWhole; place = place; yes = whole b at }) (record { question = KindKnown; place = place; yes = known b at } ∷ record { question = LengthExact; place = place; yes = exact b at } ∷ []) h in
        let q = yes-first (record { question = KindKnown; place = place; yes = known b at }) (record { question = LengthExact; place = place; yes = exact b at } ∷ []) p.1 in
        (p.0, (yes-first (record { question = LengthExact; place = place; yes = exact b at }) [] q.1).0)

    entry-ranged : (b : List ℕ) (at place : ℕ) (d : Drawing) → refusal (entry_asks d place (ranged b at) (entry_here b at)) ≡ None → ranged b at ≡ true
    entry-ranged b at place d h =
        (and_parts (ranged b at) (few (grown d (entry_here b at))) (yes-first (record { question = FieldsInRange; place = place; yes = ranged b at && few (grown d (entry_here b at)) }) (record { question = ChildrenFree; place = place; yes = entry_free d.nodes (entry_here b at) } ∷ record { question = ArrowPlaced; place = place; yes = entry_placed d.nodes (entry_here b at) } ∷ []) h).0).0

ok-err : {d : ℕ} {f : Fault} → ◌≡◌ {A = Result ℕ Fault} (Ok d) (Err f) → ⊥
ok-err e = cc

module _ (b : List ℕ) where
  refused-then : (o : Option Fault) → refusal (asks b) ≡ o → (f : Fault) → answer_of (answer_or o (drawn_by b (records b))) ≡ Err f → Refused b f
  refused-then None h f e = absurd (ok-err e)
  refused-then (Some g) h f e = let s : g ≡ f = cc in first-no (asks b) f (h ∙ ap Some s)

  refused-back : (f : Fault) → Refused b f → answer_of (reading b) ≡ Err f
  refused-back f r = ap (λ o. answer_of (answer_or o (drawn_by b (records b)))) (refused-by (asks b) f r)

  pub refused-exactly : (r : Result ℕ Fault) → r ≡ answer_of (reading b) → RefusedExactly b r
  refused-exactly r e f = record { then = λ x. refused-then (refusal (asks b)) refl f (sym e ∙ x); back = λ x. e ∙ refused-back f x }

  accepted-then : (o : Option Fault) → refusal (asks b) ≡ o → is_ok (answer_of (answer_or o (drawn_by b (records b)))) ≡ true → Accepted b
  accepted-then None h e = all_yes (asks b) h
  accepted-then (Some g) h e = cc

  pub accepted-reading : Accepted b → reading b ≡ Ok (drawn_by b (records b))
  accepted-reading a = ap (λ o. answer_or o (drawn_by b (records b))) (no-refusal (asks b) a)

  pub accepted-exactly : (r : Result ℕ Fault) → r ≡ answer_of (reading b) → AcceptedExactly b r
  accepted-exactly r e =
      record { then = λ x. accepted-then (refusal (asks b)) refl (sym (ap is_ok e) ∙ x); back = λ a. ap is_ok e ∙ ap (λ x. is_ok (answer_of x)) (accepted-reading a) }

  pub laid-out-exactly : (r : Result ℕ Fault) (held : Drawing) → r ≡ answer_of (reading b) → held ≡ left_by (reading b) → LaidOutExactly b r held
  laid-out-exactly r held e l d =
      record {
        then = λ x.
            let a = (accepted-exactly r e).then (ap is_ok x.0) in
            let same : d ≡ drawn_by b (records b) = sym x.1 ∙ l ∙ ap left_by (accepted-reading a) in
            (a, rw same (laid_out b (records b) (accepted-framed b (no-refusal (asks b) a))));
        back = λ x.
            let g = accepted-reading x.0 in
            let same : d ≡ drawn_by b (records b) = laid-once b (records b) d (accepted-framed b (no-refusal (asks b) x.0)) x.1 in
            (e ∙ ap answer_of g ∙ ap (λ y. Ok (length y.nodes)) (sym same), l ∙ ap left_by g ∙ sym same);
      }

  -- a refusal, and what is left then
  pub read-refused : (f : Fault) (held : Drawing) → refusal (asks b) ≡ Some f → held ≡ nothing_drawn → (Err f ≡ answer_of (reading b)) × (held ≡ left_by (reading b))
  read-refused f held h e =
      let r : reading b ≡ Err f = ap (λ o. answer_or o (drawn_by b (records b))) h in
      (sym (ap answer_of r), e ∙ sym (ap left_by r))

  -- what an accepted file gives
  pub read-accepted : (n : ℕ) (held : Drawing) → refusal (asks b) ≡ None → held ≡ drawn_by b (records b) → length held.nodes ≡ n → (Ok n ≡ answer_of (reading b)) × (held ≡ left_by (reading b))
  read-accepted n held h e l =
      let r : reading b ≡ Ok (drawn_by b (records b)) = ap (λ o. answer_or o (drawn_by b (records b))) h in
      (ap Ok (sym l ∙ ap (λ d. length d.nodes) e) ∙ sym (ap answer_of r), e ∙ sym (ap left_by r))

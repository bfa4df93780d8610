-- Where exactly the ends are held, what is computed from the held states is what the law says of the chains.
use Rattle.std.proofs.Common.{◌≡◌, ℕ, ◌<◌, ◌≤◌, refl, sym, ap, ◌∙◌, subst, Bool, true, false, cond, List, [], ◌∷◌, ◌++◌, length, take, Some, None, Ok, Err, Option, Result, nat_le, append-nil, append_assoc, ⊎_elim, le-leb, arith}
use Rattle.std.proofs.lemmas.Bool.{cases_lt, lt-leb}
use mathlib.Core.List.{Memᴰ}
use mathlib.Core.List.Memᴰ
use Rattle.fault.specs.Asking.{refusal, answer_or}
use Rattle.fault.specs.Faults.{number_of}
use Rattle.fault.specs.declared.fault.Fault.{Fault}
use Rattle.fault.proofs.Refusals.{refusal-more, refusal-stop}
use Rattle.procedure.specs.Procedures.{Exactly}
use Rattle.row.specs.Rows.{cells_rank}
use Rattle.row.specs.Laws.{cells_order}
use Rattle.event.specs.Forms.{InForm, form_asks, event_rank}
use Rattle.event.specs.declared.event.Event.{Event}
use Rattle.host.specs.Meanings.{Meaning, Told}
use Rattle.rules.specs.Trees.{Tree, Guards, no_variables}
use Rattle.rules.specs.Cells.{Cells, initial}
use Rattle.rules.specs.Rules.{Step}
use Rattle.rules.specs.InRange.{Sound}
use Rattle.rules.specs.Chains.{answers_after, IsEnd, IsNextEnd, GoesOn}
use Rattle.rules.proofs.Fits.{fits}
use Rattle.rules.proofs.Lists.{in-over, out-over}
use Rattle.rules.proofs.Ends.{in-arranged, out-arranged, rising-arranged, chain-more, chain-last}
use Rattle.law.specs.Counting.{ListsExactly, NumberOf, MoreThan}
use Rattle.law.specs.Offers.{next_states, next_asks, offer_answer, held_after, taken_by}
use Rattle.law.specs.Menus.{menu_events, menu_answer}
use Rattle.law.specs.Chained.{HoldsEnds, no_successor, too_many, too_short, RefusedOutOfForm, RefusedWithoutChain, RefusedOverCeiling, TakenOtherwise, OfferedInstead, OfferLaw, IsOffered, MenuLaw}
use Rattle.law.proofs.Form.{form-none}
use Rattle.law.proofs.Menus.{in-menu, out-menu, menu-rises}
use Rattle.law.proofs.Exact.{number-of, one-number, more-than, over-length}

-- the question that an answer names, 0 where it is no refusal
abbrev question : Result ℕ Fault → ℕ
question (Ok n) = 0
question (Err f) = number_of f.question

-- what is told to a host after it was told others
pub told-taken : (m : Meaning) (w : List Event) (now : Meaning) (es : List Event) (then : Meaning) → Told m w now → Told now es then → Told m (w ++ es) then
told-taken m w now es then h k = λ u guard e v. k u guard e v ∙ h (es ++ u) guard e v ∙ ap (λ (l : List Event). m l guard e v) (sym (append_assoc w es u))

module _ (t : Tree) (m : Meaning) (w : List Event) (held : List Cells) (now : Meaning) (holds : HoldsEnds t m w held) (told : Told m w now) where
  -- the host answers what it answers after the events
  pub same-answers : (e : Event) → answers_after now [] e ≡ answers_after m w e
  same-answers e = λ i guard v. (told [] guard e v ∙ ap (λ (l : List Event). m l guard e v) (append-nil w)) i

  to-chains : (e : Event) (r r' : Cells) → Step t (answers_after now [] e) e no_variables r r' → Step t (answers_after m w e) e no_variables r r'
  to-chains e r r' s = subst (λ (g : Guards). Step t g e no_variables r r') (same-answers e) s

  from-chains : (e : Event) (r r' : Cells) → Step t (answers_after m w e) e no_variables r r' → Step t (answers_after now [] e) e no_variables r r'
  from-chains e r r' s = subst (λ (g : Guards). Step t g e no_variables r r') (sym (same-answers e)) s

  -- the states that come next are the ends of the chains that go on
  pub next-ends : (e : Event) → ListsExactly cells_rank (IsNextEnd t m w e) (next_states t held now e)
  next-ends e = record { rises = rising-arranged cells_rank cells_order _; only = to; all = fro }
    where
      to : (r' : Cells) → Memᴰ r' (next_states t held now e) → IsNextEnd t m w e r'
      to r' i =
          let u = out-over _ _ (out-arranged cells_rank cells_order _ _ i) in
          (u.0, holds.only u.0 u.1, to-chains e u.0 r' ((fits t (answers_after now [] e) e no_variables).sound _ _ u.2))

      fro : (r' : Cells) → IsNextEnd t m w e r' → Memᴰ r' (next_states t held now e)
      fro r' n = in-arranged cells_rank cells_order _ _ (in-over _ (holds.all n.0 n.1) ((fits t (answers_after now [] e) e no_variables).complete _ _ (from-chains e n.0 r' n.2)))

  -- once the event is taken, they are exactly the ends
  pub next-hold : (e : Event) → HoldsEnds t m (w ++ e ∷ []) (next_states t held now e)
  next-hold e =
      let x = next-ends e in
      record {
        rises = x.rises;
        only = λ r' i. let n = x.only r' i in chain-more t m (initial t) w e n.0 r' n.1 n.2;
        all = λ r' c. x.all r' (chain-last t m (initial t) w e r' c);
      }

  -- and so after any answer to an offer
  pub offer-holds : (e : Event) (r : Result ℕ Fault) → HoldsEnds t m (w ++ taken_by e r) (held_after t held now e r)
  offer-holds e (Ok n) = next-hold e
  offer-holds e (Err f) = subst (λ (l : List Event). HoldsEnds t m l held) (sym (append-nil w)) holds

  pub goes-somewhere : (e : Event) → GoesOn t m w e → 0 < length (next_states t held now e)
  goes-somewhere e g = had (next_states t held now e) ((next-ends e).all g.0 g.1)
    where
      had : (l : List Cells) → Memᴰ g.0 l → 0 < length l
      had [] i = absurd (Memᴰ.not-nil i)
      had (x ∷ l) i = omega arith

  pub somewhere-goes : (e : Event) → 0 < length (next_states t held now e) → GoesOn t m w e
  somewhere-goes e lt = first (next_states t held now e) lt (next-ends e).only
    where
      first : (l : List Cells) → 0 < length l → ((r' : Cells) → Memᴰ r' l → IsNextEnd t m w e r') → GoesOn t m w e
      first [] z f = absurd (omega arith)
      first (x ∷ l) z f = (x, f x (Memᴰ.head refl))

-- what the questions of the next states are answered
pub data Came (ceiling : ℕ) (held next : List Cells) (r : Result ℕ Fault) : Type 0 where
  stuck : length next ≡ 0 → r ≡ Err (no_successor (length held)) → Came ceiling held next r
  over : ceiling < length next → r ≡ Err (too_many ceiling) → Came ceiling held next r
  went : 0 < length next → length next ≤ ceiling → r ≡ Ok (length next) → Came ceiling held next r

pub came : (ceiling : ℕ) (held next : List Cells) (r : Result ℕ Fault) → r ≡ answer_or (refusal (next_asks ceiling held next)) (length next) → Came ceiling held next r
came ceiling held [] r is = stuck refl is
came ceiling held (x ∷ l) r is =
    ⊎_elim
    (λ lt. over lt (is ∙ answered false (lt-leb (length (x ∷ l)) ceiling lt)))
    (λ le. went (omega arith) le (is ∙ answered true (le-leb (length (x ∷ l)) ceiling le)))
    (cases_lt ceiling (length (x ∷ l)))
  where
    answered : (b : Bool) → nat_le (length (x ∷ l)) ceiling ≡ b → answer_or (refusal (next_asks ceiling held (x ∷ l))) (length (x ∷ l)) ≡ answer_or (cond b None (Some (too_many ceiling))) (length (x ∷ l))
    answered b e = ap (λ (k : Bool). answer_or (cond k None (Some (too_many ceiling))) (length (x ∷ l))) e

-- an event out of form is refused by the first wrong field
pub offer-form : (t : Tree) (ceiling : ℕ) (held : List Cells) (now : Meaning) (e : Event) (r : Result ℕ Fault) → r ≡ offer_answer t ceiling held now e → RefusedOutOfForm e r
offer-form t ceiling held now e r is f h =
    is ∙ ap (λ (o : Option Fault). answer_or o (length (next_states t held now e))) (refusal-stop (form_asks e) (next_asks ceiling held (next_states t held now e)) f h)

module _ (t : Tree) (ceiling : ℕ) (m : Meaning) (w : List Event) (held : List Cells) (now : Meaning) (holds : HoldsEnds t m w held) (told : Told m w now) where
  module _ (e : Event) (r : Result ℕ Fault) (is : r ≡ offer_answer t ceiling held now e) where
    abbrev next : List Cells
    next = next_states t held now e

    exact : ListsExactly cells_rank (IsNextEnd t m w e) next
    exact = next-ends t m w held now holds told e

    pub by-next : InForm e → Came ceiling held next r
    by-next f =
        came ceiling held next r
        (is ∙ ap (λ (o : Option Fault). answer_or o (length next)) (refusal-more (form_asks e) (next_asks ceiling held next) (form-none e f)))

    pub offer-stuck : RefusedWithoutChain t m w e r
    offer-stuck f n k = rw (one-number cells_rank cells_order (IsEnd t m w) held n holds k) (at (by-next f))
      where
        at : Came ceiling held next r → Exactly (r ≡ Err (no_successor (length held))) (GoesOn t m w e → ⊥)
        at (stuck z q) = record {
          then = λ p g. let lt = goes-somewhere t m w held now holds told e g in absurd (omega arith);
          back = λ g. q;
        }
        at (over lt q) = record {
          then = λ p g. let h : 17 ≡ 16 = ap question (sym q ∙ p) in absurd (omega arith);
          back = λ g. absurd (g (somewhere-goes t m w held now holds told e (omega arith)));
        }
        at (went lt le q) = record {
          then = λ p g. let h : 0 ≡ 16 = ap question (sym q ∙ p) in absurd (omega arith);
          back = λ g. absurd (g (somewhere-goes t m w held now holds told e lt));
        }

    pub offer-over : RefusedOverCeiling t ceiling m w e r
    offer-over f = at (by-next f)
      where
        many : MoreThan cells_rank (IsNextEnd t m w e) ceiling → ceiling < length next
        many k = over-length cells_rank cells_order (IsNextEnd t m w e) next ceiling exact k

        at : Came ceiling held next r → Exactly (r ≡ Err (too_many ceiling)) (MoreThan cells_rank (IsNextEnd t m w e) ceiling)
        at (stuck z q) = record {
          then = λ p. let h : 16 ≡ 17 = ap question (sym q ∙ p) in absurd (omega arith);
          back = λ k. let lt = many k in absurd (omega arith);
        }
        at (over lt q) = record {
          then = λ p. more-than cells_rank cells_order (IsNextEnd t m w e) next ceiling exact lt;
          back = λ k. q;
        }
        at (went lt le q) = record {
          then = λ p. let h : 0 ≡ 17 = ap question (sym q ∙ p) in absurd (omega arith);
          back = λ k. let gt = many k in absurd (omega arith);
        }

    pub offer-taken : TakenOtherwise t ceiling m w e r
    offer-taken f g few = at (by-next f)
      where
        at : Came ceiling held next r → (n : ℕ) × (r ≡ Ok n) × NumberOf cells_rank (IsNextEnd t m w e) n
        at (stuck z q) = let lt = goes-somewhere t m w held now holds told e g in absurd (omega arith)
        at (over lt q) = absurd (few (more-than cells_rank cells_order (IsNextEnd t m w e) next ceiling exact lt))
        at (went lt le q) = (length next, q, number-of cells_rank cells_order (IsNextEnd t m w e) next exact)

    -- the answer that is computed obeys the law
    pub offer-obeys : OfferLaw t ceiling m w e r
    offer-obeys = record {
      refused_out_of_form = offer-form t ceiling held now e r is;
      refused_with_16_exactly_without_a_chain = offer-stuck;
      refused_with_17_exactly_over_the_ceiling = offer-over;
      taken_otherwise_and_counted = offer-taken;
    }

  pub offered-instead : OfferedInstead t ceiling m w held now
  offered-instead e f = offer-stuck e (offer_answer t ceiling held now e) refl f (length held) (number-of cells_rank cells_order (IsEnd t m w) held holds)

-- the number of a menu is answered, or 18
pub menu-counts : (places : ℕ) (menu : List Event) → length menu ≤ places → menu_answer places menu ≡ Ok (length menu)
menu-counts places menu le = rw (le-leb (length menu) places le) refl

pub menu-short : (places : ℕ) (menu : List Event) → places < length menu → menu_answer places menu ≡ Err (too_short places)
menu-short places menu lt = rw (lt-leb (length menu) places lt) refl

module _ (t : Tree) (m : Meaning) (w : List Event) (held : List Cells) (now : Meaning) (sound : Sound t) (holds : HoldsEnds t m w held) (told : Told m w now) where
  -- the menu holds exactly the events in form with which some chain goes on
  pub menu-exact : ListsExactly event_rank (IsOffered t m w) (menu_events t held now)
  menu-exact = record { rises = menu-rises t held now; only = to; all = fro }
    where
      to : (e : Event) → Memᴰ e (menu_events t held now) → IsOffered t m w e
      to e i =
          let o = out-menu t held now e i in
          (o.0, (o.1.2.0, (o.1.0, holds.only o.1.0 o.1.1, to-chains t m w held now holds told e o.1.0 o.1.2.0 o.1.2.1)))

      fro : (e : Event) → IsOffered t m w e → Memᴰ e (menu_events t held now)
      fro e (f, (r', n)) = in-menu t held now e n.0 r' sound f (holds.all n.0 n.1) (from-chains t m w held now holds told e n.0 r' n.2)

  -- the menu that is computed obeys the law
  pub menu-obeys : (places : ℕ) (r : Result ℕ Fault) (listed : List Event) → r ≡ menu_answer places (menu_events t held now) → listed ≡ take places (menu_events t held now) → MenuLaw t m w places r listed
  menu-obeys places r listed is lists = record {
    menu = menu_events t held now;
    is_exact = menu-exact;
    counted = λ le. is ∙ menu-counts places (menu_events t held now) le;
    refused_exactly_when_short = record { then = short; back = λ lt. is ∙ menu-short places (menu_events t held now) lt };
    lists_the_first = lists;
  }
    where
      short : r ≡ Err (too_short places) → places < length (menu_events t held now)
      short p =
          ⊎_elim
          (λ lt. lt)
          (λ le. let h : 0 ≡ 18 = ap question (sym (is ∙ menu-counts places (menu_events t held now) le) ∙ p) in absurd (omega arith))
          (cases_lt places (length (menu_events t held now)))

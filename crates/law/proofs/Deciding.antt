-- Two logs of the same calls that obey the law are one.
use Rattle.std.proofs.Common.{◌≡◌, ℕ, refl, sym, ap, ◌∙◌, subst, Bool, true, false, true≢false, List, [], ◌∷◌, ◌++◌, length, map, take, Some, None, Ok, Option, Result, ⊎_elim, arith}
use Rattle.std.proofs.lemmas.Bool.{cases_lt}
use Rattle.fault.specs.Asking.{refusal}
use Rattle.fault.specs.declared.fault.Fault.{Fault}
use Rattle.row.specs.Rows.{cells_rank}
use Rattle.row.specs.Laws.{cells_order}
use Rattle.event.specs.Forms.{InForm, form_asks, event_rank}
use Rattle.event.specs.Laws.{event_order}
use Rattle.event.specs.declared.event.Event.{Event}
use Rattle.host.specs.Meanings.{Meaning, Told}
use Rattle.rules.specs.Trees.{Tree}
use Rattle.rules.specs.Cells.{Cells}
use Rattle.rules.specs.Chains.{IsEnd, IsNextEnd}
use Rattle.rules.specs.Ends.{ends}
use Rattle.rules.specs.Laws.{meaning_after}
use Rattle.rules.proofs.Ends.{listed-ends, ends-rise}
use Rattle.law.specs.Counting.{ListsExactly, MoreThan}
use Rattle.law.specs.Offers.{next_states, offer_answer}
use Rattle.law.specs.Menus.{menu_answer}
use Rattle.law.specs.Chained.{HoldsEnds, OfferLaw, IsOffered, MenuLaw}
use Rattle.law.specs.Calls.{Outcome, offered, listed, call_of, taken_in, taken, Lawful, AllLawful}
use Rattle.law.specs.Laws.{LawDecides}
use Rattle.law.specs.declared.call.Call.{Call}
use Rattle.law.specs.declared.call.Call.TheVariants.{Offer, Menu}
use Rattle.law.proofs.Form.{none-form}
use Rattle.law.proofs.Exact.{one-list, number-of, one-number, more-than, over-length}
use Rattle.law.proofs.Offers.{Came, by-next, next-ends, goes-somewhere, somewhere-goes, offer-form, menu-counts, menu-short}
use Rattle.law.proofs.Offers.Came.{stuck, over, went}

-- the computed ends are held exactly
pub ends-hold : (t : Tree) (m : Meaning) (w : List Event) → HoldsEnds t m w (ends t m w)
ends-hold t m w = record { rises = ends-rise t m w; only = λ r i. (listed-ends t m w r).0 i; all = λ r i. (listed-ends t m w r).1 i }

-- an answer to an offer that obeys the law is the computed one
module _ (t : Tree) (ceiling : ℕ) (m : Meaning) (w : List Event) (held : List Cells) (now : Meaning) (holds : HoldsEnds t m w held) (told : Told m w now) (e : Event) (r : Result ℕ Fault) (law : OfferLaw t ceiling m w e r) where
  abbrev next : List Cells
  next = next_states t held now e

  exact : ListsExactly cells_rank (IsNextEnd t m w e) next
  exact = next-ends t m w held now holds told e

  in-form : InForm e → r ≡ offer_answer t ceiling held now e
  in-form f = at (by-next t ceiling m w held now holds told e (offer_answer t ceiling held now e) refl f)
    where
      at : Came ceiling held next (offer_answer t ceiling held now e) → r ≡ offer_answer t ceiling held now e
      at (stuck z q) =
          (law.refused_with_16_exactly_without_a_chain f (length held) (number-of cells_rank cells_order (IsEnd t m w) held holds)).back
          (λ g. let lt = goes-somewhere t m w held now holds told e g in absurd (omega arith))
          ∙ sym q
      at (over lt q) = (law.refused_with_17_exactly_over_the_ceiling f).back (more-than cells_rank cells_order (IsNextEnd t m w e) next ceiling exact lt) ∙ sym q
      at (went lt le q) =
          let few : MoreThan cells_rank (IsNextEnd t m w e) ceiling → ⊥ = λ k. let gt = over-length cells_rank cells_order (IsNextEnd t m w e) next ceiling exact k in absurd (omega arith) in
          let n = law.taken_otherwise_and_counted f (somewhere-goes t m w held now holds told e lt) few in
          n.1 ∙ ap {B = Result ℕ Fault} Ok (one-number cells_rank cells_order (IsNextEnd t m w e) next n.0 exact n.2) ∙ sym q

  pub offer-decided : r ≡ offer_answer t ceiling held now e
  offer-decided = by-form (refusal (form_asks e)) refl
    where
      by-form : (o : Option Fault) → refusal (form_asks e) ≡ o → r ≡ offer_answer t ceiling held now e
      by-form None h = in-form (none-form e h)
      by-form (Some f) h = law.refused_out_of_form f h ∙ sym (offer-form t ceiling held now e (offer_answer t ceiling held now e) refl f h)

-- an answer to a menu that obeys the law is that of the list of exactly the offered events
module _ (t : Tree) (m : Meaning) (w : List Event) (places : ℕ) (menu : List Event) (exact : ListsExactly event_rank (IsOffered t m w) menu) (r : Result ℕ Fault) (events : List Event) (law : MenuLaw t m w places r events) where
  same-menu : law.menu ≡ menu
  same-menu = one-list event_rank event_order (IsOffered t m w) law.menu menu law.is_exact exact

  pub menu-decided : (r ≡ menu_answer places menu) × (events ≡ take places menu)
  menu-decided =
      subst (λ (l : List Event). (r ≡ menu_answer places l) × (events ≡ take places l)) same-menu (
        ⊎_elim
            (λ lt. (law.refused_exactly_when_short).back lt ∙ sym (menu-short places law.menu lt))
            (λ le. law.counted le ∙ sym (menu-counts places law.menu le))
            (cases_lt places (length law.menu)),
        law.lists_the_first,
      )

abbrev is_offer : Call → Bool
is_offer (Offer e) = true
is_offer (Menu n) = false

module _ (t : Tree) (ceiling : ℕ) (m : Meaning) where
  same-answer : (w : List Event) (e : Event) (r s : Result ℕ Fault) → OfferLaw t ceiling m w e r → OfferLaw t ceiling m w e s → r ≡ s
  same-answer w e r s k l = decided r k ∙ sym (decided s l)
    where
      decided : (a : Result ℕ Fault) → OfferLaw t ceiling m w e a → a ≡ offer_answer t ceiling (ends t m w) (meaning_after w m) e
      decided a h = offer-decided t ceiling m w (ends t m w) (meaning_after w m) (ends-hold t m w) (λ u guard d v. refl) e a h

  -- two calls that are the same and obey the law came to the same
  one-outcome : (w : List Event) (o p : Outcome) → Lawful t ceiling m w o → Lawful t ceiling m w p → call_of o ≡ call_of p → o ≡ p
  one-outcome w (offered e r) (offered f s) k l c =
      let same : e ≡ f = cc in
      let a : r ≡ s = same-answer w f r s (subst (λ (d : Event). OfferLaw t ceiling m w d r) same k) l in
      cc
  one-outcome w (offered e r) (listed n s es) k l c = absurd (true≢false (ap is_offer c))
  one-outcome w (listed n r es) (offered e s) k l c = absurd (true≢false (sym (ap is_offer c)))
  one-outcome w (listed n r es) (listed q s fs) k l c =
      let same : n ≡ q = cc in
      let a = menu-decided t m w q l.menu l.is_exact r es (subst (λ (j : ℕ). MenuLaw t m w j r es) same k) in
      let b = menu-decided t m w q l.menu l.is_exact s fs l in
      let answers : r ≡ s = a.0 ∙ sym b.0 in
      let events : es ≡ fs = a.1 ∙ sym b.1 in
      cc

  one-log : (w : List Event) (os ps : List Outcome) → AllLawful t ceiling m w os → AllLawful t ceiling m w ps → map call_of os ≡ map call_of ps → os ≡ ps
  one-log w [] [] k l c = refl
  one-log w [] (p ∷ ps) k l c = absurd (omega (arith, ap (λ (cs : List Call). length cs) c))
  one-log w (o ∷ os) [] k l c = absurd (omega (arith, ap (λ (cs : List Call). length cs) c))
  one-log w (o ∷ os) (p ∷ ps) k l c =
      let first : call_of o ≡ call_of p = cc in
      let others : map call_of os ≡ map call_of ps = cc in
      let same : o ≡ p = one-outcome w o p k.0 l.0 first in
      let all : os ≡ ps = one-log (w ++ taken_in p) os ps (subst (λ (q : Outcome). AllLawful t ceiling m (w ++ taken_in q) os) same k.2) l.2 others in
      cc

-- so the law decides every answer, the states held and the host's meaning
pub decides : LawDecides
decides t ceiling m w one other k l c = λ i. record { outcomes = outcomes i; held = held i; meaning = meaning i }
  where
    outcomes : one.outcomes ≡ other.outcomes
    outcomes = one-log t ceiling m w one.outcomes other.outcomes k.lawful l.lawful c

    held : one.held ≡ other.held
    held =
        one-list cells_rank cells_order (IsEnd t m (taken w other.outcomes)) one.held other.held
        (subst (λ (os : List Outcome). HoldsEnds t m (taken w os) one.held) outcomes k.holds)
        l.holds

    meaning : one.meaning ≡ other.meaning
    meaning = λ i u guard e v. (k.told u guard e v ∙ ap (λ (os : List Outcome). m (taken w os ++ u) guard e v) outcomes ∙ sym (l.told u guard e v)) i

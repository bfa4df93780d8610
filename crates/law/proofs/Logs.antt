-- What calls come to, one after the other, obeys the law.
use Rattle.std.proofs.Common.{◌≡◌, ℕ, refl, sym, ap, ap₂, ◌∙◌, subst, List, [], ◌∷◌, ◌++◌, map, append-nil, append_assoc}
use Rattle.event.specs.declared.event.Event.{Event}
use Rattle.host.specs.Meanings.{Meaning, Told}
use Rattle.rules.specs.Trees.{Tree}
use Rattle.rules.specs.Cells.{Cells}
use Rattle.rules.specs.InRange.{Sound}
use Rattle.rules.specs.Laws.{meaning_after}
use Rattle.law.specs.Offers.{offer_answer}
use Rattle.law.specs.Menus.{menu_events, menu_answer}
use Rattle.law.specs.Chained.{HoldsEnds}
use Rattle.law.specs.Calls.{Outcome, offered, listed, call_of, taken_in, taken, Lawful, AllLawful, outcome_of, states_after, meaning_then, outcomes_of, states_then}
use Rattle.law.specs.declared.call.Call.{Call}
use Rattle.law.specs.declared.call.Call.TheVariants.{Offer, Menu}
use Rattle.law.proofs.Offers.{told-taken, offer-holds, offer-obeys, offered-instead, menu-obeys}

-- the events taken are those before and those of the calls
pub taken-from : (w : List Event) (os : List Outcome) → taken w os ≡ w ++ taken [] os
taken-from w [] = sym (append-nil w)
taken-from w (o ∷ os) =
    taken-from (w ++ taken_in o) os
    ∙ append_assoc w (taken_in o) (taken [] os)
    ∙ ap (λ (l : List Event). w ++ l) (sym (taken-from (taken_in o) os))

pub taken-more : (w : List Event) (os : List Outcome) (o : Outcome) → taken w (os ++ o ∷ []) ≡ taken w os ++ taken_in o
taken-more w [] o = refl
taken-more w (p ∷ os) o = taken-more (w ++ taken_in p) os o

-- what the host means after one more call before others
before-others : (now : Meaning) (o : Outcome) (os : List Outcome) → ◌≡◌ {A = Meaning} (meaning_after (taken [] os) (meaning_then now o)) (meaning_after (taken [] (o ∷ os)) now)
before-others now o os = λ i es guard e v. now (sides es i) guard e v
  where
    sides : (es : List Event) → taken_in o ++ (taken [] os ++ es) ≡ taken (taken_in o) os ++ es
    sides es = sym (append_assoc (taken_in o) (taken [] os) es) ∙ ap (λ (l : List Event). l ++ es) (sym (taken-from (taken_in o) os))

module _ (t : Tree) (ceiling : ℕ) where
  same-call : (held : List Cells) (now : Meaning) (c : Call) → call_of (outcome_of t ceiling held now c) ≡ c
  same-call held now (Offer e) = refl
  same-call held now (Menu n) = refl

  -- the calls are those that were made
  pub calls-of : (held : List Cells) (now : Meaning) (calls : List Call) → map call_of (outcomes_of t ceiling held now calls) ≡ calls
  calls-of held now [] = refl
  calls-of held now (c ∷ cs) =
      let o = outcome_of t ceiling held now c in
      ap₂ (λ (d : Call) (ds : List Call). d ∷ ds) (same-call held now c) (calls-of (states_after t held now o) (meaning_then now o) cs)

  -- one call more
  pub outcomes-more : (held : List Cells) (now : Meaning) (cs : List Call) (c : Call)
      → outcomes_of t ceiling held now (cs ++ c ∷ [])
      ≡ outcomes_of t ceiling held now cs ++ outcome_of t ceiling (states_then t ceiling held now cs) (meaning_after (taken [] (outcomes_of t ceiling held now cs)) now) c ∷ []
  outcomes-more held now [] c = refl
  outcomes-more held now (d ∷ cs) c =
      let o = outcome_of t ceiling held now d in
      let after = states_after t held now o in
      let meaning = meaning_then now o in
      let os = outcomes_of t ceiling after meaning cs in
      ap (λ (l : List Outcome). o ∷ l)
      (outcomes-more after meaning cs c
      ∙ ap (λ (n : Meaning). os ++ outcome_of t ceiling (states_then t ceiling after meaning cs) n c ∷ []) (before-others now o os))

  pub states-more : (held : List Cells) (now : Meaning) (cs : List Call) (c : Call)
      → states_then t ceiling held now (cs ++ c ∷ [])
      ≡ states_after t (states_then t ceiling held now cs) (meaning_after (taken [] (outcomes_of t ceiling held now cs)) now)
      (outcome_of t ceiling (states_then t ceiling held now cs) (meaning_after (taken [] (outcomes_of t ceiling held now cs)) now) c)
  states-more held now [] c = refl
  states-more held now (d ∷ cs) c =
      let o = outcome_of t ceiling held now d in
      let after = states_after t held now o in
      let meaning = meaning_then now o in
      let os = outcomes_of t ceiling after meaning cs in
      states-more after meaning cs c
      ∙ ap (λ (n : Meaning). states_after t (states_then t ceiling after meaning cs) n (outcome_of t ceiling (states_then t ceiling after meaning cs) n c)) (before-others now o os)

module _ (t : Tree) (ceiling : ℕ) (m : Meaning) where
  -- after a call exactly the ends are held, and the host means what it means then
  pub then-holds : (w : List Event) (held : List Cells) (now : Meaning) → HoldsEnds t m w held → Told m w now → (o : Outcome) → HoldsEnds t m (w ++ taken_in o) (states_after t held now o)
  then-holds w held now h k (offered e r) = offer-holds t m w held now h k e r
  then-holds w held now h k (listed n r es) = subst (λ (l : List Event). HoldsEnds t m l held) (sym (append-nil w)) h

  pub then-told : (w : List Event) (now : Meaning) → Told m w now → (o : Outcome) → Told m (w ++ taken_in o) (meaning_then now o)
  then-told w now k o = told-taken m w now (taken_in o) (meaning_then now o) k (λ u guard e v. refl)

  -- and so after all calls
  pub states-hold : (w : List Event) (held : List Cells) (now : Meaning) → HoldsEnds t m w held → Told m w now → (calls : List Call)
      → HoldsEnds t m (taken w (outcomes_of t ceiling held now calls)) (states_then t ceiling held now calls)
  states-hold w held now h k [] = h
  states-hold w held now h k (c ∷ cs) =
      let o = outcome_of t ceiling held now c in
      states-hold (w ++ taken_in o) (states_after t held now o) (meaning_then now o) (then-holds w held now h k o) (then-told w now k o) cs

  pub meaning-told : (w : List Event) (now : Meaning) (os : List Outcome) → Told m w now → Told m (taken w os) (meaning_after (taken [] os) now)
  meaning-told w now os k =
      subst (λ (l : List Event). Told m l (meaning_after (taken [] os) now)) (sym (taken-from w os))
      (told-taken m w now (taken [] os) (meaning_after (taken [] os) now) k (λ u guard e v. refl))

  one-lawful : Sound t → (w : List Event) (held : List Cells) (now : Meaning) → HoldsEnds t m w held → Told m w now → (c : Call) → Lawful t ceiling m w (outcome_of t ceiling held now c)
  one-lawful s w held now h k (Offer e) = offer-obeys t ceiling m w held now h k e (offer_answer t ceiling held now e) refl
  one-lawful s w held now h k (Menu n) = menu-obeys t m w held now s h k n (menu_answer n (menu_events t held now)) _ refl refl

  -- what is computed obeys the law, call by call
  pub all-lawful : Sound t → (w : List Event) (held : List Cells) (now : Meaning) → HoldsEnds t m w held → Told m w now → (calls : List Call) → AllLawful t ceiling m w (outcomes_of t ceiling held now calls)
  all-lawful s w held now h k [] = tt
  all-lawful s w held now h k (c ∷ cs) =
      let o = outcome_of t ceiling held now c in (
        one-lawful s w held now h k c,
        λ held' now' h' k'. offered-instead t ceiling m w held' now' h' k',
        all-lawful s (w ++ taken_in o) (states_after t held now o) (meaning_then now o) (then-holds w held now h k o) (then-told w now k o) cs,
      )

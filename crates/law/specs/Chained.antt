-- The law of one call, in terms of chains: t is the tree of the root, m what the host meant at the opening, and w the events taken before the call.
use Rattle.std.specs.Prelude.{◌≡◌, ℕ, ◌<◌, ◌≤◌, List, length, take, Some, Ok, Err, Result}
use Rattle.fault.specs.Asking.{refusal}
use Rattle.fault.specs.declared.fault.Fault.{Fault}
use Rattle.fault.specs.declared.fault.Question.TheVariants.{SuccessorExists, SuccessorsWithinCeiling, MenuWithinList}
use Rattle.procedure.specs.Procedures.{Exactly}
use Rattle.row.specs.Rows.{cells_rank}
use Rattle.event.specs.Forms.{InForm, form_asks, event_rank}
use Rattle.event.specs.declared.event.Event.{Event}
use Rattle.host.specs.Meanings.{Meaning}
use Rattle.rules.specs.Trees.{Tree}
use Rattle.rules.specs.Cells.{Cells}
use Rattle.rules.specs.Chains.{IsEnd, IsNextEnd, GoesOn}
use Rattle.law.specs.Counting.{ListsExactly, NumberOf, MoreThan}
use Rattle.law.specs.Offers.{offer_answer}

-- the held states are exactly the ends of the chains over w, in order, each once
abbrev pub HoldsEnds : Tree → Meaning → List Event → List Cells → Type 0
HoldsEnds t m w held = ListsExactly cells_rank (IsEnd t m w) held

-- 16: no held state has a successor; at their number
abbrev pub no_successor : ℕ → Fault
no_successor held = record { question = SuccessorExists; place = held }

-- 17: more states would be held than the ceiling; at the ceiling
abbrev pub too_many : ℕ → Fault
too_many ceiling = record { question = SuccessorsWithinCeiling; place = ceiling }

-- 18: a list has fewer places than the menu has events; at the number of its places
abbrev pub too_short : ℕ → Fault
too_short places = record { question = MenuWithinList; place = places }

-- an event out of form was refused with 15, at its first wrong field
abbrev pub RefusedOutOfForm : Event → Result ℕ Fault → Type 0
RefusedOutOfForm e r = (f : Fault) → refusal (form_asks e) ≡ Some f → r ≡ Err f

-- one in form was refused with 16, at the number of ends, exactly when no chain over w goes on with it
abbrev pub RefusedWithoutChain : Tree → Meaning → List Event → Event → Result ℕ Fault → Type 0
RefusedWithoutChain t m w e r =
    InForm e → (n : ℕ) → NumberOf cells_rank (IsEnd t m w) n → Exactly (r ≡ Err (no_successor n)) (GoesOn t m w e → ⊥)

-- with 17, at the ceiling, exactly when those chains go on with it to more different ends in all than the ceiling
abbrev pub RefusedOverCeiling : Tree → ℕ → Meaning → List Event → Event → Result ℕ Fault → Type 0
RefusedOverCeiling t ceiling m w e r = InForm e → Exactly (r ≡ Err (too_many ceiling)) (MoreThan cells_rank (IsNextEnd t m w e) ceiling)

-- and otherwise it was taken, and the answer was the number of those different ends
abbrev pub TakenOtherwise : Tree → ℕ → Meaning → List Event → Event → Result ℕ Fault → Type 0
TakenOtherwise t ceiling m w e r =
    InForm e → GoesOn t m w e → (MoreThan cells_rank (IsNextEnd t m w e) ceiling → ⊥)
    → (n : ℕ) × (r ≡ Ok n) × NumberOf cells_rank (IsNextEnd t m w e) n

-- An offer made instead, of any event in form, would be refused with 16 exactly when no chain over w goes on with it: said of what an offer is
-- answered where the states `held` are held and the host means `now`. Whoever cites it says that these are the ends, and what the host means after w.
abbrev pub OfferedInstead : Tree → ℕ → Meaning → List Event → List Cells → Meaning → Type 0
OfferedInstead t ceiling m w held now =
    (e : Event) → InForm e → Exactly (offer_answer t ceiling held now e ≡ Err (no_successor (length held))) (GoesOn t m w e → ⊥)

-- the law of an offer
pub record OfferLaw (t : Tree) (ceiling : ℕ) (m : Meaning) (w : List Event) (e : Event) (r : Result ℕ Fault) : Type 0 where
  pub refused_out_of_form : RefusedOutOfForm e r
  pub refused_with_16_exactly_without_a_chain : RefusedWithoutChain t m w e r
  pub refused_with_17_exactly_over_the_ceiling : RefusedOverCeiling t ceiling m w e r
  pub taken_otherwise_and_counted : TakenOtherwise t ceiling m w e r

-- an event in form with which some chain over w goes on
abbrev pub IsOffered : Tree → Meaning → List Event → Event → Type 0
IsOffered t m w e = InForm e × GoesOn t m w e

-- the law of a menu into so many places, with what it listed
pub record MenuLaw (t : Tree) (m : Meaning) (w : List Event) (places : ℕ) (r : Result ℕ Fault) (listed : List Event) : Type 0 where
  -- the whole menu: exactly the events in form with which some chain over w goes on, each once, in order
  pub menu : List Event
  pub is_exact : ListsExactly event_rank (IsOffered t m w) menu
  -- where there are places enough, it is answered the number of its events
  pub counted : length menu ≤ places → r ≡ Ok (length menu)
  -- refused with 18 exactly where there are too few
  pub refused_exactly_when_short : Exactly (r ≡ Err (too_short places)) (places < length menu)
  -- listed are all of them, or the first, as many as there are places
  pub lists_the_first : listed ≡ take places menu

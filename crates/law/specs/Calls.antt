-- The law over a list of calls on one run with its one host, refused ones included.
use Rattle.std.specs.Prelude.{ℕ, List, [], ◌∷◌, ◌++◌, take, Result}
use Rattle.fault.specs.declared.fault.Fault.{Fault}
use Rattle.event.specs.declared.event.Event.{Event}
use Rattle.host.specs.Meanings.{Meaning, Told}
use Rattle.rules.specs.Trees.{Tree}
use Rattle.rules.specs.Cells.{Cells}
use Rattle.law.specs.Offers.{offer_answer, held_after, taken_by}
use Rattle.law.specs.Menus.{menu_events, menu_answer}
use Rattle.law.specs.Chained.{HoldsEnds, OfferedInstead, OfferLaw, MenuLaw}
use Rattle.law.specs.declared.call.Call.{Call}
use Rattle.law.specs.declared.call.Call.TheVariants.{Offer, Menu}

-- what a call came to: an event was offered and answered, or events were listed into so many places
pub data Outcome : Type 0 where
  offered : (event : Event) (answer : Result ℕ Fault) → Outcome
  listed : (places : ℕ) (answer : Result ℕ Fault) (events : List Event) → Outcome

-- the call that came to it
abbrev pub call_of : Outcome → Call
call_of (offered e r) = Offer e
call_of (listed n r es) = Menu n

-- the events taken by a call
abbrev pub taken_in : Outcome → List Event
taken_in (offered e r) = taken_by e r
taken_in (listed n r es) = []

-- the events taken before and by some calls, in order
abbrev pub taken : List Event → List Outcome → List Event
taken w [] = w
taken w (o ∷ os) = taken (w ++ taken_in o) os

-- the law of one call, where w are the events taken before it
abbrev pub Lawful : Tree → ℕ → Meaning → List Event → Outcome → Type 0
Lawful t ceiling m w (offered e r) = OfferLaw t ceiling m w e r
Lawful t ceiling m w (listed n r es) = MenuLaw t m w n r es

-- Each call obeys the law. And an offer made instead of it would be refused with 16 exactly when no chain goes on: whatever came of the call,
-- this is said of what an offer is answered where exactly the ends over the events taken before it are held, and the host means what it
-- means after them.
abbrev pub AllLawful : Tree → ℕ → Meaning → List Event → List Outcome → Type 0
AllLawful t ceiling m w [] = Unit {0}
AllLawful t ceiling m w (o ∷ os) =
    Lawful t ceiling m w o
    × ((held : List Cells) (now : Meaning) → HoldsEnds t m w held → Told m w now → OfferedInstead t ceiling m w held now)
    × AllLawful t ceiling m (w ++ taken_in o) os

-- ---- what calls come to, computed from the held states

-- what one call comes to, where the host means `now`
abbrev pub outcome_of : Tree → ℕ → List Cells → Meaning → Call → Outcome
outcome_of t ceiling held now (Offer e) = offered e (offer_answer t ceiling held now e)
outcome_of t ceiling held now (Menu n) = listed n (menu_answer n (menu_events t held now)) (take n (menu_events t held now))

-- the states that are held after it
abbrev pub states_after : Tree → List Cells → Meaning → Outcome → List Cells
states_after t held now (offered e r) = held_after t held now e r
states_after t held now (listed n r es) = held

-- what the host means after it
abbrev pub meaning_then : Meaning → Outcome → Meaning
meaning_then now o events guard e v = now (taken_in o ++ events) guard e v

-- what calls come to, one after the other
abbrev pub outcomes_of : Tree → ℕ → List Cells → Meaning → List Call → List Outcome
outcomes_of t ceiling held now [] = []
outcomes_of t ceiling held now (c ∷ cs) =
    outcome_of t ceiling held now c
    ∷ outcomes_of t ceiling (states_after t held now (outcome_of t ceiling held now c)) (meaning_then now (outcome_of t ceiling held now c)) cs

-- the states that are held after them
abbrev pub states_then : Tree → ℕ → List Cells → Meaning → List Call → List Cells
states_then t ceiling held now [] = held
states_then t ceiling held now (c ∷ cs) =
    states_then t ceiling (states_after t held now (outcome_of t ceiling held now c)) (meaning_then now (outcome_of t ceiling held now c)) cs

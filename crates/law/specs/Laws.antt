-- Theorems about the law.
use Rattle.std.specs.Prelude.{◌≡◌, ℕ, List, [], map}
use Rattle.event.specs.declared.event.Event.{Event}
use Rattle.host.specs.Meanings.{Meaning, Told}
use Rattle.rules.specs.Trees.{Tree}
use Rattle.rules.specs.Cells.{Cells}
use Rattle.law.specs.Chained.{HoldsEnds}
use Rattle.rules.specs.InRange.{Sound}
use Rattle.rules.specs.Laws.{meaning_after}
use Rattle.law.specs.Calls.{Outcome, call_of, taken, AllLawful, outcomes_of, states_then}
use Rattle.law.specs.declared.call.Call.{Call}

-- what is told of a run after some calls: what they came to, the states that it holds, and what its host means
pub record Log : Type 0 where
  pub outcomes : List Outcome
  pub held : List Cells
  pub meaning : Meaning

-- it obeys the law
pub record Obeys (t : Tree) (ceiling : ℕ) (m : Meaning) (w : List Event) (log : Log) : Type 0 where
  pub lawful : AllLawful t ceiling m w log.outcomes
  pub holds : HoldsEnds t m (taken w log.outcomes) log.held
  pub told : Told m (taken w log.outcomes) log.meaning

-- two logs of the same calls that both obey the law are equal: in every number, layer, place, count and listed event, in the states held
-- at the end, and in the host's final meaning
abbrev pub LawDecides : Type 0
LawDecides =
    (t : Tree) (ceiling : ℕ) (m : Meaning) (w : List Event) (one other : Log)
    → Obeys t ceiling m w one → Obeys t ceiling m w other → map call_of one.outcomes ≡ map call_of other.outcomes → one ≡ other

-- what calls come to is told of a run that held some states, and of its host
abbrev pub computed : Tree → ℕ → List Cells → Meaning → List Call → Log
computed t ceiling held now calls = record {
  outcomes = outcomes_of t ceiling held now calls;
  held = states_then t ceiling held now calls;
  meaning = meaning_after (taken [] (outcomes_of t ceiling held now calls)) now;
}

-- Where exactly the ends are held, and the host means what it means after the events taken, what is computed obeys the law: so some log of
-- any calls does. The tree is that of a procedure, or another sound one.
abbrev pub ComputedObeys : Type 0
ComputedObeys =
    (t : Tree) (ceiling : ℕ) (m : Meaning) (w : List Event) (held : List Cells) (now : Meaning) (calls : List Call)
    → Sound t → HoldsEnds t m w held → Told m w now → Obeys t ceiling m w (computed t ceiling held now calls)

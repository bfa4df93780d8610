-- What the guard host of a script means, and its settings.
use Rattle.std.specs.Prelude.{◌≡◌, ℕ, cond, List, map, Option, Some, None, Result, Ok, Err, ◌==◌, nat_lt, replicate, slice_set}
use Rattle.fault.specs.Asking.{refusal, answer_or}
use Rattle.fault.specs.declared.fault.Fault.{Fault}
use Rattle.host.specs.Meanings.{Meaning}
use Rattle.host.specs.Limiting.{limit_answer, limits_answer, limit_asks, limit_numbered}
use Rattle.host.specs.Tallying.{events_of, tallies_answer, heard, tally_asks}
use Rattle.host.specs.declared.limit.Limit.{Limit}
use Rattle.host.specs.declared.variables.Variables.{Variables}
use Rattle.event.specs.declared.event.Event.{Event}
use Rattle.script.specs.declared.host_kind.HostKind.{HostKind}
use Rattle.script.specs.declared.host_kind.HostKind.TheVariants as kind
use Rattle.script.specs.declared.hosting.Host.{Host}
use Rattle.script.specs.declared.hosting.Host.TheVariants.{Limits, Tallies}
use Rattle.script.specs.declared.wrong.Wrong.{Wrong}
use Rattle.script.specs.declared.wrong.Wrong.TheVariants.{NoLimits, NoTallies}

-- a host by limits means what its limits say, and one by tallies what its tallies say
abbrev pub host_meaning : Host → Meaning
host_meaning (Limits limits) w guard e v = limits_answer limits.entries guard e v
host_meaning (Tallies tallies) w guard e v = tallies_answer tallies.entries w guard

-- the kind of a host
abbrev pub kind_of : Host → HostKind
kind_of (Limits limits) = kind.Limits
kind_of (Tallies tallies) = kind.Tallies

-- no guard has a limit, or a tally
abbrev pub NoneSet : Host → Type 0
NoneSet (Limits limits) = limits.entries ≡ replicate 32 None
NoneSet (Tallies tallies) = tallies.entries ≡ replicate 32 None

-- the entries of a table once a setting of one is answered: a refused setting changes none, any other replaces that of its guard
abbrev pub entries_set : {X : Type 0} → Option Fault → List (Option X) → ℕ → Option X → List (Option X)
entries_set None entries guard entry = slice_set entries guard entry
entries_set (Some f) entries guard entry = entries

-- what the setting of a limit is answered
abbrev pub limit_answered : Host → ℕ → ℕ → ℕ → ℕ → Result (Result (Unit {0}) Fault) Wrong
limit_answered (Limits limits) guard operand comparison constant = Ok (answer_or (refusal (limit_asks guard operand comparison constant)) tt)
limit_answered (Tallies tallies) guard operand comparison constant = Err NoLimits

-- what it leaves
abbrev pub SetsLimit : Host → ℕ → ℕ → ℕ → ℕ → Host → Type 0
SetsLimit (Limits old) guard operand comparison constant (Limits new) =
    new.entries ≡ entries_set (refusal (limit_asks guard operand comparison constant)) old.entries guard (limit_numbered operand comparison constant)
SetsLimit (Limits old) guard operand comparison constant (Tallies new) = ⊥
SetsLimit (Tallies old) guard operand comparison constant new = new ≡ Tallies old

-- what the setting of a tally is answered
abbrev pub tally_answered : Host → ℕ → ℕ → ℕ → Result (Result (Unit {0}) Fault) Wrong
tally_answered (Limits limits) guard label bound = Err NoTallies
tally_answered (Tallies tallies) guard label bound = Ok (answer_or (refusal (tally_asks guard label bound)) tt)

-- what it leaves: a tally of which nothing was told yet
abbrev pub SetsTally : Host → ℕ → ℕ → ℕ → Host → Type 0
SetsTally (Limits old) guard label bound new = new ≡ Limits old
SetsTally (Tallies old) guard label bound (Limits new) = ⊥
SetsTally (Tallies old) guard label bound (Tallies new) =
    new.entries ≡ entries_set (refusal (tally_asks guard label bound)) old.entries guard (Some (record { label = label; bound = bound; told = 0 }))

-- what telling an event leaves: limits as they were, and of tallies each raised that has its label
abbrev pub Hears : Host → Event → Host → Type 0
Hears (Limits old) event new = new ≡ Limits old
Hears (Tallies old) event (Limits new) = ⊥
Hears (Tallies old) event (Tallies new) = new.entries ≡ map (heard event) old.entries

-- what a host means once a guard has another limit: only that guard's answers change
abbrev pub with_limit : ℕ → Option Limit → Meaning → Meaning
with_limit guard limit before w g e v = cond (g == guard) (limit_answer limit e v) (before w g e v)

-- what a host means once a guard has another tally, which says yes to fewer events of its label than its bound
abbrev pub with_tally : ℕ → ℕ → ℕ → Meaning → Meaning
with_tally guard label bound before w g e v = cond (g == guard) (nat_lt (events_of label w) bound) (before w g e v)

-- one meaning is the other
abbrev pub Means : Meaning → Meaning → Type 0
Means after now = (w : List Event) (guard : ℕ) (e : Event) (v : Variables) → now w guard e v ≡ after w guard e v

-- P holds if the setting was made
abbrev pub IfSet : Result (Result (Unit {0}) Fault) Wrong → Type 0 → Type 0
IfSet (Ok (Ok x)) P = P
IfSet (Ok (Err f)) P = Unit {0}
IfSet (Err e) P = Unit {0}

-- P holds if it was not: it was refused, or the host has none like it
abbrev pub UnlessSet : Result (Result (Unit {0}) Fault) Wrong → Type 0 → Type 0
UnlessSet (Ok (Ok x)) P = Unit {0}
UnlessSet (Ok (Err f)) P = P
UnlessSet (Err e) P = P

-- What the settings of another program come to: three or four numbers make one, and numbers left over behind the last are not looked at.
use Rattle.std.specs.Prelude.{ℕ, zero, suc, min, List, [], ◌∷◌, ◌++◌, cond, Option, Some, None, Ok, Err, Result, ◌==◌, slice_index_or}
use Rattle.std.specs.List.{range_with_len}
use Rattle.fault.specs.Asking.{Asked, refusal, answer_or}
use Rattle.fault.specs.declared.fault.Fault.{Fault}
use Rattle.roster.specs.Runs.{range_asks}
use Rattle.host.specs.Meanings.{Meaning}
use Rattle.host.specs.Limiting.{limit_asks, limit_answer, limit_numbered}
use Rattle.host.specs.Tallying.{tally_asks, tally_answer}
use Rattle.host.specs.declared.limit.Limit.{Limit}
use Rattle.host.specs.declared.tally.Tally.{Tally}
use Rattle.boundary.specs.Texts.{answer_numbers}

-- a number as a field holds it; one above 65,535 is taken for that
abbrev pub field : ℕ → ℕ
field n = min n 65535

-- the answer of a setting: 0, or the refusal
abbrev pub setting_answer : List Asked → Result ℕ Fault
setting_answer asks = answer_or (refusal asks) 0

-- entries by their numbers, after a setting of entry k to x: a refusal changes nothing
abbrev pub entry_set : {X : Type 0} → Result ℕ Fault → ℕ → X → (ℕ → X) → ℕ → X
entry_set (Ok n) k x entries j = cond (j == k) x (entries j)
entry_set (Err f) k x entries j = entries j

-- the entries of a table by their numbers; past its end there is none
abbrev pub entries_of : {X : Type 0} → List (Option X) → ℕ → Option X
entries_of entries k = slice_index_or entries k None

-- nothing set yet
abbrev pub none_set : {X : Type 0} → ℕ → Option X
none_set k = None

-- the answer of a range: type, first, count
abbrev pub range_set_answer : ℕ → ℕ → ℕ → Result ℕ Fault
range_set_answer ty first count = setting_answer (range_asks (field ty) (field first) (field count))

-- what is said of ranges, by three numbers each
abbrev pub ranges_numbers : List ℕ → List ℕ
ranges_numbers (ty ∷ first ∷ count ∷ more) = answer_numbers (range_set_answer ty first count) ++ ranges_numbers more
ranges_numbers ns = []

-- the values of each type after them: first, the next one, and so on, count of them
abbrev pub ranges_told : (ℕ → Option (List ℕ)) → List ℕ → ℕ → Option (List ℕ)
ranges_told told (ty ∷ first ∷ count ∷ more) = ranges_told (entry_set (range_set_answer ty first count) (field ty) (Some (range_with_len (field first) (field count))) told) more
ranges_told told ns = told

-- the answer of a limit: guard, operand, comparison, constant
abbrev pub limit_set_answer : ℕ → ℕ → ℕ → ℕ → Result ℕ Fault
limit_set_answer guard operand comparison constant = setting_answer (limit_asks (field guard) (field operand) (field comparison) (field constant))

-- what is said of limits, by four numbers each
abbrev pub limits_numbers : List ℕ → List ℕ
limits_numbers (guard ∷ operand ∷ comparison ∷ constant ∷ more) = answer_numbers (limit_set_answer guard operand comparison constant) ++ limits_numbers more
limits_numbers ns = []

-- the limit of each guard after them
abbrev pub limits_set : (ℕ → Option Limit) → List ℕ → ℕ → Option Limit
limits_set limits (guard ∷ operand ∷ comparison ∷ constant ∷ more) =
    limits_set (entry_set (limit_set_answer guard operand comparison constant) (field guard) (limit_numbered (field operand) (field comparison) (field constant)) limits) more
limits_set limits ns = limits

-- the answer of a tally: guard, label, bound
abbrev pub tally_set_answer : ℕ → ℕ → ℕ → Result ℕ Fault
tally_set_answer guard label bound = setting_answer (tally_asks (field guard) (field label) (field bound))

-- what is said of tallies, by four numbers each, of which the last is not looked at
abbrev pub tallies_numbers : List ℕ → List ℕ
tallies_numbers (guard ∷ label ∷ bound ∷ other ∷ more) = answer_numbers (tally_set_answer guard label bound) ++ tallies_numbers more
tallies_numbers ns = []

-- the tally of each guard after them, with nothing told yet
abbrev pub tallies_set : (ℕ → Option Tally) → List ℕ → ℕ → Option Tally
tallies_set tallies (guard ∷ label ∷ bound ∷ other ∷ more) =
    tallies_set (entry_set (tally_set_answer guard label bound) (field guard) (Some (record { label = field label; bound = field bound; told = 0 })) tallies) more
tallies_set tallies ns = tallies

-- what a host by limits means
abbrev pub limits_meaning : (ℕ → Option Limit) → Meaning
limits_meaning limits w guard e v = limit_answer (limits guard) e v

-- what a host by tallies means
abbrev pub tallies_meaning : (ℕ → Option Tally) → Meaning
tallies_meaning tallies w guard e v = tally_answer (tallies guard) w

-- what is said of the settings of a host, which is one by limits for the number 0, and one by tallies for any other
abbrev pub settings_numbers : ℕ → List ℕ → List ℕ
settings_numbers zero ns = limits_numbers ns
settings_numbers (suc n) ns = tallies_numbers ns

-- what this host means after them
abbrev pub host_meaning : ℕ → List ℕ → Meaning
host_meaning zero ns = limits_meaning (limits_set none_set ns)
host_meaning (suc n) ns = tallies_meaning (tallies_set none_set ns)

-- Guards by limits: what each looks at, how it compares, and the setting of one.
use Rattle.std.specs.Prelude.{ℕ, Bool, false, cond, ◌&&◌, List, [], ◌∷◌, Some, None, Option, ◌==◌, nat_le, nat_lt, slice_index_or}
use Rattle.fault.specs.Asking.{Asked, asked_of_fields}
use Rattle.fault.specs.declared.fault.Question.TheVariants.{SettingInRange}
use Rattle.event.specs.Forms.{first_argument, second_argument}
use Rattle.event.specs.declared.event.Event.{Event}
use Rattle.host.specs.declared.limit.Operand.{Operand}
use Rattle.host.specs.declared.limit.Operand.TheVariants.{Outer, Inner, First, Second}
use Rattle.host.specs.declared.limit.Comparison.{Comparison}
use Rattle.host.specs.declared.limit.Comparison.TheVariants.{Below, Equal, Above}
use Rattle.host.specs.declared.limit.Limit.{Limit}
use Rattle.host.specs.declared.variables.Variables.{Variables}

-- what an operand names; it is absent where the variable is not in scope or the event has too few arguments
abbrev pub operand_of : Operand → Event → Variables → Option ℕ
operand_of Outer e v = v.outer
operand_of Inner e v = v.inner
operand_of First e v = first_argument e
operand_of Second e v = second_argument e

-- whether a value compares so with a constant
abbrev pub compares : Comparison → ℕ → ℕ → Bool
compares Below value constant = nat_lt value constant
compares Equal value constant = value == constant
compares Above value constant = nat_lt constant value

-- the same of an operand; an absent one is no
abbrev pub compares_if : Comparison → Option ℕ → ℕ → Bool
compares_if c None constant = false
compares_if c (Some value) constant = compares c value constant

-- the answer of an entry; without one it is no
abbrev pub limit_answer : Option Limit → Event → Variables → Bool
limit_answer None e v = false
limit_answer (Some l) e v = compares_if l.comparison (operand_of l.operand e v) l.constant

-- the answer of a guard by its entry in the table, which ends at guard 31; a guard past it has none
abbrev pub limits_answer : List (Option Limit) → ℕ → Event → Variables → Bool
limits_answer entries guard e v = limit_answer (slice_index_or entries guard None) e v

-- question 19 of the fields of a limit: guard, operand, comparison, constant
abbrev pub limit_asks : ℕ → ℕ → ℕ → ℕ → List Asked
limit_asks guard operand comparison constant =
    asked_of_fields SettingInRange 0 (nat_le guard 31 ∷ (nat_le 1 operand && nat_le operand 4) ∷ nat_le comparison 2 ∷ nat_le constant 65535 ∷ [])

-- the operand of a number: 1 to 4 name one
abbrev pub operand_numbered : ℕ → Option Operand
operand_numbered n =
    cond (n == 1) (Some Outer) (cond (n == 2) (Some Inner) (cond (n == 3) (Some First) (cond (n == 4) (Some Second) None)))

-- the comparison of a number: 0 to 2 name one
abbrev pub comparison_numbered : ℕ → Option Comparison
comparison_numbered n = cond (n == 0) (Some Below) (cond (n == 1) (Some Equal) (cond (n == 2) (Some Above) None))

-- a limit where operand and comparison are there
abbrev pub limit_from : Option Operand → Option Comparison → ℕ → Option Limit
limit_from None c constant = None
limit_from (Some o) None constant = None
limit_from (Some o) (Some c) constant = Some (record { operand = o; comparison = c; constant = constant })

-- the limit that the fields of a setting name
abbrev pub limit_numbered : ℕ → ℕ → ℕ → Option Limit
limit_numbered operand comparison constant = limit_from (operand_numbered operand) (comparison_numbered comparison) constant

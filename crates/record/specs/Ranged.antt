-- What a reading of fields answers that are in range or not.
use Rattle.std.specs.Prelude.{◌≡◌, ℕ, Bool, true, false, Result, MatchResult}
use Rattle.fault.specs.declared.fault.Fault.{Fault}
use Rattle.fault.specs.declared.fault.Question.TheVariants.{FieldsInRange}

-- a no to question 5 of the record with this number
abbrev pub out_of_range : ℕ → Fault
out_of_range place = record { question = FieldsInRange; place = place }

-- the fields are in range, and the answer is x; or one is not, and the answer is the refusal of the record
abbrev pub Ranged : {X : Type 0} → Bool → X → ℕ → Result X Fault → Type 0
Ranged fits x place r = MatchResult r (λ v. (fits ≡ true) × (v ≡ x)) (λ f. (fits ≡ false) × (f ≡ out_of_range place))

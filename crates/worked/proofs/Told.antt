-- What the settings tell and mean.
use Rattle.std.proofs.Common.{◌≡◌, refl, ℕ, zero, suc, ◌∙◌, List, Option, Some, None, replicate, slice_set, slice_index_or, arith}
use Rattle.host.specs.Meanings.{Meaning}
use Rattle.host.specs.Tallying.{tallies_answer}
use Rattle.host.specs.declared.tally.Tally.{Tally}
use Rattle.worked.specs.Worked.{Types}

-- type 0 has these values, and every other type is unknown
abbrev pub type_0_told : List ℕ → Types
type_0_told xs zero = Some xs
type_0_told xs (suc n) = None

-- what tells these values of type 0, and of the others what a roster tells that knows none
pub only-type-0 : (told before : Types) (xs : List ℕ) → told 0 ≡ Some xs → ((ty : ℕ) → (ty ≡ 0 → ⊥) → told ty ≡ before ty) → ((ty : ℕ) → before ty ≡ None) → told ≡ type_0_told xs
only-type-0 told before xs is others none = λ i ty. at ty i
  where
    at : (ty : ℕ) → told ty ≡ type_0_told xs ty
    at zero = is
    at (suc n) = others (suc n) (λ p. absurd (omega (arith, p))) ∙ none (suc n)

-- a table of nothing has nothing anywhere
pub none-there : (size n : ℕ) → slice_index_or (replicate {A = Option Tally} size None) n None ≡ None
none-there zero n = refl
none-there (suc size) zero = refl
none-there (suc size) (suc n) = none-there size n

-- the table of a host by tallies of which guard 0 has one: fewer than one event of label 8
abbrev pub table_once : List (Option Tally)
table_once = slice_set (replicate 32 None) 0 (Some (record { label = 8; bound = 1; told = 0 }))

-- what a host by tallies with this table means
abbrev pub by_table : List (Option Tally) → Meaning
by_table entries w guard e v = tallies_answer entries w guard

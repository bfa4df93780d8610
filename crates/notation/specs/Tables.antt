-- What a contract sees of a table.
use Rattle.std.specs.Prelude.{List, refl}
use Rattle.std.specs.Coded.{Coded, code_by, coded_list, coded×}

-- the elements in order, and what stands in the places that are not in use
pub record Table (T : Type 0) : Type 0 where
  pub items : List T
  pub spare : List T

-- a table is stored as its two lists
abbrev pub table_code : {T : Type 0} → Coded T → Coded (Table T)
table_code {T} code =
    code_by (List T × List T) (coded× (coded_list code) (coded_list code)) (λ t. (t.items, t.spare)) (λ p. record { items = p.0; spare = p.1 }) (λ _. refl)

-- Lists of fields, as they stand in bytes.
use Rattle.std.proofs.Common.{◌≡◌, ℕ, zero, suc, ◌+◌, ◌-◌, ◌*◌, ◌<◌, ◌≤◌, List, [], ◌∷◌, ◌++◌, length, get_or, drop, replicate, sym, refl, ap, ◌∙◌, add-zero, add_assoc, zero-add, arith}
use Rattle.std.proofs.lemmas.List.{drop_more, get_or_past}
use Rattle.std.proofs.lemmas.List.FromFn.{length-map-range_with_len, get_or-map-range_with_len}
use Rattle.record.specs.Bytes.{field_at}
use Rattle.notation.specs.Tables.{Table}
use Rattle.record.specs.Decoding.{tabled}
use Rattle.procedure.specs.Layout.{fields_in, Neat}

-- the m fields from `at` on
abbrev pub fields_from : List ℕ → ℕ → ℕ → List ℕ
fields_from b at zero = []
fields_from b at (suc m) = field_at b at ∷ fields_from b (at + 2) m

pub length_fields : (b : List ℕ) (at m : ℕ) → length (fields_from b at m) ≡ m
length_fields b at zero = refl
length_fields b at (suc m) = ap suc (length_fields b (at + 2) m)

-- a file's fields are those up to a place and those from there
fields-more : (b : List ℕ) (at : ℕ) → at + 2 ≤ length b → fields_in (drop at b) ≡ field_at b at ∷ fields_in (drop (at + 2) b)
fields-more b at h =
    let p : at < length b = omega arith in
    let q : at + 1 < length b = omega arith in
    rw (drop_more b at 0 p, drop_more b (at + 1) 0 q, add_assoc at 1 1) refl

pub fields_split : (b : List ℕ) (at m : ℕ) → at + 2 * m ≤ length b → fields_in (drop at b) ≡ fields_from b at m ++ fields_in (drop (at + 2 * m) b)
fields_split b at zero h = rw add-zero refl
fields_split b at (suc m) h =
    let e : at + 2 * suc m ≡ at + 2 + 2 * m = omega arith in
    rw e (fields-more b at (omega arith) ∙ ap (λ r. field_at b at ∷ r) (fields_split b (at + 2) m (omega arith)))

-- a table of n elements that f gives
module _ {X : Type 0} (size : ℕ) (blank : X) (n : ℕ) (f : ℕ → X) where
  pub table_length : length (tabled size blank n f).items ≡ n
  table_length = length-map-range_with_len f 0 n

  pub table_below : (k : ℕ) → k < n → get_or (tabled size blank n f).items k blank ≡ f k
  table_below k h = get_or-map-range_with_len f 0 n k k blank h (zero-add k)

  pub table-past : (k : ℕ) → n ≤ k → get_or (tabled size blank n f).items k blank ≡ blank
  table-past k h = get_or_past (tabled size blank n f).items k blank (rw table_length h)

  pub table-neat : n ≤ size → Neat size blank (tabled size blank n f)
  table-neat few = record { fits = rw table_length few; past = rw table_length refl }

-- a table that holds xs and is blank elsewhere
abbrev pub padded : {X : Type 0} → ℕ → X → List X → Table X
padded size blank xs = record { items = xs; spare = replicate (size - length xs) blank }

pub neat-padded : {X : Type 0} (size : ℕ) (blank : X) (t : Table X) → Neat size blank t → padded size blank t.items ≡ t
neat-padded {X} size blank t h = ap (λ (r : List X). let u : Table X = record { items = t.items; spare = r } in u) (sym h.past)

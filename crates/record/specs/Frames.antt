-- Questions 2 to 4: the frame of the record that begins at `at`.
use Rattle.std.specs.Prelude.{ℕ, ◌+◌, Bool, false, ◌&&◌, List, [], ◌∷◌, length, is_some, Some, None, Option, ◌==◌, nat_le}
use Rattle.record.specs.Bytes.{field_at}
use Rattle.record.specs.Kinds.{kind_of, length_of, count_at}
use Rattle.record.specs.declared.kind.Kind.{Kind}
use Rattle.fault.specs.Asking.{Asked}
use Rattle.fault.specs.declared.fault.Question.TheVariants.{RecordWhole, KindKnown, LengthExact}

-- question 2: length and kind are there, the length is at least 2, and the file has that many bytes
abbrev pub whole : List ℕ → ℕ → Bool
whole b at = nat_le (at + 4) (length b) && (nat_le 2 (field_at b at) && nat_le (at + 2 + field_at b at) (length b))

-- question 3: the number stands for a kind
abbrev pub known : List ℕ → ℕ → Bool
known b at = is_some (kind_of (field_at b (at + 2)))

-- the length is that of a record of the kind and its count
abbrev pub exact_as : Option Kind → List ℕ → ℕ → Bool
exact_as None b at = false
exact_as (Some k) b at = field_at b at == length_of k (count_at k b at)

-- question 4
abbrev pub exact : List ℕ → ℕ → Bool
exact b at = exact_as (kind_of (field_at b (at + 2))) b at

-- the questions on the frame of the record at `at`, whose number is the place
abbrev pub frame_asks : List ℕ → ℕ → ℕ → List Asked
frame_asks b at place =
    record { question = RecordWhole; place = place; yes = whole b at }
    ∷ record { question = KindKnown; place = place; yes = known b at }
    ∷ record { question = LengthExact; place = place; yes = exact b at } ∷ []

-- The list that a roster tells of a type, value by value.
use Rattle.std.proofs.Common.{◌≡◌, ℕ, ◌-◌, ◌<◌, ◌≤◌, List, [], ◌∷◌, ◌++◌, length, take, get_or, Option, Some, None, sym, ap, ◌∙◌, refl, arith}
use Rattle.std.proofs.lemmas.Grind.{common_steps}
use Rattle.std.proofs.lemmas.List.{take_more, take_all, length-take-le}
use Rattle.std.proofs.lemmas.Option.{slice_get_within, slice_get-get_or, get_or_from_slice_get}
use Rattle.std.specs.List.{slice_get}
use Rattle.roster.specs.Values.{count_of, value_at}
use Rattle.diagram.specs.Valued.{fitting}

-- the values, none where the type is unknown
abbrev pub listed : Option (List ℕ) → List ℕ
listed None = []
listed (Some xs) = xs

-- the first n of the values of a type that has `count`
pub record Begun (told : Option (List ℕ)) (count n : ℕ) (items : List ℕ) : Type 0 where
  pub counted : count_of told ≡ Some count
  pub held : items ≡ take n (listed told)

pub begun-none : (told : Option (List ℕ)) (count : ℕ) → Some count ≡ count_of told → Begun told count 0 []
begun-none told count e = record { counted = sym e; held = refl }

length-listed : (told : Option (List ℕ)) (count : ℕ) → count_of told ≡ Some count → length (listed told) ≡ count
length-listed None count e = cc
length-listed (Some xs) count e = cc

value-listed : (told : Option (List ℕ)) (p x : ℕ) → value_at told p ≡ Some x → slice_get (listed told) (p - 1) ≡ Some x
value-listed None p x e = cc
value-listed (Some xs) p x e = grind arith

pub begun-more : (told : Option (List ℕ)) (count p x : ℕ) (items : List ℕ) → Begun told count (p - 1) items → 1 ≤ p → Some x ≡ value_at told p → Begun told count p (items ++ x ∷ [])
begun-more told count p x items b l e =
    let at = value-listed told p x (sym e) in
    let lt = slice_get_within (listed told) (p - 1) x at in
    let here = get_or_from_slice_get (listed told) (p - 1) x 0 at in
    record {
      counted = b.counted;
      held = ap (λ ys. ys ++ x ∷ []) b.held ∙ ap (λ y. take (p - 1) (listed told) ++ y ∷ []) (sym here) ∙ sym (take_more (listed told) (p - 1) 0 lt) ∙ ap (λ n. take n (listed told)) (omega arith);
    }

pub value-there : (told : Option (List ℕ)) (count p : ℕ) → count_of told ≡ Some count → 1 ≤ p → p ≤ count → value_at told p ≡ Some (get_or (listed told) (p - 1) 0)
value-there None count p e l m = cc
value-there (Some xs) count p e l m =
    let n : length xs ≡ count = cc in
    grind (arith, common_steps, slice_get-get_or xs (p - 1) 0)

pub begun-room : (told : Option (List ℕ)) (count n : ℕ) (items : List ℕ) → Begun told count n items → n < count → length items ≡ n
begun-room told count n items b l =
    let m = length-listed told count b.counted in
    ap length b.held ∙ length-take-le n (listed told) (omega arith)

listed-fits : (told : Option (List ℕ)) (count : ℕ) → count_of told ≡ Some count → count ≤ 16 → listed told ≡ fitting told
listed-fits None count e l = refl
listed-fits (Some xs) count e l = let m : length xs ≡ count = cc in grind arith

pub begun-all : (told : Option (List ℕ)) (count n : ℕ) (items : List ℕ) → Begun told count n items → n ≡ count → count ≤ 16 → items ≡ fitting told
begun-all told count n items b e l =
    let m = length-listed told count b.counted in
    b.held ∙ take_all n (listed told) (omega arith) ∙ listed-fits told count b.counted l

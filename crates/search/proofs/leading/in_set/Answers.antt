-- The library's search of a slice is the set's.
use Rattle.std.proofs.Common.{◌≡◌, refl, ap, ap₂, ◌∙◌, ℕ, Bool, ◌||◌, List, [], ◌∷◌, ◌==◌, arith}
use Rattle.std.proofs.lemmas.Bool.Decides.{nat_tests}
use Rattle.std.specs.List.{list_any}
use Rattle.rules.specs.Rules.{in_set}
use Rattle.search.proofs.leading.in_set.Goals as goal

swapped : (x y : ℕ) → x == y ≡ y == x
swapped x y = grind (arith, nat_tests)

any-is : (label : ℕ) (xs : List ℕ) → list_any (λ y. y == label) xs ≡ in_set label xs
any-is label [] = refl
any-is label (x ∷ xs) = ap₂ (λ (a b : Bool). a || b) (swapped x label) (any-is label xs)

pub returns : goal.returns
returns c = c.contains.ensures.value ∙ any-is c.args.label c.as_slice.result.now ∙ ap (in_set c.args.label) c.as_slice.ensures.is_what_it_holds

-- All ten diagrams.
use Rattle.std.proofs.Common.{◌≡◌, refl, sym, ap, subst, ℕ, nat_lt, List, [], ◌∷◌, Option}
use Rattle.std.proofs.Math.Nat.{zero-add}
use Rattle.host.specs.Tallying.{events_of, tally_answer}
use Rattle.host.specs.declared.tally.Tally.{Tally}
use Rattle.worked.specs.Worked.{Types, TenDiagrams}
use Rattle.worked.proofs.Told.{type_0_told, table_once, by_table, none-there}
use Rattle.worked.proofs.Axles.{first, second, third}
use Rattle.worked.proofs.Sides.{apart, too-many, together}
use Rattle.worked.proofs.Kept.{handed-over, either-side}
use Rattle.worked.proofs.Held.{once, all-together, waited}

ten : TenDiagrams (type_0_told (1 ∷ 2 ∷ 3 ∷ [])) (type_0_told (1 ∷ 2 ∷ [])) (by_table table_once)
ten = record {
  numbers = record { sixteen = λ place. refl; seventeen = λ place. refl };
  settings = record {
    axles_are = refl;
    no_other_axles = λ n. refl;
    wheels_are = refl;
    no_other_wheels = λ n. refl;
    once_counts = λ w e v. ap (λ (n : ℕ). nat_lt n 1) (zero-add (events_of 8 w));
    no_other_guard = λ w n e v. ap (λ (t : Option Tally). tally_answer t w) (none-there 31 n);
  };
  one = first;
  two = second;
  three = third;
  four = apart;
  four_under_1 = too-many;
  five = together;
  six = handed-over;
  seven = either-side;
  eight = once;
  nine = all-together;
  ten = waited;
}

-- and so under whatever tells and means the same
pub ten-under : (axles wheels : Types) (entries : List (Option Tally)) → axles ≡ type_0_told (1 ∷ 2 ∷ 3 ∷ []) → wheels ≡ type_0_told (1 ∷ 2 ∷ []) → entries ≡ table_once
    → TenDiagrams axles wheels (by_table entries)
ten-under axles wheels entries a w o =
    subst (λ (told : Types). TenDiagrams told wheels (by_table entries)) (sym a)
    (subst (λ (told : Types). TenDiagrams (type_0_told (1 ∷ 2 ∷ 3 ∷ [])) told (by_table entries)) (sym w)
    (subst (λ (l : List (Option Tally)). TenDiagrams (type_0_told (1 ∷ 2 ∷ 3 ∷ [])) (type_0_told (1 ∷ 2 ∷ [])) (by_table l)) (sym o) ten))

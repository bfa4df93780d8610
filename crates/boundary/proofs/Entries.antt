-- Settings in numbers, one setting more at a time.
use Rattle.std.proofs.Common.{◌≡◌, ◌≢◌, refl, sym, ◌∙◌, ap, subst, ℕ, ◌<◌, ◌≤◌, List, [], ◌∷◌, ◌++◌, length, cond, ◌&&◌, nat_le, eqb, leb, set, Option, Some, None, Ok, Result, ⊎_elim, slice_index, arith, get_or-set_other, get_or-set_same}
use Rattle.std.proofs.lemmas.Bool.Decides.{eqb_tells, leb_tells}
use Rattle.std.specs.List.{range_with_len}
use Rattle.fault.specs.Asking.{Asked, asked_of_fields, refusal, answer_or, IfRefused}
use Rattle.fault.specs.declared.fault.Fault.{Fault}
use Rattle.fault.specs.declared.fault.Question.{Question}
use Rattle.fault.specs.declared.fault.Question.TheVariants.{SettingInRange}
use Rattle.host.specs.Limiting.{limit_asks, limit_numbered}
use Rattle.host.specs.Tallying.{tally_asks}
use Rattle.host.specs.declared.limit.Limit.{Limit}
use Rattle.host.specs.declared.tally.Tally.{Tally}
use Rattle.boundary.specs.Texts.{answer_numbers}
use Rattle.boundary.specs.Settings.{field, entry_set, entries_of, range_set_answer, ranges_numbers, ranges_told, limit_set_answer, limits_numbers, limits_set, tally_set_answer, tallies_numbers, tallies_set}

-- what is said of one setting more
pub ranges-more : (x more : List ℕ) → length x ≡ 3
    → ranges_numbers (x ++ more) ≡ answer_numbers (range_set_answer (slice_index x 0) (slice_index x 1) (slice_index x 2)) ++ ranges_numbers more
ranges-more [] more l = absurd (omega arith)
ranges-more (a ∷ []) more l = absurd (omega arith)
ranges-more (a ∷ b ∷ []) more l = absurd (omega arith)
ranges-more (a ∷ b ∷ c ∷ []) more l = refl
ranges-more (a ∷ b ∷ c ∷ d ∷ x) more l = absurd (omega arith)

pub limits-more : (x more : List ℕ) → length x ≡ 4
    → limits_numbers (x ++ more) ≡ answer_numbers (limit_set_answer (slice_index x 0) (slice_index x 1) (slice_index x 2) (slice_index x 3)) ++ limits_numbers more
limits-more [] more l = absurd (omega arith)
limits-more (a ∷ []) more l = absurd (omega arith)
limits-more (a ∷ b ∷ []) more l = absurd (omega arith)
limits-more (a ∷ b ∷ c ∷ []) more l = absurd (omega arith)
limits-more (a ∷ b ∷ c ∷ d ∷ []) more l = refl
limits-more (a ∷ b ∷ c ∷ d ∷ e ∷ x) more l = absurd (omega arith)

pub tallies-more : (x more : List ℕ) → length x ≡ 4
    → tallies_numbers (x ++ more) ≡ answer_numbers (tally_set_answer (slice_index x 0) (slice_index x 1) (slice_index x 2)) ++ tallies_numbers more
tallies-more [] more l = absurd (omega arith)
tallies-more (a ∷ []) more l = absurd (omega arith)
tallies-more (a ∷ b ∷ []) more l = absurd (omega arith)
tallies-more (a ∷ b ∷ c ∷ []) more l = absurd (omega arith)
tallies-more (a ∷ b ∷ c ∷ d ∷ []) more l = refl
tallies-more (a ∷ b ∷ c ∷ d ∷ e ∷ x) more l = absurd (omega arith)

-- and what it sets
pub told-more : (told : ℕ → Option (List ℕ)) (x more : List ℕ) → length x ≡ 3
    → ranges_told told (x ++ more)
    ≡ ranges_told (entry_set (range_set_answer (slice_index x 0) (slice_index x 1) (slice_index x 2)) (field (slice_index x 0)) (Some (range_with_len (field (slice_index x 1)) (field (slice_index x 2)))) told) more
told-more told [] more l = absurd (omega arith)
told-more told (a ∷ []) more l = absurd (omega arith)
told-more told (a ∷ b ∷ []) more l = absurd (omega arith)
told-more told (a ∷ b ∷ c ∷ []) more l = refl
told-more told (a ∷ b ∷ c ∷ d ∷ x) more l = absurd (omega arith)

pub limits-set-more : (limits : ℕ → Option Limit) (x more : List ℕ) → length x ≡ 4
    → limits_set limits (x ++ more)
    ≡ limits_set (entry_set (limit_set_answer (slice_index x 0) (slice_index x 1) (slice_index x 2) (slice_index x 3)) (field (slice_index x 0)) (limit_numbered (field (slice_index x 1)) (field (slice_index x 2)) (field (slice_index x 3))) limits) more
limits-set-more limits [] more l = absurd (omega arith)
limits-set-more limits (a ∷ []) more l = absurd (omega arith)
limits-set-more limits (a ∷ b ∷ []) more l = absurd (omega arith)
limits-set-more limits (a ∷ b ∷ c ∷ []) more l = absurd (omega arith)
limits-set-more limits (a ∷ b ∷ c ∷ d ∷ []) more l = refl
limits-set-more limits (a ∷ b ∷ c ∷ d ∷ e ∷ x) more l = absurd (omega arith)

pub tallies-set-more : (tallies : ℕ → Option Tally) (x more : List ℕ) → length x ≡ 4
    → tallies_set tallies (x ++ more)
    ≡ tallies_set (entry_set (tally_set_answer (slice_index x 0) (slice_index x 1) (slice_index x 2)) (field (slice_index x 0)) (Some (record { label = field (slice_index x 1); bound = field (slice_index x 2); told = 0 })) tallies) more
tallies-set-more tallies [] more l = absurd (omega arith)
tallies-set-more tallies (a ∷ []) more l = absurd (omega arith)
tallies-set-more tallies (a ∷ b ∷ []) more l = absurd (omega arith)
tallies-set-more tallies (a ∷ b ∷ c ∷ []) more l = absurd (omega arith)
tallies-set-more tallies (a ∷ b ∷ c ∷ d ∷ []) more l = refl
tallies-set-more tallies (a ∷ b ∷ c ∷ d ∷ e ∷ x) more l = absurd (omega arith)

-- numbers that are too few for a setting come to nothing
pub ranges-end : (x : List ℕ) → length x < 3 → ranges_numbers x ≡ []
ranges-end [] l = refl
ranges-end (a ∷ []) l = refl
ranges-end (a ∷ b ∷ []) l = refl
ranges-end (a ∷ b ∷ c ∷ x) l = absurd (omega arith)

pub limits-end : (x : List ℕ) → length x < 4 → limits_numbers x ≡ []
limits-end [] l = refl
limits-end (a ∷ []) l = refl
limits-end (a ∷ b ∷ []) l = refl
limits-end (a ∷ b ∷ c ∷ []) l = refl
limits-end (a ∷ b ∷ c ∷ d ∷ x) l = absurd (omega arith)

pub tallies-end : (x : List ℕ) → length x < 4 → tallies_numbers x ≡ []
tallies-end [] l = refl
tallies-end (a ∷ []) l = refl
tallies-end (a ∷ b ∷ []) l = refl
tallies-end (a ∷ b ∷ c ∷ []) l = refl
tallies-end (a ∷ b ∷ c ∷ d ∷ x) l = absurd (omega arith)

pub told-end : (told : ℕ → Option (List ℕ)) (x : List ℕ) → length x < 3 → ranges_told told x ≡ told
told-end told [] l = refl
told-end told (a ∷ []) l = refl
told-end told (a ∷ b ∷ []) l = refl
told-end told (a ∷ b ∷ c ∷ x) l = absurd (omega arith)

pub limits-set-end : (limits : ℕ → Option Limit) (x : List ℕ) → length x < 4 → limits_set limits x ≡ limits
limits-set-end limits [] l = refl
limits-set-end limits (a ∷ []) l = refl
limits-set-end limits (a ∷ b ∷ []) l = refl
limits-set-end limits (a ∷ b ∷ c ∷ []) l = refl
limits-set-end limits (a ∷ b ∷ c ∷ d ∷ x) l = absurd (omega arith)

pub tallies-set-end : (tallies : ℕ → Option Tally) (x : List ℕ) → length x < 4 → tallies_set tallies x ≡ tallies
tallies-set-end tallies [] l = refl
tallies-set-end tallies (a ∷ []) l = refl
tallies-set-end tallies (a ∷ b ∷ []) l = refl
tallies-set-end tallies (a ∷ b ∷ c ∷ []) l = refl
tallies-set-end tallies (a ∷ b ∷ c ∷ d ∷ x) l = absurd (omega arith)

-- entries that are f and then are g, which is f with x at k
pub at-one : {X : Type 0} (f g : ℕ → X) (k : ℕ) (x : X) → g k ≡ x → ((j : ℕ) → j ≢ k → g j ≡ f j) → (j : ℕ) → g j ≡ cond (eqb j k) x (f j)
at-one f g k x here others j =
    ⊎_elim
    (λ same. ap g same.1 ∙ here ∙ ap (λ b. cond b x (f j)) (sym same.0))
    (λ other. others j other.1 ∙ ap (λ b. cond b x (f j)) (sym other.0))
    (eqb_tells j k)

-- the same of a table with x at k
pub at-place : {X : Type 0} (xs ys : List (Option X)) (k : ℕ) (x : Option X) → k < length xs → ys ≡ set xs k x → (j : ℕ) → entries_of ys j ≡ cond (eqb j k) x (entries_of xs j)
at-place xs ys k x below is =
    at-one (entries_of xs) (entries_of ys) k x (ap (λ zs. entries_of zs k) is ∙ get_or-set_same xs k x None below)
    (λ j ne. ap (λ zs. entries_of zs j) is ∙ get_or-set_other xs k j x None ne)

-- what a host or a roster is after a setting, which may have been refused
pub entry-set : {S X : Type 0} (view : S → ℕ → X) (o : Option Fault) (r : Result (Unit {0}) Fault) (s s' : S) (k : ℕ) (x : X) → r ≡ answer_or o tt → IfRefused r (s' ≡ s)
    → (o ≡ None → r ≡ Ok tt → (j : ℕ) → view s' j ≡ cond (eqb j k) x (view s j)) → view s' ≡ entry_set (answer_or o 0) k x (view s)
entry-set view None r s s' k x is same each = λ i. λ j. each refl is j i
entry-set view (Some f) r s s' k x is same each = ap view (subst (λ q. IfRefused q (s' ≡ s)) is same)

-- the guard of a setting that is not refused is in the table
first-yes : (n m : ℕ) (asks : List Asked) (q : Question) (p : ℕ) → refusal (record { question = q; place = p; yes = leb n m } ∷ asks) ≡ None → n ≤ m
first-yes n m asks q p none =
    ⊎_elim
    (λ below. below.1)
    (λ above. absurd (cc (ap (λ b. cond b (refusal asks) (Some (record { question = q; place = p }))) above.0)))
    (leb_tells n m)

pub limit-guard : (guard operand comparison constant : ℕ) → refusal (limit_asks guard operand comparison constant) ≡ None → guard < 32
limit-guard guard operand comparison constant none = omega (arith, first-yes guard 31 (asked_of_fields SettingInRange 1 ((nat_le 1 operand && nat_le operand 4) ∷ nat_le comparison 2 ∷ nat_le constant 65535 ∷ [])) SettingInRange 0 none)

pub tally-guard : (guard label bound : ℕ) → refusal (tally_asks guard label bound) ≡ None → guard < 32
tally-guard guard label bound none = omega (arith, first-yes guard 31 (asked_of_fields SettingInRange 1 (nat_le label 255 ∷ nat_le bound 65535 ∷ [])) SettingInRange 0 none)

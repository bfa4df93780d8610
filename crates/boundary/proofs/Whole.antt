-- What is said in one call, from the first number to the last.
use Rattle.std.proofs.Common.{◌≡◌, ◌≢◌, refl, sym, ◌∙◌, ap, ℕ, zero, suc, List, length, min, Option, None, replicate, get_or}
use Rattle.host.specs.Meanings.{Meaning}
use Rattle.host.specs.declared.limit.Limit.{Limit}
use Rattle.host.specs.declared.tally.Tally.{Tally}
use Rattle.procedure.specs.Drawings.{Drawing}
use Rattle.procedure.specs.Reading.{reading, left_by}
use Rattle.boundary.specs.Texts.{Page, page, said, text_over}
use Rattle.boundary.specs.Settings.{none_set, entries_of, ranges_numbers, ranges_told, limits_numbers, limits_set, limits_meaning, tallies_numbers, tallies_set, tallies_meaning, settings_numbers, host_meaning}
use Rattle.boundary.specs.Playing.{read_text, unopened, calls_numbers, play_text}
use Rattle.boundary.proofs.Pages.{four-over}

-- a table of absent entries has none
pub none-in : {X : Type 0} (n k : ℕ) → get_or (replicate n None) k None ≡ none_set {X = X} k
none-in zero k = refl
none-in (suc n) zero = refl
none-in (suc n) (suc k) = none-in n k

-- the host that a number means: by limits
pub limits-by : (host : ℕ) (ns : List ℕ) → host ≡ 0 → limits_numbers ns ≡ settings_numbers host ns
limits-by host ns is = ap (λ h. settings_numbers h ns) (sym is)

pub limits-mean : (host : ℕ) (ns : List ℕ) (before after : List (Option Limit)) → host ≡ 0 → before ≡ replicate 32 None → entries_of after ≡ limits_set (entries_of before) ns
    → limits_meaning (entries_of after) ≡ host_meaning host ns
limits-mean host ns before after is none set =
    let fresh : entries_of before ≡ none_set {X = Limit} = ap entries_of none ∙ (λ i. λ k. none-in {X = Limit} 32 k i) in
    ap limits_meaning (set ∙ ap (λ (f : ℕ → Option Limit). limits_set f ns) fresh) ∙ ap (λ h. host_meaning h ns) (sym is)

-- or by tallies
pub tallies-by : (host : ℕ) (ns : List ℕ) → host ≢ 0 → tallies_numbers ns ≡ settings_numbers host ns
tallies-by zero ns other = absurd (other refl)
tallies-by (suc n) ns other = refl

pub tallies-mean : (host : ℕ) (ns : List ℕ) (before after : List (Option Tally)) → host ≢ 0 → before ≡ replicate 32 None → entries_of after ≡ tallies_set (entries_of before) ns
    → tallies_meaning (entries_of after) ≡ host_meaning host ns
tallies-mean zero ns before after other none set = absurd (other refl)
tallies-mean (suc n) ns before after other none set =
    let fresh : entries_of before ≡ none_set {X = Tally} = ap entries_of none ∙ (λ i. λ k. none-in {X = Tally} 32 k i) in
    ap tallies_meaning (set ∙ ap (λ (f : ℕ → Option Tally). tallies_set f ns) fresh)

-- the four parts, each said where the one before it ended
pub played : (host : ℕ) (file ranges settings calls places : List ℕ) (begun answers : List ℕ) (d : Drawing) (values unknown : ℕ → Option (List ℕ)) (m : Meaning) (p q r s : Page)
    → begun ≡ read_text file → d ≡ left_by (reading file) → values ≡ ranges_told unknown ranges → ((ty : ℕ) → unknown ty ≡ None)
    → answers ≡ settings_numbers host settings → m ≡ host_meaning host settings
    → p ≡ said begun (page places 0) → q ≡ said (ranges_numbers ranges) p → r ≡ said answers q → s ≡ said (calls_numbers d values (unopened m) calls) r
    → s ≡ page (text_over (play_text host file ranges settings calls) places) (min (length (play_text host file ranges settings calls)) (length places))
played host file ranges settings calls places begun answers d values unknown m p q r s first draws told none set means one two three four =
    let values-are : values ≡ ranges_told none_set ranges = told ∙ (λ i. ranges_told (λ ty. none ty i) ranges) in
    let t : List ℕ = ranges_numbers ranges in
    let u : List ℕ = settings_numbers host settings in
    let v : List ℕ = calls_numbers (left_by (reading file)) (ranges_told none_set ranges) (unopened (host_meaning host settings)) calls in
    let calls-are : calls_numbers d values (unopened m) calls ≡ v = λ i. calls_numbers (draws i) (values-are i) (unopened (means i)) calls in
    four-over (read_text file) t u v places p q r s
    (one ∙ (λ i. said (first i) (page places 0))) two (three ∙ (λ i. said (set i) q)) (four ∙ (λ i. said (calls-are i) r))

-- The number that a word writes.
use Rattle.std.proofs.Common.{◌≡◌, refl, sym, ap, ◌∙◌, ℕ, ◌<◌, true, false, ◌&&◌, List, [], ◌∷◌, length, Some, None, Result, Ok, Err, ⊎_elim, Bor, arith}
use Rattle.std.specs.List.{list_all}
use Rattle.std.specs.Result.{result_ok, MatchResult}
use Rattle.std.specs.Char.{is_ascii_digit}
use Rattle.std.specs.Str.{all_ascii_digits, IsUtf8}
use Rattle.std.specs.Str.Parse.{digits_value, ParsesUnsigned}
use Rattle.std.proofs.lemmas.Bool.{cases_lt}
use Rattle.std.proofs.lemmas.Bool.Decides.{nat_tests}
use Rattle.std.proofs.lemmas.Str.{IsUtf8-from_ascii}
use Rattle.std.proofs.lemmas.Str.Parse.{IsNumeralModel, numerals_by_value, tells_all_ascii_digits, parse_digits}
use Rattle.std.proofs.lemmas.Fmt.{IsAscii-from_digits}
use Rattle.script.specs.Numbers.{number_of}

-- digits and their value, in the words of the definition
pub own : IsNumeralModel (λ ds. all_ascii_digits ds ≡ true) (digits_value 10)
own = numerals_by_value (λ ds. all_ascii_digits ds ≡ true) tells_all_ascii_digits

-- a test of each byte
pub list_all-digits : (word : List ℕ) → list_all is_ascii_digit word ≡ all_ascii_digits word
list_all-digits [] = refl
list_all-digits (b ∷ bs) = ap (λ t. is_ascii_digit b && t) (list_all-digits bs)

-- digits are a text
pub digits_are_text : (word : List ℕ) → all_ascii_digits word ≡ true → IsUtf8 word
digits_are_text word e = IsUtf8-from_ascii word (IsAscii-from_digits word (own.to word e))

-- a word with another byte writes no number
pub number_of-other : (word : List ℕ) → all_ascii_digits word ≡ false → number_of word ≡ None
number_of-other word e = grind (arith, nat_tests)

-- what `parse` reads in a word of digits
pub number_of-parse : {E : Type 0} (word : List ℕ) (r : Result ℕ E) → all_ascii_digits word ≡ true → ParsesUnsigned 16 10 word r → result_ok r ≡ number_of word
number_of-parse {E} word (Ok x) e h =
    let p = parse_digits own {E = E} 16 word (Ok x) h e in
    let low : 0 < length word = p.0.0 in
    let high : digits_value 10 word < 65536 = p.0.1 in
    let is : x ≡ digits_value 10 word = p.1 in
    grind (arith, nat_tests)
number_of-parse {E} word (Err f) e h =
    let p = parse_digits own {E = E} 16 word (Err f) h e in
    ⊎_elim
    (λ low. ⊎_elim (λ high. absurd (p (low, high))) (λ high. grind (arith, nat_tests)) (cases_lt (digits_value 10 word) 65536))
    (λ low. grind (arith, nat_tests))
    (cases_lt 0 (length word))

-- `from_utf8` and `ok` of a text give it back
pub text_there : {E : Type 0} (bs : List ℕ) (P : E → Type 0) (r : Result (Bor (List ℕ)) E) → MatchResult r (λ s. (s.now ≡ bs) × IsUtf8 bs) (λ e. (¬ (IsUtf8 bs)) × P e) → IsUtf8 bs → result_ok r ≡ None → ⊥
text_there bs P (Ok s) h t e = cc
text_there bs P (Err f) h t e = h.0 t

-- the same bytes
pub text_same : {E : Type 0} (bs : List ℕ) (P : E → Type 0) (r : Result (Bor (List ℕ)) E) (s : Bor (List ℕ)) → MatchResult r (λ s. (s.now ≡ bs) × IsUtf8 bs) (λ e. (¬ (IsUtf8 bs)) × P e) → result_ok r ≡ Some s → s.now ≡ bs
text_same bs P (Ok u) s h e = let same : u ≡ s = cc in ap (λ x. x.now) (sym same) ∙ h.0
text_same bs P (Err f) s h e = cc

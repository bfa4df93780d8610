-- Texts of calls, read again.
use Rattle.std.proofs.Common.{◌≡◌, refl, ap, ◌∙◌, ℕ, ◌<◌, ◌≤◌, true, not, ◌&&◌, List, [], ◌∷◌, ◌++◌, length, map, Some, Ok, append-nil, arith}
use Rattle.std.specs.Prelude.{decimal}
use Rattle.std.specs.List.{All, list_all}
use Rattle.std.specs.Char.{is_ascii_digit}
use Rattle.std.specs.Str.{all_ascii_digits}
use Rattle.std.proofs.lemmas.Bool.{and_parts, and_from, lt-ltb, le-ltb}
use Rattle.std.proofs.lemmas.Bool.Decides.{nat_tests}
use Rattle.std.proofs.lemmas.Fmt.{decimal_nonempty, digits_decimal, digits_value-decimal}
use Rattle.std.proofs.lemmas.List.{length-map}
use Rattle.std.proofs.lemmas.List.Elements.{All-head, All-tail}
use Rattle.text.specs.Texts.{◌⌢◌}
use Rattle.script.specs.Words.{is_blank, is_hash, words}
use Rattle.script.specs.Numbers.{number_of, numbers_of}
use Rattle.script.specs.Names.{text_of_name, fewest_of, most_of}
use Rattle.script.specs.Lines.{call_by, numbered_call, call_of, line_of, line_by}
use Rattle.script.specs.Texts.{spaced}
use Rattle.script.specs.Laws.{stands_alone}
use Rattle.script.specs.declared.name.Name.{Name}
use Rattle.script.specs.declared.name.Name.TheVariants.{Range, Limit, Tally, Open, Offer, Raw, Menu, Rows}
use Rattle.script.proofs.Digits.{own}
use Rattle.script.proofs.Parts.{is_word_there}
use Rattle.script.proofs.Standing.{words-blank, words-alone}

digit_is_plain : (b : ℕ) → is_ascii_digit b ≡ true → (not (is_blank b) && not (is_hash b)) ≡ true
digit_is_plain b e = grind (arith, nat_tests)

digits_are_plain : (word : List ℕ) → all_ascii_digits word ≡ true → list_all (λ byte. not (is_blank byte) && not (is_hash byte)) word ≡ true
digits_are_plain [] t = refl
digits_are_plain (b ∷ bs) t =
    let here = and_parts (is_ascii_digit b) (all_ascii_digits bs) t in
    and_from _ _ (digit_is_plain b here.0) (digits_are_plain bs here.1)

-- a number is a word that stands alone
decimal_alone : (n : ℕ) → n < 65536 → stands_alone (decimal n) ≡ true
decimal_alone n l = and_from _ _ (is_word_there (decimal n) (decimal_nonempty n (omega arith))) (digits_are_plain (decimal n) (digits_decimal own n (omega arith)))

-- the word of a number writes that number
number_of-decimal : (n : ℕ) → n < 65536 → number_of (decimal n) ≡ Some n
number_of-decimal n l = rw (digits_value-decimal own n (omega arith), digits_decimal own n (omega arith), lt-ltb 0 (length (decimal n)) (decimal_nonempty n (omega arith)), lt-ltb n 65536 l) refl

numbers_more : (n : ℕ) (ns : List ℕ) (words : List (List ℕ)) → number_of (decimal n) ≡ Some n → numbers_of words ≡ Some ns → numbers_of (decimal n ∷ words) ≡ Some (n ∷ ns)
numbers_more n ns words e es = rw (e, es) refl

-- the words of numbers write those
numbers_of-decimal : (ns : List ℕ) → All (λ n. n < 65536) ns → numbers_of (map decimal ns) ≡ Some ns
numbers_of-decimal [] h = refl
numbers_of-decimal (n ∷ ns) h = numbers_more n ns (map decimal ns) (number_of-decimal n (All-head (λ m. m < 65536) n ns h)) (numbers_of-decimal ns (All-tail (λ m. m < 65536) n ns h))

-- a word and numbers behind it
words-spaced : (word : List ℕ) (ns : List ℕ) → stands_alone word ≡ true → All (λ n. n < 65536) ns → words (word ++ spaced decimal ns) ≡ word ∷ map decimal ns
words-spaced word [] t h = ap words (append-nil word) ∙ words-alone word t
words-spaced word (n ∷ ns) t h =
    words-blank word 32 (decimal n ++ spaced decimal ns) t refl
    ∙ ap (λ l. word ∷ l) (words-spaced (decimal n) ns (decimal_alone n (All-head (λ m. m < 65536) n ns h)) (All-tail (λ m. m < 65536) n ns h))

-- a name stands alone
name_alone : (name : Name) → stands_alone (text_of_name name) ≡ true
name_alone Range = refl
name_alone Limit = refl
name_alone Tally = refl
name_alone Open = refl
name_alone Offer = refl
name_alone Raw = refl
name_alone Menu = refl
name_alone Rows = refl

-- the text of a name calls by that name
call_of-name : (name : Name) (args : List (List ℕ)) → call_of (text_of_name name) args ≡ numbered_call name args
call_of-name Range args = refl
call_of-name Limit args = refl
call_of-name Tally args = refl
call_of-name Open args = refl
call_of-name Offer args = refl
call_of-name Raw args = refl
call_of-name Menu args = refl
call_of-name Rows args = refl

-- as many numbers as it takes make its call
numbered_call-decimal : (name : Name) (ns : List ℕ) → fewest_of name ≤ length ns → length ns ≤ most_of name → All (λ n. n < 65536) ns → numbered_call name (map decimal ns) ≡ Ok (call_by name ns)
numbered_call-decimal name ns few many h =
    rw (length-map ns decimal, le-ltb (length ns) (fewest_of name) few, le-ltb (most_of name) (length ns) many, numbers_of-decimal ns h) refl

-- the text of a call reads as that call
pub line_of-call : (name : Name) (ns : List ℕ) → fewest_of name ≤ length ns → length ns ≤ most_of name → All (λ n. n < 65536) ns → line_of (text_of_name name ⌢ spaced decimal ns) ≡ Ok (Some (call_by name ns))
line_of-call name ns few many h =
    ap line_by (words-spaced (text_of_name name) ns (name_alone name) h) ∙ rw (call_of-name name (map decimal ns), numbered_call-decimal name ns few many h) refl

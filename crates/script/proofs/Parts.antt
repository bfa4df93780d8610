-- The parts of a text between separators: the first of them, and those that are not empty.
use Rattle.std.proofs.Common.{◌≡◌, refl, sym, ap, ◌∙◌, ℕ, ◌+◌, ◌<◌, ◌≤◌, Bool, true, false, cond, not, List, [], ◌∷◌, length, drop, Some, None, arith, one-add}
use Rattle.std.specs.List.{filter, prefix_len, position_or_len, position, before_first, slice_split, onto_first}
use Rattle.std.proofs.lemmas.Bool.Decides.{nat_tests}
use Rattle.script.specs.Words.{is_word}

-- the parts that are not empty
abbrev pub words_by : (ℕ → Bool) → List ℕ → List (List ℕ)
words_by p xs = filter is_word (slice_split p xs)

-- the first place that `position` tells
pub position_found : (p : ℕ → Bool) (xs : List ℕ) (i : ℕ) → Some i ≡ position p xs → (i ≡ position_or_len p xs) × (i < length xs)
position_found p xs i e = (grind (arith, nat_tests), grind (arith, nat_tests))

-- no place, where it tells none
pub position_past : (p : ℕ → Bool) (xs : List ℕ) → None ≡ position p xs → length xs ≤ position_or_len p xs
position_past p xs e = grind (arith, nat_tests)

-- one separator more is skipped
skip_step : (p : ℕ → Bool) (x : ℕ) (xs : List ℕ) (b : Bool) → p x ≡ b → words_by p (drop (prefix_len p xs) xs) ≡ words_by p xs → words_by p (drop (prefix_len p (x ∷ xs)) (x ∷ xs)) ≡ words_by p (x ∷ xs)
skip_step p x xs true e ih = rw (e, one-add) ih
skip_step p x xs false e ih = simp e

-- separators at the front change nothing
pub words-skip : (p : ℕ → Bool) (xs : List ℕ) → words_by p (drop (prefix_len p xs) xs) ≡ words_by p xs
words-skip p [] = refl
words-skip p (x ∷ xs) = skip_step p x xs (p x) refl (words-skip p xs)

-- an element in front of the first part leaves the others
drop-onto_first : (x : ℕ) (parts : List (List ℕ)) → drop 1 (onto_first x parts) ≡ drop 1 parts
drop-onto_first x [] = refl
drop-onto_first x (part ∷ parts) = refl

-- what stands before a separator is the first part
first_step : (p : ℕ → Bool) (x : ℕ) (xs : List ℕ) (b : Bool) → p x ≡ b → slice_split p xs ≡ before_first p xs ∷ drop 1 (slice_split p xs) → slice_split p (x ∷ xs) ≡ before_first p (x ∷ xs) ∷ drop 1 (slice_split p (x ∷ xs))
first_step p x xs true e ih = rw e refl
first_step p x xs false e ih = rw (e, one-add, drop-onto_first x (slice_split p xs)) (ap (onto_first x) ih)

-- the first part
pub first_part : (p : ℕ → Bool) (xs : List ℕ) → slice_split p xs ≡ before_first p xs ∷ drop 1 (slice_split p xs)
first_part p [] = refl
first_part p (x ∷ xs) = first_step p x xs (p x) refl (first_part p xs)

rest_step : (p : ℕ → Bool) (x : ℕ) (xs : List ℕ) (b : Bool) → p x ≡ b → words_by p (drop (position_or_len p xs) xs) ≡ filter is_word (drop 1 (slice_split p xs)) → words_by p (drop (position_or_len p (x ∷ xs)) (x ∷ xs)) ≡ filter is_word (drop 1 (slice_split p (x ∷ xs)))
rest_step p x xs true e ih = simp e
rest_step p x xs false e ih = rw (e, one-add, drop-onto_first x (slice_split p xs)) ih

-- the words behind the first part
pub words_rest : (p : ℕ → Bool) (xs : List ℕ) → words_by p (drop (position_or_len p xs) xs) ≡ filter is_word (drop 1 (slice_split p xs))
words_rest p [] = refl
words_rest p (x ∷ xs) = rest_step p x xs (p x) refl (words_rest p xs)

-- a first part that is empty, once separators are skipped, ends the text
ends_step : (p : ℕ → Bool) (x : ℕ) (xs : List ℕ) (b : Bool) → p x ≡ b → (length (before_first p (drop (prefix_len p xs) xs)) ≡ 0 → drop (prefix_len p xs) xs ≡ []) → length (before_first p (drop (prefix_len p (x ∷ xs)) (x ∷ xs))) ≡ 0 → drop (prefix_len p (x ∷ xs)) (x ∷ xs) ≡ []
ends_step p x xs true e ih = rw (e, one-add) ih
ends_step p x xs false e ih = rw (e, e, one-add) (λ h. absurd (omega (arith, h)))

pub ends_when_empty : (p : ℕ → Bool) (xs : List ℕ) → length (before_first p (drop (prefix_len p xs) xs)) ≡ 0 → drop (prefix_len p xs) xs ≡ []
ends_when_empty p [] e = refl
ends_when_empty p (x ∷ xs) e = ends_step p x xs (p x) refl (ends_when_empty p xs) e

not-not : (b : Bool) → not (not b) ≡ b
not-not true = refl
not-not false = refl

-- the first place without a separator ends the separators at the front
pub position_or_len-not : (p : ℕ → Bool) (xs : List ℕ) → position_or_len (λ x. not (p x)) xs ≡ prefix_len p xs
position_or_len-not p xs = λ i. prefix_len (λ x. not-not (p x) i) xs

-- a part that is not empty is a word
pub is_word_there : (word : List ℕ) → 0 < length word → is_word word ≡ true
is_word_there [] l = absurd (omega (arith, l))
is_word_there (b ∷ bs) l = refl

-- the word that a text begins with, and the words behind it
pub words_step : (p : ℕ → Bool) (xs ys word rest : List ℕ) → ys ≡ drop (prefix_len p xs) xs → word ≡ before_first p ys → rest ≡ drop (position_or_len p ys) ys → 0 < length word → words_by p xs ≡ word ∷ words_by p rest
words_step p xs ys word rest skipped is left l =
    sym (words-skip p xs) ∙ ap (λ l. words_by p l) (sym skipped) ∙ ap (filter is_word) (first_part p ys)
    ∙ ap (λ w. cond (is_word w) (w ∷ filter is_word (drop 1 (slice_split p ys))) (filter is_word (drop 1 (slice_split p ys)))) (sym is)
    ∙ rw (is_word_there word l) (ap (λ l. word ∷ l) (sym (words_rest p ys) ∙ ap (λ l. words_by p l) (sym left)))

-- a text without a word, and what is left of it
pub words_end : (p : ℕ → Bool) (xs ys word rest : List ℕ) → ys ≡ drop (prefix_len p xs) xs → word ≡ before_first p ys → rest ≡ drop (position_or_len p ys) ys → length word ≡ 0 → (words_by p xs ≡ []) × (words_by p rest ≡ [])
words_end p xs ys word rest skipped is left z =
    let e : ys ≡ [] = skipped ∙ ends_when_empty p xs (ap (λ l. length (before_first p l)) (sym skipped) ∙ ap length (sym is) ∙ z) in (
      sym (words-skip p xs) ∙ ap (λ l. words_by p l) (sym skipped ∙ e),
      ap (λ l. words_by p l) (left ∙ ap (λ l. drop (position_or_len p l) l) e),
    )

count_step : (p : ℕ → Bool) (x n : ℕ) (b : Bool) (parts : List (List ℕ)) → p x ≡ b → length (filter is_word parts) ≤ n → length (filter is_word (cond b ([] ∷ parts) (onto_first x parts))) ≤ n + 1
count_step p x n true parts e ih = omega arith
count_step p x n false [] e ih = omega arith
count_step p x n false ([] ∷ parts) e ih = omega arith
count_step p x n false ((y ∷ part) ∷ parts) e ih = omega arith

-- a text has no more words than bytes
pub length-words_by : (p : ℕ → Bool) (xs : List ℕ) → length (words_by p xs) ≤ length xs
length-words_by p [] = omega arith
length-words_by p (x ∷ xs) = omega (arith, count_step p x (length xs) (p x) (slice_split p xs) refl (length-words_by p xs))

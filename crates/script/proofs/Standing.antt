-- Words that stand alone, in front of a blank, a comment or the end of a line.
use Rattle.std.proofs.Common.{◌≡◌, refl, sym, ap, ◌∙◌, ℕ, Bool, true, false, not, ◌&&◌, List, [], ◌∷◌, ◌++◌, append-nil, arith, one-add}
use Rattle.std.specs.List.{filter, list_all, before_first, slice_split, onto_first}
use Rattle.std.proofs.lemmas.Bool.{and_parts, not-true}
use Rattle.std.proofs.lemmas.Bool.Decides.{nat_tests}
use Rattle.script.specs.Words.{is_blank, is_hash, is_word, words_between, words}
use Rattle.script.specs.Laws.{stands_alone}

abbrev is_plain : ℕ → Bool
is_plain byte = not (is_blank byte) && not (is_hash byte)

-- what stands before a comment begins with plain bytes
before_first_plain : (q : ℕ → Bool) (b : ℕ) (xs : List ℕ) → q b ≡ false → before_first q (b ∷ xs) ≡ b ∷ before_first q xs
before_first_plain q b xs e = rw (e, one-add) refl

before_first-plain : (word rest : List ℕ) → list_all is_plain word ≡ true → before_first is_hash (word ++ rest) ≡ word ++ before_first is_hash rest
before_first-plain [] rest t = refl
before_first-plain (b ∷ bs) rest t =
    let here = and_parts (is_plain b) (list_all is_plain bs) t in
    let plain = and_parts (not (is_blank b)) (not (is_hash b)) here.0 in
    before_first_plain is_hash b (bs ++ rest) (not-true (is_hash b) plain.1) ∙ ap (λ l. b ∷ l) (before_first-plain bs rest here.1)

split_plain : (p : ℕ → Bool) (b : ℕ) (xs first : List ℕ) (parts : List (List ℕ)) → p b ≡ false → slice_split p xs ≡ first ∷ parts → slice_split p (b ∷ xs) ≡ (b ∷ first) ∷ parts
split_plain p b xs first parts e s = rw e (ap (onto_first b) s)

-- plain bytes go onto the first part
slice_split-plain : (word rest first : List ℕ) (parts : List (List ℕ)) → list_all is_plain word ≡ true → slice_split is_blank rest ≡ first ∷ parts → slice_split is_blank (word ++ rest) ≡ (word ++ first) ∷ parts
slice_split-plain [] rest first parts t s = s
slice_split-plain (b ∷ bs) rest first parts t s =
    let here = and_parts (is_plain b) (list_all is_plain bs) t in
    let plain = and_parts (not (is_blank b)) (not (is_hash b)) here.0 in
    split_plain is_blank b (bs ++ rest) (bs ++ first) parts (not-true (is_blank b) plain.0) (slice_split-plain bs rest first parts here.1 s)

kept : (word : List ℕ) (parts : List (List ℕ)) → is_word word ≡ true → filter is_word ((word ++ []) ∷ parts) ≡ word ∷ filter is_word parts
kept word parts t = rw (append-nil word, t) refl

blank_is_no_hash : (byte : ℕ) → is_blank byte ≡ true → is_hash byte ≡ false
blank_is_no_hash byte e = grind (arith, nat_tests)

split_blank : (p : ℕ → Bool) (b : ℕ) (xs : List ℕ) → p b ≡ true → slice_split p (b ∷ xs) ≡ [] ∷ slice_split p xs
split_blank p b xs e = rw e refl

before_hash : (q : ℕ → Bool) (b : ℕ) (xs : List ℕ) → q b ≡ true → before_first q (b ∷ xs) ≡ []
before_hash q b xs e = rw e refl

-- the words of a text that begins with a word that stands alone
pub words-blank : (word : List ℕ) (byte : ℕ) (line : List ℕ) → stands_alone word ≡ true → is_blank byte ≡ true → words (word ++ byte ∷ line) ≡ word ∷ words line
words-blank word byte line t e =
    let alone = and_parts (is_word word) (list_all is_plain word) t in
    ap words_between (before_first-plain word (byte ∷ line) alone.1 ∙ ap (λ l. word ++ l) (before_first_plain is_hash byte line (blank_is_no_hash byte e)))
    ∙ ap (filter is_word) (slice_split-plain word (byte ∷ before_first is_hash line) [] (slice_split is_blank (before_first is_hash line)) alone.1 (split_blank is_blank byte (before_first is_hash line) e))
    ∙ kept word (slice_split is_blank (before_first is_hash line)) alone.0

-- one word alone
one_word : (word : List ℕ) → stands_alone word ≡ true → words_between (word ++ []) ≡ word ∷ []
one_word word t =
    let alone = and_parts (is_word word) (list_all is_plain word) t in
    ap (filter is_word) (slice_split-plain word [] [] [] alone.1 refl) ∙ kept word [] alone.0

-- a word before a comment
pub words-comment : (word : List ℕ) (byte : ℕ) (line : List ℕ) → stands_alone word ≡ true → is_hash byte ≡ true → words (word ++ byte ∷ line) ≡ word ∷ []
words-comment word byte line t e =
    let alone = and_parts (is_word word) (list_all is_plain word) t in
    ap words_between (before_first-plain word (byte ∷ line) alone.1 ∙ ap (λ l. word ++ l) (before_hash is_hash byte line e)) ∙ one_word word t

-- a word before the end
pub words-alone : (word : List ℕ) → stands_alone word ≡ true → words word ≡ word ∷ []
words-alone word t =
    let alone = and_parts (is_word word) (list_all is_plain word) t in
    ap words (sym (append-nil word)) ∙ ap words_between (before_first-plain word [] alone.1) ∙ one_word word t

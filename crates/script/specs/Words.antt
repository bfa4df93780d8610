-- The words of a line.
use Rattle.std.specs.Prelude.{ℕ, Bool, true, false, ◌||◌, ◌==◌, List, [], ◌∷◌, filter}
use Rattle.std.specs.List.{before_first, slice_split}

-- a byte that stands between words: a blank, a tab or a carriage return
abbrev pub is_blank : ℕ → Bool
is_blank byte = byte == 32 || byte == 9 || byte == 13

-- `#`, which begins a comment
abbrev pub is_hash : ℕ → Bool
is_hash byte = byte == 35

-- a part of a text that is not empty
abbrev pub is_word : List ℕ → Bool
is_word [] = false
is_word (byte ∷ others) = true

-- what stands between the blanks of a text
abbrev pub words_between : List ℕ → List (List ℕ)
words_between text = filter is_word (slice_split is_blank text)

-- the words of a line, up to `#`
abbrev pub words : List ℕ → List (List ℕ)
words line = words_between (before_first is_hash line)

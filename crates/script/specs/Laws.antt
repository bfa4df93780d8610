-- Laws of the reading of lines.
use Rattle.std.specs.Prelude.{◌≡◌, ℕ, ◌<◌, ◌≤◌, Bool, true, not, ◌&&◌, List, [], ◌∷◌, ◌++◌, length, Some, Ok, codes, decimal}
use Rattle.std.specs.List.{All, list_all}
use Rattle.text.specs.Texts.{◌⌢◌}
use Rattle.script.specs.Words.{is_blank, is_hash, is_word, words}
use Rattle.script.specs.Names.{text_of_kind, text_of_name, fewest_of, most_of}
use Rattle.script.specs.Texts.{spaced}
use Rattle.script.specs.Lines.{call_by, line_of}
use Rattle.script.specs.declared.host_kind.HostKind.{HostKind}
use Rattle.script.specs.declared.line.Line.TheVariants.{Host}
use Rattle.script.specs.declared.name.Name.{Name}

-- a word by itself: it is not empty, and has no blank and no `#`
abbrev pub stands_alone : List ℕ → Bool
stands_alone word = is_word word && list_all (λ byte. not (is_blank byte) && not (is_hash byte)) word

-- a line without a byte has no words
abbrev pub NoByteNoWord : Type 0
NoByteNoWord = words [] ≡ []

-- a blank in front of a line changes nothing
abbrev pub BlanksInFront : Type 0
BlanksInFront = (byte : ℕ) (line : List ℕ) → is_blank byte ≡ true → words (byte ∷ line) ≡ words line

-- a comment has no words
abbrev pub CommentsAreIgnored : Type 0
CommentsAreIgnored = (byte : ℕ) (line : List ℕ) → is_hash byte ≡ true → words (byte ∷ line) ≡ []

-- a word that a blank ends stands before the words behind it
abbrev pub WordsAreTold : Type 0
WordsAreTold = (word : List ℕ) (byte : ℕ) (line : List ℕ) → stands_alone word ≡ true → is_blank byte ≡ true → words (word ++ byte ∷ line) ≡ word ∷ words line

-- a word that a comment ends is the last one
abbrev pub CommentsEndWords : Type 0
CommentsEndWords = (word : List ℕ) (byte : ℕ) (line : List ℕ) → stands_alone word ≡ true → is_hash byte ≡ true → words (word ++ byte ∷ line) ≡ word ∷ []

-- a word that the line ends with is the last one
abbrev pub LinesEndWords : Type 0
LinesEndWords = (word : List ℕ) → stands_alone word ≡ true → words word ≡ word ∷ []

-- a name and as many numbers as it takes, each behind a blank, are read as its call
abbrev pub CallsReadBack : Type 0
CallsReadBack =
    (name : Name) (ns : List ℕ) → fewest_of name ≤ length ns → length ns ≤ most_of name → All (λ n. n < 65536) ns
    → line_of (text_of_name name ⌢ spaced decimal ns) ≡ Ok (Some (call_by name ns))

-- the choice of a host is read as such
abbrev pub HostsReadBack : Type 0
HostsReadBack = (kind : HostKind) → line_of (codes "host " ⌢ text_of_kind kind) ≡ Ok (Some (Host kind))

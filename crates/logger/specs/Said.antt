-- What is said of a file, sound or refused.
use Rattle.std.specs.Prelude.{ℕ, List, Ok, Err, Result, string_bytes}
use Rattle.std.specs.declared.string.String.{String}

-- the bytes of the text, whichever of the two it is
abbrev pub said : {Z : Type 0} → Result (String Z) (String Z) → List ℕ
said (Ok text) = string_bytes text
said (Err text) = string_bytes text

-- Words of digits as numbers.
use Rattle.std.specs.Prelude.{ℕ, cond, ◌&&◌, List, [], ◌∷◌, length, Option, Some, None, nat_lt, option_map, option_and_then}
use Rattle.std.specs.Str.{all_ascii_digits}
use Rattle.std.specs.Str.Parse.{digits_value}

-- the number that a word writes: it has digits and nothing else, and writes 65,535 at most
abbrev pub number_of : List ℕ → Option ℕ
number_of word = cond (nat_lt 0 (length word) && all_ascii_digits word && nat_lt (digits_value 10 word) 65536) (Some (digits_value 10 word)) None

-- the numbers that words write, if each writes one
abbrev pub numbers_of : List (List ℕ) → Option (List ℕ)
numbers_of [] = Some []
numbers_of (word ∷ words) = option_and_then (λ n. option_map (λ ns. n ∷ ns) (numbers_of words)) (number_of word)

-- What is said of a line that is no call, or none at its place.
use Rattle.std.specs.Prelude.{ℕ, cond, List, codes, decimal, ◌==◌}
use Rattle.text.specs.Texts.{◌⌢◌}
use Rattle.script.specs.Names.{text_of_name, fewest_of, most_of}
use Rattle.script.specs.declared.name.Name.{Name}
use Rattle.script.specs.declared.wrong.Wrong.{Wrong}
use Rattle.script.specs.declared.wrong.Wrong.TheVariants.{NoSuchCall, NoSuchHost, TooFew, TooMany, NoNumber, LateHost, NoLimits, NoTallies}

-- from so many to so many: `none`, `3`, `at most 1` or `1 to 3`
abbrev pub span_text : ℕ → ℕ → List ℕ
span_text fewest most =
    cond (most == 0) (codes "none")
    (cond (fewest == most) (decimal most)
    (cond (fewest == 0) (codes "at most " ⌢ decimal most) (decimal fewest ⌢ codes " to " ⌢ decimal most)))

-- how many numbers a call takes
abbrev pub text_of_takes : Name → List ℕ
text_of_takes name = span_text (fewest_of name) (most_of name)

-- what is wrong
abbrev pub wrong_text : Wrong → List ℕ
wrong_text NoSuchCall = codes "no such call"
wrong_text NoSuchHost = codes "host takes limits or tallies"
wrong_text (TooFew name) = codes "too few numbers: " ⌢ text_of_name name ⌢ codes " takes " ⌢ text_of_takes name
wrong_text (TooMany name) = codes "too many numbers: " ⌢ text_of_name name ⌢ codes " takes " ⌢ text_of_takes name
wrong_text NoNumber = codes "a word is no number up to 65,535"
wrong_text LateHost = codes "host stands before every other call"
wrong_text NoLimits = codes "the host is tallies, which has no limits"
wrong_text NoTallies = codes "the host is limits, which has no tallies"

-- the line of an error, with the number of the script's line
abbrev pub error_line : ℕ → Wrong → List ℕ
error_line number wrong = codes "error: line " ⌢ decimal number ⌢ codes ": " ⌢ wrong_text wrong

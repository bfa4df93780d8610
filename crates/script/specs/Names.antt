-- The words that a script knows: hosts, and names of calls with how many numbers each takes.
use Rattle.std.specs.Prelude.{ℕ, cond, List, Option, Some, None, codes}
use Rattle.std.specs.Str.{bytes_eq}
use Rattle.script.specs.declared.host_kind.HostKind.{HostKind}
use Rattle.script.specs.declared.host_kind.HostKind.TheVariants.{Limits, Tallies}
use Rattle.script.specs.declared.name.Name.{Name}
use Rattle.script.specs.declared.name.Name.TheVariants.{Range, Limit, Tally, Open, Offer, Raw, Menu, Rows}

-- the text of a name
abbrev pub text_of_name : Name → List ℕ
text_of_name Range = codes "range"
text_of_name Limit = codes "limit"
text_of_name Tally = codes "tally"
text_of_name Open = codes "open"
text_of_name Offer = codes "offer"
text_of_name Raw = codes "raw"
text_of_name Menu = codes "menu"
text_of_name Rows = codes "rows"

-- the text of a host's kind
abbrev pub text_of_kind : HostKind → List ℕ
text_of_kind Limits = codes "limits"
text_of_kind Tallies = codes "tallies"

-- the host that a word is
abbrev pub host_kind_of : List ℕ → Option HostKind
host_kind_of word = cond (bytes_eq word (text_of_kind Limits)) (Some Limits) (cond (bytes_eq word (text_of_kind Tallies)) (Some Tallies) None)

-- the name that a word is
abbrev pub name_of : List ℕ → Option Name
name_of word =
    cond (bytes_eq word (text_of_name Range)) (Some Range)
    (cond (bytes_eq word (text_of_name Limit)) (Some Limit)
    (cond (bytes_eq word (text_of_name Tally)) (Some Tally)
    (cond (bytes_eq word (text_of_name Open)) (Some Open)
    (cond (bytes_eq word (text_of_name Offer)) (Some Offer)
    (cond (bytes_eq word (text_of_name Raw)) (Some Raw)
    (cond (bytes_eq word (text_of_name Menu)) (Some Menu)
    (cond (bytes_eq word (text_of_name Rows)) (Some Rows) None)))))))

-- the fewest numbers that a call takes
abbrev pub fewest_of : Name → ℕ
fewest_of Range = 3
fewest_of Limit = 4
fewest_of Tally = 3
fewest_of Open = 1
fewest_of Offer = 1
fewest_of Raw = 4
fewest_of Menu = 0
fewest_of Rows = 0

-- the most numbers that it takes
abbrev pub most_of : Name → ℕ
most_of Range = 3
most_of Limit = 4
most_of Tally = 3
most_of Open = 1
most_of Offer = 3
most_of Raw = 4
most_of Menu = 1
most_of Rows = 0

use Rattle.std.proofs.Common.{◌≡◌, ℕ, ◌<◌, ◌≤◌, List, ◌∷◌, length, get_or, None}
use Rattle.event.specs.declared.event.Event.{Event}
use Rattle.host.specs.Tallying.{heard, tally_answer}
use Rattle.host.proofs.tallying.Tallies.hear.Given as goal

-- below the index each entry has heard the event, and the others are as they were
abbrev pub invariant-loop-entry : goal.invariant-loop-entry
invariant-loop-entry l =
    ((k : ℕ) → k < l.entry-index → get_or l.entry-items k None ≡ heard l.event (get_or l.initial.entry-items k None))
    × ((k : ℕ) (w : List Event) → k < l.entry-index → tally_answer (get_or l.entry-items k None) w ≡ tally_answer (get_or l.initial.entry-items k None) (l.event ∷ w))
    × ((k : ℕ) → l.entry-index ≤ k → get_or l.entry-items k None ≡ get_or l.initial.entry-items k None)
    × (length l.entry-items ≡ 32)

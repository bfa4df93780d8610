-- Places for events.
use Rattle.std.specs.Prelude.{ℕ, ◌+◌, List, [], ◌∷◌}
use Rattle.law.specs.declared.call.Call.{Call}
use Rattle.run.specs.Replays.{places_of}

-- how many the menus among some calls have together
abbrev pub places_together : List Call → ℕ
places_together [] = 0
places_together (c ∷ cs) = places_of c + places_together cs

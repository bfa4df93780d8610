-- A draft: the tables that a reading fills.
use Rattle.std.specs.Prelude.{◌≡◌, ℕ, ◌<◌, ◌≤◌, true, length, None, slice_index_or}
use Rattle.procedure.specs.Drawings.{Drawing}
use Rattle.procedure.specs.Scopes.{parent_of}
use Rattle.procedure.specs.Sound.{nodes_sound, arrows_sound}
use Rattle.procedure.specs.declared.draft.Draft.TheInside.{Inside}

-- what a draft holds
abbrev pub drawn : Inside → Drawing
drawn d = record { nodes = d.nodes.items; arrows = d.arrows.items }

-- its tables say what its drawing says
pub record Faithful (d : Inside) : Type 0 where
  pub few-nodes : length d.nodes.items ≤ 64
  pub few-arrows : length d.arrows.items ≤ 256
  pub parent-places : length d.parents ≡ 64
  pub parents : (k : ℕ) → k < 64 → slice_index_or d.parents k None ≡ parent_of d.nodes.items k
  pub nodes-sound : nodes_sound d.nodes.items ≡ true
  pub arrows-sound : arrows_sound d.nodes.items d.arrows.items ≡ true

-- Rows and menus of a diagram from the computed ones.
use Rattle.std.proofs.Common.{◌≡◌, sym, subst, ℕ, true, List}
use mathlib.Core.List.{Memᴰ}
use Rattle.event.specs.declared.event.Event.{Event}
use Rattle.host.specs.Meanings.{Meaning}
use Rattle.procedure.specs.Drawings.{Drawing}
use Rattle.procedure.specs.Sound.{sound}
use Rattle.rules.specs.Trees.{Tree}
use Rattle.rules.specs.Cells.{Cells}
use Rattle.rules.specs.Growing.{Values, tree_of}
use Rattle.rules.specs.Ends.{ends}
use Rattle.rules.specs.Candidates.{menu}
use Rattle.rules.specs.Examples.{EndsExactly, MenuExactly}
use Rattle.rules.proofs.Ends.{listed-ends}
use Rattle.rules.proofs.Candidates.{menu-exact}
use Rattle.rules.proofs.Growing.{tree-sound}

pub ends-exactly : (t : Tree) (m : Meaning) (events : List Event) (l : List Cells) → ends t m events ≡ l → EndsExactly t m events l
ends-exactly t m events l is r = (
  λ c. subst (λ (k : List Cells). Memᴰ r k) is ((listed-ends t m events r).1 c),
  λ i. (listed-ends t m events r).0 (subst (λ (k : List Cells). Memᴰ r k) (sym is) i),
)

pub menu-exactly : (values : Values) (d : Drawing) (node : ℕ) (m : Meaning) (events : List Event) (l : List Event) → sound d.nodes d.arrows ≡ true → menu (tree_of values d node) m events ≡ l → MenuExactly (tree_of values d node) m events l
menu-exactly values d node m events l s is e f = (
  λ c. subst (λ (k : List Event). Memᴰ e k) is ((menu-exact (tree_of values d node) m events e (tree-sound values d s node) f).1 c),
  λ i. (menu-exact (tree_of values d node) m events e (tree-sound values d s node) f).0 (subst (λ (k : List Event). Memᴰ e k) (sym is) i),
)

-- What a search from the held states finds is what comes next.
use Rattle.std.proofs.Common.{◌≡◌, sym, ◌∙◌, ap, subst, ℕ, zero, suc, ◌-◌, ◌<◌, ◌≤◌, List, [], length, length-take, take, Some, arith}
use Rattle.std.specs.List.{All}
use Rattle.std.proofs.lemmas.Option.{none-some}
use Rattle.event.specs.declared.event.Event.{Event}
use Rattle.host.specs.Meanings.{Meaning}
use Rattle.ordered.specs.Held.{held, room}
use Rattle.row.specs.Rows.{OrderedRows}
use Rattle.row.specs.declared.row.Row.{Row}
use Rattle.rules.specs.Trees.{Tree, Guards, no_variables}
use Rattle.rules.specs.Cells.{Cells, fit, width}
use Rattle.rules.specs.Rules.{Step}
use Rattle.rules.specs.Chains.{answers_after}
use Rattle.rules.specs.Ends.{successors}
use Rattle.motions.specs.Framing.{Framed}
use Rattle.motions.specs.Collecting.{Gained, Exceeds, FromEach}
use Rattle.diagram.specs.Plans.{nodes_of}
use Rattle.diagram.specs.Parts.{part_tree, last_part}
use Rattle.diagram.specs.declared.part.Part.{Part}
use Rattle.answers.specs.declared.answers.Answers.{Answers}
use Rattle.search.specs.Searching.{Reached}
use Rattle.law.specs.Offers.{next_states}
use Rattle.opened.specs.States.{states_in, FindsAll}
use Rattle.opened.specs.Opens.{tree_of_opened}
use Rattle.opened.specs.declared.opened.Opened.{Opened}
use Rattle.opened.proofs.Filled.{IsFilled, AreFilled, firsts, all-filled, filled-all, AllMoved, gained-filled, gained-are, exceeded}

-- a part that has the whole row and no variables in scope
abbrev pub last_at : ℕ → Part
last_at k = record { node = k; at = 0; scope = record { outer = 0; inner = 0; variables = no_variables } }

-- that of the last of some nodes
abbrev pub last_of : ℕ → Part
last_of n = last_at (n - 1)

-- of some nodes, the root is the last, if there is one
last-is : (n : ℕ) (p : Part) → last_part n ≡ Some p → (0 < n) × (p ≡ last_of n)
last-is zero p e = absurd (none-some p e)
last-is (suc n) p e =
    let i : n ≡ suc n - 1 = omega arith in
    let q : p ≡ record { node = n; at = 0; scope = record { outer = 0; inner = 0; variables = no_variables } } = cc in
    (omega arith, q ∙ ap last_at i)

-- a diagram's root is the part of its last node
pub root-last : (o : Opened) → (0 < length (nodes_of o.diagram.plan)) × (o.root ≡ last_of (length (nodes_of o.diagram.plan)))
root-last o = last-is (length (nodes_of o.diagram.plan)) o.root o.is_root

-- the tree of the root is what the run's states are of
pub root-tree-is : (o : Opened) → part_tree o.diagram o.root ≡ tree_of_opened o
root-tree-is o = ap (part_tree o.diagram) (root-last o).1

-- and it is within a row
pub root-short : (o : Opened) → width (tree_of_opened o) ≤ 48
root-short o =
    let there = (root-last o).0 in
    (o.diagram.measured (length (nodes_of o.diagram.plan) - 1) (omega arith)).1

-- the held states have its width
pub width-is : (o : Opened) → o.held.width ≡ width (tree_of_opened o)
width-is o = o.has_width ∙ ap width (root-tree-is o)

-- the rows that are held
abbrev pub rows_in : Opened → List Row
rows_in o = take o.held.used o.held.rows

-- are filled
pub held-filled : (o : Opened) → AreFilled (width (tree_of_opened o)) (rows_in o)
held-filled o = subst (λ (n : ℕ). AreFilled n (rows_in o)) (width-is o) (all-filled o.held.width (rows_in o) o.held.filled)

module _ (o : Opened) (now : Meaning) (e : Event) (a : Answers) (event : a.event ≡ e) where
  -- what guards answer to the event
  abbrev pub guards : Guards
  guards = answers_after now [] e

  -- what comes next
  abbrev pub next : List Cells
  next = next_states (tree_of_opened o) (states_in o.held) now e

  -- what the search collects, and what the root's tree says of it
  abbrev pub Collected : Row → Type 0
  Collected y = FromEach (rows_in o) (λ x z. Reached o.diagram a guards o.root x z) y

  abbrev pub Reaches : Row → Type 0
  Reaches y = AllMoved (tree_of_opened o) guards e (root-short o) (rows_in o) (held-filled o) y

  -- what a fact says of the one it says of the other
  at-root : (P : (Row → Type 0) → Type 0) → P Collected → P Reaches
  at-root P h =
      let t : Tree = tree_of_opened o in
      subst (λ (k : Event). P (λ y. FromEach (rows_in o) (λ x z. Framed x.cells 0 (width t) (Step t guards k no_variables (fit (width t) x.cells)) z) y)) event
      (subst (λ (q : Part). P (λ y. FromEach (rows_in o) (λ x z. Reached o.diagram a guards q x z) y)) (root-last o).1 h)

  -- what comes next, by the width of the tree
  next-is : next ≡ successors (tree_of_opened o) guards e (firsts (width (tree_of_opened o)) (rows_in o))
  next-is = ap (λ (n : ℕ). successors (tree_of_opened o) guards e (firsts n (rows_in o))) (width-is o)

  module _ (before after : OrderedRows) (none : held before ≡ []) where
    -- what is added to an empty list is what it holds
    gained : Gained Collected (held before) (held after) → Gained Reaches [] (held after)
    gained h = at-root (λ X. Gained X [] (held after)) (subst (λ (l : List Row). Gained Collected l (held after)) none h)

    -- without overflow the first places have exactly the next states
    pub found : (n : ℕ) (places : List Row) → Gained Collected (held before) (held after)
        → n ≡ length (held after) → take n after.places.now ≡ held after → places ≡ after.places.now → FindsAll o.held.width next n places
    found n places h count first is =
        let t : Tree = tree_of_opened o in
        let g : Gained Reaches [] (held after) = gained h in
        let rows : take n places ≡ held after = ap (take n) is ∙ first in
        let used = length-take after.used after.places.now in
        let same : length places ≡ length after.places.now = ap length is in
        let filled : AreFilled o.held.width (held after) =
        subst (λ (m : ℕ). AreFilled m (held after)) (sym (width-is o)) (gained-filled t guards e (root-short o) (rows_in o) (held-filled o) (held after) g) in
        record {
          fits = omega arith;
          are = ap (firsts o.held.width) rows ∙ ap (λ (m : ℕ). firsts m (held after)) (width-is o)
              ∙ gained-are t guards e (root-short o) (rows_in o) (held-filled o) (held after) g
              ∙ sym next-is;
          filled = subst (λ (l : List Row). All (IsFilled o.held.width) l) (sym rows) (filled-all o.held.width (held after) filled);
        }

    -- with an overflow there are more
    pub overflown : (n : ℕ) → n ≡ room before → Exceeds Collected (room before) (held before) → n < length next
    overflown n is h =
        let x : Exceeds Reaches (room before) [] =
        at-root (λ X. Exceeds X (room before) []) (subst (λ (l : List Row). Exceeds Collected (room before) l) none h) in
        let more = exceeded (tree_of_opened o) guards e (root-short o) (rows_in o) (held-filled o) (room before) x in
        let same : length next ≡ length (successors (tree_of_opened o) guards e (firsts (width (tree_of_opened o)) (rows_in o))) = ap length next-is in
        omega arith

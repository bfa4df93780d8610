-- The row in which the root begins.
use Rattle.std.proofs.Common.{◌≡◌, refl, sym, ◌∙◌, ap, ℕ, zero, suc, ◌+◌, ◌-◌, ◌≤◌, [], ◌∷◌, ◌++◌, length, drop, replicate, Option, Some, None, arith}
use Rattle.std.proofs.lemmas.Option.{none-some}
use Rattle.rules.specs.Trees.{Tree}
use Rattle.rules.specs.Cells.{Cells, fit, width, initial}
use Rattle.rules.proofs.Widths.{initial-width}
use Rattle.motions.specs.Framing.{part_at, framed}
use Rattle.diagram.specs.Plans.{nodes_of, tree_at}
use Rattle.diagram.specs.Parts.{last_part, root_part}
use Rattle.diagram.specs.declared.part.Part.{Part}
use Rattle.diagram.specs.declared.diagram.Diagram.{Diagram}

-- cells before 0s
filled-up : (n w : ℕ) (s : Cells) → length s ≡ w → w ≤ n → s ++ drop w (replicate n 0) ≡ fit n s
filled-up zero zero [] l h = refl
filled-up (suc n) zero [] l h = ap {B = Cells} (λ r. 0 ∷ r) (filled-up n zero [] l (omega arith))
filled-up n (suc w) [] l h = absurd (omega arith)
filled-up n zero (x ∷ s) l h = absurd (omega arith)
filled-up zero (suc w) (x ∷ s) l h = absurd (omega arith)
filled-up (suc n) (suc w) (x ∷ s) l h = ap {B = Cells} (λ r. x ∷ r) (filled-up n w s (omega arith) (omega arith))

-- a row that begins with a tree's initial cells has these, and then 0
pub begun-row : (t : Tree) (r : Cells) → width t ≤ 48 → r ≡ framed (replicate 48 0) 0 (width t) (initial t) → r ≡ fit 48 (initial t)
begun-row t r h e =
    let at : 0 + width t ≡ width t = omega arith in
    e ∙ ap (λ k. initial t ++ drop k (replicate 48 0)) at ∙ filled-up 48 (width t) (initial t) (initial-width t) h

-- the last part is that of the last node
last-node : (n : ℕ) (part : Part) → last_part n ≡ Some part → part.node ≡ n - 1
last-node zero part e = absurd (none-some part e)
last-node (suc n) part e = let m : n ≡ suc n - 1 = omega arith in ap (node_in n) (sym e) ∙ m
  where
    node_in : ℕ → Option Part → ℕ
    node_in n None = n
    node_in n (Some part) = part.node

-- the first cells of a row in which the root begins
pub root-begins : (d : Diagram) (root : Part) (node w : ℕ) (r : Cells) → root_part d ≡ Some root → node ≡ root.node → w ≡ width (tree_at d.plan node)
    → part_at (width (tree_at d.plan node)) r 0 ≡ initial (tree_at d.plan node) → fit w r ≡ initial (tree_at d.plan (length (nodes_of d.plan) - 1))
root-begins d root node w r is e wide b =
    ap (λ k. fit k r) wide ∙ b ∙ ap (λ k. initial (tree_at d.plan k)) (e ∙ last-node (length (nodes_of d.plan)) root is)

-- that row is filled up with 0
pub first-filled : (d : Diagram) (node w : ℕ) (r : Cells) → width (tree_at d.plan node) ≤ 48 → w ≡ width (tree_at d.plan node)
    → part_at (width (tree_at d.plan node)) r 0 ≡ initial (tree_at d.plan node) → r ≡ framed (replicate 48 0) 0 (width (tree_at d.plan node)) (initial (tree_at d.plan node)) → r ≡ fit 48 (fit w r)
first-filled d node w r h wide b e = begun-row (tree_at d.plan node) r h e ∙ ap (fit 48) (sym (ap (λ k. fit k r) wide ∙ b))

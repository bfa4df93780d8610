-- What a search from the root decides, and what of a list passes a test.
use Rattle.std.proofs.Common.{◌≡◌, refl, sym, ◌∙◌, ap, length, subst, ℕ, zero, suc, ◌-◌, Bool, true, false, ◌||◌, Decides, List, [], ◌∷◌, map, Some, arith}
use Rattle.std.proofs.lemmas.Option.{none-some}
use Rattle.std.specs.List.{list_any}
use mathlib.Core.List.{Memᴰ}
use mathlib.Core.List.Memᴰ
use Rattle.row.specs.declared.row.Row.{Row}
use Rattle.rules.specs.Trees.{Guards, no_variables}
use Rattle.rules.specs.Cells.{Cells, fit, width}
use Rattle.rules.specs.Rules.{Step}
use Rattle.rules.specs.Moves.{moves}
use Rattle.rules.specs.Candidates.{has_one}
use Rattle.rules.proofs.Fits.{fits}
use Rattle.motions.specs.Ways.{Any}
use Rattle.diagram.specs.Plans.{nodes_of}
use Rattle.diagram.specs.Valued.{values_of}
use Rattle.diagram.specs.Scopes.{variables_at}
use Rattle.diagram.specs.Parts.{last_part, part_width, InPlace}
use Rattle.diagram.specs.declared.part.Part.{Part}
use Rattle.answers.specs.declared.answers.Answers.{Answers}
use Rattle.search.specs.Searching.{successors}
use Rattle.opened.specs.Opens.{tree_of_opened}
use Rattle.opened.proofs.Advances.{root-last, root-short}
use Rattle.opened.specs.declared.opened.Opened.{Opened}

-- a test of what f gives
pub any-of-map : {A B : Type 0} (test : B → Bool) (f : A → B) (l : List A) → list_any (λ x. test (f x)) l ≡ list_any test (map f l)
any-of-map test f [] = refl
any-of-map test f (x ∷ l) = ap (λ b. test (f x) || b) (any-of-map test f l)

-- a test that decides whether there is a way is that of the list of the ways
listed-ways : (answer : Bool) (P : Cells → Type 0) (l : List Cells) → ((r : Cells) → Memᴰ r l → P r) → ((r : Cells) → P r → Memᴰ r l) → Decides answer (Any P) → answer ≡ has_one l
listed-ways true P [] to fro d = let w = d.0 refl in absurd (Memᴰ.not-nil (fro w.0 w.1))
listed-ways true P (r ∷ l) to fro d = refl
listed-ways false P [] to fro d = refl
listed-ways false P (r ∷ l) to fro d = d.1 (r, to r (Memᴰ.head refl))

-- what the root's part is
root-is : (n : ℕ) (p : Part) → last_part n ≡ Some p → p ≡ record { node = n - 1; at = 0; scope = record { outer = 0; inner = 0; variables = no_variables } }
root-is zero p e = absurd (none-some p e)
root-is (suc n) p e = let q : record { node = n; at = 0; scope = record { outer = 0; inner = 0; variables = no_variables } } ≡ p = cc in let j : suc n - 1 ≡ n = omega arith in rw j (sym q)

-- it is within a row
pub root-in-place : (o : Opened) → InPlace o.diagram o.root
root-in-place o =
    let n = length (nodes_of o.diagram.plan) in
    subst (λ (p : Part). InPlace o.diagram p) (sym (root-last o).1)
    (record {
      is_node = omega (arith, (root-last o).0);
      is_inside = omega (arith, root-short o);
      suits = ap (λ b. variables_at (values_of o.diagram.plan.values) b 0 0) o.diagram.rooted;
    })

-- whether a row's first cells have a successor by the rules
pub root-decides : (o : Opened) (a : Answers) (g : Guards) (row : Row) (answer : Bool) → Decides answer (Any (successors o.diagram a g o.root row))
    → answer ≡ has_one (moves (tree_of_opened o) g a.event no_variables (fit o.held.width row.cells))
root-decides o a g row answer d =
    let is = root-is (length (nodes_of o.diagram.plan)) o.root o.is_root in
    let t = tree_of_opened o in
    let all = fits t g a.event no_variables in
    let w : o.held.width ≡ width t = o.has_width ∙ ap (part_width o.diagram) is in
    listed-ways answer (Step t g a.event no_variables (fit (width t) row.cells)) (moves t g a.event no_variables (fit (width t) row.cells))
    (λ r. all.sound _ r) (λ r. all.complete _ r)
    (subst (λ (p : Part). Decides answer (Any (successors o.diagram a g p row))) is d)
    ∙ ap (λ (n : ℕ). has_one (moves t g a.event no_variables (fit n row.cells))) (sym w)

-- What a list gains when the ways of a part are collected one after the other.
use Rattle.std.proofs.Common.{◌≡◌, refl, sym, ◌∙◌, ap, subst, ℕ, suc, ◌+◌, ◌-◌, ◌≤◌, Bool, true, false, ◌&&◌, ◌==◌, eqb-true, Some, length, slice_index, arith}
use Rattle.row.specs.declared.row.Row.{Row}
use Rattle.rules.specs.Trees.{Tree, Guards, sequence, closure, guarded, choice}
use Rattle.rules.specs.Cells.{Cells, width, tagged, finished}
use Rattle.rules.specs.Rules.{Step}
use Rattle.motions.specs.Framing.{part_at, framed, Framed}
use Rattle.motions.specs.Ways.{Way, Alike, Either, If, Tagged, Long}
use Rattle.motions.specs.Collecting.{AlikeRows, EitherRow}
use Rattle.motions.proofs.Framed.{framed-alike, framed-either, framed-tagged, framed-yes}
use Rattle.motions.proofs.Frames.{tag-part}
use Rattle.motions.proofs.Anys.{alike-sym, long-step}
use Rattle.std.specs.List.{slice_get}
use Rattle.notation.specs.declared.node.Node.TheVariants.{Guard}
use Rattle.diagram.specs.Valued.{values_of}
use Rattle.diagram.specs.Plans.{nodes_of, tree_at}
use Rattle.diagram.specs.Scopes.{binders_at, Suits}
use Rattle.answers.specs.Answering.{Agrees, node_answer}
use Rattle.diagram.specs.Parts.{part_width, InPlace}
use Rattle.search.specs.Searching.{cells_of, Behind, Child, Reached, PartReached, moves_from, starts, successors}
use Rattle.diagram.specs.declared.scope.Scope.{Scope}
use Rattle.motions.proofs.Arms.{sequence-arm, closure-arm, guard-arm, choice-arm}
use Rattle.answers.specs.declared.answers.Answers.{Answers}
use Rattle.diagram.specs.declared.diagram.Diagram.{Diagram}
use Rattle.diagram.specs.declared.part.Part.{Part}
use Rattle.motions.proofs.Adds.{rows-sym, rows-trans, rows-either, rows-refl}

module _ (r : Cells) (at n : ℕ) where
  -- the rows of two, three and four ways
  pub two-ways : (P Q1 Q2 : Way) → Alike P (Either Q1 Q2) → AlikeRows (EitherRow (Framed r at n Q1) (Framed r at n Q2)) (Framed r at n P)
  two-ways P Q1 Q2 a =
      rows-trans (EitherRow (Framed r at n Q1) (Framed r at n Q2)) (Framed r at n (Either Q1 Q2)) (Framed r at n P)
      (rows-sym (Framed r at n (Either Q1 Q2)) (EitherRow (Framed r at n Q1) (Framed r at n Q2)) (framed-either r at n Q1 Q2))
      (framed-alike r at n (Either Q1 Q2) P (alike-sym P (Either Q1 Q2) a))

  pub three-ways : (P Q1 Q2 Q3 : Way) → Alike P (Either Q1 (Either Q2 Q3)) → AlikeRows (EitherRow (Framed r at n Q1) (EitherRow (Framed r at n Q2) (Framed r at n Q3))) (Framed r at n P)
  three-ways P Q1 Q2 Q3 a =
      rows-trans (EitherRow (Framed r at n Q1) (EitherRow (Framed r at n Q2) (Framed r at n Q3))) (EitherRow (Framed r at n Q1) (Framed r at n (Either Q2 Q3))) (Framed r at n P)
      (rows-either (Framed r at n Q1) (Framed r at n Q1) (EitherRow (Framed r at n Q2) (Framed r at n Q3)) (Framed r at n (Either Q2 Q3)) (rows-refl (Framed r at n Q1))
      (two-ways (Either Q2 Q3) Q2 Q3 (record { to = λ s p. p; fro = λ s p. p })))
      (two-ways P Q1 (Either Q2 Q3) a)

  pub four-ways : (P Q1 Q2 Q3 Q4 : Way) → Alike P (Either Q1 (Either Q2 (Either Q3 Q4))) → AlikeRows (EitherRow (Framed r at n Q1) (EitherRow (Framed r at n Q2) (EitherRow (Framed r at n Q3) (Framed r at n Q4)))) (Framed r at n P)
  four-ways P Q1 Q2 Q3 Q4 a =
      rows-trans (EitherRow (Framed r at n Q1) (EitherRow (Framed r at n Q2) (EitherRow (Framed r at n Q3) (Framed r at n Q4)))) (EitherRow (Framed r at n Q1) (Framed r at n (Either Q2 (Either Q3 Q4)))) (Framed r at n P)
      (rows-either (Framed r at n Q1) (Framed r at n Q1) (EitherRow (Framed r at n Q2) (EitherRow (Framed r at n Q3) (Framed r at n Q4))) (Framed r at n (Either Q2 (Either Q3 Q4))) (rows-refl (Framed r at n Q1))
      (three-ways (Either Q2 (Either Q3 Q4)) Q2 Q3 Q4 (record { to = λ s p. p; fro = λ s p. p })))
      (two-ways P Q1 (Either Q2 (Either Q3 Q4)) a)

-- a child that moves behind a tag, in a row that has the tag and the cells q there
pub behind-rows : (d : Diagram) (a : Answers) (g : Guards) (p c : Part) (tag : ℕ) (allowed : Bool) (q : Cells) (r R : Row) → InPlace d p → Behind d p c → allowed ≡ true → length q ≡ part_width d c
    → R.cells ≡ framed r.cells p.at (part_width d p) (tagged (part_width d p - 1) tag q)
    → AlikeRows (Reached d a g c R) (PartReached d p r (If allowed (Tagged (part_width d p - 1) tag (moves_from d a g c q))))
behind-rows d a g p c tag allowed q r R ip b h l is =
    let m = part_width d p - 1 in
    let n = part_width d c in
    let w : suc m ≡ part_width d p = omega (arith, b.is_narrower) in
    let fits : n ≤ m = omega (arith, b.is_narrower) in
    let inside : p.at + suc m ≤ length r.cells = omega (arith, r.full, ip.is_inside, w) in
    let at = b.is_behind in
    let R' : R.cells ≡ framed r.cells p.at (suc m) (tagged m tag q) = is ∙ ap (λ (j : ℕ). framed r.cells p.at j (tagged m tag q)) (sym w) in
    let there : part_at n R.cells c.at ≡ q = ap (part_at n R.cells) at ∙ ap (λ (cs : Cells). part_at n cs (p.at + 1)) R' ∙ tag-part r.cells p.at m n tag q (omega (arith, inside)) l fits in
    let P = moves_from d a g c q in
    let long : Long n P = long-step (tree_at d.plan c.node) g a.event c.scope.variables q l in
    let tagging : AlikeRows (Framed R.cells (p.at + 1) n P) (Framed r.cells p.at (suc m) (Tagged m tag P)) = framed-tagged r.cells R.cells p.at m n tag q P inside fits l long R' in
    let first : AlikeRows (Reached d a g c R) (Framed r.cells p.at (suc m) (Tagged m tag P)) =
    subst (λ (X : Row → Type 0). AlikeRows X (Framed r.cells p.at (suc m) (Tagged m tag P))) (λ i. Framed R.cells (sym at i) n (moves_from d a g c (sym there i))) tagging in
    let second : AlikeRows (Reached d a g c R) (Framed r.cells p.at (part_width d p) (Tagged m tag P)) = subst (λ (j : ℕ). AlikeRows (Reached d a g c R) (Framed r.cells p.at j (Tagged m tag P))) w first in
    subst (λ (t : Bool). AlikeRows (Reached d a g c R) (PartReached d p r (If t (Tagged m tag P)))) (sym h)
    (rows-trans (Reached d a g c R) (PartReached d p r (Tagged m tag P)) (PartReached d p r (If true (Tagged m tag P))) second (framed-yes r.cells p.at (part_width d p) (Tagged m tag P)))

-- a test of a tag and another, where the tag is 0, and where it is not
pub both-true : (tag : ℕ) (x y : Bool) → tag ≡ 0 → y ≡ x → tag == 0 && x ≡ y
both-true tag x y e f = ap (λ (n : ℕ). n == 0 && x) e ∙ sym f

pub first-false : (tag : ℕ) (x y : Bool) → (tag ≡ 0 → ⊥) → y ≡ (tag == 0) → tag == 0 && x ≡ y
first-false tag x y e f = at (tag == 0) refl
  where
    at : (t : Bool) → tag == 0 ≡ t → tag == 0 && x ≡ y
    at true is = absurd (e (eqb-true tag 0 is))
    at false is = ap (λ (t : Bool). t && x) is ∙ sym (f ∙ is)

-- what a guard at a part answered
pub guard-answered : (d : Diagram) (a : Answers) (g : Guards) (p : Part) (number body : ℕ) → Agrees d a g → slice_get (nodes_of d.plan) p.node ≡ Some (Guard number body) → Suits (values_of d.plan.values) (binders_at d.binders p.node) p.scope
    → node_answer a p.node p.scope.outer p.scope.inner ≡ g number p.scope.variables
guard-answered d a g p number body h is suits = h.nodes p.node number body is p.scope.outer p.scope.inner p.scope.variables suits tt

-- ---- the rows that a part with a tag reaches

module _ (d : Diagram) (a : Answers) (g : Guards) (p : Part) (r : Row) where
  -- the ways of a part through a child that starts, and through one that moves on
  abbrev pub Start : Bool → ℕ → Part → Way
  Start allowed tag c = If allowed (Tagged (part_width d p - 1) tag (starts d a g c))

  abbrev pub Resume : Bool → ℕ → Part → Way
  Resume allowed tag c = If allowed (Tagged (part_width d p - 1) tag (successors d a g c r))

  abbrev Rows : Way → Row → Type 0
  Rows P y = PartReached d p r P y

  abbrev tag : ℕ
  tag = slice_index r.cells p.at

  same-variables : (c : Part) → Child d p c → p.scope.variables ≡ c.scope.variables
  same-variables c h = ap (λ (s : Scope). s.variables) (sym h.same_scope)

  -- a statement on the tree of the part
  at-tree : (t : Tree) (W : ℕ → Way) → tree_at d.plan p.node ≡ t → Alike (Step t g a.event p.scope.variables (part_at (width t) r.cells p.at)) (W (width t - 1)) → Alike (successors d a g p r) (W (part_width d p - 1))
  at-tree t W is h = subst (λ (u : Tree). Alike (Step u g a.event p.scope.variables (part_at (width u) r.cells p.at)) (W (width u - 1))) (sym is) h

  pub sequence-rows : (f s : Part) (done : Bool) → tree_at d.plan p.node ≡ sequence (tree_at d.plan f.node) (tree_at d.plan s.node) → Child d p f → Child d p s → tag == 0 && finished (tree_at d.plan f.node) (cells_of d f r) ≡ done
      → AlikeRows (EitherRow (Rows (Resume (tag == 0) 0 f)) (EitherRow (Rows (Start done 1 s)) (Rows (Resume (tag == 1) 1 s)))) (Reached d a g p r)
  sequence-rows f s done is cf cs ed =
      let x = tree_at d.plan f.node in
      let y = tree_at d.plan s.node in
      three-ways r.cells p.at (part_width d p) (successors d a g p r) (Resume (tag == 0) 0 f) (Start done 1 s) (Resume (tag == 1) 1 s)
      (at-tree (sequence x y) (λ m. Either (If (tag == 0) (Tagged m 0 (successors d a g f r))) (Either (If done (Tagged m 1 (starts d a g s))) (If (tag == 1) (Tagged m 1 (successors d a g s r))))) is
      (subst (λ (b : Bool). Alike (Step (sequence x y) g a.event p.scope.variables (part_at (width (sequence x y)) r.cells p.at))
      (Either (If (tag == 0) (Tagged (width (sequence x y) - 1) 0 (successors d a g f r))) (Either (If b (Tagged (width (sequence x y) - 1) 1 (starts d a g s))) (If (tag == 1) (Tagged (width (sequence x y) - 1) 1 (successors d a g s r)))))) ed
      (sequence-arm g a.event p.scope.variables r.cells p.at x y f.scope.variables s.scope.variables (width (sequence x y) - 1) f.at s.at (same-variables f cf) (same-variables s cs) (omega arith) (sym cf.behind.is_behind) (sym cs.behind.is_behind))))

  pub closure-rows : (b : Part) (done : Bool) → tree_at d.plan p.node ≡ closure (tree_at d.plan b.node) → Child d p b → finished (tree_at d.plan p.node) (cells_of d p r) ≡ done
      → AlikeRows (EitherRow (Rows (Start done 1 b)) (Rows (Resume (tag == 1) 1 b))) (Reached d a g p r)
  closure-rows b done is cb ed =
      let x = tree_at d.plan b.node in
      two-ways r.cells p.at (part_width d p) (successors d a g p r) (Start done 1 b) (Resume (tag == 1) 1 b)
      (at-tree (closure x) (λ m. Either (If done (Tagged m 1 (starts d a g b))) (If (tag == 1) (Tagged m 1 (successors d a g b r)))) is
      (subst (λ (t : Bool). Alike (Step (closure x) g a.event p.scope.variables (part_at (width (closure x)) r.cells p.at))
      (Either (If t (Tagged (width (closure x) - 1) 1 (starts d a g b))) (If (tag == 1) (Tagged (width (closure x) - 1) 1 (successors d a g b r)))))
      (sym (ap (λ (u : Tree). finished u (part_at (width u) r.cells p.at)) is) ∙ ed)
      (closure-arm g a.event p.scope.variables r.cells p.at x b.scope.variables (width (closure x) - 1) b.at (same-variables b cb) (omega arith) (sym cb.behind.is_behind))))

  pub guard-rows : (guard : ℕ) (b : Part) (holds : Bool) → tree_at d.plan p.node ≡ guarded guard (tree_at d.plan b.node) → Child d p b → tag == 0 && g guard p.scope.variables ≡ holds
      → AlikeRows (EitherRow (Rows (Start holds 1 b)) (Rows (Resume (tag == 1) 1 b))) (Reached d a g p r)
  guard-rows guard b holds is cb eh =
      let x = tree_at d.plan b.node in
      two-ways r.cells p.at (part_width d p) (successors d a g p r) (Start holds 1 b) (Resume (tag == 1) 1 b)
      (at-tree (guarded guard x) (λ m. Either (If holds (Tagged m 1 (starts d a g b))) (If (tag == 1) (Tagged m 1 (successors d a g b r)))) is
      (subst (λ (t : Bool). Alike (Step (guarded guard x) g a.event p.scope.variables (part_at (width (guarded guard x)) r.cells p.at))
      (Either (If t (Tagged (width (guarded guard x) - 1) 1 (starts d a g b))) (If (tag == 1) (Tagged (width (guarded guard x) - 1) 1 (successors d a g b r))))) eh
      (guard-arm g a.event p.scope.variables r.cells p.at guard x b.scope.variables (g guard p.scope.variables) (width (guarded guard x) - 1) b.at (same-variables b cb) refl (omega arith) (sym cb.behind.is_behind))))

  pub choice-rows : (x y : Part) → tree_at d.plan p.node ≡ choice (tree_at d.plan x.node) (tree_at d.plan y.node) → Child d p x → Child d p y
      → AlikeRows (EitherRow (Rows (Start (tag == 0) 1 x)) (EitherRow (Rows (Start (tag == 0) 2 y)) (EitherRow (Rows (Resume (tag == 1) 1 x)) (Rows (Resume (tag == 2) 2 y))))) (Reached d a g p r)
  choice-rows x y is cx cy =
      let s = tree_at d.plan x.node in
      let t = tree_at d.plan y.node in
      four-ways r.cells p.at (part_width d p) (successors d a g p r) (Start (tag == 0) 1 x) (Start (tag == 0) 2 y) (Resume (tag == 1) 1 x) (Resume (tag == 2) 2 y)
      (at-tree (choice s t) (λ m. Either (If (tag == 0) (Tagged m 1 (starts d a g x))) (Either (If (tag == 0) (Tagged m 2 (starts d a g y))) (Either (If (tag == 1) (Tagged m 1 (successors d a g x r))) (If (tag == 2) (Tagged m 2 (successors d a g y r)))))) is
      (choice-arm g a.event p.scope.variables r.cells p.at s t x.scope.variables y.scope.variables (width (choice s t) - 1) x.at y.at (same-variables x cx) (same-variables y cy) (omega arith) (sym cx.behind.is_behind) (sym cy.behind.is_behind)))

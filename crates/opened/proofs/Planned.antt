-- A plan of what is kept, and the diagram that it becomes.
use Rattle.std.proofs.Common.{◌≡◌, sym, ◌∙◌, ap, subst, ℕ, ◌-◌, ◌<◌, ◌≤◌, List, length, Option, Some, None, Ok, Err, Result, MatchResult}
use mathlib.Core.Path.{fun_ext}
use Rattle.fault.specs.Asking.{refusal}
use Rattle.fault.specs.declared.fault.Fault.{Fault}
use Rattle.fault.specs.declared.fault.Question.TheVariants.{WidthsWithinRow}
use Rattle.procedure.specs.Drawings.{Drawing}
use Rattle.procedure.specs.Procedures.{drawing}
use Rattle.procedure.specs.declared.procedure.Procedure.{Procedure}
use Rattle.rules.specs.Cells.{width}
use Rattle.rules.specs.Growing.{Values}
use Rattle.diagram.specs.Valued.{values_of, kept_of}
use Rattle.diagram.specs.Plans.{nodes_of, tree_at, LowestWide}
use Rattle.diagram.specs.declared.type_values.TypeValues.{TypeValues}
use Rattle.diagram.specs.declared.diagram.Diagram.{Diagram}
use Rattle.diagram.specs.declared.plan.Plan.{Plan}
use Rattle.opened.specs.Opening.{told_values, type_asks, root_tree, width_asks}
use Rattle.opened.specs.Opens.{OpenedWith}
use Rattle.opened.proofs.KeptValues.{told-tree, widths-asked, wide-asked}

-- a plan became a diagram, or it has a lowest wide node
abbrev Drawn : Plan → Result Diagram ℕ → Type 0
Drawn p r = MatchResult r (λ d. d.plan ≡ p) (λ i. LowestWide p i)

-- the plan of a diagram, if there is one
abbrev plan_in : {F : Type 0} → Plan → Result Diagram F → Plan
plan_in p (Ok d) = d.plan
plan_in p (Err f) = p

-- a diagram has the plan that it came from
pub plan-kept : (p : Plan) (d : Diagram) (r : Result Diagram ℕ) → Drawn p r → MatchResult r (λ x. ◌≡◌ {A = Result Diagram Fault} (Ok d) (Ok x)) (λ e. ⊥) → d.plan ≡ p
plan-kept p d (Ok x) k e = ap (plan_in p) e ∙ k
plan-kept p d (Err i) k e = absurd e

-- a node is the lowest wide one, and the fault is its
pub record WideAt (p : Plan) (f : Fault) : Type 0 where
  pub node : ℕ
  pub lowest : LowestWide p node
  pub fault : f ≡ record { question = WidthsWithinRow; place = node }

-- a plan without a diagram has a wide node, which its fault names
pub wide-at : (p : Plan) (f : Fault) (r : Result Diagram ℕ) {B : ℕ → Type 0} → Drawn p r → MatchResult r (λ x. ◌≡◌ {A = Result Diagram Fault} (Err f) (Ok x)) B
    → ((i : ℕ) → B i → f ≡ record { question = WidthsWithinRow; place = i }) → WideAt p f
wide-at p f (Ok x) k e names = cc
wide-at p f (Err i) k e names = record { node = i; lowest = k; fault = names i e }

-- a plan of the kept values, where the types are known
module _ (p : Procedure) (v : TypeValues) (told : ℕ → Option (List ℕ)) (keeps : (ty : ℕ) → values_of v ty ≡ kept_of told ty) (types : refusal (type_asks (drawing p) told) ≡ None) where
  abbrev plan : Plan
  plan = record { procedure = p; values = v }

  kept : values_of v ≡ kept_of told
  kept = fun_ext keeps

  -- question 13, of a plan that became a diagram, and of one that did not
  pub diagram-asked : (d : Diagram) → d.plan ≡ plan → refusal (width_asks (drawing p) told) ≡ None
  diagram-asked d e =
      widths-asked (drawing p) p.drawn told types (values_of v) kept
      (subst (λ (q : Plan). (k : ℕ) → k < length (nodes_of q) → width (tree_at q k) ≤ 48) e (λ k lt. (d.measured k lt).1))

  pub plan-asked : (f : Fault) → WideAt plan f → refusal (width_asks (drawing p) told) ≡ Some f
  plan-asked f w =
      wide-asked (drawing p) p.drawn told types (values_of v) kept w.node w.lowest.is_node w.lowest.wide w.lowest.lowest ∙ ap Some (sym w.fault)

  -- the tree of the root is the one under all that the roster tells
  pub root-told : (d : Diagram) → d.plan ≡ plan → tree_at d.plan (length (nodes_of d.plan) - 1) ≡ root_tree (told_values told) (drawing p)
  root-told d e =
      ap (λ (q : Plan). tree_at q (length (nodes_of q) - 1)) e ∙ told-tree (drawing p) p.drawn told types (values_of v) kept (length (drawing p).nodes - 1)

  -- what an opening takes over
  pub taken-over : (d : Diagram) (ceiling : ℕ) → d.plan ≡ plan
      → ◌≡◌ {A = OpenedWith} (record { drawing = drawing d.plan.procedure; values = values_of d.plan.values; ceiling = ceiling }) (record { drawing = drawing p; values = kept_of told; ceiling = ceiling })
  taken-over d ceiling e =
      ap (λ (q : Plan). opened-with (drawing q.procedure) (values_of q.values) ceiling) e ∙ ap (λ (w : Values). opened-with (drawing p) w ceiling) kept
    where
      opened-with : Drawing → Values → ℕ → OpenedWith
      opened-with d w c = record { drawing = d; values = w; ceiling = c }

-- Where no guard has a say in an event, any answers to it are right.
use Rattle.std.proofs.Common.{◌≡◌, refl, sym, ◌∙◌, ap, ℕ, zero, suc, Bool, true, false, true≢false, List, [], ◌∷◌, Some, eq-eqb}
use Rattle.std.proofs.lemmas.Bool.{and_from, or_parts}
use Rattle.std.proofs.lemmas.Option.{none-some}
use Rattle.std.specs.Option.{is_some}
use Rattle.std.specs.List.{slice_get, list_any}
use Rattle.notation.specs.declared.node.Node.TheVariants.{Guard}
use Rattle.rules.specs.Trees.{Guards}
use Rattle.diagram.specs.Plans.{nodes_of, arrows_in}
use Rattle.diagram.specs.declared.diagram.Diagram.{Diagram}
use Rattle.answers.specs.Answering.{Agrees}
use Rattle.answers.specs.declared.answers.Answers.{Answers}
use Rattle.opened.specs.Guarding.{is_guard, is_guarded}

-- what passes a test is at no place of a list of which none does
none-passes : {X : Type 0} (test : X → Bool) (l : List X) (k : ℕ) (x : X) → list_any test l ≡ false → slice_get l k ≡ Some x → test x ≡ true → ⊥
none-passes test [] k x none e t = none-some x e
none-passes test (y ∷ l) zero x none e t =
    let same : x ≡ y = cc in
    true≢false (sym t ∙ ap test same ∙ (or_parts (test y) (list_any test l) none).0)
none-passes test (y ∷ l) (suc k) x none e t = none-passes test l k x (or_parts (test y) (list_any test l) none).1 e t

pub unguarded-agrees : (d : Diagram) (a : Answers) (g : Guards) → list_any is_guard (nodes_of d.plan) ≡ false → list_any (is_guarded a.event.label) (arrows_in d.plan) ≡ false → Agrees d a g
unguarded-agrees d a g no-node no-arrow = record {
  nodes = λ i guard body at. absurd (none-passes is_guard (nodes_of d.plan) i (Guard guard body) no-node at refl);
  arrows = λ k guard w at has outer inner v there carries.
      absurd (none-passes (is_guarded a.event.label) (arrows_in d.plan) k w no-arrow at (and_from _ _ (eq-eqb _ _ carries.label) (ap is_some has)));
}

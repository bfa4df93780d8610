-- The way from a node to the root, and an arrow's automaton.
use Rattle.std.proofs.Common.{◌≡◌, ℕ, suc, ◌+◌, ◌<◌, ◌≤◌, Bool, true, false, cond, ◌&&◌, ltb, ◌⊎◌, List, [], ◌∷◌, length, get_or, Some, None, Option, sym, ap, ◌∙◌, inl, inr, ⊎_elim, arith}
use Rattle.std.proofs.lemmas.List.{get_or_past}
use Rattle.std.proofs.lemmas.Bool.{cases_lt, cases_Bool, and_parts, ltb-true}
use Rattle.notation.specs.Parts.{children_of, binds, states_of, blank_node, blank_arrow}
use Rattle.notation.specs.declared.node.Node.{Node}
use Rattle.notation.specs.declared.arrow.Arrow.{Arrow}
use Rattle.record.proofs.Below.{all-at}
use Rattle.procedure.specs.Scopes.{among, parent_from, parent_of, binder_at, binders_from, binders_within, arrow_placed}
use Rattle.procedure.specs.Sound.{arrow_sound, arrows_sound}

parent-within : (i : ℕ) (ns : List Node) (k : ℕ) (f : Option ℕ) (p : ℕ) → parent_from i ns k f ≡ Some p → (f ≡ Some p) ⊎ (p < i + length ns)
parent-within i [] k f p h = inl h
parent-within i (n ∷ ns) k f p h =
    ⊎_elim
    (λ e. ⊎_elim
    (λ t. let s : Some i ≡ Some p = sym (ap (λ b. cond b (Some i) f) t) ∙ e in let q : i ≡ p = cc in inr (omega arith))
    (λ z. inl (sym (ap (λ b. cond b (Some i) f) z) ∙ e))
    (cases_Bool (among k (children_of n))))
    (λ lt. inr (omega arith))
    (parent-within (suc i) ns k (cond (among k (children_of n)) (Some i) f) p h)

-- a parent is one of the nodes
pub parent-below : (ns : List Node) (k p : ℕ) → parent_of ns k ≡ Some p → p < length ns
parent-below ns k p h = ⊎_elim (λ e. cc) (λ lt. omega arith) (parent-within 0 ns k None p h)

-- on the way to the root: one node further, and the end
pub above_more : (ns : List Node) (s t k p above here : ℕ) (all : ℕ) → s ≡ suc t → parent_of ns k ≡ Some p → here ≡ binder_at ns p → above + binders_within s ns k ≡ all → (above + here) + binders_within t ns p ≡ all
above_more ns s t k p above here all e h n i =
    let u : binders_within s ns k ≡ binder_at ns p + binders_within t ns p = rw e (ap (binders_from (binders_within t ns) ns) h) in
    omega arith

-- an arrow's automaton is one of the nodes
pub arrow-node : (ns : List Node) (ws : List Arrow) (j : ℕ) → arrows_sound ns ws ≡ true → j < length ws → (get_or ws j blank_arrow).node < length ns
arrow-node ns ws j s lt =
    let a = get_or ws j blank_arrow in
    let y = all-at (λ i. arrow_sound (get_or ws i blank_arrow) && arrow_placed ns (get_or ws i blank_arrow)) (length ws) j s lt in
    let p = and_parts (arrow_sound a) (arrow_placed ns a) y in
    let q = and_parts (ltb a.from (states_of (get_or ns a.node blank_node))) (ltb a.to (states_of (get_or ns a.node blank_node))) p.1 in
    let f = ltb-true a.from (states_of (get_or ns a.node blank_node)) q.0 in
    ⊎_elim
    (λ h. h)
    (λ ge. let z : states_of (get_or ns a.node blank_node) ≡ 0 = ap states_of (get_or_past ns a.node blank_node ge) in absurd (omega arith))
    (cases_lt a.node (length ns))

pub binder-small : (ns : List Node) (k : ℕ) → binder_at ns k ≤ 1
binder-small ns k = by (binds (get_or ns k blank_node))
  where
    by : (b : Bool) → cond {A = ℕ} b 1 0 ≤ 1
    by true = omega arith
    by false = omega arith

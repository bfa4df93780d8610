-- A draft that takes one node or one arrow more, and why it may not.
use Rattle.std.proofs.Common.{◌≡◌, ℕ, ◌<◌, ◌≤◌, Bool, true, ◌&&◌, ltb, leb, List, [], ◌∷◌, ◌++◌, length, get_or, take, replicate, Some, None, Option, sym, refl, ap, ◌∙◌, ⊎_elim, arith}
use Rattle.std.proofs.lemmas.List.{take_all, length_push, take-append-le, get_or_append_left, get_or_push, get_or_past, get_or-replicate, length-replicate}
use Rattle.std.proofs.lemmas.Bool.{cases_lt, and_parts, and_from, ltb-true, le-leb}
use Rattle.fault.specs.Asking.{refusal}
use Rattle.fault.specs.declared.fault.Question.TheVariants.{ChildrenFree}
use Rattle.notation.specs.Parts.{children_of, states_of, blank_node, blank_arrow}
use Rattle.notation.specs.declared.node.Node.{Node}
use Rattle.notation.specs.declared.arrow.Arrow.{Arrow}
use Rattle.record.specs.Ranges.{all_below}
use Rattle.record.specs.declared.entry.Entry.TheVariants as e
use Rattle.record.proofs.Below.{all_more, all-as}
use Rattle.procedure.specs.Drafts.{drawn, Faithful}
use Rattle.procedure.specs.Scopes.{parent_of, children_free, arrow_placed}
use Rattle.procedure.specs.Claims.{claims}
use Rattle.procedure.specs.Reading.{entry_asks}
use Rattle.procedure.specs.Sound.{node_sound, arrow_sound, nodes_sound, arrows_sound}
use Rattle.notation.specs.Tables.{Table}
use Rattle.procedure.specs.declared.draft.Draft.TheInside.{Inside}
use Rattle.procedure.proofs.Claiming.{parent-push, claims-yes, claims-no}

nodes-push : (ns : List Node) (n : Node) → nodes_sound ns ≡ true → node_sound n ≡ true → children_free ns [] (children_of n) ≡ true → nodes_sound (ns ++ n ∷ []) ≡ true
nodes-push ns n s h f =
    let test : List Node → ℕ → Bool = λ xs i. node_sound (get_or xs i blank_node) && children_free (take i xs) [] (children_of (get_or xs i blank_node)) in
    let old : all_below (length ns) (test (ns ++ n ∷ [])) ≡ true =
    all-as (test ns) (test (ns ++ n ∷ [])) (length ns) (λ i lt y. let le : i ≤ length ns = omega arith in rw (get_or_append_left ns (n ∷ []) blank_node i lt, take-append-le i ns (n ∷ []) le) y) s in
    let last : test (ns ++ n ∷ []) (length ns) ≡ true =
    rw (get_or_push ns n blank_node (length ns) refl, take-append-le (length ns) ns (n ∷ []) (omega arith), take_all (length ns) ns (omega arith), h) f in
    rw length_push (all_more (test (ns ++ n ∷ [])) (length ns) old last)

placed-push : (ns : List Node) (n : Node) (a : Arrow) → arrow_placed ns a ≡ true → arrow_placed (ns ++ n ∷ []) a ≡ true
placed-push ns n a h =
    ⊎_elim
    (λ lt. rw (get_or_append_left ns (n ∷ []) blank_node a.node lt) h)
    (λ ge.
    let p = and_parts (ltb a.from (states_of (get_or ns a.node blank_node))) (ltb a.to (states_of (get_or ns a.node blank_node))) h in
    let lt = ltb-true a.from (states_of (get_or ns a.node blank_node)) p.0 in
    let z : states_of (get_or ns a.node blank_node) ≡ 0 = ap states_of (get_or_past ns a.node blank_node ge) in
    absurd (omega arith))
    (cases_lt a.node (length ns))

arrows-kept : (ns : List Node) (n : Node) (ws : List Arrow) → arrows_sound ns ws ≡ true → arrows_sound (ns ++ n ∷ []) ws ≡ true
arrows-kept ns n ws h =
    all-as _ _ (length ws)
    (λ j lt y. let p = and_parts (arrow_sound (get_or ws j blank_arrow)) (arrow_placed ns (get_or ws j blank_arrow)) y in and_from (arrow_sound (get_or ws j blank_arrow)) (arrow_placed (ns ++ n ∷ []) (get_or ws j blank_arrow)) p.0 (placed-push ns n (get_or ws j blank_arrow) p.1)) h

-- the node is taken
pub node-more : (d : Inside) (n : Node) (u : List (Option ℕ)) → Faithful d → node_sound n ≡ true → length d.nodes.items < 64 → claims (length d.nodes.items) d.parents (children_of n) ≡ Some u
    → (t : Table Node) → t.items ≡ d.nodes.items ++ n ∷ [] → Faithful (record { nodes = t; arrows = d.arrows; parents = u })
node-more d n u s h lt c t e =
    let y = claims-yes (length d.nodes.items) d.nodes.items [] (children_of n) d.parents u refl s.few-nodes (record { long = s.parent-places; at = s.parents }) c in
    record {
      few-nodes = rw (e, length_push) (omega arith);
      few-arrows = s.few-arrows;
      parent-places = y.1.long;
      parents = λ k lt'. y.1.at k lt' ∙ sym (parent-push d.nodes.items n k) ∙ ap (λ xs. parent_of xs k) (sym e);
      nodes-sound = rw e (nodes-push d.nodes.items n s.nodes-sound h y.0);
      arrows-sound = rw e (arrows-kept d.nodes.items n d.arrows.items s.arrows-sound);
    }

-- and its questions are answered yes
pub node-passes : (d : Inside) (n : Node) (u : List (Option ℕ)) (place : ℕ) → Faithful d → length d.nodes.items < 64 → claims (length d.nodes.items) d.parents (children_of n) ≡ Some u
    → refusal (entry_asks (drawn d) place true (Some (e.Node n))) ≡ None
node-passes d n u place s lt c =
    let y = claims-yes (length d.nodes.items) d.nodes.items [] (children_of n) d.parents u refl s.few-nodes (record { long = s.parent-places; at = s.parents }) c in
    let many : leb (length (d.nodes.items ++ n ∷ [])) 64 ≡ true = le-leb (length (d.nodes.items ++ n ∷ [])) 64 (rw length_push (omega arith)) in
    rw (many, le-leb (length d.arrows.items) 256 s.few-arrows, y.0) refl

-- a child of the node is not free
pub node-taken : (d : Inside) (n : Node) (place : ℕ) → Faithful d → length d.nodes.items < 64 → claims (length d.nodes.items) d.parents (children_of n) ≡ None
    → refusal (entry_asks (drawn d) place true (Some (e.Node n))) ≡ Some (record { question = ChildrenFree; place = place })
node-taken d n place s lt c =
    let z = claims-no (length d.nodes.items) d.nodes.items [] (children_of n) d.parents refl s.few-nodes (record { long = s.parent-places; at = s.parents }) c in
    let many : leb (length (d.nodes.items ++ n ∷ [])) 64 ≡ true = le-leb (length (d.nodes.items ++ n ∷ [])) 64 (rw length_push (omega arith)) in
    rw (many, le-leb (length d.arrows.items) 256 s.few-arrows, z) refl

-- in a table of 64 places without a parent nobody has one
pub nobody : (k : ℕ) → ◌≡◌ {A = Option ℕ} (get_or (replicate 64 None) k None) None
nobody k = ⊎_elim (λ lt. get_or-replicate 64 k None None lt) (λ ge. get_or_past (replicate 64 None) k None (rw length-replicate ge)) (cases_lt k 64)

arrows-push : (ns : List Node) (ws : List Arrow) (a : Arrow) → arrows_sound ns ws ≡ true → arrow_sound a ≡ true → arrow_placed ns a ≡ true → arrows_sound ns (ws ++ a ∷ []) ≡ true
arrows-push ns ws a s h f =
    let test : List Arrow → ℕ → Bool = λ xs j. arrow_sound (get_or xs j blank_arrow) && arrow_placed ns (get_or xs j blank_arrow) in
    let old : all_below (length ws) (test (ws ++ a ∷ [])) ≡ true =
    all-as (test ws) (test (ws ++ a ∷ [])) (length ws) (λ j lt y. rw (get_or_append_left ws (a ∷ []) blank_arrow j lt) y) s in
    let last : test (ws ++ a ∷ []) (length ws) ≡ true = rw (get_or_push ws a blank_arrow (length ws) refl, h) f in
    rw length_push (all_more (test (ws ++ a ∷ [])) (length ws) old last)

-- the arrow is taken
pub arrow-more : (d : Inside) (a : Arrow) → Faithful d → arrow_sound a ≡ true → length d.arrows.items < 256 → arrow_placed d.nodes.items a ≡ true
    → (t : Table Arrow) → t.items ≡ d.arrows.items ++ a ∷ [] → Faithful (record { nodes = d.nodes; arrows = t; parents = d.parents })
arrow-more d a s h lt p t e = record {
  few-nodes = s.few-nodes;
  few-arrows = rw (e, length_push) (omega arith);
  parent-places = s.parent-places;
  parents = s.parents;
  nodes-sound = s.nodes-sound;
  arrows-sound = rw e (arrows-push d.nodes.items d.arrows.items a s.arrows-sound h p);
}

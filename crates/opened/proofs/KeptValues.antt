-- What is kept of the values that a roster tells, where question 12 is answered yes.
use Rattle.std.proofs.Common.{◌≡◌, refl, ◌∙◌, ap, subst, ℕ, ◌<◌, ◌≤◌, true, List, [], ◌∷◌, length, Option, Some, None, nat_le, slice_index_or, cond, arith}
use Rattle.std.proofs.lemmas.Option.{slice_get_within, get_or_from_slice_get}
use Rattle.std.proofs.lemmas.Bool.{and_parts, le-leb, leb-true, lt-leb}
use Rattle.fault.specs.Asking.{refusal}
use Rattle.fault.specs.declared.fault.Question.TheVariants.{TypesKnown, WidthsWithinRow}
use Rattle.fault.proofs.Refusals.{each-yes, one-no, asked-each, yes-first}
use Rattle.notation.specs.Parts.{blank_node, over_of}
use Rattle.notation.specs.declared.node.Node.{Node}
use Rattle.notation.specs.declared.node.Node.TheVariants.{Closure, Automaton, Sequence, Guard, Choice, Synchronisation, QuantifiedChoice, QuantifiedSynchronisation}
use Rattle.procedure.specs.Drawings.{Drawing}
use Rattle.procedure.specs.Sound.{node_sound, sound}
use Rattle.rules.specs.Cells.{width}
use Rattle.rules.specs.Growing.{Values, tree_of}
use Rattle.rules.proofs.Growing.{node-parts}
use Rattle.diagram.specs.Valued.{fitting, kept_of}
use Rattle.opened.specs.Opening.{listed_or_none, told_values, has_few, type_known, type_asks, width_asks}
use Rattle.opened.proofs.Trees.{Alike, trees-alike}

-- a type that a sound node names is at most 7
over-low : (n : Node) (ty : ℕ) → node_sound n ≡ true → over_of n ≡ Some ty → ty ≤ 7
over-low (Closure body) ty s e = cc
over-low (Automaton states) ty s e = cc
over-low (Sequence first second) ty s e = cc
over-low (Guard guard body) ty s e = cc
over-low (Choice left right) ty s e = cc
over-low (Synchronisation left right labels) ty s e = cc
over-low (QuantifiedChoice over body) ty s e = let same : over ≡ ty = cc in rw same at (leb-true over 7 s)
over-low (QuantifiedSynchronisation over body labels) ty s e = let same : over ≡ ty = cc in rw same at (leb-true over 7 (and_parts _ _ s).0)

-- at most 16 values are kept, all of them
few-kept : (o : Option (List ℕ)) → has_few o ≡ true → fitting o ≡ listed_or_none o
few-kept None h = refl
few-kept (Some xs) h = ap (λ b. cond b xs []) (and_parts (nat_le 1 (length xs)) (nat_le (length xs) 16) h).1

-- the values of such a type are kept
kept-told : (told : ℕ → Option (List ℕ)) (ty : ℕ) → ty ≤ 7 → has_few (told ty) ≡ true → kept_of told ty ≡ told_values told ty
kept-told told ty l h =
    let f = few-kept (told ty) h in
    grind arith

-- the types that the nodes of a procedure name are known
module _ (d : Drawing) (sure : sound d.nodes d.arrows ≡ true) (told : ℕ → Option (List ℕ)) (types : refusal (type_asks d told) ≡ None) where
  type-known : (i : ℕ) → i < length d.nodes → type_known told (over_of (slice_index_or d.nodes i blank_node)) ≡ true
  type-known i lt =
      (yes-first _ [] (asked-each (length d.nodes) (λ k. record { question = TypesKnown; place = k; yes = type_known told (over_of (slice_index_or d.nodes k blank_node)) } ∷ []) types i lt)).0

  kept-alike : Alike (kept_of told) (told_values told) d
  kept-alike i n e ty o =
      let is : slice_index_or d.nodes i blank_node ≡ n = get_or_from_slice_get d.nodes i n blank_node e in
      let known = type-known i (slice_get_within d.nodes i n e) in
      kept-told told ty (over-low n ty (node-parts d sure i n e).0 o) (subst (λ (x : Option ℕ). type_known told x ≡ true) (ap over_of is ∙ o) known)

  -- the trees under what is kept are those under all that the roster tells
  pub kept-trees : (i : ℕ) → tree_of (kept_of told) d i ≡ tree_of (told_values told) d i
  kept-trees = trees-alike (kept_of told) (told_values told) d kept-alike

  -- values that are the kept ones
  module _ (v : Values) (kept : v ≡ kept_of told) where
    pub told-tree : (i : ℕ) → tree_of v d i ≡ tree_of (told_values told) d i
    told-tree i = ap (λ (w : Values). tree_of w d i) kept ∙ kept-trees i

    told-width : (i : ℕ) → width (tree_of v d i) ≡ width (tree_of (told_values told) d i)
    told-width i = ap width (told-tree i)

    within : (i : ℕ) → width (tree_of v d i) ≤ 48 → nat_le (width (tree_of (told_values told) d i)) 48 ≡ true
    within i l = let e = told-width i in le-leb _ 48 (omega arith)

    -- no node is wider than a row, or the lowest one is
    pub widths-asked : ((k : ℕ) → k < length d.nodes → width (tree_of v d k) ≤ 48) → refusal (width_asks d told) ≡ None
    widths-asked h = each-yes WidthsWithinRow (length d.nodes) (λ i. nat_le (width (tree_of (told_values told) d i)) 48) (λ k lt. within k (h k lt))

    pub wide-asked : (i : ℕ) → i < length d.nodes → 48 < width (tree_of v d i) → ((k : ℕ) → k < i → width (tree_of v d k) ≤ 48)
        → refusal (width_asks d told) ≡ Some (record { question = WidthsWithinRow; place = i })
    wide-asked i lt wide low =
        let e = told-width i in
        one-no WidthsWithinRow (length d.nodes) i (λ k. nat_le (width (tree_of (told_values told) d k)) 48) lt (λ k l. within k (low k l)) (lt-leb _ 48 (omega arith))

-- From the root down, what is above each node's children follows from what is above it.
use Rattle.std.proofs.Common.{◌≡◌, ℕ, zero, suc, ◌+◌, ◌-◌, ◌≤◌, true, List, length, replicate, Some, sym, subst, ap, ◌∙◌, refl, ⊎_elim, arith}
use Rattle.std.proofs.lemmas.Bool.{cases_eq, and_parts}
use Rattle.std.proofs.lemmas.Option.{slice_get_within}
use Rattle.std.specs.List.{slice_get}
use mathlib.Core.List.{Memᴰ}
use Rattle.notation.specs.Parts.{children_of}
use Rattle.notation.specs.declared.node.Node.{Node}
use Rattle.procedure.specs.Drawings.{Drawing}
use Rattle.procedure.specs.Sound.{sound, nodes_sound}
use Rattle.rules.proofs.Growing.{children-below}
use Rattle.diagram.specs.Scopes.{binders_at, binders_under, no_binders}
use Rattle.diagram.specs.declared.binders.Binders.{Binders}
use Rattle.diagram.proofs.Parents.{one-parent}

-- a table tells what is above the children of the nodes from i on, and that nothing is above the root
pub record PlacedFrom (ns : List Node) (i : ℕ) (bs : List Binders) : Type 0 where
  pub placed : (j k : ℕ) (n : Node) → i ≤ j → slice_get ns j ≡ Some n → Memᴰ k (children_of n) → binders_at bs k ≡ binders_under n (binders_at bs j)
  pub rooted : binders_at bs (length ns - 1) ≡ no_binders

blank-at : (m k : ℕ) → binders_at (replicate m no_binders) k ≡ no_binders
blank-at zero k = refl
blank-at (suc m) zero = refl
blank-at (suc m) (suc k) = blank-at m k

pub placed-none : (ns : List Node) (m : ℕ) → PlacedFrom ns (length ns) (replicate m no_binders)
placed-none ns m = record {
  placed = λ j k n le e c. let lt = slice_get_within ns j n e in absurd (omega arith);
  rooted = blank-at m (length ns - 1);
}

node-of : {n m : Node} → Some n ≡ Some m → n ≡ m
node-of e = cc

module _ (d : Drawing) (s : sound d.nodes d.arrows ≡ true) where
  drawn-nodes : nodes_sound d.nodes ≡ true
  unfolding sound
  drawn-nodes = (and_parts _ _ s).0

  pub placed-more : (i : ℕ) (n : Node) (old bs : List Binders) → slice_get d.nodes i ≡ Some n → PlacedFrom d.nodes (i + 1) old
      → ((k : ℕ) → Memᴰ k (children_of n) → binders_at bs k ≡ binders_under n (binders_at old i))
      → ((k : ℕ) → (Memᴰ k (children_of n) → ⊥) → binders_at bs k ≡ binders_at old k)
      → PlacedFrom d.nodes i bs
  placed-more i n old bs e p puts leaves =
      let within = slice_get_within d.nodes i n e in
      let same-node = λ (m : Node) (f : slice_get d.nodes i ≡ Some m) (b : Binders). ap (λ (x : Node). binders_under x b) (node-of (sym e ∙ f)) in
      let here = λ (m : Node) (k : ℕ) (f : slice_get d.nodes i ≡ Some m) (c : Memᴰ k (children_of m)). subst (λ (x : Node). Memᴰ k (children_of x)) (sym (node-of (sym e ∙ f))) c in
      let still : (j : ℕ) → i ≤ j → binders_at bs j ≡ binders_at old j =
      λ j le. leaves j (λ m. let lt = children-below d s i n e j m in omega arith) in
      record {
        placed = λ j k m le f c.
            ⊎_elim
            (λ same. puts k (here m k (ap (slice_get d.nodes) (sym same) ∙ f) c)
            ∙ same-node m (ap (slice_get d.nodes) (sym same) ∙ f) (binders_at old i) ∙ ap (binders_under m) (ap (binders_at old) (sym same) ∙ sym (still j le)))
            (λ other. leaves k (λ c'. one-parent d.nodes drawn-nodes i j k n m e f (omega arith) c' c)
            ∙ p.placed j k m (omega arith) f c ∙ ap (binders_under m) (sym (still j le)))
            (cases_eq j i);
        rooted = still (length d.nodes - 1) (omega arith) ∙ p.rooted;
      }

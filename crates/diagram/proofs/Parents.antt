-- In a sound drawing no node is a child of two.
use Rattle.std.proofs.Common.{◌≡◌, ℕ, zero, suc, ◌<◌, cond, true, false, ◌&&◌, List, [], ◌∷◌, ◌++◌, length, take, get_or, Option, Some, None, is_some, ◌==◌, slice_index_or, sym, subst, refl, ap, ◌∙◌, ⊎_elim, arith}
use Rattle.std.proofs.lemmas.Bool.{and_parts, or_left, or_right, eq-eqb, cases_Bool, not-true}
use Rattle.std.proofs.lemmas.List.{get_or-take, length-take-le}
use Rattle.std.proofs.lemmas.Option.{none-some, slice_get_within, slice_get-get_or, get_or_from_slice_get}
use borrow.Author.Tests.{clash}
use Rattle.std.specs.List.{slice_get}
use mathlib.Core.List.{Memᴰ}
use mathlib.Core.List.Memᴰ
use Rattle.notation.specs.Parts.{blank_node, children_of}
use Rattle.notation.specs.declared.node.Node.{Node}
use Rattle.record.proofs.Below.{all-at}
use Rattle.procedure.specs.Scopes.{among, parent_from, parent_of, children_free}
use Rattle.procedure.specs.Sound.{node_sound, nodes_sound}

among-mem : (k : ℕ) (ks : List ℕ) → Memᴰ k ks → among k ks ≡ true
among-mem k [] m = absurd (Memᴰ.not-nil m)
among-mem k (x ∷ ks) m =
    ⊎_elim (λ e. or_left (x == k) (among k ks) (eq-eqb x k (sym e))) (λ i. or_right (x == k) (among k ks) (among-mem k ks i)) (Memᴰ.cases_cons m)

-- once found, or to be found, a parent is there
parent-found : (i : ℕ) (ns : List Node) (k p : ℕ) → is_some (parent_from i ns k (Some p)) ≡ true
parent-found i [] k p = refl
parent-found i (n ∷ ns) k p =
    ⊎_elim (λ y. rw y (parent-found (suc i) ns k i)) (λ y. rw y (parent-found (suc i) ns k p)) (cases_Bool (among k (children_of n)))

parent-there : (i : ℕ) (ns : List Node) (k j : ℕ) (o : Option ℕ) (n : Node) → slice_get ns j ≡ Some n → Memᴰ k (children_of n) → is_some (parent_from i ns k o) ≡ true
parent-there i [] k j o n e m = absurd (none-some n e)
parent-there i (x ∷ ns) k zero o n e m =
    let s : x ≡ n = cc in
    let y : among k (children_of x) ≡ true = rw s (among-mem k (children_of n) m) in
    rw y (parent-found (suc i) ns k i)
parent-there i (x ∷ ns) k (suc j) o n e m = parent-there (suc i) ns k j (cond (among k (children_of x)) (Some i) o) n e m

-- a child that may be claimed has no parent
free-orphan : (ns : List Node) (before ks : List ℕ) → children_free ns before ks ≡ true → (k : ℕ) → Memᴰ k ks → is_some (parent_of ns k) ≡ false
free-orphan ns before [] h k m = absurd (Memᴰ.not-nil m)
free-orphan ns before (x ∷ ks) h k m =
    let p = and_parts _ _ h in
    let q = and_parts _ _ p.1 in
    let r = and_parts _ _ q.1 in
    ⊎_elim (λ e. rw e (not-true (is_some (parent_of ns x)) q.0)) (λ i. free-orphan ns (before ++ x ∷ []) ks r.1 k i) (Memᴰ.cases_cons m)

pub one-parent : (ns : List Node) → nodes_sound ns ≡ true → (i j k : ℕ) (n m : Node) → slice_get ns i ≡ Some n → slice_get ns j ≡ Some m → i < j → Memᴰ k (children_of n) → Memᴰ k (children_of m) → ⊥
one-parent ns s i j k n m e f lt a b =
    let within = slice_get_within ns j m f in
    let long : length (take j ns) ≡ j = length-take-le j ns (omega arith) in
    let same : get_or (take j ns) i blank_node ≡ n = get_or-take j ns i blank_node lt ∙ get_or_from_slice_get ns i n blank_node e in
    let early : slice_get (take j ns) i ≡ Some n = slice_get-get_or (take j ns) i blank_node (omega arith) ∙ ap (λ (x : Node). Some x) same in
    let is : slice_index_or ns j blank_node ≡ m = get_or_from_slice_get ns j m blank_node f in
    let h = all-at (λ l. node_sound (slice_index_or ns l blank_node) && children_free (take l ns) [] (children_of (slice_index_or ns l blank_node))) (length ns) j s within in
    let free = subst (λ (x : Node). children_free (take j ns) [] (children_of x) ≡ true) is (and_parts _ _ h).1 in
    let orphan = free-orphan (take j ns) [] (children_of m) free k b in
    let there = parent-there 0 (take j ns) k i None n early a in
    clash (sym orphan ∙ there)

-- Claims of children: one after the other, and what they come to.
use Rattle.std.proofs.Common.{◌≡◌, ℕ, suc, ◌+◌, ◌<◌, ◌≤◌, Bool, true, false, cond, not, ◌&&◌, ◌||◌, eqb, ltb, List, [], ◌∷◌, ◌++◌, length, get_or, set, is_some, Some, None, Option, sym, refl, ap, ◌∙◌, ⊎_elim, append_assoc, add-zero, arith}
use Rattle.std.proofs.lemmas.List.{append-nil, length-set, get_or-set_same, get_or-set_other}
use Rattle.std.proofs.Math.Bool.{or-false, or_assoc}
use Rattle.std.proofs.lemmas.Bool.{cases_eq, cases_Bool, and_parts, or_left, or_right, not-true, not-false, ltb-true, ltb-false, lt-ltb, le-ltb, eq-eqb, ne_eqb, and_cases, and_right}
use Rattle.notation.specs.Parts.{children_of}
use Rattle.notation.specs.declared.node.Node.{Node}
use Rattle.procedure.specs.Claims.{claims}
use Rattle.procedure.specs.Scopes.{among, parent_from, parent_of, children_free}

among-append : (k : ℕ) (xs ys : List ℕ) → among k (xs ++ ys) ≡ (among k xs || among k ys)
among-append k [] ys = refl
among-append k (x ∷ xs) ys = ap (λ a. eqb x k || a) (among-append k xs ys) ∙ sym (or_assoc (eqb x k) (among k xs) (among k ys))

parent-from : (i : ℕ) (ns : List Node) (n : Node) (k : ℕ) (f : Option ℕ)
    → parent_from i (ns ++ n ∷ []) k f ≡ cond (among k (children_of n)) (Some (i + length ns)) (parent_from i ns k f)
parent-from i [] n k f = rw add-zero refl
parent-from i (x ∷ ns) n k f =
    parent-from (suc i) ns n k (cond (among k (children_of x)) (Some i) f)
    ∙ ap (λ j. cond (among k (children_of n)) (Some j) (parent_from i (x ∷ ns) k f)) (omega arith)

-- the parents once a node more is there
pub parent-push : (ns : List Node) (n : Node) (k : ℕ) → parent_of (ns ++ n ∷ []) k ≡ cond (among k (children_of n)) (Some (length ns)) (parent_of ns k)
parent-push ns n k = parent-from 0 ns n k None ∙ ap (λ j. cond (among k (children_of n)) (Some j) (parent_of ns k)) (omega arith)

-- the table of parents in which node m, which comes after the nodes ns, has claimed the children `before`
pub record Parents (m : ℕ) (ns : List Node) (before : List ℕ) (t : List (Option ℕ)) : Type 0 where
  pub long : length t ≡ 64
  pub at : (j : ℕ) → j < 64 → get_or t j None ≡ cond (among j before) (Some m) (parent_of ns j)

among-last : (k : ℕ) (xs : List ℕ) → among k (xs ++ k ∷ []) ≡ true
among-last k xs = among-append k xs (k ∷ []) ∙ or_right (among k xs) (eqb k k || false) (or_left (eqb k k) false (eq-eqb k k refl))

among-other : (j k : ℕ) (xs : List ℕ) → (j ≡ k → ⊥) → among j (xs ++ k ∷ []) ≡ among j xs
among-other j k xs ne = among-append j xs (k ∷ []) ∙ rw (ne_eqb k j (λ e. ne (sym e))) (or-false (among j xs))

table-set : (m : ℕ) (ns : List Node) (before : List ℕ) (t : List (Option ℕ)) (k : ℕ) → k < 64 → Parents m ns before t → Parents m ns (before ++ k ∷ []) (set t k (Some m))
table-set m ns before t k lt h =
    let l = h.long in
    let lt' : k < length t = omega arith in
    record {
      long = length-set t k (Some m) ∙ h.long;
      at = λ j s. ⊎_elim
          (λ e. rw e (get_or-set_same t k (Some m) None lt' ∙ sym (ap (λ a. cond a (Some m) (parent_of ns k)) (among-last k before))))
          (λ ne. get_or-set_other t k j (Some m) None ne ∙ h.at j s ∙ sym (ap (λ a. cond a (Some m) (parent_of ns j)) (among-other j k before ne)))
          (cases_eq j k);
    }

free-both : (m : ℕ) (a : Bool) (p : Option ℕ) → is_some (cond a (Some m) p) ≡ false → (a ≡ false) × (is_some p ≡ false)
free-both m true p h = let z : ◌≡◌ {A = Bool} true false = h in cc
free-both m false p h = (refl, h)

pub claims-yes : (m : ℕ) (ns : List Node) (before ks : List ℕ) (t u : List (Option ℕ)) → m ≡ length ns → m ≤ 64 → Parents m ns before t
    → claims m t ks ≡ Some u → (children_free ns before ks ≡ true) × Parents m ns (before ++ ks) u
claims-yes m ns before [] t u e le tab h = let s : t ≡ u = cc in (refl, rw (append-nil, ← s) tab)
claims-yes m ns before (k ∷ ks) t u e le tab h =
    ⊎_elim
    (λ y.
    let p = and_parts (ltb k m) (not (is_some (get_or t k None))) y in
    let lt = ltb-true k m p.0 in
    let lt' : k < 64 = omega arith in
    let f = free-both m (among k before) (parent_of ns k) (sym (ap is_some (tab.at k lt')) ∙ not-true (is_some (get_or t k None)) p.1) in
    let r = claims-yes m ns (before ++ k ∷ []) ks (set t k (Some m)) u e le (table-set m ns before t k lt' tab) (sym (ap (λ b. cond b (claims m (set t k (Some m)) ks) None) y) ∙ h) in
    let low : ltb k (length ns) ≡ true = lt-ltb k (length ns) (omega arith) in
    (rw (low, f.1, f.0) r.0, rw append_assoc at r.1))
    (λ z. let q : None ≡ Some u = sym (ap (λ b. cond b (claims m (set t k (Some m)) ks) None) z) ∙ h in cc)
    (cases_Bool (ltb k m && not (is_some (get_or t k None))))

taken-either : (m : ℕ) (a : Bool) (p : Option ℕ) (r : Bool) → is_some (cond a (Some m) p) ≡ true → (not (is_some p) && (not a && r)) ≡ false
taken-either m true p r h = and_right (not (is_some p)) false refl
taken-either m false p r h = rw h refl

pub claims-no : (m : ℕ) (ns : List Node) (before ks : List ℕ) (t : List (Option ℕ)) → m ≡ length ns → m ≤ 64 → Parents m ns before t
    → claims m t ks ≡ None → children_free ns before ks ≡ false
claims-no m ns before [] t e le tab h = cc
claims-no m ns before (k ∷ ks) t e le tab h =
    ⊎_elim
    (λ y.
    let p = and_parts (ltb k m) (not (is_some (get_or t k None))) y in
    let lt = ltb-true k m p.0 in
    let lt' : k < 64 = omega arith in
    let f = free-both m (among k before) (parent_of ns k) (sym (ap is_some (tab.at k lt')) ∙ not-true (is_some (get_or t k None)) p.1) in
    let low : ltb k (length ns) ≡ true = lt-ltb k (length ns) (omega arith) in
    rw (low, f.1, f.0) (claims-no m ns (before ++ k ∷ []) ks (set t k (Some m)) e le (table-set m ns before t k lt' tab) (sym (ap (λ b. cond b (claims m (set t k (Some m)) ks) None) y) ∙ h)))
    (λ z. ⊎_elim
    (λ high. let ge = ltb-false k m high in let out : ltb k (length ns) ≡ false = le-ltb k (length ns) (omega arith) in rw out refl)
    (λ taken. ⊎_elim
    (λ lt.
    let lt' : k < 64 = omega (arith, ltb-true k m lt) in
    and_right (ltb k (length ns)) _ (taken-either m (among k before) (parent_of ns k) (children_free ns (before ++ k ∷ []) ks) (sym (ap is_some (tab.at k lt')) ∙ not-false (is_some (get_or t k None)) taken)))
    (λ high. let ge = ltb-false k m high in let out : ltb k (length ns) ≡ false = le-ltb k (length ns) (omega arith) in rw out refl)
    (cases_Bool (ltb k m)))
    (and_cases (ltb k m) (not (is_some (get_or t k None))) z))
    (cases_Bool (ltb k m && not (is_some (get_or t k None))))

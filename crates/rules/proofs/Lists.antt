-- What is a member of each list that the moves are made of.
use Rattle.std.proofs.Common.{◌≡◌, refl, sym, ◌∙◌, ap, subst, ℕ, zero, suc, Bool, true, false, true≢false, List, [], ◌∷◌, Option, Some, None, ⊎_elim, eqb-true, eq-eqb}
use Rattle.std.specs.List.{slice_get, flat_map}
use Rattle.std.proofs.lemmas.Option.{none-some}
use mathlib.Core.List.{Memᴰ}
use mathlib.Core.List.Memᴰ
use Rattle.notation.specs.declared.arrow.Arrow.{Arrow}
use Rattle.rules.specs.Trees.{NumberedArrow}
use Rattle.rules.specs.Cells.{Cells}
use Rattle.rules.specs.Moves.{join, placed, over, for_each, past_zero, if_some, one_if, targets, same_argument}

pub in-left : {y : Cells} (s t : List Cells) → Memᴰ y s → Memᴰ y (join s t)
unfolding join
in-left s t m = Memᴰ.append_left t m

pub in-right : {y : Cells} (s t : List Cells) → Memᴰ y t → Memᴰ y (join s t)
unfolding join
in-right s t m = Memᴰ.append_right s m

-- by where a member of two lists together stands
pub split : {C : Type 0} {y : Cells} (s t : List Cells) → Memᴰ y (join s t) → (Memᴰ y s → C) → (Memᴰ y t → C) → C
unfolding join
split s t m f g = ⊎_elim f g (Memᴰ.append_cases s m)

pub in-placed : (c : Bool) (h : Cells → Cells) {x y : Cells} {l : List Cells} → c ≡ true → Memᴰ x l → y ≡ h x → Memᴰ y (placed c h l)
unfolding placed
in-placed true h t m e = Memᴰ.cast e (Memᴰ.map h m)
in-placed false h t m e = absurd (true≢false (sym t))

pub out-placed : (c : Bool) (h : Cells → Cells) {y : Cells} (l : List Cells) → Memᴰ y (placed c h l) → (x : Cells) × (c ≡ true) × Memᴰ x l × (y ≡ h x)
unfolding placed
out-placed true h l m = let o = Memᴰ.of_map h l m in (o.0, refl, o.1, sym o.2)
out-placed false h l m = absurd (Memᴰ.not-nil m)

-- what f gives for a member of a list
pub in-flat : {A B : Type 0} (f : A → List B) {x : A} {y : B} {l : List A} → Memᴰ x l → Memᴰ y (f x) → Memᴰ y (flat_map f l)
in-flat f {y} (Memᴰ.head {x = z} {xs = xs} e) n = Memᴰ.append_left (flat_map f xs) (subst (λ w. Memᴰ y (f w)) e n)
in-flat f (Memᴰ.tail {x = z} {xs = xs} m) n = Memᴰ.append_right (f z) (in-flat f m n)

pub in-over : (f : Cells → List Cells) {x y : Cells} {l : List Cells} → Memᴰ x l → Memᴰ y (f x) → Memᴰ y (over f l)
unfolding over
in-over f m n = in-flat f m n

pub out-over : (f : Cells → List Cells) {y : Cells} (l : List Cells) → Memᴰ y (over f l) → (x : Cells) × Memᴰ x l × Memᴰ y (f x)
unfolding over join
out-over f [] m = absurd (Memᴰ.not-nil m)
out-over f (x ∷ xs) m = split (f x) (over f xs) m (λ p. (x, Memᴰ.head refl, p)) (λ q. let o = out-over f xs q in (o.0, Memᴰ.tail o.1, o.2))

pub in-each : (f : ℕ → ℕ → List Cells) {y : Cells} (xs : List ℕ) (k x : ℕ) → slice_get xs k ≡ Some x → Memᴰ y (f k x) → Memᴰ y (for_each f xs)
unfolding for_each
in-each f [] k x e m = absurd (none-some x e)
in-each f {y} (z ∷ xs) zero x e m = let s : x ≡ z = cc in in-left (f 0 z) (for_each (λ j. f (suc j)) xs) (subst (λ (w : ℕ). Memᴰ y (f 0 w)) s m)
in-each f (z ∷ xs) (suc k) x e m = in-right (f 0 z) (for_each (λ j. f (suc j)) xs) (in-each (λ j. f (suc j)) xs k x e m)

pub out-each : (f : ℕ → ℕ → List Cells) {y : Cells} (xs : List ℕ) → Memᴰ y (for_each f xs) → (k : ℕ) × (x : ℕ) × (slice_get xs k ≡ Some x) × Memᴰ y (f k x)
unfolding for_each
out-each f [] m = absurd (Memᴰ.not-nil m)
out-each f (z ∷ xs) m = split (f 0 z) (for_each (λ j. f (suc j)) xs) m (λ p. (0, z, refl, p)) (λ q. let o = out-each (λ j. f (suc j)) xs q in (suc o.0, o.1, o.2, o.3))

pub in-past : (f : ℕ → List Cells) {y : Cells} (n k : ℕ) → n ≡ suc k → Memᴰ y (f k) → Memᴰ y (past_zero f n)
unfolding past_zero
in-past f {y} n k e m = subst (λ (j : ℕ). Memᴰ y (past_zero f j)) (sym e) m

pub out-past : (f : ℕ → List Cells) {y : Cells} (n : ℕ) → Memᴰ y (past_zero f n) → (k : ℕ) × (n ≡ suc k) × Memᴰ y (f k)
unfolding past_zero
out-past f zero m = absurd (Memᴰ.not-nil m)
out-past f (suc k) m = (k, refl, m)

pub in-some : (f : ℕ → List Cells) {y : Cells} (o : Option ℕ) (x : ℕ) → o ≡ Some x → Memᴰ y (f x) → Memᴰ y (if_some f o)
unfolding if_some
in-some f {y} o x e m = subst (λ (j : Option ℕ). Memᴰ y (if_some f j)) (sym e) m

pub out-some : (f : ℕ → List Cells) {y : Cells} (o : Option ℕ) → Memᴰ y (if_some f o) → (x : ℕ) × (o ≡ Some x) × Memᴰ y (f x)
unfolding if_some
out-some f None m = absurd (Memᴰ.not-nil m)
out-some f (Some x) m = (x, refl, m)

in-one : (c : Bool) (z : Cells) {y : Cells} → c ≡ true → y ≡ z → Memᴰ y (one_if c z)
unfolding one_if
in-one true z t e = Memᴰ.head e
in-one false z t e = absurd (true≢false (sym t))

out-one : (c : Bool) (z : Cells) {y : Cells} → Memᴰ y (one_if c z) → (c ≡ true) × (y ≡ z)
unfolding one_if
out-one true z m = (refl, Memᴰ.eq_of_singleton m)
out-one false z m = absurd (Memᴰ.not-nil m)

pub in-targets : (test : Arrow → Bool) (goal : Arrow → Cells) {a : NumberedArrow} {y : Cells} {ws : List NumberedArrow} → Memᴰ a ws → test a.arrow ≡ true → y ≡ goal a.arrow → Memᴰ y (targets test goal ws)
unfolding targets
in-targets test goal (Memᴰ.head {x = b} {xs = xs} e) t q =
    in-left (one_if (test b.arrow) (goal b.arrow)) (targets test goal xs)
    (in-one (test b.arrow) (goal b.arrow) (subst (λ (w : NumberedArrow). test w.arrow ≡ true) e t) (q ∙ ap (λ (w : NumberedArrow). goal w.arrow) e))
in-targets test goal (Memᴰ.tail {x = b} {xs = xs} m) t q = in-right (one_if (test b.arrow) (goal b.arrow)) (targets test goal xs) (in-targets test goal m t q)

pub out-targets : (test : Arrow → Bool) (goal : Arrow → Cells) {y : Cells} (ws : List NumberedArrow) → Memᴰ y (targets test goal ws) → (a : NumberedArrow) × Memᴰ a ws × (test a.arrow ≡ true) × (y ≡ goal a.arrow)
unfolding targets
out-targets test goal [] m = absurd (Memᴰ.not-nil m)
out-targets test goal (b ∷ ws) m =
    split (one_if (test b.arrow) (goal b.arrow)) (targets test goal ws) m
    (λ p. let o = out-one (test b.arrow) (goal b.arrow) p in (b, Memᴰ.head refl, o.0, o.1))
    (λ q. let o = out-targets test goal ws q in (o.0, Memᴰ.tail o.1, o.2, o.3))

pub same-equal : (x y : Option ℕ) → same_argument x y ≡ true → x ≡ y
same-equal None None t = refl
same-equal None (Some y) t = absurd (true≢false (sym t))
same-equal (Some x) None t = absurd (true≢false (sym t))
same-equal (Some x) (Some y) t = ap {B = Option ℕ} Some (eqb-true x y t)

same-self : (x : Option ℕ) → same_argument x x ≡ true
same-self None = refl
same-self (Some x) = eq-eqb x x refl

pub equal-same : (x y : Option ℕ) → x ≡ y → same_argument x y ≡ true
equal-same x y e = subst (λ (k : Option ℕ). same_argument x k ≡ true) e (same-self x)

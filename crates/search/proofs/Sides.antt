-- Two parts of a row, one beside the other: what is collected of both, by what is collected of each.
use Rattle.std.proofs.Common.{◌≡◌, refl, sym, ◌∙◌, ap, subst, ℕ, ◌+◌, ◌<◌, ◌≤◌, Bool, true, false, true≢false, ◌⊎◌, inr, ⊎_elim, List, [], ◌∷◌, length, Ok, Err, Result, Decides, length-append, length-take, arith}
use Rattle.std.specs.Result.{is_err}
use mathlib.Core.List.{Memᴰ}
use mathlib.Core.List.Memᴰ
use Rattle.ordered.specs.Held.{held, room}
use Rattle.row.specs.Rows.{OrderedRows}
use Rattle.row.specs.declared.row.Row.{Row}
use Rattle.rules.specs.Trees.{Tree, Guards, synchronisation}
use Rattle.rules.specs.Cells.{Cells, width}
use Rattle.rules.specs.Rules.{Motion, Step, in_set}
use Rattle.motions.specs.Framing.{part_at, Framed}
use Rattle.motions.specs.Ways.{Way, Alike, Any, Long, Either, Left, Right, Joined}
use Rattle.motions.specs.Collecting.{Gained, Exceeds, Stays, Added, AlikeRows, EitherRow, FromEach}
use Rattle.motions.proofs.Frames.{part-beside, length-part}
use Rattle.motions.proofs.Framed.{framed-alike, framed-either, framed-left, framed-right, framed-any, any-framed, product, product-exceeds}
use Rattle.motions.proofs.Anys.{alike-sym, any-alike, any-joined, any-joined-back, long-step}
use Rattle.motions.proofs.Adds.{each-alike, added-alike, rows-sym, rows-trans, rows-either}
use Rattle.diagram.specs.Plans.{tree_at}
use Rattle.answers.specs.declared.answers.Answers.{Answers}
use Rattle.diagram.specs.declared.diagram.Diagram.{Diagram}
use Rattle.diagram.specs.declared.part.Part.{Part}
use Rattle.diagram.specs.declared.scope.Scope.{Scope}
use Rattle.diagram.specs.Parts.{part_width}
use Rattle.search.specs.Searching.{cells_of, Beside, successors, moves_from, Reached}
use Rattle.motions.proofs.Arms.{apart-arm, together-arm}

-- what a list holds that was empty
pub gained-first : (X : Row → Type 0) (o m : OrderedRows) → held o ≡ [] → Gained X (held o) (held m) → Gained X [] (held m)
gained-first X o m e a = subst (λ (l : List Row). Gained X l (held m)) e a

pub exceeds-first : (X : Row → Type 0) (o : OrderedRows) → held o ≡ [] → Exceeds X (room o) (held o) → Exceeds X (room o) []
exceeds-first X o e a = subst (λ (l : List Row). Exceeds X (room o) l) e a

pub first-only : (X : Row → Type 0) (l : List Row) → Gained X [] l → (y : Row) → Memᴰ y l → X y
first-only X l a y i = ⊎_elim (λ n. absurd (Memᴰ.not-nil n)) (λ x. x) (a.only y i)

-- a row is one too many for a list without room
pub exceeds-one : (X : Row → Type 0) (n : ℕ) (before : List Row) (y : Row) → n ≡ 0 → X y → Exceeds X n before
exceeds-one X n before y e x = record {
  rows = y ∷ [];
  rises = (tt, tt);
  more = omega arith;
  only = λ z i. inr (subst X (sym (Memᴰ.eq_of_singleton i)) x);
}

-- what a list without room tells: whether there is a row
pub room-decides : {E : Type 0} (X : Row → Type 0) (P : Way) (o o' : OrderedRows) (r : Result (Unit {0}) E) (b : Bool) → b ≡ is_err r → room o ≡ 0 → held o ≡ [] → Stays o o'
    → Added X o o' r → (Any P → (y : Row) × X y) → ((y : Row) → X y → Any P) → Decides b (Any P)
room-decides X P o o' (Ok u) b is none empty s a some any =
    let g : Gained X [] (held o') = gained-first X o o' empty a in
    (λ t. absurd (true≢false (sym t ∙ is)), λ w. let y = some w in absurd (no-place y.0 (held o') short (g.all y.0 (inr y.1))))
  where
    short : length (held o') ≡ 0
    short = let k = s.room in let h = length-take o'.used o'.places.now in omega arith

    no-place : (y : Row) (l : List Row) → length l ≡ 0 → Memᴰ y l → ⊥
    no-place y [] e i = Memᴰ.not-nil i
    no-place y (x ∷ l) e i = omega arith
room-decides X P o o' (Err e) b is none empty s a some any =
    let g = exceeds-first X o empty a in
    (λ t. one g.rows g.more g.only, λ w. is)
  where
    one : (l : List Row) → room o < length l → ((y : Row) → Memᴰ y l → Memᴰ y [] ⊎ X y) → Any P
    one [] m f = absurd (omega arith)
    one (y ∷ l) m f = ⊎_elim (λ n. absurd (Memᴰ.not-nil n)) (λ x. any y x) (f y (Memᴰ.head refl))

-- m cells that move from `at` on, and n cells beside them that move by B
module _ (r : Cells) (at m n : ℕ) (P : Way) (B : Motion) (size : length r ≡ 48) (h : at + (m + n) ≤ 48) (long : Long m P) where
  -- those beside are the same where the first have moved
  pub still-beside : (x : Row) → Framed r at m P x → part_at n x.cells (at + m) ≡ part_at n r (at + m)
  still-beside x f = ap (λ w. part_at n w (at + m)) f.2 ∙ part-beside r at m n f.0 (omega arith) (long f.0 f.1)

  -- so they can move there, if they could
  pub beside-can : (x : Row) → Framed r at m P x → Any (B (part_at n r (at + m))) → Any (B (part_at n x.cells (at + m)))
  beside-can x f w = subst (λ (c : Cells). Any (B c)) (sym (still-beside x f)) w

  -- both move: those beside, in each row where the first have moved
  pub both-rows : (l : List Row) → Gained (Framed r at m P) [] l → AlikeRows (FromEach l (λ x y. Framed x.cells (at + m) n (B (part_at n x.cells (at + m))) y)) (Framed r at (m + n) (Joined P (B (part_at n r (at + m)))))
  both-rows l a =
      rows-trans _ _ _
      (each-alike l (λ x y. Framed x.cells (at + m) n (B (part_at n x.cells (at + m))) y) (λ x y. Framed x.cells (at + m) n (B (part_at n r (at + m))) y)
      (λ x i. subst (λ (c : Cells). AlikeRows (Framed x.cells (at + m) n (B (part_at n x.cells (at + m)))) (Framed x.cells (at + m) n (B c))) (still-beside x (first-only _ l a x i)) (record { to = λ y f. f; fro = λ y f. f })))
      (product r at m n P (B (part_at n r (at + m))) l size h long (first-only _ l a) (λ x f. a.all x (inr f)))

  pub both-added : {E : Type 0} (o o' : OrderedRows) (s s' : OrderedRows) (res : Result (Unit {0}) E) → held s ≡ [] → Gained (Framed r at m P) (held s) (held s')
      → Added (FromEach (held s') (λ x y. Framed x.cells (at + m) n (B (part_at n x.cells (at + m))) y)) o o' res → Added (Framed r at (m + n) (Joined P (B (part_at n r (at + m))))) o o' res
  both-added o o' s s' res e a b = added-alike _ _ o o' res (both-rows (held s') (gained-first (Framed r at m P) s s' e a)) b

  -- too many rows of the first are too many of both, if those beside can move
  pub both-over : (o s : OrderedRows) → room o ≤ room s → held s ≡ [] → Long n (B (part_at n r (at + m))) → Any (B (part_at n r (at + m))) → Exceeds (Framed r at m P) (room s) (held s)
      → Exceeds (Framed r at (m + n) (Joined P (B (part_at n r (at + m))))) (room o) (held o)
  both-over o s le e long' any a = product-exceeds r at m n (room s) (room o) P (B (part_at n r (at + m))) (held o) size h long long' any le (exceeds-first (Framed r at m P) s e a)

  module _ (at-a at-b : ℕ) (ea : at-a ≡ at) (eb : at-b ≡ at + m) where
    pub both-added-at : {E : Type 0} (o o' : OrderedRows) (s s' : OrderedRows) (res : Result (Unit {0}) E) → held s ≡ [] → Gained (Framed r at-a m P) (held s) (held s')
        → Added (FromEach (held s') (λ x y. Framed x.cells at-b n (B (part_at n x.cells at-b)) y)) o o' res → Added (Framed r at (m + n) (Joined P (B (part_at n r at-b)))) o o' res
    both-added-at o o' s s' res e a =
        subst (λ (b : ℕ). Added (FromEach (held s') (λ x y. Framed x.cells b n (B (part_at n x.cells b)) y)) o o' res → Added (Framed r at (m + n) (Joined P (B (part_at n r b)))) o o' res) (sym eb)
        (both-added o o' s s' res e (subst (λ (b : ℕ). Gained (Framed r b m P) (held s) (held s')) ea a))

    pub beside-can-at : (x : Row) → Framed r at-a m P x → Any (B (part_at n r at-b)) → Any (B (part_at n x.cells at-b))
    beside-can-at x f = subst (λ (b : ℕ). Any (B (part_at n r b)) → Any (B (part_at n x.cells b))) (sym eb) (beside-can x (subst (λ (b : ℕ). Framed r b m P x) ea f))

    pub both-over-at : (o s : OrderedRows) → room o ≤ room s → held s ≡ [] → Long n (B (part_at n r at-b)) → Any (B (part_at n r at-b)) → Exceeds (Framed r at-a m P) (room s) (held s)
        → Exceeds (Framed r at (m + n) (Joined P (B (part_at n r at-b)))) (room o) (held o)
    both-over-at o s le e long' any a =
        subst (λ (b : ℕ). Long n (B (part_at n r b)) → Any (B (part_at n r b)) → Exceeds (Framed r at (m + n) (Joined P (B (part_at n r b)))) (room o) (held o)) (sym eb)
        (λ l w. both-over o s le e l w (subst (λ (b : ℕ). Exceeds (Framed r b m P) (room s) (held s)) ea a))
        long' any

long-joined : (m n : ℕ) (P Q : Way) → Long m P → Long n Q → Long (m + n) (Joined P Q)
long-joined m n P Q l k s w =
    let e = l w.0 w.2 in
    let f = k w.1 w.3 in
    ap length w.4 ∙ length-append w.0 w.1 ∙ omega arith

-- variables of a scope that is another's
pub variables-of : (s u : Scope) → s ≡ u → u.variables ≡ s.variables
variables-of s u e = sym (ap (λ (w : Scope). w.variables) e)

module _ (d : Diagram) (a : Answers) (g : Guards) where
  -- the successors of a part are as long as it is
  pub long-successors : (p : Part) (r : Row) → Long (part_width d p) (successors d a g p r)
  long-successors p r = long-step (tree_at d.plan p.node) g a.event p.scope.variables (cells_of d p r) (length-part r.cells p.at (part_width d p))

  -- a row is reached where there is a successor
  pub reached-any : (p : Part) (r : Row) → p.at + part_width d p ≤ 48 → Any (successors d a g p r) → (y : Row) × Reached d a g p r y
  reached-any p r h w = framed-any r.cells p.at (part_width d p) (successors d a g p r) r.full h (long-successors p r) w

  pub any-reached : (p : Part) (r y : Row) → Reached d a g p r y → Any (successors d a g p r)
  any-reached p r y f = any-framed r.cells p.at (part_width d p) (successors d a g p r) y f

  module _ (p left right : Part) (r : Row) (b : Beside d p left right) where
    abbrev Both : Row → Type 0
    Both y = Framed r.cells p.at (part_width d left + part_width d right) (Joined (successors d a g left r) (successors d a g right r)) y

    module _ (inside : right.at + part_width d right ≤ 48) where
      fits : p.at + (part_width d left + part_width d right) ≤ 48
      fits = let e = b.right_is_beside in omega arith

      pub sides-full : (o : OrderedRows) → room o ≡ 0 → Any (successors d a g left r) → Any (successors d a g right r) → Exceeds Both (room o) (held o)
      sides-full o z u w =
          let P = successors d a g left r in
          let Q = successors d a g right r in
          let y = framed-any r.cells p.at (part_width d left + part_width d right) (Joined P Q) r.full fits (long-joined _ _ P Q (long-successors left r) (long-successors right r)) (any-joined P Q u w) in
          exceeds-one Both (room o) (held o) y.0 z y.1

      -- where the left side has moved, the right one can move if it could
      pub right-can : (s s' : OrderedRows) → held s ≡ [] → Gained (Reached d a g left r) (held s) (held s') → Any (successors d a g right r)
          → (y : Row) → Memᴰ y (held s') → Any (successors d a g right y)
      right-can s s' e x w y i =
          beside-can-at r.cells p.at (part_width d left) (part_width d right) (successors d a g left r) (moves_from d a g right) r.full fits (long-successors left r)
          left.at right.at b.left_is_first b.right_is_beside y (first-only (Reached d a g left r) (held s') (gained-first (Reached d a g left r) s s' e x) y i) w

      pub sides-over : (o s : OrderedRows) → room o ≤ room s → held s ≡ [] → Any (successors d a g right r) → Exceeds (Reached d a g left r) (room s) (held s) → Exceeds Both (room o) (held o)
      sides-over o s le e w x =
          both-over-at r.cells p.at (part_width d left) (part_width d right) (successors d a g left r) (moves_from d a g right) r.full fits (long-successors left r)
          left.at right.at b.left_is_first b.right_is_beside o s le e (long-successors right r) w x

      pub sides-added : {E : Type 0} (o o' : OrderedRows) (s s' : OrderedRows) (res : Result (Unit {0}) E) → held s ≡ [] → Gained (Reached d a g left r) (held s) (held s')
          → Added (FromEach (held s') (λ x y. Reached d a g right x y)) o o' res → Added Both o o' res
      sides-added o o' s s' res e x =
          both-added-at r.cells p.at (part_width d left) (part_width d right) (successors d a g left r) (moves_from d a g right) r.full fits (long-successors left r)
          left.at right.at b.left_is_first b.right_is_beside o o' s s' res e x

    module _ (labels : List ℕ) (within : p.at + part_width d p ≤ 48) (is : tree_at d.plan p.node ≡ synchronisation labels (tree_at d.plan left.node) (tree_at d.plan right.node)) where
      -- a row is reached by a tree at the part
      abbrev By : Tree → Row → Type 0
      By t y = Framed r.cells p.at (width t) (Step t g a.event p.scope.variables (part_at (width t) r.cells p.at)) y

      abbrev Syn : Tree
      Syn = synchronisation labels (tree_at d.plan left.node) (tree_at d.plan right.node)

      room-for : p.at + (part_width d left + part_width d right) ≤ 48
      room-for = subst (λ (t : Tree). p.at + width t ≤ 48) is within

      -- together: both sides move
      together : in_set a.event.label labels ≡ true → Alike (Step Syn g a.event p.scope.variables (part_at (width Syn) r.cells p.at)) (Joined (successors d a g left r) (successors d a g right r))
      together met =
          together-arm g a.event p.scope.variables r.cells p.at labels (tree_at d.plan left.node) (tree_at d.plan right.node) left.scope.variables right.scope.variables left.at right.at met
          (variables-of _ _ b.left_scope) (variables-of _ _ b.right_scope) (sym b.left_is_first) (sym b.right_is_beside)

      -- so both can, if the part can
      pub sides-can : in_set a.event.label labels ≡ true → Any (successors d a g p r) → Any (successors d a g left r) × Any (successors d a g right r)
      sides-can met w =
          let P = successors d a g left r in
          let Q = successors d a g right r in
          any-joined-back P Q
          (any-alike (successors d a g p r) (Joined P Q) (subst (λ (t : Tree). Alike (Step t g a.event p.scope.variables (part_at (width t) r.cells p.at)) (Joined P Q)) (sym is) (together met)) w)

      pub together-added : {E : Type 0} (o o' : OrderedRows) (res : Result (Unit {0}) E) → in_set a.event.label labels ≡ true → Added Both o o' res → Added (Reached d a g p r) o o' res
      together-added o o' res met x =
          subst (λ (t : Tree). Added (By t) o o' res) (sym is)
          (added-alike Both (By Syn) o o' res
          (framed-alike r.cells p.at (part_width d left + part_width d right) (Joined (successors d a g left r) (successors d a g right r)) (Step Syn g a.event p.scope.variables (part_at (width Syn) r.cells p.at))
          (alike-sym _ _ (together met)))
          x)

      -- apart: either side moves
      pub apart-added : {E : Type 0} (o o' : OrderedRows) (res : Result (Unit {0}) E) → in_set a.event.label labels ≡ false → Added (EitherRow (Reached d a g left r) (Reached d a g right r)) o o' res → Added (Reached d a g p r) o o' res
      apart-added o o' res lone x =
          let m = part_width d left in
          let n = part_width d right in
          let P = successors d a g left r in
          let Q = successors d a g right r in
          let first : AlikeRows (Framed r.cells left.at m P) (Framed r.cells p.at (m + n) (Left P (cells_of d right r))) =
          subst (λ (k : ℕ). AlikeRows (Framed r.cells k m P) (Framed r.cells p.at (m + n) (Left P (cells_of d right r)))) (sym b.left_is_first)
          (framed-left r.cells p.at m n P (cells_of d right r) (omega (arith, r.full, room-for)) (ap (part_at n r.cells) b.right_is_beside)) in
          let second : AlikeRows (Framed r.cells right.at n Q) (Framed r.cells p.at (m + n) (Right (cells_of d left r) Q)) =
          subst (λ (k : ℕ). AlikeRows (Framed r.cells k n Q) (Framed r.cells p.at (m + n) (Right (cells_of d left r) Q))) (sym b.right_is_beside)
          (framed-right r.cells p.at m n (cells_of d left r) Q (omega (arith, r.full, room-for)) (ap (part_at m r.cells) b.left_is_first)) in
          subst (λ (t : Tree). Added (By t) o o' res) (sym is)
          (added-alike (EitherRow (Reached d a g left r) (Reached d a g right r)) (By Syn) o o' res
          (rows-trans _ _ _ (rows-either _ _ _ _ first second)
          (rows-trans _ _ _ (rows-sym _ _ (framed-either r.cells p.at (m + n) (Left P (cells_of d right r)) (Right (cells_of d left r) Q)))
          (framed-alike r.cells p.at (m + n) (Either (Left P (cells_of d right r)) (Right (cells_of d left r) Q)) (Step Syn g a.event p.scope.variables (part_at (width Syn) r.cells p.at))
          (alike-sym _ _ (apart-arm g a.event p.scope.variables r.cells p.at labels (tree_at d.plan left.node) (tree_at d.plan right.node) left.scope.variables right.scope.variables left.at right.at lone
          (variables-of _ _ b.left_scope) (variables-of _ _ b.right_scope) (sym b.left_is_first) (sym b.right_is_beside))))))
          x)

-- A quantified choice: the body starts under some value, or moves under the chosen one.
use Rattle.std.proofs.Common.{◌≡◌, sym, ◌∙◌, ap, subst, ℕ, suc, ◌+◌, ◌-◌, ◌<◌, true, inl, List, ◌∷◌, drop, slice_index, Some, None, Result, arith}
use Rattle.std.specs.List.{slice_get}
use Rattle.std.specs.Result.{IsErr}
use Rattle.std.proofs.lemmas.Result.{MatchResult-from_err}
use Rattle.ordered.specs.Held.{held, room}
use Rattle.row.specs.Rows.{OrderedRows}
use Rattle.row.specs.declared.row.Row.{Row}
use Rattle.rules.specs.Trees.{Tree, Guards, bound, quantified_choice}
use Rattle.rules.specs.Cells.{Cells, width, initial, body_room}
use Rattle.rules.specs.Rules.{Step}
use Rattle.rules.specs.Growing.{Values}
use Rattle.motions.specs.Framing.{part_at, Framed}
use Rattle.motions.specs.Ways.{Way, Alike, If, Either, Tagged, Chosen, Resumed}
use Rattle.motions.specs.Collecting.{Gained, Exceeds, Stays, Added, AlikeRows, EitherRow}
use Rattle.motions.proofs.Operators.{chosen-none, chosen-ways, resumed-at, resumed-past}
use Rattle.motions.proofs.Framed.{framed-alike, framed-either, framed-yes}
use Rattle.motions.proofs.Adds.{added-alike, added-overflow, added-then, rows-refl, rows-sym, rows-trans, rows-either}
use Rattle.diagram.specs.Valued.{values_of}
use Rattle.diagram.specs.Plans.{tree_at}
use Rattle.diagram.specs.Scopes.{binders_at, typed_under, Suits}
use Rattle.diagram.specs.Parts.{part_width, InPlace}
use Rattle.search.specs.Searching.{cells_of, Behind, Bound, successors, starts, instance_moves, values_from, Reached, PartReached}
use Rattle.answers.specs.declared.answers.Answers.{Answers}
use Rattle.diagram.specs.declared.binders.Binders.{Binders}
use Rattle.diagram.specs.declared.diagram.Diagram.{Diagram}
use Rattle.diagram.specs.declared.part.Part.{Part}
use Rattle.diagram.specs.declared.scope.Scope.{Scope}
use Rattle.search.proofs.Instances.{drop-past, drop-at}
use Rattle.motions.proofs.Arms.{chosen-arm, resumed-arm}

-- a body that is bound to a value stands behind the part's tag
pub bound-behind : (d : Diagram) (p : Part) (over : ℕ) (b c : Part) (k x position : ℕ)
    → InPlace d p → Bound d p over b → b.at ≡ p.at + 1 → part_width d b < part_width d p → (c.node ≡ b.node) × (c.at ≡ b.at)
    → ((values : Values) (bs : Binders) (ty k : ℕ) → Suits values bs b.scope → position ≡ suc k → slice_get (values ty) k ≡ Some x → Suits values (typed_under bs.outer ty) c.scope)
    → position ≡ suc k → slice_get (values_of d.plan.values over) k ≡ Some x → Behind d p c
bound-behind d p over b c k x position i o at narrow keeps suits is get =
    let w : part_width d c ≡ part_width d b = ap (λ (n : ℕ). width (tree_at d.plan n)) keeps.0 in
    let n = o.is_node in
    let l = o.is_below in
    let s = i.is_inside in
    record {
      in_place = record {
        is_node = omega (arith, keeps.0);
        is_inside = omega (arith, keeps.1, w);
        suits = subst (λ (bs : Binders). Suits (values_of d.plan.values) bs c.scope) (sym (ap (binders_at d.binders) keeps.0 ∙ o.above)) (suits (values_of d.plan.values) (binders_at d.binders p.node) over k o.suits is get);
      };
      is_below = omega (arith, keeps.0);
      is_behind = keeps.1 ∙ at;
      is_narrower = omega (arith, w);
    }

-- past the last value none is chosen
chosen-past : (r : Cells) (at n m k : ℕ) (P : ℕ → Way) (xs : List ℕ) → slice_get xs k ≡ None → (y : Row) → Framed r at n (Chosen m k P (drop k xs)) y → ⊥
chosen-past r at n m k P xs e y f = chosen-none m k P f.0 (subst (λ (ys : List ℕ). Chosen m k P ys f.0) (drop-past xs k e) f.1)

-- the value at a position is chosen, or a later one
chosen-more : (r : Cells) (at n m k x : ℕ) (P : ℕ → Way) (Q : Way) (xs : List ℕ) → P x ≡ Q → slice_get xs k ≡ Some x
    → AlikeRows (EitherRow (Framed r at n (If true (Tagged m (k + 1) Q))) (Framed r at n (Chosen m (k + 1) P (drop (k + 1) xs)))) (Framed r at n (Chosen m k P (drop k xs)))
chosen-more r at n m k x P Q xs q e =
    let s : suc k ≡ k + 1 = omega arith in
    let ys = drop (k + 1) xs in
    let T = Tagged m (k + 1) Q in
    let C = Chosen m (k + 1) P ys in
    let a : Alike (Chosen m k P (drop k xs)) (Either T C) =
    subst (λ (zs : List ℕ). Alike (Chosen m k P zs) (Either T C)) (sym (drop-at xs k x e))
    (subst (λ (W : Way). Alike (Chosen m k P (x ∷ ys)) W) (λ i. Either (Tagged m (s i) (q i)) (Chosen m (s i) P ys)) (chosen-ways m k P x ys)) in
    rows-trans (EitherRow (Framed r at n (If true T)) (Framed r at n C)) (EitherRow (Framed r at n T) (Framed r at n C)) (Framed r at n (Chosen m k P (drop k xs)))
    (rows-either (Framed r at n (If true T)) (Framed r at n T) (Framed r at n C) (Framed r at n C) (rows-sym (Framed r at n T) (Framed r at n (If true T)) (framed-yes r at n T)) (rows-refl (Framed r at n C)))
    (rows-trans (EitherRow (Framed r at n T) (Framed r at n C)) (Framed r at n (Either T C)) (Framed r at n (Chosen m k P (drop k xs)))
    (rows-sym (Framed r at n (Either T C)) (EitherRow (Framed r at n T) (Framed r at n C)) (framed-either r at n T C))
    (rows-sym (Framed r at n (Chosen m k P (drop k xs))) (Framed r at n (Either T C)) (framed-alike r at n (Chosen m k P (drop k xs)) (Either T C) a)))

-- the value at the tag's position resumes
resumed-here : (r : Cells) (at n m tag k x : ℕ) (P : ℕ → Way) (Q : Way) (xs : List ℕ) → tag ≡ suc k → P x ≡ Q → slice_get xs k ≡ Some x
    → AlikeRows (Framed r at n (If true (Tagged m tag Q))) (Framed r at n (Resumed m P xs tag))
resumed-here r at n m tag k x P Q xs t q e =
    let T = Tagged m tag Q in
    let R = Resumed m P xs tag in
    let a : Alike R T = subst (λ (W : Way). Alike R W) (λ i. Tagged m (sym t i) (q i)) (resumed-at m P xs tag k x t e) in
    rows-trans (Framed r at n (If true T)) (Framed r at n T) (Framed r at n R)
    (rows-sym (Framed r at n T) (Framed r at n (If true T)) (framed-yes r at n T))
    (rows-sym (Framed r at n R) (Framed r at n T) (framed-alike r at n R T a))

-- y is the row in which the body has started under a value from a position on
abbrev pub StartsFrom : Diagram → Answers → Guards → Part → ℕ → Part → Row → ℕ → Row → Type 0
StartsFrom d a g p over b r k y = PartReached d p r (Chosen (part_width d p - 1) k (λ x s'. instance_moves d a g b x (initial (tree_at d.plan b.node)) s') (values_from d over k)) y

-- and in which it has moved under the chosen value
abbrev pub Resumes : Diagram → Answers → Guards → Part → ℕ → Part → Row → Row → Type 0
Resumes d a g p over b r y = PartReached d p r (Resumed (part_width d p - 1) (λ x s'. instance_moves d a g b x (cells_of d b r) s') (values_from d over 0) (slice_index r.cells p.at)) y

-- and in which a part behind a tag has moved
abbrev pub BehindTag : Diagram → Part → ℕ → Way → Row → Row → Type 0
BehindTag d p tag P r y = PartReached d p r (If true (Tagged (part_width d p - 1) tag P)) y

module _ (d : Diagram) (a : Answers) (g : Guards) (p : Part) (over : ℕ) (b : Part) (r : Row) where
  -- past the last value none starts
  pub starts-past : (k : ℕ) → slice_get (values_of d.plan.values over) k ≡ None → (y : Row) → StartsFrom d a g p over b r k y → ⊥
  starts-past k = chosen-past r.cells p.at (part_width d p) (part_width d p - 1) k (λ x s'. instance_moves d a g b x (initial (tree_at d.plan b.node)) s') (values_of d.plan.values over)

  -- no value resumes whose position is past the last
  pub resumes-past : (k : ℕ) → slice_index r.cells p.at ≡ suc k → slice_get (values_of d.plan.values over) k ≡ None → (y : Row) → Resumes d a g p over b r y → ⊥
  resumes-past k t e y f = resumed-past (part_width d p - 1) (λ x s'. instance_moves d a g b x (cells_of d b r) s') (values_of d.plan.values over) (slice_index r.cells p.at) k f.0 t e f.1

  -- c is the body bound to the value x at a position
  module _ (c : Part) (k x : ℕ) (keeps : (c.node ≡ b.node) × (c.at ≡ b.at)) (binds : c.scope.variables ≡ bound x b.scope.variables) (get : slice_get (values_of d.plan.values over) k ≡ Some x) where
    -- it starts, or the body under a later value
    starts-more : AlikeRows (EitherRow (BehindTag d p (k + 1) (starts d a g c) r) (StartsFrom d a g p over b r (k + 1))) (StartsFrom d a g p over b r k)
    starts-more =
        chosen-more r.cells p.at (part_width d p) (part_width d p - 1) k x (λ x s'. instance_moves d a g b x (initial (tree_at d.plan b.node)) s') (starts d a g c) (values_of d.plan.values over)
        (λ i. Step (tree_at d.plan (sym keeps.0 i)) g a.event (sym binds i) (initial (tree_at d.plan (sym keeps.0 i)))) get

    -- it moves, if the tag is that of the value
    pub resumes-here : slice_index r.cells p.at ≡ suc k → AlikeRows (BehindTag d p (slice_index r.cells p.at) (successors d a g c r) r) (Resumes d a g p over b r)
    resumes-here t =
        resumed-here r.cells p.at (part_width d p) (part_width d p - 1) (slice_index r.cells p.at) k x (λ x s'. instance_moves d a g b x (cells_of d b r) s') (successors d a g c r) (values_of d.plan.values over) t
        (λ i. Step (tree_at d.plan (sym keeps.0 i)) g a.event (sym binds i) (part_at (width (tree_at d.plan (sym keeps.0 i))) r.cells (sym keeps.1 i))) get

    -- too many of the first are too many
    pub starts-over : {E : Type 0} (o o' : OrderedRows) (res : Result (Unit {0}) E) → IsErr res
        → Exceeds (BehindTag d p (k + 1) (starts d a g c) r) (room o) (held o) → Added (StartsFrom d a g p over b r k) o o' res
    starts-over o o' res err many =
        MatchResult-from_err res (λ u. Gained (StartsFrom d a g p over b r k) (held o) (held o')) (λ e. Exceeds (StartsFrom d a g p over b r k) (room o) (held o)) err
        (λ e. added-overflow (BehindTag d p (k + 1) (starts d a g c) r) (StartsFrom d a g p over b r k) o many (λ y h. starts-more.to y (inl h)))

    -- the rows of the first, and then those of the others
    pub starts-added : {E : Type 0} (o m o' : OrderedRows) (res : Result (Unit {0}) E) → Stays o m
        → Gained (BehindTag d p (k + 1) (starts d a g c) r) (held o) (held m) → Added (StartsFrom d a g p over b r (k + 1)) m o' res
        → Added (StartsFrom d a g p over b r k) o o' res
    starts-added o m o' res stays here later =
        added-alike (EitherRow (BehindTag d p (k + 1) (starts d a g c) r) (StartsFrom d a g p over b r (k + 1))) (StartsFrom d a g p over b r k) o o' res starts-more
        (added-then (BehindTag d p (k + 1) (starts d a g c) r) (StartsFrom d a g p over b r (k + 1)) o m o' res stays here later)

module _ (d : Diagram) (a : Answers) (g : Guards) (p : Part) (over : ℕ) (b : Part) (r : Row)
    (is : tree_at d.plan p.node ≡ quantified_choice (values_of d.plan.values over) (tree_at d.plan b.node)) (o : b.scope ≡ p.scope) where
  abbrev behind : ℕ
  behind = body_room (values_of d.plan.values over) (tree_at d.plan b.node)

  narrow : part_width d p ≡ suc behind
  narrow = ap width is

  same : (Q : Way) → Alike (Step (quantified_choice (values_of d.plan.values over) (tree_at d.plan b.node)) g a.event p.scope.variables (part_at (suc behind) r.cells p.at)) Q
      → AlikeRows (PartReached d p r Q) (Reached d a g p r)
  same Q h =
      framed-alike r.cells p.at (part_width d p) Q (successors d a g p r)
      (subst (λ (t : Tree). Alike Q (Step t g a.event p.scope.variables (part_at (width t) r.cells p.at))) (sym is) (record { to = h.fro; fro = h.to }))

  -- if the tag is 0, a quantified choice starts under some value
  pub choice-starts : slice_index r.cells p.at ≡ 0 → AlikeRows (StartsFrom d a g p over b r 0) (Reached d a g p r)
  choice-starts z =
      same (Chosen (part_width d p - 1) 0 (λ x s'. instance_moves d a g b x (initial (tree_at d.plan b.node)) s') (values_from d over 0))
      (chosen-arm g a.event p.scope.variables r.cells p.at (values_of d.plan.values over) (tree_at d.plan b.node) b.scope.variables (part_width d p - 1)
      z (ap (λ (s : Scope). s.variables) (sym o)) (let e = narrow in omega arith))

  -- if it is not, it resumes under the chosen one
  pub choice-resumes : (slice_index r.cells p.at ≡ 0 → ⊥) → b.at ≡ p.at + 1 → AlikeRows (Resumes d a g p over b r) (Reached d a g p r)
  choice-resumes n at =
      same (Resumed (part_width d p - 1) (λ x s'. instance_moves d a g b x (cells_of d b r) s') (values_from d over 0) (slice_index r.cells p.at))
      (resumed-arm g a.event p.scope.variables r.cells p.at (values_of d.plan.values over) (tree_at d.plan b.node) b.scope.variables (part_width d p - 1) b.at
      n (ap (λ (s : Scope). s.variables) (sym o)) (let e = narrow in omega arith) (sym at))

-- The instances of a body from a position on: what is collected of them, by what is collected of the first one and of those after it.
use Rattle.std.proofs.Common.{◌≡◌, refl, sym, ◌∙◌, ap, subst, ℕ, zero, suc, ◌+◌, ◌<◌, ◌≤◌, Bool, true, false, true≢false, inl, ◌&&◌, ◌==◌, List, [], ◌∷◌, length, drop, slice_index_or, Some, None, Result, Decides, eqb-true, arith}
use Rattle.std.specs.List.{slice_get}
use Rattle.std.proofs.lemmas.Option.{none-some, slice_get_read, slice_get_past}
use mathlib.Core.List.{Memᴰ}
use Rattle.ordered.specs.Held.{held, room}
use Rattle.row.specs.Rows.{OrderedRows}
use Rattle.row.specs.Laws.{same-row}
use Rattle.row.specs.declared.row.Row.{Row}
use Rattle.rules.specs.Trees.{Tree, Guards, quantified_synchronisation, bound}
use Rattle.rules.specs.Cells.{Cells, width, times, fit, has_value}
use Rattle.rules.specs.Rules.{Motion, Step, OneMoves, AllMove, in_set}
use Rattle.motions.specs.Framing.{part_at, framed, Framed}
use Rattle.motions.specs.Ways.{Way, Alike, Any, Long, Either, Left, Right, Joined}
use Rattle.motions.specs.Collecting.{Gained, Exceeds, Stays, Added, AlikeRows, EitherRow, FromEach}
use Rattle.motions.proofs.Frames.{part-left, part-right, length-part, frame-none}
use Rattle.motions.proofs.Framed.{framed-alike, framed-either, framed-left, framed-right, framed-any}
use Rattle.motions.proofs.Operators.{one-none, one-ways, all-none, all-ways}
use Rattle.motions.proofs.Anys.{alike-sym, any-alike, any-joined-back, decides-alike, decides-joined, long-step, long-all}
use Rattle.motions.proofs.Adds.{added-none, added-alike, added-then, adds-overflow, rows-sym, rows-trans, rows-either}
use Rattle.diagram.specs.Plans.{tree_at}
use Rattle.diagram.specs.Scopes.{binders_at, typed_under, Suits}
use Rattle.diagram.specs.Valued.{values_of}
use Rattle.answers.specs.declared.answers.Answers.{Answers}
use Rattle.diagram.specs.declared.binders.Binders.{Binders}
use Rattle.diagram.specs.declared.diagram.Diagram.{Diagram}
use Rattle.diagram.specs.declared.part.Part.{Part}
use Rattle.diagram.specs.Parts.{part_width, InPlace}
use Rattle.search.specs.Searching.{cells_of, successors, Reached, Bound, instance_moves, values_from, one_moves, all_move, InstancesReached, InstancesInside}
use Rattle.motions.proofs.Arms.{one-arm, all-arm, none-arm}
use Rattle.search.proofs.Sides.{both-added, both-over, still-beside, first-only, gained-first, exceeds-one, variables-of}

-- the values from a position on
pub drop-at : (xs : List ℕ) (k x : ℕ) → slice_get xs k ≡ Some x → drop k xs ≡ x ∷ drop (k + 1) xs
drop-at [] k x e = absurd (none-some x e)
drop-at (y ∷ xs) zero x e = let q : y ≡ x = cc in ap {B = List ℕ} (λ z. z ∷ xs) q
drop-at (y ∷ xs) (suc k) x e =
    let q : suc (k + 1) ≡ suc k + 1 = omega arith in
    drop-at xs k x e ∙ ap {B = List ℕ} (λ j. x ∷ drop j (y ∷ xs)) q

pub drop-past : (xs : List ℕ) (k : ℕ) → slice_get xs k ≡ None → drop k xs ≡ []
drop-past [] zero e = refl
drop-past [] (suc k) e = refl
drop-past (y ∷ xs) zero e = absurd (none-some y (sym e))
drop-past (y ∷ xs) (suc k) e = drop-past xs k e

-- a value that is read at a position, and none past the last
pub value-there : (vs xs : List ℕ) (k x : ℕ) → xs ≡ vs → k < length xs → x ≡ slice_index_or xs k x → slice_get vs k ≡ Some x
value-there vs xs k x e h is = subst (λ (l : List ℕ). slice_get l k ≡ Some x) e (slice_get_read xs (length xs) k x refl h is)

pub value-past : (vs xs : List ℕ) (k : ℕ) → xs ≡ vs → length xs ≤ k → slice_get vs k ≡ None
value-past vs xs k e h = subst (λ (l : List ℕ). slice_get l k ≡ None) e (slice_get_past xs k h)

-- whether there are values, as the test for none says
pub values-some : (vs xs : List ℕ) (none : Bool) → xs ≡ vs → none ≡ (length xs == 0) → none ≡ false → has_value vs ≡ true
values-some vs xs none e is f = subst (λ (l : List ℕ). has_value l ≡ true) e (there xs (sym is ∙ f))
  where
    there : (l : List ℕ) → (length l == 0) ≡ false → has_value l ≡ true
    there [] t = absurd (true≢false t)
    there (x ∷ l) t = refl

pub values-none : (vs xs : List ℕ) (none : Bool) → xs ≡ vs → none ≡ (length xs == 0) → none ≡ true → has_value vs ≡ false
values-none vs xs none e is f = subst (λ (l : List ℕ). has_value l ≡ false) e (there xs (sym is ∙ f))
  where
    there : (l : List ℕ) → (length l == 0) ≡ true → has_value l ≡ false
    there [] t = refl
    there (x ∷ l) t = let z : length (x ∷ l) ≡ 0 = eqb-true (length (x ∷ l)) 0 t in absurd (omega arith)

module _ (w : ℕ) (B : ℕ → Motion) (x : ℕ) (xs : List ℕ) (r : Cells) (at : ℕ) where
  -- all move: the first, and those after it
  pub all-parts : Alike (AllMove w B (x ∷ xs) (part_at (times (x ∷ xs) w) r at)) (Joined (B x (part_at w r at)) (AllMove w B xs (part_at (times xs w) r (at + w))))
  all-parts =
      subst (λ (c : Cells). Alike (AllMove w B (x ∷ xs) (part_at (times (x ∷ xs) w) r at)) (Joined (B x c) (AllMove w B xs (part_at (times xs w) r (at + w))))) (part-left r at w (times xs w))
      (subst (λ (c : Cells). Alike (AllMove w B (x ∷ xs) (part_at (times (x ∷ xs) w) r at)) (Joined (B x (fit w (part_at (times (x ∷ xs) w) r at))) (AllMove w B xs c))) (part-right r at w (times xs w))
      (all-ways w B x xs (part_at (times (x ∷ xs) w) r at)))

  -- one moves: the first, or one of those after it
  pub one-parts : Alike (OneMoves w B (x ∷ xs) (part_at (times (x ∷ xs) w) r at))
      (Either (Left (B x (part_at w r at)) (part_at (times xs w) r (at + w))) (Right (part_at w r at) (OneMoves w B xs (part_at (times xs w) r (at + w)))))
  one-parts =
      subst (λ (c : Cells). Alike (OneMoves w B (x ∷ xs) (part_at (times (x ∷ xs) w) r at)) (Either (Left (B x c) (part_at (times xs w) r (at + w))) (Right c (OneMoves w B xs (part_at (times xs w) r (at + w)))))) (part-left r at w (times xs w))
      (subst (λ (c : Cells). Alike (OneMoves w B (x ∷ xs) (part_at (times (x ∷ xs) w) r at)) (Either (Left (B x (fit w (part_at (times (x ∷ xs) w) r at))) c) (Right (fit w (part_at (times (x ∷ xs) w) r at)) (OneMoves w B xs c)))) (part-right r at w (times xs w))
      (one-ways w B x xs (part_at (times (x ∷ xs) w) r at)))

  pub one-rows : at + (w + times xs w) ≤ length r → AlikeRows (EitherRow (Framed r at w (B x (part_at w r at))) (Framed r (at + w) (times xs w) (OneMoves w B xs (part_at (times xs w) r (at + w)))))
      (Framed r at (times (x ∷ xs) w) (OneMoves w B (x ∷ xs) (part_at (times (x ∷ xs) w) r at)))
  one-rows h =
      let n = times xs w in
      let P = B x (part_at w r at) in
      let Q = OneMoves w B xs (part_at n r (at + w)) in
      rows-trans _ _ _ (rows-either _ _ _ _ (framed-left r at w n P (part_at n r (at + w)) h refl) (framed-right r at w n (part_at w r at) Q h refl))
      (rows-trans _ _ _ (rows-sym _ _ (framed-either r at (w + n) (Left P (part_at n r (at + w))) (Right (part_at w r at) Q)))
      (framed-alike r at (w + n) (Either (Left P (part_at n r (at + w))) (Right (part_at w r at) Q)) (OneMoves w B (x ∷ xs) (part_at (w + n) r at)) (alike-sym _ _ one-parts)))

-- the body past its first instance
abbrev pub past : Diagram → Part → Part
past d b = record { node = b.node; at = b.at + part_width d b; scope = b.scope }

pub past-body : (d : Diagram) (b next : Part) (n i : ℕ) → i ≡ b.node → n ≡ width (tree_at d.plan i) → next ≡ record { node = b.node; at = b.at + n; scope = b.scope } → next ≡ past d b
past-body d b next n i e f is = is ∙ ap (λ (m : ℕ). let q : Part = record { node = b.node; at = b.at + m; scope = b.scope } in q) (f ∙ ap (λ (j : ℕ). width (tree_at d.plan j)) e)

-- it is bound as the body is, and the later instances are within a row, if all are
pub past-bound : (d : Diagram) (part : Part) (over : ℕ) (b next : Part) → next ≡ past d b → Bound d part over b → Bound d part over next
past-bound d part over b next follows bd =
    subst (λ (q : Part). Bound d part over q) (sym follows)
    (record { is_node = bd.is_node; is_below = bd.is_below; above = bd.above; suits = bd.suits; same_scope = bd.same_scope })

pub past-inside : (d : Diagram) (over : ℕ) (b next : Part) (k x : ℕ) → next ≡ past d b → slice_get (values_of d.plan.values over) k ≡ Some x → InstancesInside d over b k → InstancesInside d over next (k + 1)
past-inside d over b next k x follows some inside =
    subst (λ (q : Part). InstancesInside d over q (k + 1)) (sym follows)
    (let w = part_width d b in
    let e : times (values_from d over k) w ≡ w + times (values_from d over (k + 1)) w = ap (λ (l : List ℕ). times l w) (drop-at (values_of d.plan.values over) k x some) in
    omega arith)

-- an instance of a body, under its own value
pub record Instance (b p : Part) (x : ℕ) : Type 0 where
  pub node : p.node ≡ b.node
  pub at : p.at ≡ b.at
  pub binds : p.scope.variables ≡ bound x b.scope.variables

pub instance : (b p : Part) (x : ℕ) → ((p.node ≡ b.node) × (p.at ≡ b.at)) → p.scope.variables ≡ bound x b.scope.variables → Instance b p x
instance b p x keeps binds = record { node = keeps.0; at = keeps.1; binds = binds }

module _ (d : Diagram) (a : Answers) (g : Guards) (over : ℕ) (b : Part) (k : ℕ) where
  abbrev w : ℕ
  w = part_width d b

  abbrev B : ℕ → Motion
  B = instance_moves d a g b

  -- none is left
  module _ (r : Row) (none : slice_get (values_of d.plan.values over) k ≡ None) where
    ends : values_from d over k ≡ []
    ends = drop-past (values_of d.plan.values over) k none

    pub none-can : Decides true (Any (all_move d a g over b k r))
    none-can = (λ t. subst (λ (xs : List ℕ). Any (AllMove w B xs (part_at (times xs w) r.cells b.at))) (sym ends) ([], (all-none w B []).fro [] refl), λ y. refl)

    pub none-moves : (o : OrderedRows) → Gained (InstancesReached d over b k r (one_moves d a g over b k r)) (held o) (held o)
    none-moves o = added-none _ o
        (subst (λ (xs : List ℕ). (y : Row) → Framed r.cells b.at (times xs w) (OneMoves w B xs (part_at (times xs w) r.cells b.at)) y → ⊥) (sym ends) (λ y f. one-none w B [] f.0 f.1))

    itself : AlikeRows (λ y. y ≡ r) (Framed r.cells b.at 0 (AllMove w B [] []))
    itself = record {
      to = λ y e. ([], (all-none w B []).fro [] refl, ap (λ (z : Row). z.cells) e ∙ sym (frame-none r.cells b.at));
      fro = λ y f. same-row y r (f.2 ∙ ap (framed r.cells b.at 0) ((all-none w B []).to f.0 f.1) ∙ frame-none r.cells b.at);
    }

    pub none-added : {E : Type 0} (o o' : OrderedRows) (res : Result (Unit {0}) E) → Added (λ y. y ≡ r) o o' res → Added (InstancesReached d over b k r (all_move d a g over b k r)) o o' res
    none-added o o' res x =
        subst (λ (xs : List ℕ). Added (Framed r.cells b.at (times xs w) (AllMove w B xs (part_at (times xs w) r.cells b.at))) o o' res) (sym ends)
        (added-alike (λ y. y ≡ r) (Framed r.cells b.at 0 (AllMove w B [] [])) o o' res itself x)

  -- one of value x, and those after it
  module _ (x : ℕ) (some : slice_get (values_of d.plan.values over) k ≡ Some x) (p next : Part) (i : Instance b p x) (follows : next ≡ past d b) where
    abbrev xs : List ℕ
    xs = values_from d over (k + 1)

    splits : values_from d over k ≡ x ∷ xs
    splits = drop-at (values_of d.plan.values over) k x some

    moves-alike : (r : Row) → successors d a g p r ≡ B x (cells_of d b r)
    moves-alike r = λ j. Step (tree_at d.plan (i.node j)) g a.event (i.binds j) (part_at (width (tree_at d.plan (i.node j))) r.cells (i.at j))

    reached-alike : (r : Row) → Reached d a g p r ≡ Framed r.cells b.at w (B x (cells_of d b r))
    reached-alike r = λ j y. Framed r.cells (i.at j) (width (tree_at d.plan (i.node j))) (moves-alike r j) y

    long-first : (r : Row) → Long w (B x (cells_of d b r))
    long-first r = long-step (tree_at d.plan b.node) g a.event (bound x b.scope.variables) (cells_of d b r) (length-part r.cells b.at w)

    abbrev Rest : Row → Way
    Rest r = AllMove w B xs (part_at (times xs w) r.cells (b.at + w))

    rest-is : (r : Row) → all_move d a g over next (k + 1) r ≡ Rest r
    rest-is r = λ j. all_move d a g over (follows j) (k + 1) r

    all-is : (r : Row) → Alike (all_move d a g over b k r) (Joined (B x (cells_of d b r)) (Rest r))
    all-is r = subst (λ (l : List ℕ). Alike (AllMove w B l (part_at (times l w) r.cells b.at)) (Joined (B x (cells_of d b r)) (Rest r))) (sym splits) (all-parts w B x xs r.cells b.at)

    pub can-both : (r : Row) (u v : Bool) → Decides u (Any (successors d a g p r)) → Decides v (Any (all_move d a g over next (k + 1) r)) → Decides (u && v) (Any (all_move d a g over b k r))
    can-both r u v p q =
        decides-alike _ _ (u && v) (alike-sym _ _ (all-is r))
        (decides-joined (B x (cells_of d b r)) (Rest r) u v (subst (λ (P : Way). Decides u (Any P)) (moves-alike r) p) (subst (λ (P : Way). Decides v (Any P)) (rest-is r) q))

    pub first-can : (r : Row) → Any (all_move d a g over b k r) → Any (successors d a g p r)
    first-can r c = subst (λ (P : Way). Any P) (sym (moves-alike r)) (any-joined-back (B x (cells_of d b r)) (Rest r) (any-alike (all_move d a g over b k r) (Joined (B x (cells_of d b r)) (Rest r)) (all-is r) c)).0

    module _ (r : Row) (inside : InstancesInside d over b k) where
      abbrev n : ℕ
      n = times xs w

      abbrev First : Way
      First = B x (cells_of d b r)

      abbrev All : Row → Type 0
      All = InstancesReached d over b k r (all_move d a g over b k r)

      abbrev One : Row → Type 0
      One = InstancesReached d over b k r (one_moves d a g over b k r)

      abbrev AllOfEach : OrderedRows → Row → Type 0
      AllOfEach s = FromEach (held s) (λ y z. InstancesReached d over next (k + 1) y (all_move d a g over next (k + 1) y) z)

      room-inside : b.at + (w + n) ≤ 48
      room-inside = subst (λ (l : List ℕ). b.at + times l w ≤ 48) splits inside

      can-rest : Any (all_move d a g over b k r) → Any (Rest r)
      can-rest c = (any-joined-back First (Rest r) (any-alike (all_move d a g over b k r) (Joined First (Rest r)) (all-is r) c)).1

      first-gained : (s s' : OrderedRows) → Gained (Reached d a g p r) (held s) (held s') → Gained (Framed r.cells b.at w First) (held s) (held s')
      first-gained s s' c = subst (λ (X : Row → Type 0). Gained X (held s) (held s')) (reached-alike r) c

      -- where the first one has moved, the others can move if they could
      pub still-can : (s s' : OrderedRows) → held s ≡ [] → Gained (Reached d a g p r) (held s) (held s') → Any (all_move d a g over b k r)
          → (y : Row) → Memᴰ y (held s') → Any (all_move d a g over next (k + 1) y)
      still-can s s' e c can y i =
          let f = first-only (Framed r.cells b.at w First) (held s') (gained-first (Framed r.cells b.at w First) s s' e (first-gained s s' c)) y i in
          subst (λ (P : Way). Any P) (sym (rest-is y))
          (subst (λ (q : Cells). Any (AllMove w B xs q)) (sym (still-beside r.cells b.at w n First (AllMove w B xs) r.full room-inside (long-first r) y f)) (can-rest can))

      all-rows : AlikeRows (Framed r.cells b.at (w + n) (Joined First (Rest r))) All
      all-rows =
          subst (λ (l : List ℕ). AlikeRows (Framed r.cells b.at (w + n) (Joined First (Rest r))) (Framed r.cells b.at (times l w) (AllMove w B l (part_at (times l w) r.cells b.at)))) (sym splits)
          (framed-alike r.cells b.at (w + n) (Joined First (Rest r)) (AllMove w B (x ∷ xs) (part_at (w + n) r.cells b.at)) (alike-sym _ _ (all-parts w B x xs r.cells b.at)))

      pub all-added : {E : Type 0} (o o' s s' : OrderedRows) (res : Result (Unit {0}) E) → held s ≡ [] → Gained (Reached d a g p r) (held s) (held s')
          → Added (AllOfEach s') o o' res → Added All o o' res
      all-added o o' s s' res e c z =
          added-alike (Framed r.cells b.at (w + n) (Joined First (Rest r))) All o o' res all-rows
          (both-added r.cells b.at w n First (AllMove w B xs) r.full room-inside (long-first r) o o' s s' res e (first-gained s s' c)
          (subst (λ (q : Part). Added (FromEach (held s') (λ y z. InstancesReached d over q (k + 1) y (all_move d a g over q (k + 1) y) z)) o o' res) follows z))

      pub all-over : (o s : OrderedRows) → room o ≤ room s → held s ≡ [] → Any (all_move d a g over b k r) → Exceeds (Reached d a g p r) (room s) (held s) → Exceeds All (room o) (held o)
      all-over o s le e can c =
          adds-overflow (Framed r.cells b.at (w + n) (Joined First (Rest r))) All (room o) (held o)
          (both-over r.cells b.at w n First (AllMove w B xs) r.full room-inside (long-first r) o s le e
          (long-all (tree_at d.plan b.node) g a.event b.scope.variables xs (part_at n r.cells (b.at + w)) (length-part r.cells (b.at + w) n)) (can-rest can)
          (subst (λ (X : Row → Type 0). Exceeds X (room s) (held s)) (reached-alike r) c))
          all-rows.to

      one-of-all : AlikeRows (EitherRow (Reached d a g p r) (InstancesReached d over next (k + 1) r (one_moves d a g over next (k + 1) r))) One
      one-of-all =
          subst (λ (X : Row → Type 0). AlikeRows (EitherRow X (InstancesReached d over next (k + 1) r (one_moves d a g over next (k + 1) r))) One) (sym (reached-alike r))
          (subst (λ (q : Part). AlikeRows (EitherRow (Framed r.cells b.at w First) (InstancesReached d over q (k + 1) r (one_moves d a g over q (k + 1) r))) One) (sym follows)
          (subst (λ (l : List ℕ). AlikeRows (EitherRow (Framed r.cells b.at w First) (InstancesReached d over (past d b) (k + 1) r (one_moves d a g over (past d b) (k + 1) r))) (Framed r.cells b.at (times l w) (OneMoves w B l (part_at (times l w) r.cells b.at)))) (sym splits)
          (one-rows w B x xs r.cells b.at (omega (arith, r.full, room-inside)))))

      pub one-added : {E : Type 0} (o m o' : OrderedRows) (res : Result (Unit {0}) E) → Stays o m → Gained (Reached d a g p r) (held o) (held m)
          → Added (InstancesReached d over next (k + 1) r (one_moves d a g over next (k + 1) r)) m o' res → Added One o o' res
      one-added o m o' res s c z =
          added-alike _ One o o' res one-of-all (added-then (Reached d a g p r) (InstancesReached d over next (k + 1) r (one_moves d a g over next (k + 1) r)) o m o' res s c z)

      pub one-over : (o : OrderedRows) → Exceeds (Reached d a g p r) (room o) (held o) → Exceeds One (room o) (held o)
      one-over o c = adds-overflow (Reached d a g p r) One (room o) (held o) c (λ y f. one-of-all.to y (inl f))

-- an instance is in place, if the instances are within a row
pub instance-in-place : (d : Diagram) (part : Part) (over : ℕ) (b p : Part) (k x : ℕ) → Bound d part over b → InstancesInside d over b k → slice_get (values_of d.plan.values over) k ≡ Some x → Instance b p x
    → Suits (values_of d.plan.values) (typed_under (binders_at d.binders part.node).outer over) p.scope → InPlace d p
instance-in-place d part over b p k x bd inside some i suits = record {
  is_node = let e = i.node in omega (arith, bd.is_node, bd.is_below);
  is_inside =
      let w = part_width d b in
      let e : times (values_from d over k) w ≡ w + times (values_from d over (k + 1)) w = ap (λ (l : List ℕ). times l w) (drop-at (values_of d.plan.values over) k x some) in
      let f : part_width d p ≡ w = ap (λ (j : ℕ). width (tree_at d.plan j)) i.node in
      let h = i.at in
      omega arith;
  suits = subst (λ (b' : Binders). Suits (values_of d.plan.values) b' p.scope) (sym bd.above ∙ sym (ap (λ (j : ℕ). binders_at d.binders j) i.node)) suits;
}

-- all instances of a quantified synchronisation are within a row
pub bound-inside : (d : Diagram) (over : ℕ) (p b : Part) (labels : List ℕ) → b.at ≡ p.at → tree_at d.plan p.node ≡ quantified_synchronisation (values_of d.plan.values over) labels (tree_at d.plan b.node)
    → p.at + part_width d p ≤ 48 → InstancesInside d over b 0
bound-inside d over p b labels first is h =
    let e : part_width d p ≡ times (values_of d.plan.values over) (part_width d b) = ap (λ (t : Tree). width t) is in
    omega arith

-- a quantified synchronisation, whose body begins where it does
module _ (d : Diagram) (a : Answers) (g : Guards) (over : ℕ) (p b : Part) (labels : List ℕ) (r : Row) (scope : b.scope ≡ p.scope) (first : b.at ≡ p.at)
    (is : tree_at d.plan p.node ≡ quantified_synchronisation (values_of d.plan.values over) labels (tree_at d.plan b.node)) where
  abbrev vs : List ℕ
  vs = values_of d.plan.values over

  abbrev body : Tree
  body = tree_at d.plan b.node

  abbrev Whole : Tree
  Whole = quantified_synchronisation vs labels body

  abbrev Moves : Tree → Way
  Moves t = Step t g a.event p.scope.variables (part_at (width t) r.cells p.at)

  -- the rows of the instances are those of the part
  of-instances : (P : Way) → Alike (Moves Whole) P → AlikeRows (InstancesReached d over b 0 r P) (Reached d a g p r)
  of-instances P e =
      subst (λ (t : Tree). AlikeRows (InstancesReached d over b 0 r P) (Framed r.cells p.at (width t) (Moves t))) (sym is)
      (subst (λ (i : ℕ). AlikeRows (Framed r.cells i (times vs (width body)) P) (Framed r.cells p.at (times vs (width body)) (Moves Whole))) (sym first)
      (framed-alike r.cells p.at (times vs (width body)) P (Moves Whole) (alike-sym _ _ e)))

  pub each-alone : {E : Type 0} (o o' : OrderedRows) (res : Result (Unit {0}) E) → in_set a.event.label labels ≡ false
      → Added (InstancesReached d over b 0 r (one_moves d a g over b 0 r)) o o' res → Added (Reached d a g p r) o o' res
  each-alone o o' res lone x =
      added-alike _ (Reached d a g p r) o o' res (of-instances (one_moves d a g over b 0 r) (one-arm g a.event p.scope.variables r.cells p.at vs labels body b.scope.variables b.at lone (variables-of _ _ scope) (sym first))) x

  module _ (met : in_set a.event.label labels ≡ true) where
    alike-all : has_value vs ≡ true → Alike (Moves Whole) (all_move d a g over b 0 r)
    alike-all some = all-arm g a.event p.scope.variables r.cells p.at vs labels body b.scope.variables b.at met some (variables-of _ _ scope) (sym first)

    without : (l : List ℕ) → has_value l ≡ false → (s : Cells) → Moves (quantified_synchronisation l labels body) s → ⊥
    without [] e s m = none-arm g a.event p.scope.variables r.cells p.at labels body _ s met m
    without (x ∷ l) e s m = true≢false e

    -- if the part can move, there is a value, and all instances can
    some-value : Any (Moves Whole) → has_value vs ≡ true
    some-value w = there (has_value vs) refl
      where
        there : (t : Bool) → has_value vs ≡ t → has_value vs ≡ true
        there true is = is
        there false is = absurd (without vs is w.0 w.1)

    pub all-can : Any (successors d a g p r) → (has_value vs ≡ true) × Any (all_move d a g over b 0 r)
    all-can c =
        let w : Any (Moves Whole) = subst (λ (t : Tree). Any (Moves t)) is c in
        let some = some-value w in
        (some, any-alike (Moves Whole) (all_move d a g over b 0 r) (alike-all some) w)

    together : has_value vs ≡ true → AlikeRows (InstancesReached d over b 0 r (all_move d a g over b 0 r)) (Reached d a g p r)
    together some = of-instances (all_move d a g over b 0 r) (alike-all some)

    pub all-together : {E : Type 0} (o o' : OrderedRows) (res : Result (Unit {0}) E) → has_value vs ≡ true
        → Added (InstancesReached d over b 0 r (all_move d a g over b 0 r)) o o' res → Added (Reached d a g p r) o o' res
    all-together o o' res some x = added-alike _ (Reached d a g p r) o o' res (together some) x

    -- with no room and some row, there is one too many
    pub no-room : (o : OrderedRows) → room o ≡ 0 → has_value vs ≡ true → InstancesInside d over b 0 → Any (all_move d a g over b 0 r) → Exceeds (Reached d a g p r) (room o) (held o)
    no-room o z some inside can =
        let n = times vs (width body) in
        let y = framed-any r.cells b.at n (all_move d a g over b 0 r) r.full inside (long-all body g a.event b.scope.variables vs (part_at n r.cells b.at) (length-part r.cells b.at n)) can in
        exceeds-one (Reached d a g p r) (room o) (held o) y.0 z ((together some).to y.0 y.1)

    -- no row, if there is no value
    pub no-value : (o : OrderedRows) → has_value vs ≡ false → Gained (Reached d a g p r) (held o) (held o)
    no-value o none = added-none (Reached d a g p r) o (subst (λ (t : Tree). (y : Row) → Framed r.cells p.at (width t) (Moves t) y → ⊥) (sym is) (λ y f. without vs none f.0 f.1))

    -- nor if one of the instances cannot move
    pub not-all : (o : OrderedRows) → has_value vs ≡ true → (Any (all_move d a g over b 0 r) → ⊥) → Gained (Reached d a g p r) (held o) (held o)
    not-all o some stuck = added-none (Reached d a g p r) o (λ y f. let i = (together some).fro y f in stuck (i.0, i.1))

-- Rows whose cells are those of a state and then 0, and how an event moves them.
use Rattle.std.proofs.Common.{◌≡◌, refl, sym, ◌∙◌, ap, subst, ℕ, zero, suc, ◌+◌, ◌<◌, ◌≤◌, inr, ⊎_elim, List, [], ◌∷◌, ◌++◌, length, map, drop, arith}
use Rattle.std.specs.List.{All}
use Rattle.std.proofs.lemmas.List.{length-map}
use Rattle.std.proofs.lemmas.List.Elements.{All-nil, All-cons, All-head, All-tail}
use Rattle.std.specs.Ordering.{ordering_then, nat_cmp}
use Rattle.std.specs.Cmp.Lexicographic.{nat_list_cmp_total}
use Rattle.std.specs.Cmp.{tied_itself}
use mathlib.Core.List.{Memᴰ}
use mathlib.Core.List.Memᴰ
use Rattle.ordered.specs.Order.{Rising}
use Rattle.ordered.proofs.Alone.{one-rising}
use Rattle.row.specs.Rows.{cells_rank, row_rank}
use Rattle.row.specs.Laws.{cells_order}
use Rattle.row.specs.declared.row.Row.{Row}
use Rattle.event.specs.declared.event.Event.{Event}
use Rattle.rules.specs.Trees.{Tree, Guards, no_variables}
use Rattle.rules.specs.Cells.{Cells, fit, width}
use Rattle.rules.specs.Rules.{Step}
use Rattle.rules.specs.Ends.{successors}
use Rattle.rules.proofs.Ends.{in-arranged, out-arranged, rising-arranged}
use Rattle.rules.proofs.Lists.{in-over, out-over}
use Rattle.rules.proofs.Fits.{fits}
use Rattle.rules.proofs.Widths.{length-fit, step-width}
use Rattle.motions.specs.Framing.{framed, Framed}
use Rattle.motions.specs.Collecting.{Gained, Exceeds, FromEach}
use Rattle.motions.proofs.Frames.{part-framed, length-framed, row-of}
use Rattle.ordered.proofs.Alone.{shorter}
use Rattle.opened.proofs.Rising.{rising-mapped}

-- the cells of a row are its first n and then 0
abbrev pub IsFilled : ℕ → Row → Type 0
IsFilled n y = y.cells ≡ fit 48 (fit n y.cells)

-- so are those of each of some rows
abbrev pub AreFilled : ℕ → List Row → Type 0
AreFilled n rows = (y : Row) → Memᴰ y rows → IsFilled n y

-- the first n cells of each
abbrev pub firsts : ℕ → List Row → List Cells
firsts n rows = map (λ y. fit n y.cells) rows

-- the same by members
pub all-filled : (n : ℕ) (rows : List Row) → All (IsFilled n) rows → AreFilled n rows
all-filled n [] a y i = absurd (Memᴰ.not-nil i)
all-filled n (x ∷ rows) a y i =
    ⊎_elim
    (λ e. subst (λ (z : Row). IsFilled n z) (sym e) (All-head (IsFilled n) x rows a))
    (λ j. all-filled n rows (All-tail (IsFilled n) x rows a) y j)
    (Memᴰ.cases_cons i)

pub filled-all : (n : ℕ) (rows : List Row) → AreFilled n rows → All (IsFilled n) rows
filled-all n [] f = All-nil (IsFilled n)
filled-all n (x ∷ rows) f = All-cons (IsFilled n) x rows (f x (Memᴰ.head refl)) (filled-all n rows (λ y i. f y (Memᴰ.tail i)))

-- other cells in place of the first ones
fit-other : (n m : ℕ) (p s : Cells) → length p ≡ n → length s ≡ n → n ≤ m → s ++ drop n (fit m p) ≡ fit m s
fit-other zero m [] [] l k h = refl
fit-other zero m (x ∷ p) s l k h = absurd (omega arith)
fit-other zero m [] (x ∷ s) l k h = absurd (omega arith)
fit-other (suc n) m [] s l k h = absurd (omega arith)
fit-other (suc n) m (x ∷ p) [] l k h = absurd (omega arith)
fit-other (suc n) zero (x ∷ p) (y ∷ s) l k h = absurd (omega arith)
fit-other (suc n) (suc m) (x ∷ p) (y ∷ s) l k h = ap {B = Cells} (λ w. y ∷ w) (fit-other n m p s (omega arith) (omega arith) (omega arith))

-- filled up, cells are in the order that they were in
rank-fit : (n m : ℕ) (s t : Cells) → length s ≡ n → length t ≡ n → n ≤ m → cells_rank (fit m s) (fit m t) ≡ cells_rank s t
rank-fit zero m [] [] l k h = tied_itself nat_list_cmp_total (fit m [])
rank-fit zero m (x ∷ s) t l k h = absurd (omega arith)
rank-fit zero m [] (x ∷ t) l k h = absurd (omega arith)
rank-fit (suc n) m [] t l k h = absurd (omega arith)
rank-fit (suc n) m (x ∷ s) [] l k h = absurd (omega arith)
rank-fit (suc n) zero (x ∷ s) (y ∷ t) l k h = absurd (omega arith)
rank-fit (suc n) (suc m) (x ∷ s) (y ∷ t) l k h = ap (ordering_then (nat_cmp x y)) (rank-fit n m s t (omega arith) (omega arith) (omega arith))

module _ (n : ℕ) (short : n ≤ 48) where
  -- filled rows are in the order of their first cells
  rank-filled : (y z : Row) → IsFilled n y → IsFilled n z → row_rank y z ≡ cells_rank (fit n y.cells) (fit n z.cells)
  rank-filled y z p q =
      ap (λ (w : Cells). cells_rank w z.cells) p ∙ ap (cells_rank (fit 48 (fit n y.cells))) q
      ∙ rank-fit n 48 (fit n y.cells) (fit n z.cells) (length-fit n y.cells) (length-fit n z.cells) short

  -- where they rise, so do these
  pub rising-firsts : (rows : List Row) → AreFilled n rows → Rising row_rank rows → Rising cells_rank (firsts n rows)
  rising-firsts rows f r = rising-mapped row_rank cells_rank (λ y. fit n y.cells) rows (λ y z i j. rank-filled y z (f y i) (f z j)) r

module _ (t : Tree) (g : Guards) (e : Event) (short : width t ≤ 48) where
  -- y is the row x in which the event moved the first cells
  abbrev pub Moved : Row → Row → Type 0
  Moved x y = Framed x.cells 0 (width t) (Step t g e no_variables (fit (width t) x.cells)) y

  -- the event keeps the width
  step-long : (x : Row) (s : Cells) → Step t g e no_variables (fit (width t) x.cells) s → length s ≡ width t
  step-long x s h = step-width t g e no_variables (fit (width t) x.cells) s (length-fit (width t) x.cells) h

  -- the cells that were put in are the first
  put-first : (x y : Row) (s : Cells) → length s ≡ width t → y.cells ≡ framed x.cells 0 (width t) s → fit (width t) y.cells ≡ s
  put-first x y s l p =
      let full : length x.cells ≡ 48 = x.full in
      ap (fit (width t)) p ∙ part-framed x.cells 0 (width t) s (omega arith) l

  -- so a moved row is filled, and its first cells are a successor of the former ones; and each successor is that of a moved row
  moved-step : (x y : Row) → Moved x y → Step t g e no_variables (fit (width t) x.cells) (fit (width t) y.cells)
  moved-step x y m = subst (λ (s : Cells). Step t g e no_variables (fit (width t) x.cells) s) (sym (put-first x y m.0 (step-long x m.0 m.1) m.2)) m.1

  moved-filled : (x y : Row) → IsFilled (width t) x → Moved x y → IsFilled (width t) y
  moved-filled x y f m =
      let l : length m.0 ≡ width t = step-long x m.0 m.1 in
      let none : 0 + width t ≡ width t = omega arith in
      m.2 ∙ ap (λ (k : ℕ). m.0 ++ drop k x.cells) none ∙ ap (λ (r : Cells). m.0 ++ drop (width t) r) f
      ∙ fit-other (width t) 48 (fit (width t) x.cells) m.0 (length-fit (width t) x.cells) l short
      ∙ ap (fit 48) (sym (put-first x y m.0 l m.2))

  moved-row : (x : Row) (s : Cells) → Step t g e no_variables (fit (width t) x.cells) s → (y : Row) × Moved x y × (fit (width t) y.cells ≡ s)
  moved-row x s h =
      let full : length x.cells ≡ 48 = x.full in
      let l : length s ≡ width t = step-long x s h in
      let r = row-of (framed x.cells 0 (width t) s) (length-framed x.cells 0 (width t) s (omega arith) l ∙ full) in
      (r.0, (s, h, r.1), put-first x r.0 s l r.1)

  module _ (rows : List Row) (filled : AreFilled (width t) rows) where
    -- what is reached from some rows
    abbrev pub AllMoved : Row → Type 0
    AllMoved y = FromEach rows Moved y

    -- what is reached is filled
    reached-filled : (l : List Row) → ((y : Row) → Memᴰ y l → AllMoved y) → AreFilled (width t) l
    reached-filled l f y i = let m = f y i in moved-filled m.0 y (filled m.0 m.1) m.2

    -- the first cells of what is reached are successors of theirs, and these are reached
    to-successor : (y : Row) → AllMoved y → Memᴰ (fit (width t) y.cells) (successors t g e (firsts (width t) rows))
    to-successor y m =
        in-arranged cells_rank cells_order _ _
        (in-over _ (Memᴰ.map (λ (x : Row). fit (width t) x.cells) m.1) ((fits t g e no_variables).complete _ _ (moved-step m.0 y m.2)))

    from-successor : (s : Cells) → Memᴰ s (successors t g e (firsts (width t) rows)) → (y : Row) × AllMoved y × (fit (width t) y.cells ≡ s)
    from-successor s i =
        let u = out-over _ _ (out-arranged cells_rank cells_order _ _ i) in
        let o = Memᴰ.of_map (λ (x : Row). fit (width t) x.cells) rows u.1 in
        let h : Step t g e no_variables u.0 s = (fits t g e no_variables).sound _ _ u.2 in
        let m = moved-row o.0 s (subst (λ (r : Cells). Step t g e no_variables r s) (sym o.2) h) in
        (m.0, (o.0, o.1, m.1), m.2)

    -- the rows that were gained are the next states
    pub gained-filled : (after : List Row) → Gained AllMoved [] after → AreFilled (width t) after
    gained-filled after a = reached-filled after (λ y i. ⊎_elim (λ n. absurd (Memᴰ.not-nil n)) (λ m. m) (a.only y i))

    pub gained-are : (after : List Row) → Gained AllMoved [] after → firsts (width t) after ≡ successors t g e (firsts (width t) rows)
    gained-are after a =
        one-rising cells_rank cells_order (firsts (width t) after) (successors t g e (firsts (width t) rows))
        (rising-firsts (width t) short after (gained-filled after a) a.rises)
        (rising-arranged cells_rank cells_order _)
        (λ s i. to s (Memᴰ.of_map (λ (y : Row). fit (width t) y.cells) after i))
        (λ s i. fro s (from-successor s i))
      where
        to : (s : Cells) → (y : Row) × Memᴰ y after × (fit (width t) y.cells ≡ s) → Memᴰ s (successors t g e (firsts (width t) rows))
        to s o =
            subst (λ (r : Cells). Memᴰ r (successors t g e (firsts (width t) rows))) o.2
            (to-successor o.0 (⊎_elim (λ n. absurd (Memᴰ.not-nil n)) (λ m. m) (a.only o.0 o.1)))

        fro : (s : Cells) → (y : Row) × AllMoved y × (fit (width t) y.cells ≡ s) → Memᴰ s (firsts (width t) after)
        fro s m = Memᴰ.cast (sym m.2) (Memᴰ.map (λ (y : Row). fit (width t) y.cells) (a.all m.0 (inr m.1)))

    -- where there are more rows than places, there are more next states
    pub exceeded : (places : ℕ) → Exceeds AllMoved places [] → places < length (successors t g e (firsts (width t) rows))
    exceeded places a =
        let only : (y : Row) → Memᴰ y a.rows → AllMoved y = λ y i. ⊎_elim (λ n. absurd (Memᴰ.not-nil n)) (λ m. m) (a.only y i) in
        let long : length (firsts (width t) a.rows) ≤ length (successors t g e (firsts (width t) rows)) =
        shorter cells_rank cells_order (successors t g e (firsts (width t) rows)) (firsts (width t) a.rows)
        (rising-firsts (width t) short a.rows (reached-filled a.rows only) a.rises)
        (rising-arranged cells_rank cells_order _)
        (λ s i. among only s (Memᴰ.of_map (λ (y : Row). fit (width t) y.cells) a.rows i)) in
        let same : length (firsts (width t) a.rows) ≡ length a.rows = length-map a.rows _ in
        let more : places < length a.rows = a.more in
        omega arith
      where
        among : ((y : Row) → Memᴰ y a.rows → AllMoved y) → (s : Cells) → (y : Row) × Memᴰ y a.rows × (fit (width t) y.cells ≡ s) → Memᴰ s (successors t g e (firsts (width t) rows))
        among only s o = subst (λ (r : Cells). Memᴰ r (successors t g e (firsts (width t) rows))) o.2 (to-successor o.0 (only o.0 o.1))

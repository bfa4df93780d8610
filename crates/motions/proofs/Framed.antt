-- Rows that come of replacing a part of some cells by one of a kind.
use Rattle.std.proofs.Common.{◌≡◌, refl, sym, ◌∙◌, ap, ap₂, subst, ℕ, suc, ◌+◌, ◌≤◌, true, inl, inr, List, [], ◌∷◌, ◌++◌, map, length, Less, length-append, arith}
use mathlib.Core.List.Memᴰ
use mathlib.Core.List.{Memᴰ}
use Rattle.std.proofs.lemmas.List.{length-map}
use Rattle.ordered.specs.Order.{Below, Rising}
use Rattle.row.specs.Rows.{cells_rank, row_rank}
use Rattle.row.specs.declared.row.Row.{Row}
use Rattle.rules.specs.Cells.{Cells, tagged}
use Rattle.motions.specs.Framing.{part_at, framed, Framed}
use Rattle.motions.specs.Ways.{Way, Alike, Any, Long, If, Either, Tagged, Left, Right, Joined}
use Rattle.motions.specs.Collecting.{Exceeds, AlikeRows, EitherRow, FromEach}
use Rattle.motions.proofs.Frames.{length-framed, frame-left, frame-right, frame-both, tag-frame, rank-back, rank-framed, row-of}

-- of alike kinds
pub framed-alike : (r : Cells) (at n : ℕ) (P Q : Way) → Alike P Q → AlikeRows (Framed r at n P) (Framed r at n Q)
framed-alike r at n P Q a = record {
  to = λ y f. (f.0, a.to f.0 f.1, f.2);
  fro = λ y f. (f.0, a.fro f.0 f.1, f.2);
}

-- of either of two kinds
pub framed-either : (r : Cells) (at n : ℕ) (P Q : Way) → AlikeRows (Framed r at n (Either P Q)) (EitherRow (Framed r at n P) (Framed r at n Q))
framed-either r at n P Q = record {
  to = λ y f. elim f.1 [ inl p ↦ inl (f.0, p, f.2) | inr q ↦ inr (f.0, q, f.2) ];
  fro = λ y e. elim e [ inl f ↦ (f.0, inl f.1, f.2) | inr f ↦ (f.0, inr f.1, f.2) ];
}

-- of a kind whose test holds
pub framed-yes : (r : Cells) (at n : ℕ) (P : Way) → AlikeRows (Framed r at n P) (Framed r at n (If true P))
framed-yes r at n P = record {
  to = λ y f. (f.0, (refl, f.1), f.2);
  fro = λ y f. (f.0, f.1.1, f.2);
}

-- behind a tag
pub framed-tagged : (r R : Cells) (at m n x : ℕ) (p : Cells) (P : Way) → at + suc m ≤ length r → n ≤ m → length p ≡ n → Long n P → R ≡ framed r at (suc m) (tagged m x p) → AlikeRows (Framed R (at + 1) n P) (Framed r at (suc m) (Tagged m x P))
framed-tagged r R at m n x p P h k l long e = record {
  to = λ y f. (tagged m x f.0, (f.0, f.1, refl), f.2 ∙ same f.0 f.1);
  fro = λ y f. (f.1.0, f.1.1, f.2 ∙ ap (framed r at (suc m)) f.1.2 ∙ sym (same f.1.0 f.1.1));
}
  where
    same : (s : Cells) → P s → framed R (at + 1) n s ≡ framed r at (suc m) (tagged m x s)
    same s q = ap (λ w. framed w (at + 1) n s) e ∙ tag-frame r at m n x p s (omega arith) l k (long s q)

-- of a kind, before cells that stay
pub framed-left : (r : Cells) (at m n : ℕ) (P : Way) (q : Cells) → at + (m + n) ≤ length r → q ≡ part_at n r (at + m) → AlikeRows (Framed r at m P) (Framed r at (m + n) (Left P q))
framed-left r at m n P q h e = record {
  to = λ y f. (f.0 ++ q, (f.0, f.1, refl), f.2 ∙ sym (same f.0));
  fro = λ y f. (f.1.0, f.1.1, f.2 ∙ ap (framed r at (m + n)) f.1.2 ∙ same f.1.0);
}
  where
    same : (s : Cells) → framed r at (m + n) (s ++ q) ≡ framed r at m s
    same s = ap (λ w. framed r at (m + n) (s ++ w)) e ∙ frame-left r at m n s h

-- of a kind, behind cells that stay
pub framed-right : (r : Cells) (at m n : ℕ) (p : Cells) (Q : Way) → at + (m + n) ≤ length r → p ≡ part_at m r at → AlikeRows (Framed r (at + m) n Q) (Framed r at (m + n) (Right p Q))
framed-right r at m n p Q h e = record {
  to = λ y f. (p ++ f.0, (f.0, f.1, refl), f.2 ∙ sym (same f.0));
  fro = λ y f. (f.1.0, f.1.1, f.2 ∙ ap (framed r at (m + n)) f.1.2 ∙ same f.1.0);
}
  where
    same : (t : Cells) → framed r at (m + n) (p ++ t) ≡ framed r (at + m) n t
    same t = ap (λ w. framed r at (m + n) (w ++ t)) e ∙ frame-right r at m n t h

-- a row whose part is replaced is a row
row-framed : (r : Cells) (at n : ℕ) (s : Cells) → length r ≡ 48 → at + n ≤ 48 → length s ≡ n → (y : Row) × (y.cells ≡ framed r at n s)
row-framed r at n s size h l = row-of (framed r at n s) (length-framed r at n s (omega arith) l ∙ size)

-- there is such a row where there is one of the kind
pub framed-any : (r : Cells) (at n : ℕ) (P : Way) → length r ≡ 48 → at + n ≤ 48 → Long n P → Any P → (y : Row) × Framed r at n P y
framed-any r at n P size h long a = let o = row-framed r at n a.0 size h (long a.0 a.1) in (o.0, (a.0, a.1, o.1))

pub any-framed : (r : Cells) (at n : ℕ) (P : Way) (y : Row) → Framed r at n P y → Any P
any-framed r at n P y f = (f.0, f.1)

-- of one kind, and then of another: those of the second for each row of the first
pub product : (r : Cells) (at m n : ℕ) (P Q : Way) (l : List Row) → length r ≡ 48 → at + (m + n) ≤ 48 → Long m P → ((x : Row) → Memᴰ x l → Framed r at m P x) → ((x : Row) → Framed r at m P x → Memᴰ x l) → AlikeRows (FromEach l (λ x y. Framed x.cells (at + m) n Q y)) (Framed r at (m + n) (Joined P Q))
product r at m n P Q l size h long only all = record {
  to = λ y f. join y f.0 (only f.0 f.1) f.2;
  fro = λ y f. split y f.1.0 f.1.1 f.1.2 f.1.3 (f.2 ∙ ap (framed r at (m + n)) f.1.4);
}
  where
    same : (x : Row) (s t : Cells) → P s → x.cells ≡ framed r at m s → framed x.cells (at + m) n t ≡ framed r at (m + n) (s ++ t)
    same x s t p e = ap (λ w. framed w (at + m) n t) e ∙ frame-both r at m n s t (omega arith) (long s p)

    join : (y x : Row) → Framed r at m P x → Framed x.cells (at + m) n Q y → Framed r at (m + n) (Joined P Q) y
    join y x f g = (f.0 ++ g.0, (f.0, g.0, f.1, g.1, refl), g.2 ∙ same x f.0 g.0 f.1 f.2)

    split : (y : Row) (s t : Cells) → P s → Q t → y.cells ≡ framed r at (m + n) (s ++ t) → FromEach l (λ x y. Framed x.cells (at + m) n Q y) y
    split y s t p q e =
        let o = row-framed r at m s size (omega arith) (long s p) in
        (o.0, all o.0 (s, p, o.1), (t, q, e ∙ sym (same o.0 s t p o.1)))

-- a function on rows that keeps the order of rows, on those of a list
module _ (h : Row → Row) where
  below-map : (w : Row) (xs : List Row) → ((x : Row) → Memᴰ x xs → row_rank w x ≡ Less → row_rank (h w) (h x) ≡ Less) → Below row_rank w xs → Below row_rank (h w) (map h xs)
  below-map w [] m b = tt
  below-map w (x ∷ xs) m b = (m x (Memᴰ.head refl) b.0, below-map w xs (λ y i. m y (Memᴰ.tail i)) b.1)

  rising-map : (xs : List Row) → ((x y : Row) → Memᴰ x xs → Memᴰ y xs → row_rank x y ≡ Less → row_rank (h x) (h y) ≡ Less) → Rising row_rank xs → Rising row_rank (map h xs)
  rising-map [] m r = tt
  rising-map (x ∷ xs) m r = (below-map x xs (λ y i. m x y (Memᴰ.head refl) (Memᴰ.tail i)) r.0, rising-map xs (λ y z i j. m y z (Memᴰ.tail i) (Memᴰ.tail j)) r.1)

  -- too many rows of X are too many of Z, if it puts those of X among those of Z
  exceeds-by : (X Z : Row → Type 0) (k j : ℕ) (before : List Row) → j ≤ k → ((x y : Row) → X x → X y → row_rank x y ≡ Less → row_rank (h x) (h y) ≡ Less) → ((x : Row) → X x → Z (h x)) → Exceeds X k [] → Exceeds Z j before
  exceeds-by X Z k j before le keeps puts e =
      let of : (x : Row) → Memᴰ x e.rows → X x = λ x i. elim (e.only x i) [ inl n ↦ absurd (Memᴰ.not-nil n) | inr p ↦ p ] in
      record {
        rows = map h e.rows;
        rises = rising-map e.rows (λ x y i j. keeps x y (of x i) (of y j)) e.rises;
        more = let l = length-map e.rows h in let b = e.more in omega arith;
        only = λ y i. let o = Memᴰ.of_map h e.rows i in inr (subst Z o.2 (puts o.0 (of o.0 o.1)));
      }

-- too many rows of the first kind are too many of both, if there is one of the second
pub product-exceeds : (r : Cells) (at m n k j : ℕ) (P Q : Way) (before : List Row) → length r ≡ 48 → at + (m + n) ≤ 48 → Long m P → Long n Q → Any Q → j ≤ k → Exceeds (Framed r at m P) k [] → Exceeds (Framed r at (m + n) (Joined P Q)) j before
product-exceeds r at m n k j P Q before size h long long' a le e =
    exceeds-by (λ x. (on x).0) (Framed r at m P) (Framed r at (m + n) (Joined P Q)) k j before le keeps (λ x f. (f.0 ++ a.0, (f.0, a.0, f.1, a.1, refl), same x f)) e
  where
    -- a row, where the second part is replaced by that one of the second kind
    on : (x : Row) → (y : Row) × (y.cells ≡ framed x.cells (at + m) n a.0)
    on x = row-framed x.cells (at + m) n a.0 x.full (omega arith) (long' a.0 a.1)

    same : (x : Row) (f : Framed r at m P x) → (on x).0.cells ≡ framed r at (m + n) (f.0 ++ a.0)
    same x f = (on x).1 ∙ ap (λ w. framed w (at + m) n a.0) f.2 ∙ frame-both r at m n f.0 a.0 (omega arith) (long f.0 f.1)

    length-both : (x : Row) (f : Framed r at m P x) → length (f.0 ++ a.0) ≡ m + n
    length-both x f = let l = long f.0 f.1 in let l' = long' a.0 a.1 in simp length-append (omega arith)

    keeps : (x y : Row) → Framed r at m P x → Framed r at m P y → row_rank x y ≡ Less → row_rank (on x).0 (on y).0 ≡ Less
    keeps x y f g lt =
        ap₂ (λ u w. cells_rank u w) (same x f) (same y g)
        ∙ rank-framed r at (m + n) (f.0 ++ a.0) (g.0 ++ a.0) (length-both x f) (length-both y g)
        ∙ rank-back f.0 g.0 a.0 (long f.0 f.1 ∙ sym (long g.0 g.1))
        ∙ sym (rank-framed r at m f.0 g.0 (long f.0 f.1) (long g.0 g.1))
        ∙ sym (ap₂ (λ u w. cells_rank u w) f.2 g.2)
        ∙ lt

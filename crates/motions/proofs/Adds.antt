-- How additions to a list of rows follow one another. `Adds X n before after (Ok tt)` computes to `Gained X before after`, and with an error
-- to `Exceeds X n before`: the lemmas say it so, for any type of errors.
use Rattle.std.proofs.Common.{◌≡◌, refl, sym, ◌∙◌, subst, ℕ, zero, suc, ◌+◌, ◌<◌, ◌≤◌, Bool, true, false, ◌⊎◌, inl, inr, ⊎_elim, List, [], ◌∷◌, length, take, Some, Ok, Err, Result, ltb-true, arith}
use Rattle.std.specs.List.{slice_get}
use Rattle.std.proofs.lemmas.List.{take_all}
use Rattle.std.proofs.lemmas.Option.{none-some}
use mathlib.Core.List.{Memᴰ}
use mathlib.Core.List.Memᴰ
use Rattle.ordered.specs.Held.{held, room}
use Rattle.ordered.specs.Order.{Rising, spills, insert_ordered, StaysRising, HoldsNothingElse, HoldsExactly}
use Rattle.ordered.proofs.Laws.{rising-insert, in-insert}
use Rattle.ordered.proofs.Alone.{shorter}
use Rattle.row.specs.Rows.{row_rank, OrderedRows}
use Rattle.row.specs.Laws.{row_order}
use Rattle.row.specs.declared.row.Row.{Row}
use Rattle.motions.specs.Collecting.{Gained, Exceeds, Adds, Stays, Added, AlikeRows, EitherRow, FromEach}

-- no rows, no addition
pub adds-none : (X : Row → Type 0) (l : List Row) → Rising row_rank l → ((y : Row) → X y → ⊥) → Gained X l l
adds-none X l r f = record { rises = r; only = λ y i. inl i; all = λ y i. ⊎_elim (λ j. j) (λ x. absurd (f y x)) i }

-- one row is inserted: a list that spills shows that there are too many
pub inserted : (n : ℕ) (before after : List Row) (x : Row) (over : Bool)
    → Rising row_rank before → over ≡ spills row_rank n before x → StaysRising row_rank before after → HoldsNothingElse before x after → HoldsExactly before x after over
    → (over ≡ true → Exceeds (λ y. y ≡ x) n before) × (over ≡ false → Gained (λ y. y ≡ x) before after)
inserted n before after x over r is stays only exactly = (spilled, fitted)
  where
    spilled : over ≡ true → Exceeds (λ y. y ≡ x) n before
    spilled t = record {
      rows = insert_ordered row_rank before x;
      rises = rising-insert row_rank row_order before x r;
      more = ltb-true _ _ (sym is ∙ t);
      only = λ y i. in-insert row_rank before x y i;
    }

    fitted : over ≡ false → Gained (λ y. y ≡ x) before after
    fitted t = record { rises = stays r; only = only; all = λ y i. (exactly t y).1 i }

-- with no row left out, the same rows are gained
pub gained-alike : (X Z : Row → Type 0) (before after : List Row) → AlikeRows X Z → Gained X before after → Gained Z before after
gained-alike X Z before after s a = record {
  rises = a.rises;
  only = λ y i. ⊎_elim (λ m. inl m) (λ x. inr (s.to y x)) (a.only y i);
  all = λ y i. a.all y (⊎_elim (λ m. inl m) (λ z. inr (s.fro y z)) i);
}

-- too many rows of X are too many of Z, if X is part of Z
pub adds-overflow : (X Z : Row → Type 0) (n : ℕ) (before : List Row) → Exceeds X n before → ((y : Row) → X y → Z y) → Exceeds Z n before
adds-overflow X Z n before a f = record {
  rows = a.rows;
  rises = a.rises;
  more = a.more;
  only = λ y i. ⊎_elim (λ m. inl m) (λ x. inr (f y x)) (a.only y i);
}

-- rows of X and then rows of Y are gained
pub gained-then : (X Y : Row → Type 0) (before mid after : List Row) → Gained X before mid → Gained Y mid after → Gained (EitherRow X Y) before after
gained-then X Y before mid after a b = record {
  rises = b.rises;
  only = λ y i. ⊎_elim (λ m. ⊎_elim (λ k. inl k) (λ x. inr (inl x)) (a.only y m)) (λ w. inr (inr w)) (b.only y i);
  all = λ y i. b.all y (⊎_elim (λ k. inl (a.all y (inl k))) (λ z. ⊎_elim (λ x. inl (a.all y (inr x))) (λ w. inr w) z) i);
}

-- too many rows of Y after those of X are too many of both
pub exceeds-then : (X Y : Row → Type 0) (n : ℕ) (before mid : List Row) → Gained X before mid → Exceeds Y n mid → Exceeds (EitherRow X Y) n before
exceeds-then X Y n before mid a b = record {
  rows = b.rows;
  rises = b.rises;
  more = b.more;
  only = λ y i. ⊎_elim (λ m. ⊎_elim (λ k. inl k) (λ x. inr (inl x)) (a.only y m)) (λ w. inr (inr w)) (b.only y i);
}

module _ {E : Type 0} where
  -- the same rows, the same addition
  pub adds-alike : (X Z : Row → Type 0) (n : ℕ) (before after : List Row) (r : Result (Unit {0}) E) → AlikeRows X Z → Adds X n before after r → Adds Z n before after r
  adds-alike X Z n before after (Ok u) s a = gained-alike X Z before after s a
  adds-alike X Z n before after (Err e) s a = adds-overflow X Z n before a s.to

  -- rows of X, and then rows of Y
  pub adds-then : (X Y : Row → Type 0) (n : ℕ) (before mid after : List Row) (r : Result (Unit {0}) E) → Gained X before mid → Adds Y n mid after r → Adds (EitherRow X Y) n before after r
  adds-then X Y n before mid after (Ok u) a b = gained-then X Y before mid after a b
  adds-then X Y n before mid after (Err e) a b = exceeds-then X Y n before mid a b

-- a list stays, and what stays twice stays
pub stays-refl : (o : OrderedRows) → Stays o o
stays-refl o = record { room = refl; lender = refl }

pub stays-then : (o m o' : OrderedRows) → Stays o m → Stays m o' → Stays o o'
stays-then o m o' s t = record { room = t.room ∙ s.room; lender = t.lender ∙ s.lender }

-- the same for lists over lent places: `Added X o m (Ok tt)` says that X is gained, and with an error that X exceeds its room
pub added-none : (X : Row → Type 0) (o : OrderedRows) → ((y : Row) → X y → ⊥) → Gained X (held o) (held o)
added-none X o f = adds-none X (held o) o.rises f

pub added-overflow : (X Z : Row → Type 0) (o : OrderedRows) → Exceeds X (room o) (held o) → ((y : Row) → X y → Z y) → Exceeds Z (room o) (held o)
added-overflow X Z o a f = adds-overflow X Z (room o) (held o) a f

module _ {E : Type 0} where
  pub added-alike : (X Z : Row → Type 0) (o o' : OrderedRows) (r : Result (Unit {0}) E) → AlikeRows X Z → Added X o o' r → Added Z o o' r
  added-alike X Z o o' r s a = adds-alike X Z (room o) (held o) (held o') r s a

  pub added-then : (X Y : Row → Type 0) (o m o' : OrderedRows) (r : Result (Unit {0}) E)
      → Stays o m → Gained X (held o) (held m) → Added Y m o' r → Added (EitherRow X Y) o o' r
  added-then X Y o m o' r s a b =
      adds-then X Y (room o) (held o) (held m) (held o') r a (subst (λ (n : ℕ). Adds Y n (held m) (held o') r) s.room b)

-- the same rows
pub rows-refl : (X : Row → Type 0) → AlikeRows X X
rows-refl X = record { to = λ y x. x; fro = λ y x. x }

pub rows-sym : (X Z : Row → Type 0) → AlikeRows X Z → AlikeRows Z X
rows-sym X Z a = record { to = a.fro; fro = a.to }

pub rows-trans : (X Y Z : Row → Type 0) → AlikeRows X Y → AlikeRows Y Z → AlikeRows X Z
rows-trans X Y Z a b = record { to = λ y x. b.to y (a.to y x); fro = λ y z. a.fro y (b.fro y z) }

pub rows-either : (X X' Y Y' : Row → Type 0) → AlikeRows X X' → AlikeRows Y Y' → AlikeRows (EitherRow X Y) (EitherRow X' Y')
rows-either X X' Y Y' a b = record {
  to = λ y w. ⊎_elim (λ p. inl (a.to y p)) (λ q. inr (b.to y q)) w;
  fro = λ y w. ⊎_elim (λ p. inl (a.fro y p)) (λ q. inr (b.fro y q)) w;
}

-- what is among the first i + 1 is among the first i, or is the next
next-out : (l : List Row) (i : ℕ) (x z : Row) → slice_get l i ≡ Some x → Memᴰ z (take (suc i) l) → Memᴰ z (take i l) ⊎ (z ≡ x)
next-out [] i x z e m = absurd (none-some x e)
next-out (y ∷ l) zero x z e m = let q : y ≡ x = cc in inr (Memᴰ.eq_of_singleton m ∙ q)
next-out (y ∷ l) (suc i) x z e m = ⊎_elim (λ p. inl (Memᴰ.head p)) (λ k. ⊎_elim (λ j. inl (Memᴰ.tail j)) (λ p. inr p) (next-out l i x z e k)) (Memᴰ.cases_cons m)

next-in : (l : List Row) (i : ℕ) (x z : Row) → slice_get l i ≡ Some x → Memᴰ z (take i l) ⊎ (z ≡ x) → Memᴰ z (take (suc i) l)
next-in [] i x z e w = absurd (none-some x e)
next-in (y ∷ l) zero x z e w = let q : x ≡ y = cc in ⊎_elim (λ m. absurd (Memᴰ.not-nil m)) (λ p. Memᴰ.head (p ∙ q)) w
next-in (y ∷ l) (suc i) x z e w =
    ⊎_elim
    (λ m. ⊎_elim (λ p. Memᴰ.head p) (λ k. Memᴰ.tail (next-in l i x z e (inl k))) (Memᴰ.cases_cons m))
    (λ p. Memᴰ.tail (next-in l i x z e (inr p)))
    w

-- what is among the first is there
front-in : (l : List Row) (i : ℕ) (z : Row) → Memᴰ z (take i l) → Memᴰ z l
front-in l zero z m = absurd (Memᴰ.not-nil m)
front-in [] (suc i) z m = m
front-in (y ∷ l) (suc i) z m = ⊎_elim (λ p. Memᴰ.head p) (λ k. Memᴰ.tail (front-in l i z k)) (Memᴰ.cases_cons m)

-- from the first i rows and from the next
pub each-more : (l : List Row) (Y : Row → Row → Type 0) (i : ℕ) (x : Row) → slice_get l i ≡ Some x
    → AlikeRows (EitherRow (FromEach (take i l) Y) (Y x)) (FromEach (take (i + 1) l) Y)
each-more l Y i x e = record { to = λ y w. to y w; fro = λ y w. fro y w }
  where
    suc-is : suc i ≡ i + 1
    suc-is = omega arith

    to : (y : Row) → EitherRow (FromEach (take i l) Y) (Y x) y → FromEach (take (i + 1) l) Y y
    to y (inl w) = (w.0, subst (λ (j : ℕ). Memᴰ w.0 (take j l)) suc-is (next-in l i x w.0 e (inl w.1)), w.2)
    to y (inr w) = (x, subst (λ (j : ℕ). Memᴰ x (take j l)) suc-is (next-in l i x x e (inr refl)), w)

    fro : (y : Row) → FromEach (take (i + 1) l) Y y → EitherRow (FromEach (take i l) Y) (Y x) y
    fro y w =
        ⊎_elim
        (λ m. inl (w.0, m, w.2))
        (λ p. inr (subst (λ (z : Row). Y z y) p w.2))
        (next-out l i x w.0 e (subst (λ (j : ℕ). Memᴰ w.0 (take j l)) (sym suc-is) w.1))

-- from the first rows is from all
pub each-some : (l : List Row) (Y : Row → Row → Type 0) (i : ℕ) (y : Row) → FromEach (take i l) Y y → FromEach l Y y
each-some l Y i y w = (w.0, front-in l i w.0 w.1, w.2)

-- from as many first rows as there are is from all
pub each-all : (l : List Row) (Y : Row → Row → Type 0) (i : ℕ) → length l ≤ i → AlikeRows (FromEach (take i l) Y) (FromEach l Y)
each-all l Y i h = record { to = each-some l Y i; fro = λ y w. (w.0, subst (λ (k : List Row). Memᴰ w.0 k) (sym (take_all i l h)) w.1, w.2) }

-- the same from each row
pub each-alike : (l : List Row) (Y Z : Row → Row → Type 0) → ((x : Row) → Memᴰ x l → AlikeRows (Y x) (Z x)) → AlikeRows (FromEach l Y) (FromEach l Z)
each-alike l Y Z f = record { to = λ y w. (w.0, w.1, (f w.0 w.1).to y w.2); fro = λ y w. (w.0, w.1, (f w.0 w.1).fro y w.2) }

-- a loop over a list of rows: the next row
pub added-each : {E : Type 0} (l : List Row) (Y : Row → Row → Type 0) (i : ℕ) (x : Row) (o m o' : OrderedRows) (r : Result (Unit {0}) E)
    → slice_get l i ≡ Some x → Stays o m → Gained (FromEach (take i l) Y) (held o) (held m) → Added (Y x) m o' r
    → Added (FromEach (take (i + 1) l) Y) o o' r
added-each l Y i x o m o' r e s a b =
    added-alike (EitherRow (FromEach (take i l) Y) (Y x)) (FromEach (take (i + 1) l) Y) o o' r (each-more l Y i x e)
    (added-then (FromEach (take i l) Y) (Y x) o m o' r s a b)

-- a list that fits, and that there are too many, exclude each other
pub fits-excludes-overflow : (X : Row → Type 0) (n : ℕ) (before after : List Row) → length after ≤ n → Gained X before after → Exceeds X n before → ⊥
fits-excludes-overflow X n before after l a e =
    let h : length e.rows ≤ length after = shorter row_rank row_order after e.rows e.rises a.rises (λ z i. a.all z (e.only z i)) in
    let m : n < length e.rows = e.more in
    omega arith

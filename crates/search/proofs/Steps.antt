-- A list that several sets of rows are added to, one after the other.
use Rattle.std.proofs.Common.{◌≡◌, sym, subst, ℕ, ◌≤◌, Result, Err, inl, inr, ⊎_elim}
use Rattle.ordered.specs.Held.{held, room}
use Rattle.row.specs.Rows.{OrderedRows}
use Rattle.row.specs.declared.row.Row.{Row}
use Rattle.motions.specs.Collecting.{Gained, Exceeds, Added, Stays, AlikeRows, EitherRow}
use Rattle.motions.proofs.Adds.{added-alike, added-then, added-overflow}

-- as few places as before
pub still-few : (o m : OrderedRows) (n : ℕ) → Stays o m → room o ≤ n → room m ≤ n
still-few o m n s few = subst (λ (k : ℕ). k ≤ n) (sym s.room) few

-- a set of rows was added, and a set of rows overflowed the list
abbrev pub Fits : (Row → Type 0) → OrderedRows → OrderedRows → Type 0
Fits X o m = Gained X (held o) (held m)

abbrev pub Overflows : (Row → Type 0) → OrderedRows → Type 0
Overflows X o = Exceeds X (room o) (held o)

module _ {E : Type 0} (Z : Row → Type 0) where
  -- an overflow of some of the rows is one of all
  pub over : (X : Row → Type 0) (o o' : OrderedRows) (e : E) (r : Result (Unit {0}) E) → r ≡ Err e → Overflows X o → ((y : Row) → X y → Z y) → Added Z o o' r
  over X o o' e r is a h = subst (λ (q : Result (Unit {0}) E). Added Z o o' q) (sym is) (added-overflow X Z o a h)

  -- the first of several sets overflows the list
  pub over-1 : (X1 R : Row → Type 0) → AlikeRows (EitherRow X1 R) Z → (o o' : OrderedRows) (e : E) (r : Result (Unit {0}) E) → r ≡ Err e → Overflows X1 o → Added Z o o' r
  over-1 X1 R z o o' e r is a = over X1 o o' e r is a (λ y x. z.to y (inl x))

  -- the second does
  pub over-2 : (X1 X2 R : Row → Type 0) → AlikeRows (EitherRow X1 (EitherRow X2 R)) Z → (o o1 o' : OrderedRows) (e : E) (r : Result (Unit {0}) E) → r ≡ Err e
      → Stays o o1 → Fits X1 o o1 → Overflows X2 o1 → Added Z o o' r
  over-2 X1 X2 R z o o1 o' e r is s a b = over (EitherRow X1 X2) o o' e r is (added-then {E = E} X1 X2 o o1 o' (Err e) s a b) (λ y x. z.to y (⊎_elim (λ p. inl p) (λ q. inr (inl q)) x))

  -- the third does
  pub over-3 : (X1 X2 X3 R : Row → Type 0) → AlikeRows (EitherRow X1 (EitherRow X2 (EitherRow X3 R))) Z → (o o1 o2 o' : OrderedRows) (e : E) (r : Result (Unit {0}) E) → r ≡ Err e
      → Stays o o1 → Stays o1 o2 → Fits X1 o o1 → Fits X2 o1 o2 → Overflows X3 o2 → Added Z o o' r
  over-3 X1 X2 X3 R z o o1 o2 o' e r is s s' a b c =
      over (EitherRow X1 (EitherRow X2 X3)) o o' e r is (added-then {E = E} X1 (EitherRow X2 X3) o o1 o' (Err e) s a (added-then {E = E} X2 X3 o1 o2 o' (Err e) s' b c))
      (λ y x. z.to y (⊎_elim (λ p. inl p) (λ q. inr (⊎_elim (λ p. inl p) (λ t. inr (inl t)) q)) x))

  -- two, three, and four, of which the last is told by r
  pub done-2 : (X1 X2 : Row → Type 0) → AlikeRows (EitherRow X1 X2) Z → (o o1 o2 : OrderedRows) (r : Result (Unit {0}) E) → Stays o o1 → Fits X1 o o1 → Added X2 o1 o2 r → Added Z o o2 r
  done-2 X1 X2 z o o1 o2 r s a b = added-alike (EitherRow X1 X2) Z o o2 r z (added-then X1 X2 o o1 o2 r s a b)

  pub done-3 : (X1 X2 X3 : Row → Type 0) → AlikeRows (EitherRow X1 (EitherRow X2 X3)) Z → (o o1 o2 o3 : OrderedRows) (r : Result (Unit {0}) E) → Stays o o1 → Stays o1 o2
      → Fits X1 o o1 → Fits X2 o1 o2 → Added X3 o2 o3 r → Added Z o o3 r
  done-3 X1 X2 X3 z o o1 o2 o3 r s s' a b c =
      added-alike (EitherRow X1 (EitherRow X2 X3)) Z o o3 r z (added-then X1 (EitherRow X2 X3) o o1 o3 r s a (added-then X2 X3 o1 o2 o3 r s' b c))

  pub done-4 : (X1 X2 X3 X4 : Row → Type 0) → AlikeRows (EitherRow X1 (EitherRow X2 (EitherRow X3 X4))) Z → (o o1 o2 o3 o4 : OrderedRows) (r : Result (Unit {0}) E) → Stays o o1 → Stays o1 o2 → Stays o2 o3
      → Fits X1 o o1 → Fits X2 o1 o2 → Fits X3 o2 o3 → Added X4 o3 o4 r → Added Z o o4 r
  done-4 X1 X2 X3 X4 z o o1 o2 o3 o4 r s s' s'' a b c d =
      added-alike (EitherRow X1 (EitherRow X2 (EitherRow X3 X4))) Z o o4 r z
      (added-then X1 (EitherRow X2 (EitherRow X3 X4)) o o1 o4 r s a (added-then X2 (EitherRow X3 X4) o1 o2 o4 r s' b (added-then X3 X4 o2 o3 o4 r s'' c d)))

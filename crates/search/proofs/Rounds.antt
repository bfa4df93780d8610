-- Rounds of a loop over rows, and what a search returns early with.
use Rattle.std.proofs.Common.{true≢false, ◌≡◌, sym, subst, ℕ, ◌+◌, ◌<◌, ◌≤◌, zero, suc, List, [], ◌∷◌, length, take, slice_index_or, Some, Ok, Err, Result, refl}
use Rattle.std.specs.List.{slice_get}
use Rattle.std.specs.Result.{IsErr}
use Rattle.std.proofs.lemmas.Option.{none-some, slice_get_read}
use mathlib.Core.List.{Memᴰ}
use Rattle.ordered.specs.Held.{held, room}
use Rattle.row.specs.Rows.{OrderedRows}
use Rattle.row.specs.declared.row.Row.{Row}
use Rattle.motions.specs.Collecting.{Gained, Exceeds, Stays, Added, FromEach}
use Rattle.motions.proofs.Adds.{adds-overflow, gained-alike, added-each, each-some, each-all}

-- what is returned early is an error
pub early : {E : Type 0} (X : Row → Type 0) (o o' : OrderedRows) (r : Result (Unit {0}) E) → IsErr r → Exceeds X (room o) (held o) → Added X o o' r
early X o o' (Ok u) is x = absurd (true≢false (sym is))
early X o o' (Err e) is x = x

-- a row that a loop reads
pub row-there : (l : List Row) (i : ℕ) (x : Row) → i < length l → x ≡ slice_index_or l i x → slice_get l i ≡ Some x
row-there l i x h e = slice_get_read l (length l) i x refl h e

pub row-in : (l items : List Row) → items ≡ l → (i : ℕ) (x : Row) → i < length items → x ≡ slice_index_or items i x → Memᴰ x l
row-in l items is i x h e = subst (λ (k : List Row). Memᴰ x k) is (member items i x (row-there items i x h e))
  where
    member : (k : List Row) (i : ℕ) (x : Row) → slice_get k i ≡ Some x → Memᴰ x k
    member [] i x e = absurd (none-some x e)
    member (y ∷ k) zero x e = let q : x ≡ y = cc in Memᴰ.head q
    member (y ∷ k) (suc i) x e = Memᴰ.tail (member k i x e)

module _ (l items : List Row) (Y : Row → Row → Type 0) (is : items ≡ l) (i : ℕ) where
  -- after the last round, from each row
  pub after-rounds : (o m : OrderedRows) → length items ≤ i → Gained (FromEach (take i items) Y) (held o) (held m) → Gained (FromEach l Y) (held o) (held m)
  after-rounds o m h a =
      subst (λ (k : List Row). Gained (FromEach k Y) (held o) (held m)) is
      (gained-alike (FromEach (take i items) Y) (FromEach items Y) (held o) (held m) (each-all items Y i h) a)

  module _ (x : Row) (h : i < length items) (e : x ≡ slice_index_or items i x) (o m : OrderedRows) (s : Stays o m) (a : Gained (FromEach (take i items) Y) (held o) (held m)) where
    -- one more round
    pub next-round : (o' : OrderedRows) → Gained (Y x) (held m) (held o') → Gained (FromEach (take (i + 1) items) Y) (held o) (held o')
    next-round o' b = added-each {E = ℕ} items Y i x o m o' (Ok tt) (row-there items i x h e) s a b

    -- a round that overflows
    pub last-round : Exceeds (Y x) (room m) (held m) → Exceeds (FromEach l Y) (room o) (held o)
    last-round b =
        subst (λ (k : List Row). Exceeds (FromEach k Y) (room o) (held o)) is
        (adds-overflow (FromEach (take (i + 1) items) Y) (FromEach items Y) (room o) (held o)
        (added-each {E = ℕ} items Y i x o m o (Err 0) (row-there items i x h e) s a b)
        (λ y w. each-some items Y (i + 1) y w))

-- The first cell that differs decides how two rows stand.
use Rattle.std.specs.Prelude.{◌≡◌, ℕ, zero, suc, ◌<◌, List, [], ◌∷◌, length, ◌≢◌, slice_index, refl}
use Rattle.std.specs.declared.cmp.Ordering.TheVariants.{Less, Equal, Greater}
use Rattle.std.specs.declared.cmp.Ordering.{Ordering}
use Rattle.std.proofs.Common.{sym, ap, ◌∙◌, arith}
use Rattle.std.proofs.lemmas.List.{same_lists, get_or_default}
use Rattle.std.specs.Ordering.{ordering_then, nat_cmp}
use Rattle.std.proofs.lemmas.Map.Lookups.{exact_unsigned}
use Rattle.std.specs.Cmp.{nat_cmp_total, tied_itself}
use Rattle.std.specs.Cmp.Lexicographic.{nat_list_cmp_total}
use Rattle.row.specs.Rows.{cells_rank, row_rank, AlikeBelow}
use Rattle.row.specs.declared.row.Row.{Row}

-- the first cell that differs decides
cells-differ : (xs ys : List ℕ) (i : ℕ) → i < length xs → i < length ys → ((k : ℕ) → k < i → slice_index xs k ≡ slice_index ys k) → (slice_index xs i ≢ slice_index ys i) → cells_rank xs ys ≡ nat_cmp (slice_index xs i) (slice_index ys i)
cells-differ [] ys i h k same apart = absurd (omega arith)
cells-differ (x ∷ xs) [] i h k same apart = absurd (omega arith)
cells-differ (x ∷ xs) (y ∷ ys) zero h k same apart = ahead (nat_cmp x y) (cells_rank xs ys) (λ e. apart (exact_unsigned x y e))
  where
    ahead : (r o : Ordering) → (r ≢ Equal) → ordering_then r o ≡ r
    ahead Less o apart = refl
    ahead Equal o apart = absurd (apart refl)
    ahead Greater o apart = refl
cells-differ (x ∷ xs) (y ∷ ys) (suc i) h k same apart =
    let e : x ≡ y = same 0 (omega arith) in
    let r : nat_cmp x y ≡ Equal = ap (λ (n : ℕ). nat_cmp n y) e ∙ tied_itself nat_cmp_total y in
    ap (λ (o : Ordering). ordering_then o (cells_rank xs ys)) r ∙ (cells-differ xs ys i (omega arith) (omega arith) (λ j l. same (suc j) (omega arith)) apart)

-- rows with the same 48 cells are equal in the order
pub rows-alike : (a b : Row) → AlikeBelow 48 a b → row_rank a b ≡ Equal
rows-alike a b same =
    let e : a.cells ≡ b.cells = same_lists a.cells b.cells (a.full ∙ sym b.full) (λ k d l. get_or_default a.cells k d 0 l ∙ same k (omega (arith, a.full)) ∙ get_or_default b.cells k 0 d (omega (arith, a.full, b.full))) in
    rw e (tied_itself nat_list_cmp_total b.cells)

-- else the first cell that differs decides
pub rows-differ : (a b : Row) (i : ℕ) → i < 48 → AlikeBelow i a b → (slice_index a.cells i ≢ slice_index b.cells i) → row_rank a b ≡ nat_cmp (slice_index a.cells i) (slice_index b.cells i)
rows-differ a b i lt same apart = cells-differ a.cells b.cells i (omega (arith, a.full)) (omega (arith, b.full)) same apart

-- Parts of cells, and what stands around them.
use Rattle.std.proofs.Common.{◌≡◌, refl, sym, ◌∙◌, ap, ℕ, zero, suc, ◌+◌, ◌≤◌, [], ◌∷◌, ◌++◌, length, take, drop, slice_index, Ordering, append_assoc, length-append, length-take, length-take-le, length-drop, take-add, take-append-drop, drop-drop, arith}
use Rattle.std.proofs.Math.Seq.{drop-nil}
use Rattle.std.proofs.lemmas.List.{take_at, drop_at}
use Rattle.std.specs.Ordering.{ordering_then, nat_cmp}
use Rattle.std.specs.Cmp.{nat_cmp_total, tied_itself}
use Rattle.std.specs.Cmp.Lexicographic.{nat_list_cmp_total}
use Rattle.row.specs.Rows.{cells_rank}
use Rattle.row.specs.declared.row.Row.{Row}
use Rattle.rules.specs.Cells.{Cells, cell, rest, fit, tagged}
use Rattle.rules.proofs.Widths.{length-fit}
use Rattle.rules.proofs.Instances.{fit-append, fit-drop}
use Rattle.motions.specs.Framing.{part_at, framed}

cell-drop : (r : Cells) (at : ℕ) → cell (drop at r) ≡ slice_index r at
cell-drop [] zero = refl
cell-drop [] (suc at) = refl
cell-drop (x ∷ r) zero = refl
cell-drop (x ∷ r) (suc at) = cell-drop r at

rest-drop : (r : Cells) (at : ℕ) → rest (drop at r) ≡ drop (suc at) r
rest-drop [] zero = refl
rest-drop [] (suc at) = refl
rest-drop (x ∷ r) zero = refl
rest-drop (x ∷ r) (suc at) = rest-drop r at

fit-fit : (n m : ℕ) (r : Cells) → n ≤ m → fit n (fit m r) ≡ fit n r
fit-fit zero m r h = refl
fit-fit (suc n) zero r h = absurd (omega arith)
fit-fit (suc n) (suc m) r h = ap {B = Cells} (λ w. cell r ∷ w) (fit-fit n m (rest r) (omega arith))

-- the first cell of a part
pub cell-at : (r : Cells) (at m : ℕ) → cell (part_at (suc m) r at) ≡ slice_index r at
cell-at r at m = cell-drop r at

-- what stands behind the first cell of a part
pub part-behind : (r : Cells) (at m n : ℕ) → n ≤ m → fit n (rest (part_at (suc m) r at)) ≡ part_at n r (at + 1)
part-behind r at m n h =
    let e : suc at ≡ at + 1 = omega arith in
    fit-fit n m (rest (drop at r)) h ∙ ap (fit n) (rest-drop r at) ∙ ap (λ k. fit n (drop k r)) e

-- the first cells of a part
pub part-left : (r : Cells) (at m n : ℕ) → fit m (part_at (m + n) r at) ≡ part_at m r at
part-left r at m n = fit-fit m (m + n) (drop at r) (omega arith)

drop-fit : (m n : ℕ) (r : Cells) → drop m (fit (m + n) r) ≡ fit n (drop m r)
drop-fit zero n r = ap (λ k. fit k r) (omega arith)
drop-fit (suc m) n r =
    let e : suc m + n ≡ suc (m + n) = omega arith in
    ap (λ k. drop (suc m) (fit k r)) e ∙ drop-fit m n (rest r) ∙ ap (fit n) (drop-rest r)
  where
    drop-rest : (r : Cells) → drop m (rest r) ≡ drop (suc m) r
    drop-rest [] = drop-nil m
    drop-rest (x ∷ r) = refl

-- the last cells of a part
pub part-right : (r : Cells) (at m n : ℕ) → drop m (part_at (m + n) r at) ≡ part_at n r (at + m)
part-right r at m n = drop-fit m n (drop at r) ∙ ap (fit n) (drop-drop m at r)

pub fit-part-right : (r : Cells) (at m n : ℕ) → fit n (drop m (part_at (m + n) r at)) ≡ part_at n r (at + m)
fit-part-right r at m n = ap (fit n) (part-right r at m n) ∙ fit-fit n n (drop (at + m) r) (omega arith)

-- a part has as many cells as it is asked for
pub length-part : (r : Cells) (at n : ℕ) → length (part_at n r at) ≡ n
length-part r at n = length-fit n (drop at r)

-- cells stay as many where as many are replaced
pub length-framed : (r : Cells) (at n : ℕ) (s : Cells) → at + n ≤ length r → length s ≡ n → length (framed r at n s) ≡ length r
length-framed r at n s h l = simp (length-append, length-take, length-drop) (omega arith)

part-drop : (r : Cells) (at n : ℕ) → at + n ≤ length r → part_at n r at ++ drop (at + n) r ≡ drop at r
part-drop r at n h =
    let l = length-drop at r in
    ap (λ w. fit n (drop at r) ++ w) (sym (drop-drop n at r)) ∙ fit-drop n (drop at r) (omega arith)

-- what was put in stands there
pub part-framed : (r : Cells) (at n : ℕ) (s : Cells) → at + n ≤ length r → length s ≡ n → part_at n (framed r at n s) at ≡ s
part-framed r at n s h l = ap (fit n) (drop_at (take at r) (s ++ drop (at + n) r) at (length-take-le at r (omega arith))) ∙ fit-append n s (drop (at + n) r) l

-- only the first cells of a part are replaced
pub frame-left : (r : Cells) (at m n : ℕ) (s : Cells) → at + (m + n) ≤ length r → framed r at (m + n) (s ++ part_at n r (at + m)) ≡ framed r at m s
frame-left r at m n s h =
    let e : at + (m + n) ≡ (at + m) + n = omega arith in
    ap (λ w. take at r ++ w) (
    append_assoc s (part_at n r (at + m)) (drop (at + (m + n)) r)
    ∙ ap (λ k. s ++ (part_at n r (at + m) ++ drop k r)) e
    ∙ ap (λ w. s ++ w) (part-drop r (at + m) n (omega arith)))

fit-take : (m : ℕ) (r : Cells) → m ≤ length r → fit m r ≡ take m r
fit-take zero r h = refl
fit-take (suc m) [] h = absurd (omega arith)
fit-take (suc m) (x ∷ r) h = ap {B = Cells} (λ w. x ∷ w) (fit-take m r (omega arith))

-- only the last cells of a part are replaced
pub frame-right : (r : Cells) (at m n : ℕ) (t : Cells) → at + (m + n) ≤ length r → framed r at (m + n) (part_at m r at ++ t) ≡ framed r (at + m) n t
frame-right r at m n t h =
    let e : at + (m + n) ≡ (at + m) + n = omega arith in
    let l = length-drop at r in
    let f : take at r ++ part_at m r at ≡ take (at + m) r = ap (λ w. take at r ++ w) (fit-take m (drop at r) (omega arith)) ∙ sym (take-add at m r) in
    ap (λ k. take at r ++ ((part_at m r at ++ t) ++ drop k r)) e
    ∙ ap (λ w. take at r ++ w) (append_assoc (part_at m r at) t (drop ((at + m) + n) r))
    ∙ sym (append_assoc (take at r) (part_at m r at) (t ++ drop ((at + m) + n) r))
    ∙ ap (λ w. w ++ (t ++ drop ((at + m) + n) r)) f

-- what stands before and behind a replaced part
frame-before : (r : Cells) (at m : ℕ) (s : Cells) → at ≤ length r → length s ≡ m → take (at + m) (framed r at m s) ≡ take at r ++ s
frame-before r at m s h l =
    let k = length-take-le at r h in
    ap (take (at + m)) (sym (append_assoc (take at r) s (drop (at + m) r)))
    ∙ take_at (take at r ++ s) (drop (at + m) r) (at + m) (simp length-append (omega arith))

frame-behind : (r : Cells) (at m : ℕ) (s : Cells) → at ≤ length r → length s ≡ m → drop (at + m) (framed r at m s) ≡ drop (at + m) r
frame-behind r at m s h l =
    let k = length-take-le at r h in
    ap (drop (at + m)) (sym (append_assoc (take at r) s (drop (at + m) r)))
    ∙ drop_at (take at r ++ s) (drop (at + m) r) (at + m) (simp length-append (omega arith))

-- first the first cells of a part are replaced, and then its last ones
pub frame-both : (r : Cells) (at m n : ℕ) (s t : Cells) → at + (m + n) ≤ length r → length s ≡ m → framed (framed r at m s) (at + m) n t ≡ framed r at (m + n) (s ++ t)
frame-both r at m n s t h l =
    let e : (at + m) + n ≡ at + (m + n) = omega arith in
    let b : drop ((at + m) + n) (framed r at m s) ≡ drop (at + (m + n)) r =
    sym (drop-drop n (at + m) (framed r at m s)) ∙ ap (drop n) (frame-behind r at m s (omega arith) l) ∙ drop-drop n (at + m) r ∙ ap (λ k. drop k r) e in
    ap (λ w. w ++ (t ++ drop ((at + m) + n) (framed r at m s))) (frame-before r at m s (omega arith) l)
    ∙ ap (λ w. (take at r ++ s) ++ (t ++ w)) b
    ∙ append_assoc (take at r) s (t ++ drop (at + (m + n)) r)
    ∙ ap (λ w. take at r ++ w) (sym (append_assoc s t (drop (at + (m + n)) r)))

-- the part beside a replaced one
pub part-beside : (r : Cells) (at m n : ℕ) (s : Cells) → at + (m + n) ≤ length r → length s ≡ m → part_at n (framed r at m s) (at + m) ≡ part_at n r (at + m)
part-beside r at m n s h l = ap (fit n) (frame-behind r at m s (omega arith) l)

-- no cells are replaced
pub frame-none : (r : Cells) (at : ℕ) → framed r at 0 [] ≡ r
frame-none r at =
    let e : at + 0 ≡ at = omega arith in
    ap (λ k. take at r ++ drop k r) e ∙ take-append-drop at r

fit-short : (n m : ℕ) (p q : Cells) → length p ≡ n → n ≤ m → fit n (fit m p ++ q) ≡ p
fit-short zero m [] q l h = refl
fit-short zero m (x ∷ p) q l h = absurd (omega arith)
fit-short (suc n) m [] q l h = absurd (omega arith)
fit-short (suc n) zero (x ∷ p) q l h = absurd (omega arith)
fit-short (suc n) (suc m) (x ∷ p) q l h = ap {B = Cells} (λ w. x ∷ w) (fit-short n m p q (omega arith) (omega arith))

drop-short : (n m : ℕ) (p s q : Cells) → length p ≡ n → length s ≡ n → n ≤ m → s ++ drop n (fit m p ++ q) ≡ fit m s ++ q
drop-short zero m [] [] q l k h = refl
drop-short zero m (x ∷ p) s q l k h = absurd (omega arith)
drop-short zero m [] (x ∷ s) q l k h = absurd (omega arith)
drop-short (suc n) m [] s q l k h = absurd (omega arith)
drop-short (suc n) m (x ∷ p) [] q l k h = absurd (omega arith)
drop-short (suc n) zero (x ∷ p) (y ∷ s) q l k h = absurd (omega arith)
drop-short (suc n) (suc m) (x ∷ p) (y ∷ s) q l k h = ap {B = Cells} (λ w. y ∷ w) (drop-short n m p s q (omega arith) (omega arith) (omega arith))

-- what stands behind a tag
pub tag-part : (r : Cells) (at m n x : ℕ) (p : Cells) → at ≤ length r → length p ≡ n → n ≤ m → part_at n (framed r at (suc m) (tagged m x p)) (at + 1) ≡ p
tag-part r at m n x p h l k =
    let q = drop (at + suc m) r in
    let e : drop at (framed r at (suc m) (tagged m x p)) ≡ tagged m x p ++ q = drop_at (take at r) (tagged m x p ++ q) at (length-take-le at r h) in
    ap (fit n) (sym (drop-drop 1 at (framed r at (suc m) (tagged m x p))) ∙ ap (drop 1) e) ∙ fit-short n m p q l k

-- what stands behind a tag is replaced
pub tag-frame : (r : Cells) (at m n x : ℕ) (p s : Cells) → at ≤ length r → length p ≡ n → n ≤ m → length s ≡ n → framed (framed r at (suc m) (tagged m x p)) (at + 1) n s ≡ framed r at (suc m) (tagged m x s)
tag-frame r at m n x p s h l k f =
    let q = drop (at + suc m) r in
    let F = framed r at (suc m) (tagged m x p) in
    let t = length-take-le at r h in
    let e : F ≡ (take at r ++ x ∷ []) ++ (fit m p ++ q) = sym (append_assoc (take at r) (x ∷ []) (fit m p ++ q)) in
    let d : length (take at r ++ x ∷ []) ≡ at + 1 = simp length-append (omega arith) in
    let a : take (at + 1) F ≡ take at r ++ x ∷ [] = ap (take (at + 1)) e ∙ take_at (take at r ++ x ∷ []) (fit m p ++ q) (at + 1) d in
    let b : drop ((at + 1) + n) F ≡ drop n (fit m p ++ q) =
    sym (drop-drop n (at + 1) F) ∙ ap (drop n) (ap (drop (at + 1)) e ∙ drop_at (take at r ++ x ∷ []) (fit m p ++ q) (at + 1) d) in
    ap (λ w. w ++ (s ++ drop ((at + 1) + n) F)) a
    ∙ ap (λ w. (take at r ++ x ∷ []) ++ (s ++ w)) b
    ∙ ap (λ w. (take at r ++ x ∷ []) ++ w) (drop-short n m p s q l f k)
    ∙ append_assoc (take at r) (x ∷ []) (fit m s ++ q)

rank-front : (p s t : Cells) → cells_rank (p ++ s) (p ++ t) ≡ cells_rank s t
rank-front [] s t = refl
rank-front (x ∷ p) s t = ap (λ (o : Ordering). ordering_then o (cells_rank (p ++ s) (p ++ t))) (tied_itself nat_cmp_total x) ∙ rank-front p s t

-- cells that end alike are in the order of what stands before
pub rank-back : (s t q : Cells) → length s ≡ length t → cells_rank (s ++ q) (t ++ q) ≡ cells_rank s t
rank-back [] [] q l = tied_itself nat_list_cmp_total q
rank-back [] (y ∷ t) q l = absurd (omega arith)
rank-back (x ∷ s) [] q l = absurd (omega arith)
rank-back (x ∷ s) (y ∷ t) q l = ap (ordering_then (nat_cmp x y)) (rank-back s t q (omega arith))

-- cells that differ in one part are in the order of the parts
pub rank-framed : (r : Cells) (at n : ℕ) (s t : Cells) → length s ≡ n → length t ≡ n → cells_rank (framed r at n s) (framed r at n t) ≡ cells_rank s t
rank-framed r at n s t l k = rank-front (take at r) (s ++ drop (at + n) r) (t ++ drop (at + n) r) ∙ rank-back s t (drop (at + n) r) (l ∙ sym k)

-- 48 cells are a row
pub row-of : (cs : Cells) → length cs ≡ 48 → (y : Row) × (y.cells ≡ cs)
row-of cs l = (record { cells = cs; full = l }, refl)

-- Rows whose part begins anew.
use Rattle.std.proofs.Common.{◌≡◌, refl, sym, ◌∙◌, ap, ℕ, zero, suc, ◌+◌, ◌-◌, ◌<◌, ◌≤◌, List, [], ◌∷◌, ◌++◌, length, take, drop, set, replicate, Option, Some, None, arith}
use Rattle.std.proofs.lemmas.List.{get_or_past, take_all, set_split, length-take-le, length-drop, length-set, drop-drop}
use borrow.Rule.Slice.PartMut.{put_mid}
use mathlib.Core.Logic.{⊎_elim}
use Rattle.std.proofs.lemmas.Bool.{cases_lt}
use Rattle.notation.specs.Parts.{blank_state}
use Rattle.notation.specs.declared.node.State.{State}
use Rattle.notation.specs.declared.node.States.{States}
use Rattle.rules.specs.Trees.{Tree}
use Rattle.rules.specs.Cells.{Cells, fit, tagged, most, times, copies, width, initial}
use Rattle.rules.specs.Growing.{state_of, child_tree}
use Rattle.rules.proofs.Widths.{length-fit, initial-width}
use Rattle.motions.specs.Framing.{part_at, framed}
use Rattle.motions.proofs.Frames.{length-part, frame-left, frame-both, tag-frame}

-- one more than a child's number
abbrev pub above_child : Option ℕ → ℕ
above_child None = 0
above_child (Some k) = k + 1

-- no more than the number of a node that the child is below
pub child-below : (o : Option ℕ) (i : ℕ) → ((k : ℕ) → o ≡ Some k → k < i) → above_child o ≤ i
child-below None i h = omega arith
child-below (Some k) i h = let l = h k refl in omega arith

fit-none : (n : ℕ) → fit n [] ≡ replicate n 0
fit-none zero = refl
fit-none (suc n) = ap {B = Cells} (λ w. 0 ∷ w) (fit-none n)

-- more room than cells is filled up with 0
fit-filled : (n k m : ℕ) (p : Cells) → length p ≡ k → n ≡ k + m → fit n p ≡ p ++ replicate m 0
fit-filled n k m [] l e = let d : m ≡ n = omega arith in rw d (fit-none n)
fit-filled zero k m (x ∷ p) l e = absurd (omega arith)
fit-filled (suc n) zero m (x ∷ p) l e = absurd (omega arith)
fit-filled (suc n) (suc k) m (x ∷ p) l e = ap {B = Cells} (λ w. x ∷ w) (fit-filled n k m p (omega arith) (omega arith))

frame-set : (r : Cells) (at x : ℕ) → at < length r → set r at x ≡ framed r at 1 (x ∷ [])
frame-set r at x h =
    let e : suc at ≡ at + 1 = omega arith in
    set_split r at x h ∙ ap (λ k. take at r ++ (x ∷ drop k r)) e

-- the tag alone is put before the cells that are kept
frame-kept : (r : Cells) (at x keep : ℕ) → at + (1 + keep) ≤ length r → set r at x ≡ framed r at (1 + keep) (x ∷ part_at keep r (at + 1))
frame-kept r at x keep h = frame-set r at x (omega arith) ∙ sym (frame-left r at 1 keep (x ∷ []) h)

-- and 0 behind these
frame-filled : (r : Cells) (at x keep m : ℕ) → at + ((1 + keep) + m) ≤ length r →
    framed (set r at x) (at + (1 + keep)) m (replicate m 0) ≡ framed r at ((1 + keep) + m) (x ∷ (part_at keep r (at + 1) ++ replicate m 0))
frame-filled r at x keep m h =
    let p = part_at keep r (at + 1) in
    let l = length-part r (at + 1) keep in
    ap (λ z. framed z (at + (1 + keep)) m (replicate m 0)) (frame-kept r at x keep (omega arith))
    ∙ frame-both r at (1 + keep) m (x ∷ p) (replicate m 0) h (omega arith)

tag-filled : (r ys : Cells) (at x keep size a m : ℕ) → a ≡ at + (1 + keep) → (1 + keep) + m ≡ size → at + size ≤ length r → ys ≡ replicate m 0 →
    put_mid a m (set r at x) ys ≡ framed r at size (tagged (size - 1) x (part_at keep r (at + 1)))
tag-filled r ys at x keep size a m f w h e =
    let p = part_at keep r (at + 1) in
    let t : p ++ replicate m 0 ≡ fit (size - 1) p = sym (fit-filled (size - 1) keep m p (length-part r (at + 1) keep) (omega arith)) in
    ap (λ z. take a (set r at x) ++ (ys ++ z)) (drop-drop m a (set r at x))
    ∙ (λ i. framed (set r at x) (f i) m (e i))
    ∙ frame-filled r at x keep m (omega arith)
    ∙ (λ i. framed r at (w i) (x ∷ t i))

-- a tag, the cells that are kept, and 0 in the others
pub frame-tagged : (r ys : Cells) (at x keep size : ℕ) → keep < size → at + size ≤ length r →
    ys ≡ replicate (length (take (at + size - (at + 1 + keep)) (drop (at + 1 + keep) (set r at x)))) 0 →
    put_mid (at + 1 + keep) (at + size - (at + 1 + keep)) (set r at x) ys ≡ framed r at size (tagged (size - 1) x (part_at keep r (at + 1)))
frame-tagged r ys at x keep size h k e =
    let m = at + size - (at + 1 + keep) in
    let l : length (take m (drop (at + 1 + keep) (set r at x))) ≡ m = length-take-le m (drop (at + 1 + keep) (set r at x)) (simp (length-drop, length-set) (omega arith)) in
    tag-filled r ys at x keep size (at + 1 + keep) m (omega arith) (omega arith) k (e ∙ ap (λ j. replicate j 0) l)

fit-zeros : (m n : ℕ) → fit m (fit n []) ≡ fit m []
fit-zeros zero n = refl
fit-zeros (suc m) zero = refl
fit-zeros (suc m) (suc n) = ap {B = Cells} (λ w. 0 ∷ w) (fit-zeros m n)

-- behind a tag and 0 in every cell begins a part
pub frame-entered : (t : Tree) (r y z : Cells) (at size x : ℕ) → width t < size → at + size ≤ length r →
    y ≡ framed r at size (tagged (size - 1) x []) → z ≡ framed y (at + 1) (width t) (initial t) →
    z ≡ framed r at size (tagged (size - 1) x (initial t))
frame-entered t r y z at size x h k e f =
    let m = size - 1 in
    let n : size ≡ suc m = omega arith in
    let room : Cells = fit (width t) [] in
    f
    ∙ ap (λ c. framed c (at + 1) (width t) (initial t))
    (e ∙ (λ j. framed r at (n j) (x ∷ sym (fit-zeros m (width t)) j)))
    ∙ tag-frame r at m (width t) x room (initial t) (omega arith) (length-fit (width t) []) (omega arith) (initial-width t)
    ∙ ap (λ j. framed r at j (tagged m x (initial t))) (sym n)

-- two parts begin, one behind the other
pub frame-begun : (a : Tree) (r y z u : Cells) (at w n : ℕ) → w ≡ width a → at + (width a + n) ≤ length r →
    y ≡ framed r at (width a) (initial a) → z ≡ framed y (at + w) n u → z ≡ framed r at (width a + n) (initial a ++ u)
frame-begun a r y z u at w n e h f g =
    g ∙ (λ j. framed (f j) (at + e j) n u) ∙ frame-both r at (width a) n (initial a) u h (initial-width a)

-- so does one for each value
pub frame-copies : (a : Tree) (xs : List ℕ) (r y z : Cells) (at w : ℕ) → 1 ≤ length xs → w ≡ width a → at + times xs (width a) ≤ length r →
    y ≡ framed r at (width a) (initial a) →
    z ≡ framed y (at + w) (times (take (length xs - 1) (drop 1 xs)) (width a)) (copies (take (length xs - 1) (drop 1 xs)) (initial a)) →
    z ≡ framed r at (times xs (width a)) (copies xs (initial a))
frame-copies a [] r y z at w l e h f g = absurd (omega arith)
frame-copies a (x ∷ xs) r y z at w l e h f g =
    let others : take (suc (length xs) - 1) xs ≡ xs = take_all (suc (length xs) - 1) xs (omega arith) in
    frame-begun a r y z (copies xs (initial a)) at w (times xs (width a)) e h f
    (g ∙ ap (λ (q : List ℕ). framed y (at + w) (times q (width a)) (copies q (initial a))) others)

most-above : (n q : ℕ) (f : ℕ → ℕ) → q < n → f q ≤ most n f
most-above zero q f h = absurd (omega arith)
most-above (suc n) q f h =
    ⊎_elim
    (λ lt. let k = most-above n q f lt in omega arith)
    (λ (ge : n ≤ q). let e : q ≡ n = omega arith in rw e (omega arith))
    (cases_lt q n)

-- the room of an automaton has place for the child of each state
pub state-room : (t : ℕ → Tree) (s : States) (q : ℕ) → width (child_tree t (state_of s q).child) ≤ most (length s.table.items) (λ k. width (child_tree t (state_of s k).child))
state-room t s q =
    let room = λ (k : ℕ). width (child_tree t (state_of s k).child) in
    ⊎_elim
    (λ lt. most-above (length s.table.items) q room lt)
    (λ ge.
    let past : state_of s q ≡ blank_state = get_or_past s.table.items q blank_state ge in
    rw (ap (λ (z : State). width (child_tree t z.child)) past) (omega arith))
    (cases_lt q (length s.table.items))

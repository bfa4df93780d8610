-- When the cells that stand in a row are finished.
use Rattle.std.proofs.Common.{◌≡◌, ◌≢◌, refl, sym, ◌∙◌, ap, ℕ, zero, suc, ◌+◌, ◌*◌, ◌<◌, ◌≤◌, max, Bool, true, false, ◌&&◌, ◌||◌, ◌==◌, List, [], ◌∷◌, length, drop, replicate, slice_index, drop-cons, arith}
use Rattle.std.proofs.lemmas.Bool.{eqb-true}
use Rattle.notation.specs.declared.node.Mark.{Mark}
use Rattle.notation.specs.declared.node.Mark.TheVariants.{Deep}
use Rattle.notation.specs.declared.node.State.{State}
use Rattle.notation.specs.declared.node.States.{States}
use Rattle.rules.specs.Trees.{NumberedArrow, Tree, automaton, sequence, closure, guarded, choice, synchronisation, quantified_choice}
use Rattle.rules.specs.Cells.{Cells, cell, rest, fit, most, times, width, part, initial, by_mark, by_tag, by_side, all_instances, finished}
use Rattle.rules.specs.Growing.{state_of, child_tree}
use Rattle.motions.specs.Framing.{part_at}
use Rattle.motions.proofs.Frames.{cell-at, part-behind, part-left, part-right, fit-part-right}
use Rattle.diagram.proofs.Begins.{state-room}

pub and-on : (p q : Bool) → p ≡ true → q ≡ (p && q)
and-on p q e = sym (ap (λ (x : Bool). x && q) e)

pub and-off : (p q : Bool) → p ≡ false → p ≡ (p && q)
and-off p q e = e ∙ sym (ap (λ (x : Bool). x && q) e)

by-other : (n : ℕ) (x y : Bool) → n ≢ 0 → by_tag n x y ≡ y
by-other zero x y ne = absurd (ne refl)
by-other (suc n) x y ne = refl

by-right : (n : ℕ) (x y z : Bool) → n ≢ 0 → n ≢ 1 → by_side n x y z ≡ z
by-right zero x y z ne nor = absurd (ne refl)
by-right (suc n) x y z ne nor = by-other n y z (λ e. nor (ap suc e))

module _ (r : Cells) (at : ℕ) where
  -- whether the cells of a part at `at` are finished
  abbrev pub finished_at : Tree → Bool
  finished_at t = finished t (part_at (width t) r at)

  -- behind a tag stand the cells of a part
  behind : (t : Tree) (m : ℕ) → width t ≤ m → finished t (part t (rest (part_at (suc m) r at))) ≡ finished t (part_at (width t) r (at + 1))
  behind t m h = ap (λ s. finished t s) (part-behind r at m (width t) h)

  -- a tag that is 0
  at-0 : (m : ℕ) (x y : Bool) → slice_index r at ≡ 0 → by_tag (cell (part_at (suc m) r at)) x y ≡ x
  at-0 m x y e = ap (λ k. by_tag k x y) (cell-at r at m ∙ e)

  -- one that is not
  past-0 : (t : Tree) (m : ℕ) (x v : Bool) → width t ≤ m → slice_index r at ≢ 0 → v ≡ finished t (part_at (width t) r (at + 1)) → v ≡ by_tag (cell (part_at (suc m) r at)) x (finished t (part t (rest (part_at (suc m) r at))))
  past-0 t m x v h ne e =
      e ∙ sym (behind t m h) ∙ sym (ap (λ k. by_tag k x (finished t (part t (rest (part_at (suc m) r at))))) (cell-at r at m) ∙ by-other (slice_index r at) x _ ne)

  pub in-second : (T a b : Tree) (v : Bool) → T ≡ sequence a b → slice_index r at ≢ 0 → v ≡ finished b (part_at (width b) r (at + 1)) → v ≡ finished_at T
  in-second T a b v is ne e =
      past-0 b (max (width a) (width b)) (finished a (part a (rest (part_at (suc (max (width a) (width b))) r at))) && finished b (initial b)) v (omega arith) ne e ∙ sym (ap finished_at is)

  pub in-first : (T a b : Tree) (p q : Bool) → T ≡ sequence a b → slice_index r at ≡ 0 → p ≡ finished a (part_at (width a) r (at + 1)) → q ≡ finished b (initial b) → (p && q) ≡ finished_at T
  in-first T a b p q is z e f =
      let m = max (width a) (width b) in
      let g : p ≡ finished a (part a (rest (part_at (suc m) r at))) = e ∙ sym (behind a m (omega arith)) in
      (λ i. g i && f i) ∙ sym (at-0 m _ (finished b (part b (rest (part_at (suc m) r at)))) z) ∙ sym (ap finished_at is)

  pub in-closure : (T b : Tree) (v : Bool) → T ≡ closure b → slice_index r at ≢ 0 → v ≡ finished b (part_at (width b) r (at + 1)) → v ≡ finished_at T
  in-closure T b v is ne e = past-0 b (width b) true v (omega arith) ne e ∙ sym (ap finished_at is)

  pub in-guard : (T b : Tree) (guard : ℕ) (v : Bool) → T ≡ guarded guard b → slice_index r at ≢ 0 → v ≡ finished b (part_at (width b) r (at + 1)) → v ≡ finished_at T
  in-guard T b guard v is ne e = past-0 b (width b) (finished b (initial b)) v (omega arith) ne e ∙ sym (ap finished_at is)

  pub in-left : (T a b : Tree) (v : Bool) → T ≡ choice a b → slice_index r at ≡ 1 → v ≡ finished a (part_at (width a) r (at + 1)) → v ≡ finished_at T
  in-left T a b v is one e =
      let m = max (width a) (width b) in
      let R = part_at (suc m) r at in
      let begun = finished a (initial a) || finished b (initial b) in
      e ∙ sym (behind a m (omega arith)) ∙ sym (ap (λ k. by_side k begun (finished a (part a (rest R))) (finished b (part b (rest R)))) (cell-at r at m ∙ one)) ∙ sym (ap finished_at is)

  pub in-right : (T a b : Tree) (v : Bool) → T ≡ choice a b → slice_index r at ≢ 0 → slice_index r at ≢ 1 → v ≡ finished b (part_at (width b) r (at + 1)) → v ≡ finished_at T
  in-right T a b v is ne nor e =
      let m = max (width a) (width b) in
      let R = part_at (suc m) r at in
      let begun = finished a (initial a) || finished b (initial b) in
      e ∙ sym (behind b m (omega arith)) ∙ sym (ap (λ k. by_side k begun (finished a (part a (rest R))) (finished b (part b (rest R)))) (cell-at r at m) ∙ by-right (slice_index r at) begun (finished a (part a (rest R))) (finished b (part b (rest R))) ne nor) ∙ sym (ap finished_at is)

  pub in-both : (T a b : Tree) (ls : List ℕ) (p q : Bool) (w : ℕ) → T ≡ synchronisation ls a b → w ≡ width a → p ≡ finished_at a → q ≡ finished b (part_at (width b) r (at + w)) → (p && q) ≡ finished_at T
  in-both T a b ls p q w is wide e f =
      let left : p ≡ finished a (part a (part_at (width a + width b) r at)) = e ∙ sym (ap (λ s. finished a s) (part-left r at (width a) (width b))) in
      let right : q ≡ finished b (part b (drop (width a) (part_at (width a + width b) r at))) =
      f ∙ ap (λ k. finished b (part_at (width b) r (at + k))) wide ∙ sym (ap (λ s. finished b s) (fit-part-right r at (width a) (width b))) in
      (λ i. left i && right i) ∙ sym (ap finished_at is)

  pub in-deep : (T : Tree) (t : ℕ → Tree) (s : States) (z : State) (arrows : List NumberedArrow) (v : Bool) →
      T ≡ automaton (length s.table.items) s.start (λ q. (state_of s q).mark) (λ q. child_tree t (state_of s q).child) arrows →
      z ≡ state_of s (slice_index r at) → z.mark ≡ Deep → v ≡ finished (child_tree t z.child) (part_at (width (child_tree t z.child)) r (at + 1)) → v ≡ finished_at T
  in-deep T t s z arrows v is here deep e =
      let child = λ (q : ℕ). child_tree t (state_of s q).child in
      let m = most (length s.table.items) (λ q. width (child q)) in
      let q = slice_index r at in
      let R = part_at (suc m) r at in
      let mark : (state_of s q).mark ≡ Deep = sym (ap (λ (y : State). y.mark) here) ∙ deep in
      e ∙ ap (λ (y : State). finished (child_tree t y.child) (part_at (width (child_tree t y.child)) r (at + 1))) here
      ∙ sym (behind (child q) m (state-room t s q))
      ∙ sym (ap (λ (y : Mark). by_mark y (finished (child q) (part (child q) (rest R)))) mark)
      ∙ sym (ap (λ k. by_mark (state_of s k).mark (finished (child k) (part (child k) (rest R)))) (cell-at r at m))
      ∙ sym (ap finished_at is)

  pub in-body : (T b : Tree) (xs : List ℕ) (v : Bool) → T ≡ quantified_choice xs b → false ≡ (length xs == 0) → slice_index r at ≢ 0 → v ≡ finished b (part_at (width b) r (at + 1)) → v ≡ finished_at T
  in-body T b [] v is h ne e = absurd cc
  in-body T b (x ∷ xs) v is h ne e = past-0 b (width b) (finished b (initial b)) v (omega arith) ne e ∙ sym (ap finished_at is)

fit-cleared : (n k : ℕ) → fit n (replicate k 0) ≡ fit n []
fit-cleared zero k = refl
fit-cleared (suc n) zero = refl
fit-cleared (suc n) (suc k) = ap {B = Cells} (λ w. 0 ∷ w) (fit-cleared n k)

-- a body for which there is no room
pub in-no-room : (r : Cells) (at : ℕ) (T b : Tree) (xs : List ℕ) (v : Bool) → T ≡ quantified_choice xs b → true ≡ (length xs == 0) → slice_index r at ≢ 0 → v ≡ finished b (part_at (width b) (replicate 48 0) 0) → v ≡ finished_at r at T
in-no-room r at T b (x ∷ xs) v is h ne e = let l = eqb-true (length (x ∷ xs)) 0 (sym h) in absurd (omega arith)
in-no-room r at T b [] v is h ne e =
    e ∙ ap (λ s. finished b s) (fit-cleared (width b) 48)
    ∙ sym (ap (λ k. by_tag k false (finished b (fit (width b) []))) (cell-at r at 0) ∙ by-other (slice_index r at) false _ ne)
    ∙ sym (ap (finished_at r at) is)

module _ (xs : List ℕ) (k : ℕ) (h : k < length xs) where
  one-more : drop k xs ≡ slice_index xs k ∷ drop (k + 1) xs
  one-more = let e : suc k ≡ k + 1 = omega arith in drop-cons xs k 0 h ∙ ap (λ j. slice_index xs k ∷ drop j xs) e

  pub room-left : (n : ℕ) → times (drop k xs) n ≡ n + times (drop (k + 1) xs) n
  room-left n = ap (λ (w : List ℕ). times w n) one-more

  module _ (test : Cells → Bool) (n : ℕ) (r : Cells) where
    -- the instances from the one of number k on
    each-left : (at : ℕ) → all_instances test n (drop k xs) (part_at (times (drop k xs) n) r at) ≡ (test (part_at n r at) && all_instances test n (drop (k + 1) xs) (part_at (times (drop (k + 1) xs) n) r (at + n)))
    each-left at =
        let m = times (drop (k + 1) xs) n in
        ap (λ (w : List ℕ). all_instances test n w (part_at (times w n) r at)) one-more
        ∙ (λ i. test (part-left r at n m i) && all_instances test n (drop (k + 1) xs) (part-right r at n m i))

    module _ (at w : ℕ) (v : Bool) (wide : w ≡ n) (e : v ≡ test (part_at n r (at + k * w))) where
      this-one : (b : Bool) → v ≡ b → test (part_at n r (at + k * n)) ≡ b
      this-one b f = ap (λ j. test (part_at n r (at + k * j))) (sym wide) ∙ sym e ∙ f

      -- one that passes leaves the others to decide
      pub each-on : v ≡ true → all_instances test n (drop k xs) (part_at (times (drop k xs) n) r (at + k * n)) ≡ all_instances test n (drop (k + 1) xs) (part_at (times (drop (k + 1) xs) n) r (at + (k + 1) * n))
      each-on f =
          let m = times (drop (k + 1) xs) n in
          let j : (at + k * n) + n ≡ at + (k + 1) * n = omega arith in
          each-left (at + k * n)
          ∙ ap (λ (b : Bool). b && all_instances test n (drop (k + 1) xs) (part_at m r ((at + k * n) + n))) (this-one true f)
          ∙ ap (λ (i : ℕ). all_instances test n (drop (k + 1) xs) (part_at m r i)) j

      pub each-off : v ≡ false → false ≡ all_instances test n (drop k xs) (part_at (times (drop k xs) n) r (at + k * n))
      each-off f =
          let m = times (drop (k + 1) xs) n in
          sym (each-left (at + k * n) ∙ ap (λ (b : Bool). b && all_instances test n (drop (k + 1) xs) (part_at m r ((at + k * n) + n))) (this-one false f))

-- The numbers of the arrows that have each key put down one after the other, key by key.
use Rattle.std.proofs.Common.{◌≡◌, refl, sym, ◌∙◌, ap, ℕ, zero, suc, ◌+◌, ◌-◌, ◌<◌, ◌≤◌, ◌==◌, Bool, true, false, cond, List, [], ◌∷◌, ◌++◌, length, take, drop, slice_index, slice_index_or, replicate, set, subst, ⊎_elim, length-set, get_or-set_same, get_or-set_other, eq-eqb, eqb-true, arith}
use Rattle.std.proofs.lemmas.Bool.{ne_eqb, cases_eq}
use Rattle.std.proofs.lemmas.List.{append-nil, append_assoc, length-append, take_at, drop_at, at_drop_more, at_drop_all}
use Rattle.notation.specs.Parts.{blank_arrow}
use Rattle.notation.specs.declared.arrow.Arrow.{Arrow}
use Rattle.diagram.specs.Owning.{key_of, keyed_from, keyed, keyed_below, KeyByKey, Sorted, HasPlace, between}
use Rattle.diagram.specs.declared.keyed_arrows.Key.{Key}
use Rattle.diagram.specs.declared.keyed_arrows.KeyedArrows.{KeyedArrows}

-- the numbers of those that have the key i among the arrows from the number n on
abbrev pub still_keyed : Key → List Arrow → ℕ → ℕ → List ℕ
still_keyed key ws i n = keyed_from key i n (drop n ws)

module _ (key : Key) (ws : List Arrow) (i n : ℕ) where
  abbrev here : Arrow
  here = slice_index_or ws n blank_arrow

  -- those from n on, where a bool says whether the arrow n is one of them
  abbrev chosen : Bool → ℕ → List ℕ
  chosen b m = cond b (n ∷ keyed_from key i m (drop (n + 1) ws)) (keyed_from key i m (drop (n + 1) ws))

  keyed-chosen : n < length ws → still_keyed key ws i n ≡ chosen (key_of key here == i) (n + 1)
  keyed-chosen h =
      let next : suc n ≡ n + 1 = omega arith in
      at_drop_more (keyed_from key i n) ws n blank_arrow h ∙ ap (chosen (key_of key here == i)) next

  pub keyed-next : n < length ws → key_of key here ≡ i → still_keyed key ws i n ≡ n ∷ still_keyed key ws i (n + 1)
  keyed-next h e = keyed-chosen h ∙ ap (λ (b : Bool). chosen b (n + 1)) (eq-eqb (key_of key here) i e)

  pub keyed-later : n < length ws → (key_of key here ≡ i → ⊥) → still_keyed key ws i n ≡ still_keyed key ws i (n + 1)
  keyed-later h e = keyed-chosen h ∙ ap (λ (b : Bool). chosen b (n + 1)) (ne_eqb (key_of key here) i e)

  -- past the last there is none
  pub keyed-done : length ws ≤ n → (xs : List ℕ) → xs ++ still_keyed key ws i n ≡ xs
  keyed-done h xs = ap (λ (ys : List ℕ). xs ++ ys) (at_drop_all (keyed_from key i n) ws n h) ∙ append-nil xs

module _ (key : Key) where
  -- how many arrows have a key below n among some, of which the first has the number k
  abbrev counted : ℕ → ℕ → List Arrow → ℕ
  counted zero k ws = 0
  counted (suc n) k ws = counted n k ws + length (keyed_from key n k ws)

  -- one more arrow counts once at most, and only below its key
  record OneMore (n k : ℕ) (a : Arrow) (ws : List Arrow) : Type 0 where
    once : counted n k (a ∷ ws) ≤ counted n (suc k) ws + 1
    other : n ≤ key_of key a → counted n k (a ∷ ws) ≡ counted n (suc k) ws

  one-more : (n k : ℕ) (a : Arrow) (ws : List Arrow) → OneMore n k a ws
  one-more zero k a ws = record { once = omega arith; other = λ h. refl }
  one-more (suc n) k a ws = at (one-more n k a ws) (key_of key a == n) refl
    where
      at : OneMore n k a ws → (b : Bool) → key_of key a == n ≡ b → OneMore (suc n) k a ws
      at below true t =
          let e : key_of key a ≡ n = eqb-true (key_of key a) n t in
          let s : length (keyed_from key n k (a ∷ ws)) ≡ suc (length (keyed_from key n (suc k) ws)) = ap (λ (b : Bool). length (cond b (k ∷ keyed_from key n (suc k) ws) (keyed_from key n (suc k) ws))) t in
          let o = below.other (omega arith) in
          record { once = omega arith; other = λ h. absurd (omega arith) }
      at below false t =
          let s : length (keyed_from key n k (a ∷ ws)) ≡ length (keyed_from key n (suc k) ws) = ap (λ (b : Bool). length (cond b (k ∷ keyed_from key n (suc k) ws) (keyed_from key n (suc k) ws))) t in
          let o = below.once in
          record { once = omega arith; other = λ h. let p = below.other (omega arith) in omega arith }

  none-counted : (n k : ℕ) → counted n k [] ≡ 0
  none-counted zero k = refl
  none-counted (suc n) k = let e = none-counted n k in omega arith

  few-counted : (n k : ℕ) (ws : List Arrow) → counted n k ws ≤ length ws
  few-counted n k [] = let e = none-counted n k in omega arith
  few-counted n k (a ∷ ws) = let o = (one-more n k a ws).once in let r = few-counted n (suc k) ws in omega arith

module _ (key : Key) (ws : List Arrow) where
  below-counted : (n : ℕ) → length (keyed_below key ws n) ≡ counted key n 0 ws
  below-counted zero = refl
  below-counted (suc n) = length-append (keyed_below key ws n) (keyed key ws n) ∙ ap (λ (a : ℕ). a + length (keyed key ws n)) (below-counted n)

  -- the keys below n have no more arrows than there are
  pub below-few : (n : ℕ) → length (keyed_below key ws n) ≤ length ws
  below-few n = let e = below-counted n in let h = few-counted key n 0 ws in omega arith

  -- so there is room for those of n
  pub below-room : (n : ℕ) → length (keyed_below key ws n) + length (keyed key ws n) ≤ length ws
  below-room n = let e = length-append (keyed_below key ws n) (keyed key ws n) in let h = below-few (suc n) in omega arith

  -- those of the keys below i come first
  below-first : (i m n : ℕ) → n ≡ m + i → (rest : List ℕ) × (keyed_below key ws n ≡ keyed_below key ws i ++ rest)
  below-first i zero n e = let same : n ≡ i = omega arith in ([], ap (keyed_below key ws) same ∙ sym (append-nil (keyed_below key ws i)))
  below-first i (suc m) zero e = absurd (omega arith)
  below-first i (suc m) (suc n) e =
      let b = below-first i m n (omega arith) in
      (b.0 ++ keyed key ws n, ap (λ (xs : List ℕ). xs ++ keyed key ws n) b.1 ∙ append_assoc (keyed_below key ws i) b.0 (keyed key ws n))

  opened : (a : KeyedArrows) → Sorted key ws a → KeyByKey key ws a
  unfolding Sorted
  opened a s = s

  module _ (a : KeyedArrows) (s : Sorted key ws a) (i : ℕ) (lt : i < 256) where
    h : KeyByKey key ws a
    h = opened a s

    abbrev from : ℕ
    from = slice_index a.starts i

    abbrev to : ℕ
    to = slice_index a.starts (i + 1)

    from-is : from ≡ length (keyed_below key ws i)
    from-is = h.starts i (omega arith)

    to-is : to ≡ length (keyed_below key ws i) + length (keyed key ws i)
    to-is = let next : i + 1 ≡ suc i = omega arith in h.starts (i + 1) (omega arith) ∙ ap (λ (n : ℕ). length (keyed_below key ws n)) next ∙ length-append (keyed_below key ws i) (keyed key ws i)

    parts : (rest : List ℕ) × (a.numbers.items ≡ keyed_below key ws i ++ (keyed key ws i ++ rest))
    parts =
        let b = below-first (suc i) (255 - i) 256 (omega arith) in
        (b.0, h.numbers ∙ b.1 ∙ append_assoc (keyed_below key ws i) (keyed key ws i) b.0)

    pub has-place : HasPlace a i
    has-place =
        let e = from-is in
        let t = to-is in
        let all = ap length parts.1 in
        let f = length-append (keyed_below key ws i) (keyed key ws i ++ parts.0) in
        let g = length-append (keyed key ws i) parts.0 in
        record { in_order = omega arith; in_table = omega arith }

    -- what lies between two keys' places is the first one's
    pub keyed-between : between a i ≡ keyed key ws i
    keyed-between =
        let long : length (keyed key ws i) ≡ to - from = let e = from-is in let f = to-is in omega arith in
        ap (λ (xs : List ℕ). take (to - from) (drop from xs)) parts.1
        ∙ ap (take (to - from)) (drop_at (keyed_below key ws i) (keyed key ws i ++ parts.0) from (sym from-is))
        ∙ take_at (keyed key ws i) parts.0 (to - from) long

-- the same for the keys below n, while the table is filled
pub record SoFar (key : Key) (ws : List Arrow) (n : ℕ) (xs places : List ℕ) : Type 0 where
  pub long : length places ≡ 257
  pub numbers : xs ≡ keyed_below key ws n
  pub starts : (i : ℕ) → i ≤ n → slice_index places i ≡ length (keyed_below key ws i)

module _ (key : Key) (ws : List Arrow) where
  pub so-far-none : (numbers : List ℕ) → numbers ≡ [] → SoFar key ws 0 numbers (replicate 257 0)
  so-far-none numbers e = record {
    long = refl;
    numbers = e;
    starts = λ i h. let first : i ≡ 0 = omega arith in rw first refl;
  }

  pub so-far-more : (n : ℕ) (numbers more starts : List ℕ) → n < 256 → SoFar key ws n numbers starts → more ≡ numbers ++ keyed key ws n
      → SoFar key ws (n + 1) more (set starts (n + 1) (length more))
  so-far-more n numbers more starts lt h e =
      let next : suc n ≡ n + 1 = omega arith in
      let is : more ≡ keyed_below key ws (n + 1) = e ∙ ap (λ (xs : List ℕ). xs ++ keyed key ws n) h.numbers ∙ ap (keyed_below key ws) next in
      let long = h.long in
      let within : n + 1 < length starts = omega arith in
      record {
        long = length-set starts (n + 1) (length more) ∙ long;
        numbers = is;
        starts = λ i le.
            ⊎_elim
            (λ same. rw same (get_or-set_same starts (n + 1) (length more) 0 within ∙ ap length is))
            (λ other. get_or-set_other starts (n + 1) i (length more) 0 other ∙ h.starts i (let ne = other in omega arith))
            (cases_eq i (n + 1));
      }

  pub so-far-all : (n : ℕ) (a : KeyedArrows) → n ≡ 256 → SoFar key ws n a.numbers.items a.starts → Sorted key ws a
  unfolding Sorted
  so-far-all n a e h = let all = subst (λ (k : ℕ). SoFar key ws k a.numbers.items a.starts) e h in record { numbers = all.numbers; starts = all.starts }

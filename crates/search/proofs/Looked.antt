-- The arrows that are looked at lead where all of the file do.
use Rattle.std.proofs.Common.{◌≡◌, sym, ◌∙◌, ap, subst, ℕ, suc, ◌+◌, ◌<◌, ◌==◌, cond, Bool, true, false, true≢false, ⊎_elim, List, [], ◌∷◌, length, map, Some, slice_index, slice_index_or, eq-eqb, arith}
use Rattle.std.specs.List.{slice_get}
use Rattle.std.proofs.lemmas.List.{length-map, get_or-map}
use Rattle.std.proofs.lemmas.Option.{slice_get-get_or}
use mathlib.Core.List.{Memᴰ}
use mathlib.Core.List.Memᴰ
use Rattle.notation.specs.Parts.{blank_arrow}
use Rattle.notation.specs.declared.arrow.Arrow.{Arrow}
use Rattle.row.specs.declared.row.Row.{Row}
use Rattle.motions.specs.Collecting.{AlikeRows}
use Rattle.diagram.specs.Owning.{key_of, keyed_from}
use Rattle.diagram.specs.declared.keyed_arrows.Key.{Key}
use Rattle.diagram.specs.declared.keyed_arrows.Key.TheVariants.{Node, Label}
use Rattle.search.specs.Searching.{LookedAt}
use Rattle.search.proofs.Fires.{FromArrows}
use Rattle.search.proofs.Leads.{index-in}

-- each number of an arrow with a key is the file's
inside : (key : Key) (i k : ℕ) (ws : List Arrow) (number : ℕ) → Memᴰ number (keyed_from key i k ws) → number < k + length ws
inside key i k [] number m = absurd (Memᴰ.not-nil m)
inside key i k (a ∷ ws) number m = at (key_of key a == i) (inside key i (suc k) ws number) m
  where
    at : (b : Bool) → (Memᴰ number (keyed_from key i (suc k) ws) → number < suc k + length ws) → Memᴰ number (cond b (k ∷ keyed_from key i (suc k) ws) (keyed_from key i (suc k) ws)) → number < k + suc (length ws)
    at true below n = ⊎_elim (λ e. omega (arith, e)) (λ r. let h = below r in omega arith) (Memᴰ.cases_cons n)
    at false below n = let h = below n in omega arith

-- the number of an arrow is among some, of those from k on
abbrev Among : List ℕ → ℕ → List Arrow → Arrow → Type 0
Among numbers k ws w = (place : ℕ) × Memᴰ (k + place) numbers × (slice_index_or ws place blank_arrow ≡ w)

-- each arrow of the file with a key has its number among those of the key
among : (key : Key) (i k : ℕ) (ws : List Arrow) (w : Arrow) → Memᴰ w ws → key_of key w ≡ i → Among (keyed_from key i k ws) k ws w
among key i k [] w m e = absurd (Memᴰ.not-nil m)
among key i k (a ∷ ws) w m e =
    ⊎_elim
    (λ p. first p (key_of key a == i) (eq-eqb (key_of key a) i (ap (key_of key) (sym p) ∙ e)))
    (λ j. later (key_of key a == i) (among key i (suc k) ws w j e))
    (Memᴰ.cases_cons m)
  where
    first : w ≡ a → (b : Bool) → b ≡ true → Among (cond b (k ∷ keyed_from key i (suc k) ws) (keyed_from key i (suc k) ws)) k (a ∷ ws) w
    first p true t = (0, Memᴰ.head (omega arith), sym p)
    first p false t = absurd (true≢false (sym t))

    same : (place : ℕ) → suc k + place ≡ k + suc place
    same place = omega arith

    later : (b : Bool) → Among (keyed_from key i (suc k) ws) (suc k) ws w → Among (cond b (k ∷ keyed_from key i (suc k) ws) (keyed_from key i (suc k) ws)) k (a ∷ ws) w
    later true o = (suc o.0, Memᴰ.tail (subst (λ (n : ℕ). Memᴰ n (keyed_from key i (suc k) ws)) (same o.0) o.1), o.2)
    later false o = (suc o.0, subst (λ (n : ℕ). Memᴰ n (keyed_from key i (suc k) ws)) (same o.0) o.1, o.2)

-- the arrows that have some numbers
abbrev pub numbered : List Arrow → List ℕ → List Arrow
numbered ws numbers = map (λ (k : ℕ). slice_index_or ws k blank_arrow) numbers

-- of arrows that are the file's, the one of a number is the one looked at at n
pub record Looked (ws arrows : List Arrow) (numbers : List ℕ) (n number : ℕ) : Type 0 where
  pub there : number < length arrows
  pub is_arrow : slice_get ws number ≡ Some (slice_index_or arrows number blank_arrow)
  pub is_looked_at : slice_get (numbered ws numbers) n ≡ Some (slice_index_or arrows number blank_arrow)

module _ (ws : List Arrow) (node label : ℕ) (numbers : List ℕ) (l : LookedAt ws node label numbers) where
  within : (number : ℕ) → Memᴰ number numbers → number < length ws
  within number m =
      let h : number < 0 + length ws = ⊎_elim (λ e. inside Node node 0 ws number (subst (Memᴰ number) e m)) (λ e. inside Label label 0 ws number (subst (Memᴰ number) e m)) l in
      omega arith

  has : (w : Arrow) → Memᴰ w ws → w.node ≡ node → w.label ≡ label → Among numbers 0 ws w
  has w m n e =
      ⊎_elim
      (λ p. subst (λ (ks : List ℕ). Among ks 0 ws w) (sym p) (among Node node 0 ws w m n))
      (λ p. subst (λ (ks : List ℕ). Among ks 0 ws w) (sym p) (among Label label 0 ws w m e))
      l

  pub looked : (n number : ℕ) → n < length numbers → number ≡ slice_index numbers n → (arrows : List Arrow) → arrows ≡ ws → Looked ws arrows numbers n number
  looked n number h is arrows e = subst (λ (as' : List Arrow). Looked ws as' numbers n number) (sym e) (record { there = there; is_arrow = slice_get-get_or ws number blank_arrow there; is_looked_at = here })
    where
      there : number < length ws
      there = within number (subst (λ (k : ℕ). Memᴰ k numbers) (sym is) (index-in numbers 0 n h))

      long : n < length (numbered ws numbers)
      long = let m = length-map numbers (λ (k : ℕ). slice_index_or ws k blank_arrow) in omega arith

      here : slice_get (numbered ws numbers) n ≡ Some (slice_index_or ws number blank_arrow)
      here =
          slice_get-get_or (numbered ws numbers) n blank_arrow long
          ∙ ap Some (get_or-map (λ (k : ℕ). slice_index_or ws k blank_arrow) numbers n 0 blank_arrow h ∙ ap (λ (k : ℕ). slice_index_or ws k blank_arrow) (sym is))

  -- rows to which only arrows of the node with the label lead
  pub looked-all : (Y : Arrow → Row → Type 0) → ((w : Arrow) (y : Row) → Y w y → (w.node ≡ node) × (w.label ≡ label)) → AlikeRows (FromArrows Y (numbered ws numbers)) (FromArrows Y ws)
  looked-all Y only = record {
    to = λ y f.
        let o = Memᴰ.of_map (λ (k : ℕ). slice_index_or ws k blank_arrow) numbers f.1 in
        (f.0, Memᴰ.cast (sym o.2) (index-in ws blank_arrow o.0 (within o.0 o.1)), f.2);
    fro = λ y f.
        let b = only f.0 y f.2 in
        let o = has f.0 f.1 b.0 b.1 in
        let m = subst (λ (k : ℕ). Memᴰ k numbers) (place o.0) o.1 in
        (f.0, Memᴰ.cast (sym o.2) (Memᴰ.map (λ (k : ℕ). slice_index_or ws k blank_arrow) m), f.2);
  }
    where
      place : (k : ℕ) → 0 + k ≡ k
      place k = omega arith

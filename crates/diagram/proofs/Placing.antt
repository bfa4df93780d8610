-- What is above each of some children is written into a table.
use Rattle.std.proofs.Common.{◌≡◌, ℕ, zero, suc, ◌+◌, ◌<◌, List, [], ◌∷◌, ◌++◌, length, take, get_or, set, sym, subst, ap, ◌∙◌, refl, ⊎_elim, arith}
use Rattle.std.proofs.lemmas.Bool.{cases_eq}
use Rattle.std.proofs.lemmas.List.{take_more, get_or-set_same, get_or-set_other, length-set}
use mathlib.Core.List.{Memᴰ}
use mathlib.Core.List.Memᴰ
use Rattle.diagram.specs.Scopes.{binders_at, no_binders}
use Rattle.diagram.specs.declared.binders.Binders.{Binders}

-- the children ks have `above` in the table that was `old`
pub record Put (above : Binders) (ks : List ℕ) (old bs : List Binders) : Type 0 where
  pub long : length bs ≡ length old
  pub puts : (k : ℕ) → Memᴰ k ks → binders_at bs k ≡ above
  pub leaves : (k : ℕ) → (Memᴰ k ks → ⊥) → binders_at bs k ≡ binders_at old k

pub put-none : (above : Binders) (old : List Binders) → Put above [] old old
put-none above old = record { long = refl; puts = λ k m. absurd (Memᴰ.not-nil m); leaves = λ k n. refl }

put-one : (above : Binders) (ks : List ℕ) (x : ℕ) (old bs : List Binders) → x < length old → Put above ks old bs → Put above (ks ++ x ∷ []) old (set bs x above)
put-one above ks x old bs lt p =
    let l = p.long in
    record {
      long = length-set bs x above ∙ p.long;
      puts = λ k m. ⊎_elim
          (λ e. rw e (get_or-set_same bs x above no_binders (omega arith)))
          (λ ne. get_or-set_other bs x k above no_binders ne ∙ p.puts k (⊎_elim (λ i. i) (λ i. absurd (⊎_elim ne Memᴰ.not-nil (Memᴰ.cases_cons i))) (Memᴰ.append_cases ks m)))
          (cases_eq k x);
      leaves = λ k n.
          get_or-set_other bs x k above no_binders (λ e. n (Memᴰ.append_right ks (Memᴰ.head e)))
          ∙ p.leaves k (λ m. n (Memᴰ.append_left (x ∷ []) m));
    }

pub put-more : (above : Binders) (ks : List ℕ) (i x : ℕ) (old bs : List Binders) → i < length ks → x ≡ get_or ks i 0 → x < length old → Put above (take i ks) old bs → Put above (take (i + 1) ks) old (set bs x above)
put-more above ks i x old bs lt e h p =
    subst (λ (js : List ℕ). Put above js old (set bs x above))
    (ap (λ y. take i ks ++ y ∷ []) e ∙ sym (take_more ks i 0 lt))
    (put-one above (take i ks) x old bs h p)

pub at-member : (ks : List ℕ) (i x : ℕ) → i < length ks → x ≡ get_or ks i 0 → Memᴰ x ks
at-member [] i x lt e = absurd (omega arith)
at-member (k ∷ ks) zero x lt e = Memᴰ.head e
at-member (k ∷ ks) (suc i) x lt e = Memᴰ.tail (at-member ks i x (omega arith) e)

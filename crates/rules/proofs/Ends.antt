-- The computed ends are those of the chains.
use Rattle.std.proofs.Common.{◌≡◌, refl, sym, ◌∙◌, ap, subst, List, [], ◌∷◌, ◌++◌, ◌↔◌, inl, inr, ⊎_elim, Ordering, append_assoc, append-nil, length, length-append, arith}
use mathlib.Core.List.{Memᴰ}
use mathlib.Core.List.Memᴰ
use Rattle.ordered.specs.Order.{Order, Rising}
use Rattle.ordered.proofs.Laws.{rising-insert, in-insert, in-back}
use Rattle.ordered.proofs.Alone.{one-rising}
use Rattle.row.specs.Rows.{cells_rank}
use Rattle.row.specs.Laws.{cells_order}
use Rattle.event.specs.declared.event.Event.{Event}
use Rattle.host.specs.Meanings.{Meaning}
use Rattle.rules.specs.Trees.{Tree, Guards, no_variables}
use Rattle.rules.specs.Cells.{Cells, initial}
use Rattle.rules.specs.Rules.{Step}
use Rattle.rules.specs.Chains.{answers_after, Chain, IsEnd}
use Rattle.rules.specs.Chains.Chain.{begun, goes_on}
use Rattle.rules.specs.Ends.{arranged, successors, ends_from, ends}
use Rattle.rules.proofs.Lists.{in-over, out-over}
use Rattle.rules.proofs.Fits.{fits}

module _ {X : Type 0} (c : X → X → Ordering) (o : Order c) where
  pub in-arranged : (z : X) (l : List X) → Memᴰ z l → Memᴰ z (arranged c l)
  unfolding arranged
  in-arranged z [] m = m
  in-arranged z (x ∷ l) m =
      ⊎_elim
      (λ e. in-back c o (arranged c l) x z (inr e))
      (λ k. in-back c o (arranged c l) x z (inl (in-arranged z l k)))
      (Memᴰ.cases_cons m)

  pub out-arranged : (z : X) (l : List X) → Memᴰ z (arranged c l) → Memᴰ z l
  unfolding arranged
  out-arranged z [] m = m
  out-arranged z (x ∷ l) m = ⊎_elim (λ k. Memᴰ.tail (out-arranged z l k)) (λ e. Memᴰ.head e) (in-insert c (arranged c l) x z m)

  pub rising-arranged : (l : List X) → Rising c (arranged c l)
  unfolding arranged
  rising-arranged [] = tt
  rising-arranged (x ∷ l) = rising-insert c o (arranged c l) x (rising-arranged l)

-- lists with a last element
pub last-parts : {X : Type 0} (u v : List X) (x y : X) → u ++ x ∷ [] ≡ v ++ y ∷ [] → (u ≡ v) × (x ≡ y)
last-parts [] [] x y e = (refl, cc)
last-parts [] (b ∷ v) x y e = absurd (omega (arith, simp length-append at (ap length e)))
last-parts (a ∷ u) [] x y e = absurd (omega (arith, simp length-append at (ap length e)))
last-parts (a ∷ u) (b ∷ v) x y e =
    let h : a ≡ b = cc in
    let p = last-parts u v x y cc in
    let q : u ≡ v = p.0 in
    (cc, p.1)

pub no-last : {X : Type 0} (u : List X) (x : X) → [] ≡ u ++ x ∷ [] → ⊥
no-last u x e = absurd (omega (arith, simp length-append at (ap length e)))

module _ (t : Tree) (m : Meaning) (start : Cells) where
  pub chain-last : (before : List Event) (e : Event) (end : Cells) → Chain t m start (before ++ e ∷ []) end → (r : Cells) × Chain t m start before r × Step t (answers_after m before e) e no_variables r end
  chain-last before e end c = parts (before ++ e ∷ []) end refl c
    where
      parts : (u : List Event) (end : Cells) → u ≡ before ++ e ∷ [] → Chain t m start u end → (r : Cells) × Chain t m start before r × Step t (answers_after m before e) e no_variables r end
      parts u end is (begun none b) = absurd (no-last before e (sym none ∙ is))
      parts u end is (goes_on v f r by d s) =
          let p = last-parts v before f e (sym by ∙ is) in
          (r, subst (λ (w : List Event). Chain t m start w r) p.0 d, subst (λ (w : List Event). Step t (answers_after m w e) e no_variables r end) p.0 (subst (λ (x : Event). Step t (answers_after m v x) x no_variables r end) p.1 s))

  pub chain-more : (before : List Event) (e : Event) (r end : Cells) → Chain t m start before r → Step t (answers_after m before e) e no_variables r end → Chain t m start (before ++ e ∷ []) end
  chain-more before e r end c s = goes_on before e r refl c s

  pub chain-none : (end : Cells) → Chain t m start [] end → end ≡ start
  chain-none end c = parts [] refl c
    where
      parts : (u : List Event) → u ≡ [] → Chain t m start u end → end ≡ start
      parts u is (begun none b) = b
      parts u is (goes_on v f r by d s) = absurd (no-last v f (sym is ∙ by))

  -- a list holds exactly the ends of the chains over some events
  Holds : List Event → List Cells → Type 0
  Holds w l = (r : Cells) → Memᴰ r l ↔ Chain t m start w r

  holds-next : (before : List Event) (e : Event) (l : List Cells) → Holds before l → Holds (before ++ e ∷ []) (successors t (answers_after m before e) e l)
  unfolding Holds
  holds-next before e l h r' = (to, fro)
    where
      g : Guards
      g = answers_after m before e

      to : Memᴰ r' (successors t (answers_after m before e) e l) → Chain t m start (before ++ e ∷ []) r'
      to i =
          let u = out-over _ _ (out-arranged cells_rank cells_order _ _ i) in
          chain-more before e u.0 r' ((h u.0).0 u.1) ((fits t (answers_after m before e) e no_variables).sound _ _ u.2)

      fro : Chain t m start (before ++ e ∷ []) r' → Memᴰ r' (successors t (answers_after m before e) e l)
      fro c =
          let u = chain-last before e r' c in
          in-arranged cells_rank cells_order _ _ (in-over _ ((h u.0).1 u.1) ((fits t (answers_after m before e) e no_variables).complete _ _ u.2))

  holds-all : (before events : List Event) (l : List Cells) → Holds before l → Holds (before ++ events) (ends_from t m before l events)
  holds-all before [] l h = rw append-nil h
  holds-all before (e ∷ es) l h = rw (← append_assoc before (e ∷ []) es) (holds-all (before ++ e ∷ []) es (successors t (answers_after m before e) e l) (holds-next before e l h))

module _ (t : Tree) (m : Meaning) where
  pub listed-ends : (events : List Event) (r : Cells) → Memᴰ r (ends t m events) ↔ IsEnd t m events r
  unfolding Holds
  listed-ends events = holds-all t m (initial t) [] events (initial t ∷ []) first
    where
      first : (r : Cells) → Memᴰ r (initial t ∷ []) ↔ Chain t m (initial t) [] r
      first r = (λ i. begun refl (Memᴰ.eq_of_singleton i), λ c. Memᴰ.head (chain-none t m (initial t) r c))

  rises-from : (before events : List Event) (l : List Cells) → Rising cells_rank l → Rising cells_rank (ends_from t m before l events)
  rises-from before [] l h = h
  rises-from before (e ∷ es) l h = rises-from (before ++ e ∷ []) es (successors t (answers_after m before e) e l) (rising-arranged cells_rank cells_order _)

  pub ends-rise : (events : List Event) → Rising cells_rank (ends t m events)
  ends-rise events = rises-from [] events (initial t ∷ []) (tt, tt)

  pub ends-alone : (events : List Event) (l : List Cells) → Rising cells_rank l → ((r : Cells) → Memᴰ r l ↔ IsEnd t m events r) → l ≡ ends t m events
  ends-alone events l h f =
      one-rising cells_rank cells_order l (ends t m events) h (ends-rise events)
      (λ z i. (listed-ends events z).1 ((f z).0 i))
      (λ z i. (f z).1 ((listed-ends events z).0 i))

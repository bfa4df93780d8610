-- Chains over two lists of events, and what holds of every end.
use Rattle.std.proofs.Common.{◌≡◌, refl, sym, ◌∙◌, ap, subst, List, [], ◌∷◌, ◌++◌, ◌⊎◌, inl, inr, length, append_assoc, append-nil}
use Rattle.event.specs.declared.event.Event.{Event}
use Rattle.host.specs.Meanings.{Meaning}
use Rattle.rules.specs.Trees.{Tree, no_variables}
use Rattle.rules.specs.Cells.{Cells}
use Rattle.rules.specs.Rules.{Step}
use Rattle.rules.specs.Chains.{answers_after, Chain}
use Rattle.rules.specs.Chains.Chain.{begun, goes_on}
use Rattle.rules.specs.InRange.{InRange}
use Rattle.rules.specs.Laws.{meaning_after, ChainsBegin, ChainsGoOn, ChainsJoin, EndHasWidth, EndInRange}
use Rattle.rules.proofs.Ends.{last-parts, no-last, chain-last, chain-more, chain-none}
use Rattle.rules.proofs.Widths.{initial-width, step-width}
use Rattle.rules.proofs.InRange.{initial-in-range, step-in-range}

pub chains-begin : ChainsBegin
chains-begin t m start end = (chain-none t m start end, λ e. begun refl e)

pub chains-go-on : ChainsGoOn
chains-go-on t m start before e end = (chain-last t m start before e end, λ c. chain-more t m start before e c.0 end c.1 c.2)

-- a list is empty or has a last element
last-view : {X : Type 0} (l : List X) → (l ≡ []) ⊎ ((u : List X) × (x : X) × (l ≡ u ++ x ∷ []))
last-view [] = inl refl
last-view {X} (a ∷ l) = at (last-view l)
  where
    at : (l ≡ []) ⊎ ((u : List X) × (x : X) × (l ≡ u ++ x ∷ [])) → (a ∷ l ≡ []) ⊎ ((u : List X) × (x : X) × (a ∷ l ≡ u ++ x ∷ []))
    at (inl e) = inr ([], a, ap (λ (k : List X). a ∷ k) e)
    at (inr o) = inr (a ∷ o.0, o.1, ap (λ (k : List X). a ∷ k) o.2)

module _ (t : Tree) (m : Meaning) (start : Cells) (before : List Event) where
  join : (r end : Cells) (events : List Event) → Chain t m start before r → Chain t (meaning_after before m) r events end → Chain t m start (before ++ events) end
  join r end events c (begun none b) = subst (λ (w : List Event). Chain t m start w end) (sym (ap (λ (w : List Event). before ++ w) none ∙ append-nil before)) (subst (λ (z : Cells). Chain t m start before z) (sym b) c)
  join r end events c (goes_on v e q by d s) =
      goes_on (before ++ v) e q (ap (λ (w : List Event). before ++ w) by ∙ sym (append_assoc before v (e ∷ []))) (join r q v c d) s

  Parted : List Event → Cells → Type 0
  Parted events end = (r : Cells) × Chain t m start before r × Chain t (meaning_after before m) r events end

  -- the same events, the last of them split off
  split-last : (u v o : List Event) (e x : Event) (events : List Event) → u ≡ v ++ e ∷ [] → u ≡ before ++ events → events ≡ o ++ x ∷ [] → (v ≡ before ++ o) × (e ≡ x)
  split-last u v o e x events by is last =
      last-parts v (before ++ o) e x (sym by ∙ is ∙ ap (λ (k : List Event). before ++ k) last ∙ sym (append_assoc before o (x ∷ [])))

  ended : (w events : List Event) (end : Cells) → Chain t m start w end → w ≡ before ++ events → events ≡ [] → Parted events end
  unfolding Parted
  ended w events end c is none = (end, subst (λ (k : List Event). Chain t m start k end) (is ∙ ap (λ (k : List Event). before ++ k) none ∙ append-nil before) c, begun none refl)

  part-at : (w : List Event) (end : Cells) → Chain t m start w end → (events : List Event) → w ≡ before ++ events → Parted events end
  unfolding Parted
  part-at w end (begun none b) events is = by-last (last-view events)
    where
      by-last : (events ≡ []) ⊎ ((u : List Event) × (x : Event) × (events ≡ u ++ x ∷ [])) → Parted events end
      by-last (inl empty) = ended w events end (begun none b) is empty
      by-last (inr o) = absurd (no-last (before ++ o.0) o.1 (sym none ∙ is ∙ ap (λ (k : List Event). before ++ k) o.2 ∙ sym (append_assoc before o.0 (o.1 ∷ []))))
  part-at w end (goes_on v e q by d s) events is = by-last (last-view events) (λ u p. part-at v q d u p)
    where
      by-last : (events ≡ []) ⊎ ((u : List Event) × (x : Event) × (events ≡ u ++ x ∷ [])) → ((u : List Event) → v ≡ before ++ u → Parted u q) → Parted events end
      by-last (inl empty) below = ended w events end (goes_on v e q by d s) is empty
      by-last (inr o) below =
          let p = split-last w v o.0 e o.1 events by is o.2 in
          let b = below o.0 p.0 in
          let s' : Step t (answers_after m (before ++ o.0) o.1) o.1 no_variables q end = subst (λ (k : List Event). Step t (answers_after m k o.1) o.1 no_variables q end) p.0 (subst (λ (x : Event). Step t (answers_after m v x) x no_variables q end) p.1 s) in
          (b.0, b.1, goes_on o.0 o.1 q o.2 b.2 s')

pub chains-join : ChainsJoin
unfolding Parted
chains-join t m start before events end = (λ c. part-at t m start before (before ++ events) end c events refl, λ p. join t m start before p.0 end events p.1 p.2)

pub end-has-width : EndHasWidth
end-has-width t m events r (begun none b) = ap length b ∙ initial-width t
end-has-width t m events r (goes_on v e q by d s) = step-width t (answers_after m v e) e no_variables q r (end-has-width t m v q d) s

pub end-in-range : EndInRange
end-in-range t m events r s (begun none b) = subst (λ (z : Cells). InRange t z) (sym b) (initial-in-range t s)
end-in-range t m events r s (goes_on v e q by d k) = step-in-range t (answers_after m v e) e no_variables q r s (end-has-width t m v q d) (end-in-range t m v q s d) k

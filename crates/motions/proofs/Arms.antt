-- How each kind of node moves, by the cells of its part and by how its children's parts move.
use Rattle.std.proofs.Common.{◌≡◌, refl, sym, ◌∙◌, ap, subst, ℕ, suc, ◌+◌, ◌≤◌, Bool, true, false, ◌&&◌, ◌==◌, not, List, [], ◌∷◌, drop, slice_index, true≢false, inl, inr, arith}
use Rattle.host.specs.declared.variables.Variables.{Variables}
use Rattle.event.specs.declared.event.Event.{Event}
use Rattle.rules.specs.Trees.{NumberedArrow, Tree, sequence, closure, guarded, choice, synchronisation, quantified_choice, quantified_synchronisation, automaton, bound, Guards}
use Rattle.rules.specs.Cells.{Cells, cell, rest, width, times, shared_room, body_room, child_room, has_value, part, initial, finished}
use Rattle.rules.specs.Rules.{Step, OneMoves, AllMove, in_set, SynchronisationRule, QuantifiedSynchronisationRule}
use Rattle.motions.specs.Framing.{part_at}
use Rattle.motions.specs.Ways.{Way, Alike, If, Either, Tagged, Left, Right, Joined, Chosen, Resumed, Led}
use Rattle.motions.proofs.Frames.{cell-at, part-behind, part-left, fit-part-right}
use Rattle.std.proofs.Common.{eqb-true}
use Rattle.std.proofs.lemmas.Option.{none-some}
use Rattle.notation.specs.declared.node.Mark.{Mark}
use Rattle.motions.proofs.Operators.{resumed-zero, sequence-ways, closure-ways, guard-ways, choice-ways, synchronisation-ways, quantified-choice-ways, quantified-synchronisation-ways, automaton-ways}

-- equal sets of cells
same-way : (P Q W : Way) → Q ≡ W → Alike P Q → Alike P W
same-way P Q W e a = subst (λ (X : Way). Alike P X) e a

module _ (g : Guards) (e : Event) (v : Variables) (r : Cells) (at : ℕ) where
  -- ---- a tag, and a child behind it

  pub sequence-arm : (a b : Tree) (u w : Variables) (m at-a at-b : ℕ) → v ≡ u → v ≡ w → shared_room a b ≡ m → at + 1 ≡ at-a → at + 1 ≡ at-b
      → Alike (Step (sequence a b) g e v (part_at (suc (shared_room a b)) r at))
      (Either (If (slice_index r at == 0) (Tagged m 0 (Step a g e u (part_at (width a) r at-a))))
      (Either (If (slice_index r at == 0 && finished a (part_at (width a) r at-a)) (Tagged m 1 (Step b g e w (initial b))))
      (If (slice_index r at == 1) (Tagged m 1 (Step b g e w (part_at (width b) r at-b))))))
  sequence-arm a b u w m at-a at-b ev ew em ea eb =
      let n = shared_room a b in
      let et = cell-at r at n in
      let ep = part-behind r at n (width a) (omega arith) ∙ ap (part_at (width a) r) ea in
      let eq = part-behind r at n (width b) (omega arith) ∙ ap (part_at (width b) r) eb in
      same-way _ _ _
      (λ i. Either (If (et i == 0) (Tagged (em i) 0 (Step a g e (ev i) (ep i))))
      (Either (If (et i == 0 && finished a (ep i)) (Tagged (em i) 1 (Step b g e (ew i) (initial b))))
      (If (et i == 1) (Tagged (em i) 1 (Step b g e (ew i) (eq i))))))
      (sequence-ways a b (Step a g e v) (Step b g e v) (part_at (suc n) r at))

  pub closure-arm : (b : Tree) (w : Variables) (m at-b : ℕ) → v ≡ w → width b ≡ m → at + 1 ≡ at-b
      → Alike (Step (closure b) g e v (part_at (suc (width b)) r at))
      (Either (If (finished (closure b) (part_at (suc (width b)) r at)) (Tagged m 1 (Step b g e w (initial b))))
      (If (slice_index r at == 1) (Tagged m 1 (Step b g e w (part_at (width b) r at-b)))))
  closure-arm b w m at-b ew em eb =
      let n = width b in
      let et = cell-at r at n in
      let eq = part-behind r at n (width b) (omega arith) ∙ ap (part_at (width b) r) eb in
      same-way _ _ _
      (λ i. Either (If (finished (closure b) (part_at (suc n) r at)) (Tagged (em i) 1 (Step b g e (ew i) (initial b))))
      (If (et i == 1) (Tagged (em i) 1 (Step b g e (ew i) (eq i)))))
      (closure-ways b (Step b g e v) (part_at (suc n) r at))

  pub guard-arm : (guard : ℕ) (b : Tree) (w : Variables) (holds : Bool) (m at-b : ℕ) → v ≡ w → g guard v ≡ holds → width b ≡ m → at + 1 ≡ at-b
      → Alike (Step (guarded guard b) g e v (part_at (suc (width b)) r at))
      (Either (If (slice_index r at == 0 && holds) (Tagged m 1 (Step b g e w (initial b))))
      (If (slice_index r at == 1) (Tagged m 1 (Step b g e w (part_at (width b) r at-b)))))
  guard-arm guard b w holds m at-b ew eh em eb =
      let n = width b in
      let et = cell-at r at n in
      let eq = part-behind r at n (width b) (omega arith) ∙ ap (part_at (width b) r) eb in
      same-way _ _ _
      (λ i. Either (If (et i == 0 && eh i) (Tagged (em i) 1 (Step b g e (ew i) (initial b))))
      (If (et i == 1) (Tagged (em i) 1 (Step b g e (ew i) (eq i)))))
      (guard-ways (g guard v) b (Step b g e v) (part_at (suc n) r at))

  pub choice-arm : (a b : Tree) (u w : Variables) (m at-a at-b : ℕ) → v ≡ u → v ≡ w → shared_room a b ≡ m → at + 1 ≡ at-a → at + 1 ≡ at-b
      → Alike (Step (choice a b) g e v (part_at (suc (shared_room a b)) r at))
      (Either (If (slice_index r at == 0) (Tagged m 1 (Step a g e u (initial a))))
      (Either (If (slice_index r at == 0) (Tagged m 2 (Step b g e w (initial b))))
      (Either (If (slice_index r at == 1) (Tagged m 1 (Step a g e u (part_at (width a) r at-a))))
      (If (slice_index r at == 2) (Tagged m 2 (Step b g e w (part_at (width b) r at-b)))))))
  choice-arm a b u w m at-a at-b ev ew em ea eb =
      let n = shared_room a b in
      let et = cell-at r at n in
      let ep = part-behind r at n (width a) (omega arith) ∙ ap (part_at (width a) r) ea in
      let eq = part-behind r at n (width b) (omega arith) ∙ ap (part_at (width b) r) eb in
      same-way _ _ _
      (λ i. Either (If (et i == 0) (Tagged (em i) 1 (Step a g e (ev i) (initial a))))
      (Either (If (et i == 0) (Tagged (em i) 2 (Step b g e (ew i) (initial b))))
      (Either (If (et i == 1) (Tagged (em i) 1 (Step a g e (ev i) (ep i))))
      (If (et i == 2) (Tagged (em i) 2 (Step b g e (ew i) (eq i)))))))
      (choice-ways a b (Step a g e v) (Step b g e v) (part_at (suc n) r at))

  -- ---- side by side

  pub apart-arm : (labels : List ℕ) (a b : Tree) (u w : Variables) (at-a at-b : ℕ) → in_set e.label labels ≡ false → v ≡ u → v ≡ w → at ≡ at-a → at + width a ≡ at-b
      → Alike (Step (synchronisation labels a b) g e v (part_at (width a + width b) r at))
      (Either (Left (Step a g e u (part_at (width a) r at-a)) (part_at (width b) r at-b)) (Right (part_at (width a) r at-a) (Step b g e w (part_at (width b) r at-b))))
  apart-arm labels a b u w at-a at-b lone ev ew ea eb =
      let ep = part-left r at (width a) (width b) ∙ ap (part_at (width a) r) ea in
      let eq = fit-part-right r at (width a) (width b) ∙ ap (part_at (width b) r) eb in
      let s = part_at (width a + width b) r at in
      same-way _ _ _
      (λ i. Either (Left (Step a g e (ev i) (ep i)) (eq i)) (Right (ep i) (Step b g e (ew i) (eq i))))
      (subst (λ (t : Bool). Alike (SynchronisationRule t a b (Step a g e v) (Step b g e v) s) (Either (Left (Step a g e v (part a s)) (part b (drop (width a) s))) (Right (part a s) (Step b g e v (part b (drop (width a) s))))))
      (sym lone) (apart (synchronisation-ways false a b (Step a g e v) (Step b g e v) s)))
    where
      apart : {P L R J : Way} → Alike P (Either (If true L) (Either (If true R) (If false J))) → Alike P (Either L R)
      apart {P} {L} {R} {J} h = record { to = λ s p. out s (h.to s p); fro = λ s p. h.fro s (back s p) }
        where
          out : (s : Cells) → Either (If true L) (Either (If true R) (If false J)) s → Either L R s
          out s (inl x) = inl x.1
          out s (inr (inl x)) = inr x.1
          out s (inr (inr x)) = absurd (true≢false (sym x.0))

          back : (s : Cells) → Either L R s → Either (If true L) (Either (If true R) (If false J)) s
          back s (inl x) = inl (refl, x)
          back s (inr x) = inr (inl (refl, x))

  pub together-arm : (labels : List ℕ) (a b : Tree) (u w : Variables) (at-a at-b : ℕ) → in_set e.label labels ≡ true → v ≡ u → v ≡ w → at ≡ at-a → at + width a ≡ at-b
      → Alike (Step (synchronisation labels a b) g e v (part_at (width a + width b) r at))
      (Joined (Step a g e u (part_at (width a) r at-a)) (Step b g e w (part_at (width b) r at-b)))
  together-arm labels a b u w at-a at-b met ev ew ea eb =
      let ep = part-left r at (width a) (width b) ∙ ap (part_at (width a) r) ea in
      let eq = fit-part-right r at (width a) (width b) ∙ ap (part_at (width b) r) eb in
      let s = part_at (width a + width b) r at in
      same-way _ _ _
      (λ i. Joined (Step a g e (ev i) (ep i)) (Step b g e (ew i) (eq i)))
      (subst (λ (t : Bool). Alike (SynchronisationRule t a b (Step a g e v) (Step b g e v) s) (Joined (Step a g e v (part a s)) (Step b g e v (part b (drop (width a) s)))))
      (sym met) (both (synchronisation-ways true a b (Step a g e v) (Step b g e v) s)))
    where
      both : {P L R J : Way} → Alike P (Either (If false L) (Either (If false R) (If true J))) → Alike P J
      both {P} {L} {R} {J} h = record { to = λ s p. out s (h.to s p); fro = λ s p. h.fro s (inr (inr (refl, p))) }
        where
          out : (s : Cells) → Either (If false L) (Either (If false R) (If true J)) s → J s
          out s (inl x) = absurd (true≢false (sym x.0))
          out s (inr (inl x)) = absurd (true≢false (sym x.0))
          out s (inr (inr x)) = x.1

  -- ---- instance by instance

  pub one-arm : (xs labels : List ℕ) (b : Tree) (w : Variables) (at-b : ℕ) → in_set e.label labels ≡ false → v ≡ w → at ≡ at-b
      → Alike (Step (quantified_synchronisation xs labels b) g e v (part_at (times xs (width b)) r at)) (OneMoves (width b) (λ x. Step b g e (bound x w)) xs (part_at (times xs (width b)) r at-b))
  one-arm xs labels b w at-b lone ew ea =
      let s = part_at (times xs (width b)) r at in
      same-way _ _ _ (λ i. OneMoves (width b) (λ x. Step b g e (bound x (ew i))) xs (part_at (times xs (width b)) r (ea i)))
      (subst (λ (t : Bool). Alike (QuantifiedSynchronisationRule t xs b (λ x. Step b g e (bound x v)) s) (OneMoves (width b) (λ x. Step b g e (bound x v)) xs s)) (sym lone)
      (one (quantified-synchronisation-ways false xs b (λ x. Step b g e (bound x v)) s)))
    where
      one : {P O A : Way} → Alike P (Either (If true O) (If false A)) → Alike P O
      one {P} {O} {A} h = record { to = λ s p. out s (h.to s p); fro = λ s p. h.fro s (inl (refl, p)) }
        where
          out : (s : Cells) → Either (If true O) (If false A) s → O s
          out s (inl x) = x.1
          out s (inr x) = absurd (true≢false (sym x.0))

  pub all-arm : (xs labels : List ℕ) (b : Tree) (w : Variables) (at-b : ℕ) → in_set e.label labels ≡ true → has_value xs ≡ true → v ≡ w → at ≡ at-b
      → Alike (Step (quantified_synchronisation xs labels b) g e v (part_at (times xs (width b)) r at)) (AllMove (width b) (λ x. Step b g e (bound x w)) xs (part_at (times xs (width b)) r at-b))
  all-arm xs labels b w at-b met some ew ea =
      let s = part_at (times xs (width b)) r at in
      same-way _ _ _ (λ i. AllMove (width b) (λ x. Step b g e (bound x (ew i))) xs (part_at (times xs (width b)) r (ea i)))
      (subst (λ (t : Bool). Alike (QuantifiedSynchronisationRule t xs b (λ x. Step b g e (bound x v)) s) (AllMove (width b) (λ x. Step b g e (bound x v)) xs s)) (sym met)
      (all (has_value xs) some (quantified-synchronisation-ways true xs b (λ x. Step b g e (bound x v)) s)))
    where
      all : {P O A : Way} (some : Bool) → some ≡ true → Alike P (Either (If false O) (If some A)) → Alike P A
      all {P} {O} {A} some is h = record { to = λ s p. out s (h.to s p); fro = λ s p. h.fro s (inr (is, p)) }
        where
          out : (s : Cells) → Either (If false O) (If some A) s → A s
          out s (inl x) = absurd (true≢false (sym x.0))
          out s (inr x) = x.1

  pub none-arm : (labels : List ℕ) (b : Tree) (s r' : Cells) → in_set e.label labels ≡ true → Step (quantified_synchronisation [] labels b) g e v s r' → ⊥
  none-arm labels b s r' met h = at-once ((quantified-synchronisation-ways (in_set e.label labels) [] b (λ x. Step b g e (bound x v)) s).to r' h)
    where
      at-once : Either (If (not (in_set e.label labels)) (OneMoves (width b) (λ x. Step b g e (bound x v)) [] s)) (If (in_set e.label labels && false) (AllMove (width b) (λ x. Step b g e (bound x v)) [] s)) r' → ⊥
      at-once (inl x) = true≢false (sym x.0 ∙ ap not met)
      at-once (inr x) = true≢false (sym x.0 ∙ ap (λ (t : Bool). t && false) met)

  -- ---- some value

  pub chosen-arm : (xs : List ℕ) (b : Tree) (w : Variables) (m : ℕ) → slice_index r at ≡ 0 → v ≡ w → body_room xs b ≡ m
      → Alike (Step (quantified_choice xs b) g e v (part_at (suc (body_room xs b)) r at)) (Chosen m 0 (λ x. Step b g e (bound x w) (initial b)) xs)
  chosen-arm xs b w m none ew em =
      let n = body_room xs b in
      let s = part_at (suc n) r at in
      let et = cell-at r at n ∙ none in
      same-way _ _ _ (λ i. Chosen (em i) 0 (λ x. Step b g e (bound x (ew i)) (initial b)) xs)
      (first (cell s) et (quantified-choice-ways xs b (λ x. Step b g e (bound x v)) s))
    where
      first : {P C : Way} {Q : ℕ → Way} (tag : ℕ) → tag ≡ 0 → Alike P (Either (If (tag == 0) C) (Resumed (body_room xs b) Q xs tag)) → Alike P C
      first {P} {C} {Q} tag is h = record { to = λ s p. out s (h.to s p); fro = λ s p. h.fro s (inl (ap (λ (n : ℕ). n == 0) is, p)) }
        where
          out : (s : Cells) → Either (If (tag == 0) C) (Resumed (body_room xs b) Q xs tag) s → C s
          out s (inl x) = x.1
          out s (inr x) = absurd (resumed-zero (body_room xs b) Q xs tag s is x)

  pub resumed-arm : (xs : List ℕ) (b : Tree) (w : Variables) (m at-b : ℕ) → (slice_index r at ≡ 0 → ⊥) → v ≡ w → body_room xs b ≡ m → at + 1 ≡ at-b
      → Alike (Step (quantified_choice xs b) g e v (part_at (suc (body_room xs b)) r at)) (Resumed m (λ x. Step b g e (bound x w) (part_at (width b) r at-b)) xs (slice_index r at))
  resumed-arm [] b w m at-b some ew em ea = record { to = λ s p. absurd (nothing ((quantified-choice-ways [] b (λ x. Step b g e (bound x v)) _).to s p)); fro = λ s p. absurd (none-some p.1 p.3) }
    where
      nothing : {s : Cells} → Either (If (cell (part_at 1 r at) == 0) (Chosen 0 0 (λ x. Step b g e (bound x v) (initial b)) [])) (Resumed 0 (λ x. Step b g e (bound x v) (part b (rest (part_at 1 r at)))) [] (cell (part_at 1 r at))) s → ⊥
      nothing (inl x) = none-some x.1.1 x.1.2
      nothing (inr x) = none-some x.1 x.3
  resumed-arm (y ∷ ys) b w m at-b some ew em ea =
      let n = width b in
      let xs = y ∷ ys in
      let s = part_at (suc n) r at in
      let et = cell-at r at n in
      let eq = part-behind r at n (width b) (omega arith) ∙ ap (part_at (width b) r) ea in
      same-way _ _ _ (λ i. Resumed (em i) (λ x. Step b g e (bound x (ew i)) (eq i)) xs (et i))
      (later (cell s) (λ z. some (sym et ∙ z)) (quantified-choice-ways xs b (λ x. Step b g e (bound x v)) s))
    where
      later : {P C R : Way} (tag : ℕ) → (tag ≡ 0 → ⊥) → Alike P (Either (If (tag == 0) C) R) → Alike P R
      later {P} {C} {R} tag other h = record { to = λ s p. out s (h.to s p); fro = λ s p. h.fro s (inr p) }
        where
          out : (s : Cells) → Either (If (tag == 0) C) R s → R s
          out s (inl x) = absurd (other (eqb-true tag 0 x.0))
          out s (inr x) = x

  -- ---- a state, and its child behind it

  pub automaton-arm : (count start : ℕ) (mark : ℕ → Mark) (child : ℕ → Tree) (ws : List NumberedArrow) (c : Tree) (w : Variables) (m at-c : ℕ) → child (slice_index r at) ≡ c → width c ≤ child_room count child → v ≡ w → child_room count child ≡ m → at + 1 ≡ at-c
      → Alike (Step (automaton count start mark child ws) g e v (part_at (suc (child_room count child)) r at))
      (Either (Led count child ws g e v (part_at (suc (child_room count child)) r at)) (Tagged m (slice_index r at) (Step c g e w (part_at (width c) r at-c))))
  automaton-arm count start mark child ws c w m at-c ec fits ew em ea =
      let n = child_room count child in
      let s = part_at (suc n) r at in
      let et = cell-at r at n in
      let eq = part-behind r at n (width c) fits ∙ ap (part_at (width c) r) ea in
      let ch : child (cell s) ≡ c = ap child et ∙ ec in
      same-way _ _ _
      ((λ i. Either (Led count child ws g e v s) (Tagged n (cell s) (Step (ch i) g e v (part (ch i) (rest s)))))
      ∙ (λ i. Either (Led count child ws g e v s) (Tagged (em i) (et i) (Step c g e (ew i) (eq i)))))
      (automaton-ways count child ws g e v (λ q. Step (child q) g e v) s)

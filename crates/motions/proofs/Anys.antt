-- Whether there is a way: what decides it, and what is left of it under each operator.
use Rattle.std.proofs.Common.{◌≡◌, refl, ◌∙◌, ℕ, Bool, true, false, ◌&&◌, ◌||◌, true≢false, inl, inr, List, ◌++◌, length, sym}
use Rattle.event.specs.declared.event.Event.{Event}
use Rattle.host.specs.declared.variables.Variables.{Variables}
use Rattle.rules.specs.Trees.{Tree, Guards, bound}
use Rattle.rules.specs.Cells.{Cells, width, times, tagged}
use Rattle.rules.specs.Rules.{Step, AllMove}
use Rattle.rules.proofs.Widths.{step-width, all-keep}
use Rattle.motions.specs.Ways.{Way, Alike, Any, Long, If, Either, Tagged, Left, Right, Joined}
use Rattle.std.specs.Prelude.{Decides}

pub alike-sym : (P Q : Way) → Alike P Q → Alike Q P
alike-sym P Q a = record { to = a.fro; fro = a.to }

-- there is a way of one if there is one of the other
pub any-alike : (P Q : Way) → Alike P Q → Any P → Any Q
any-alike P Q a w = (w.0, a.to w.0 w.1)

-- a way behind a tag is a way
pub any-tagged : (m tag : ℕ) (P : Way) → Any P → Any (Tagged m tag P)
any-tagged m tag P w = (tagged m tag w.0, (w.0, w.1, refl))

pub any-tagged-back : (m tag : ℕ) (P : Way) → Any (Tagged m tag P) → Any P
any-tagged-back m tag P w = (w.1.0, w.1.1)

-- and so is one beside cells that stay
pub any-left : (P : Way) (q : Cells) → Any P → Any (Left P q)
any-left P q w = (w.0 ++ q, (w.0, w.1, refl))

pub any-left-back : (P : Way) (q : Cells) → Any (Left P q) → Any P
any-left-back P q w = (w.1.0, w.1.1)

pub any-right : (p : Cells) (P : Way) → Any P → Any (Right p P)
any-right p P w = (p ++ w.0, (w.0, w.1, refl))

pub any-right-back : (p : Cells) (P : Way) → Any (Right p P) → Any P
any-right-back p P w = (w.1.0, w.1.1)

-- both have a way exactly if together they have one
pub any-joined : (P Q : Way) → Any P → Any Q → Any (Joined P Q)
any-joined P Q u w = (u.0 ++ w.0, (u.0, w.0, u.1, w.1, refl))

pub any-joined-back : (P Q : Way) → Any (Joined P Q) → Any P × Any Q
any-joined-back P Q w = ((w.1.0, w.1.2), (w.1.1, w.1.3))

-- a way under a test that holds
pub any-if : (test : Bool) (P : Way) → test ≡ true → Any P → Any (If test P)
any-if test P t w = (w.0, (t, w.1))

-- none under one that does not
pub if-not : (test : Bool) (P : Way) → test ≡ false → Any (If test P) → ⊥
if-not test P t w = true≢false (sym w.1.0 ∙ t)

-- the first has a way, or the second has, and so one of them has
pub either-first : (P Q : Way) → Any P → Any (Either P Q)
either-first P Q w = (w.0, inl w.1)

pub either-second : (P Q : Way) → Any Q → Any (Either P Q)
either-second P Q w = (w.0, inr w.1)

-- neither has a way
pub either-neither : (P Q : Way) → (Any P → ⊥) → (Any Q → ⊥) → Any (Either P Q) → ⊥
either-neither P Q f g w = elim w.1 [ inl p ↦ f (w.0, p) | inr q ↦ g (w.0, q) ]

-- the first has none, or the second has none, and so they have none together
pub joined-not-first : (P Q : Way) → (Any P → ⊥) → Any (Joined P Q) → ⊥
joined-not-first P Q f w = f (w.1.0, w.1.2)

pub joined-not-second : (P Q : Way) → (Any Q → ⊥) → Any (Joined P Q) → ⊥
joined-not-second P Q f w = f (w.1.1, w.1.3)

-- an answer for one question is one for another that comes to the same
pub decides-by : (X Y : Type 0) (b : Bool) → (X → Y) → (Y → X) → Decides b X → Decides b Y
decides-by X Y b f g d = (λ t. f (d.0 t), λ y. d.1 (g y))

-- an answer no leaves nothing
pub decides-no : (X : Type 0) (b : Bool) → b ≡ false → Decides b X → X → ⊥
decides-no X b e d x = true≢false (sym (d.1 x) ∙ e)

pub decides-alike : (P Q : Way) (b : Bool) → Alike P Q → Decides b (Any P) → Decides b (Any Q)
decides-alike P Q b a d = decides-by (Any P) (Any Q) b (any-alike P Q a) (any-alike Q P (alike-sym P Q a)) d

pub decides-either : (P Q : Way) (b c : Bool) → Decides b (Any P) → Decides c (Any Q) → Decides (b || c) (Any (Either P Q))
decides-either P Q true c d e = (λ t. either-first P Q (d.0 refl), λ w. refl)
decides-either P Q false true d e = (λ t. either-second P Q (e.0 refl), λ w. refl)
decides-either P Q false false d e = (λ t. absurd (true≢false (sym t)), λ w. absurd (either-neither P Q (decides-no (Any P) false refl d) (decides-no (Any Q) false refl e) w))

pub decides-joined : (P Q : Way) (b c : Bool) → Decides b (Any P) → Decides c (Any Q) → Decides (b && c) (Any (Joined P Q))
decides-joined P Q true true d e = (λ t. any-joined P Q (d.0 refl) (e.0 refl), λ w. refl)
decides-joined P Q true false d e = (λ t. absurd (true≢false (sym t)), λ w. absurd (joined-not-second P Q (decides-no (Any Q) false refl e) w))
decides-joined P Q false c d e = (λ t. absurd (true≢false (sym t)), λ w. absurd (joined-not-first P Q (decides-no (Any P) false refl d) w))

pub decides-if : (test : Bool) (P : Way) (b : Bool) → Decides b (Any P) → Decides (test && b) (Any (If test P))
decides-if true P b d = (λ t. any-if true P refl (d.0 t), λ w. d.1 (w.0, w.1.1))
decides-if false P b d = (λ t. absurd (true≢false (sym t)), λ w. absurd (if-not false P refl w))

-- the ways of a part keep its width
pub long-step : (t : Tree) (g : Guards) (e : Event) (v : Variables) (r : Cells) → length r ≡ width t → Long (width t) (Step t g e v r)
long-step t g e v r l s h = step-width t g e v r s l h

pub long-all : (b : Tree) (g : Guards) (e : Event) (v : Variables) (xs : List ℕ) (r : Cells) → length r ≡ times xs (width b)
    → Long (times xs (width b)) (AllMove (width b) (λ x. Step b g e (bound x v)) xs r)
long-all b g e v xs r l s h = all-keep (width b) (λ x. Step b g e (bound x v)) (λ x. step-width b g e (bound x v)) xs r s l h

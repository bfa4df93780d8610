-- A table that is written entry by entry.
use Rattle.std.proofs.Common.{◌≡◌, refl, sym, subst, ℕ, zero, suc, ◌+◌, ◌<◌, ◌≤◌, ◌≢◌, List, [], ◌∷◌, length, set, replicate, Option, Some, None, ⊎_elim, ap, arith}
use Rattle.std.proofs.lemmas.Bool.{cases_eq, cases_lt}
use Rattle.std.proofs.lemmas.List.{get_or-replicate, length-replicate}
use Rattle.std.proofs.lemmas.Option.{slice_get_read}
use Rattle.std.specs.List.{slice_get}
use Rattle.event.specs.declared.event.Event.{Event}
use Rattle.notation.specs.declared.node.Node.TheVariants.{Guard}
use Rattle.rules.specs.Trees.{Guards}
use Rattle.diagram.specs.Plans.{nodes_of}
use Rattle.diagram.specs.Scopes.{binders_at}
use Rattle.diagram.specs.declared.binders.Binders.{Binders}
use Rattle.diagram.specs.declared.diagram.Diagram.{Diagram}
use Rattle.answers.specs.Answering.{rows_of, AreRows, AreOfNode}
use Rattle.answers.specs.declared.answers.Replies.{Replies}

pub entry-same : {X : Type 0} (xs : List X) (i : ℕ) (x : X) → i < length xs → slice_get (set xs i x) i ≡ Some x
entry-same [] i x h = absurd (omega arith)
entry-same (y ∷ xs) zero x h = refl
entry-same (y ∷ xs) (suc i) x h = entry-same xs i x (omega arith)

pub entry-other : {X : Type 0} (xs : List X) (i j : ℕ) (x : X) → j ≢ i → slice_get (set xs i x) j ≡ slice_get xs j
entry-other [] i j x ne = refl
entry-other (y ∷ xs) zero zero x ne = absurd (ne refl)
entry-other (y ∷ xs) zero (suc j) x ne = refl
entry-other (y ∷ xs) (suc i) zero x ne = refl
entry-other (y ∷ xs) (suc i) (suc j) x ne = entry-other xs i j x (λ e. ne (ap (λ (n : ℕ). suc n) e))

pub entry-replicate : {X : Type 0} (n i : ℕ) (x : X) → i < n → slice_get (replicate n x) i ≡ Some x
entry-replicate n i x h = slice_get_read (replicate n x) n i x (sym (length-replicate n x)) h (sym (get_or-replicate n i x x h))

-- each entry below n is one that Q has there
abbrev pub Below : {X : Type 0} → (ℕ → Option X → Type 0) → ℕ → List X → Type 0
Below Q n xs = (j : ℕ) → j < n → Q j (slice_get xs j)

pub below-set : {X : Type 0} (Q : ℕ → Option X → Type 0) (n : ℕ) (xs : List X) (x : X) → n < length xs → Below Q n xs → Q n (Some x) → Below Q (n + 1) (set xs n x)
below-set Q n xs x h below here j l =
    ⊎_elim
    (λ e. subst (λ (k : ℕ). Q k (slice_get (set xs n x) k)) (sym e) (subst (Q n) (sym (entry-same xs n x h)) here))
    (λ ne. subst (Q j) (sym (entry-other xs n j x ne)) (below j (omega arith)))
    (cases_eq j n)

pub below-all : {X : Type 0} (Q : ℕ → Option X → Type 0) (n : ℕ) (xs : List X) → Below Q n xs → ((j : ℕ) → n ≤ j → (o : Option X) → Q j o) → (j : ℕ) → Q j (slice_get xs j)
below-all Q n xs below past j = ⊎_elim (λ lt. below j lt) (λ ge. past j ge (slice_get xs j)) (cases_lt j n)

-- a node that is a guard gets its replies
pub guard-asked : (d : Diagram) (g : Guards) (e : Event) (i guard body : ℕ) (b : Binders) (r : Replies) → slice_get (nodes_of d.plan) i ≡ Some (Guard guard body) → b ≡ binders_at d.binders i
    → AreRows d g e (record { guard = guard; binders = b; arrow = None }) r.rows → AreOfNode d g e i (rows_of (Some r))
guard-asked d g e i guard body b r is above rows other below at =
    let same : guard ≡ other = cc in
    subst (λ (n : ℕ). AreRows d g e (record { guard = n; binders = binders_at d.binders i; arrow = None }) r.rows) same
    (subst (λ (c : Binders). AreRows d g e (record { guard = guard; binders = c; arrow = None }) r.rows) above rows)

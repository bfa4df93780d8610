-- How the reader keeps track of children: a table that has each node's parent, and the claims that a new node makes.
use Rattle.std.specs.Prelude.{◌≡◌, ℕ, cond, not, ◌&&◌, List, [], ◌∷◌, is_some, Some, None, Option, Result, MatchResult, nat_lt, slice_index_or, slice_set}
use Rattle.fault.specs.declared.fault.Fault.{Fault}
use Rattle.fault.specs.declared.fault.Question.TheVariants.{ChildrenFree}
use Rattle.procedure.specs.declared.claim.Claims.{Claims}

-- the table after node m claimed ks, each below m and nobody's child; none where one cannot be claimed
abbrev pub claims : ℕ → List (Option ℕ) → List ℕ → Option (List (Option ℕ))
claims m t [] = Some t
claims m t (k ∷ ks) = cond (nat_lt k m && not (is_some (slice_index_or t k None))) (claims m (slice_set t k (Some m)) ks) None

-- what a call that claims ks answers, and what it leaves unless it is refused
abbrev pub Claimed : Claims → List ℕ → Result (Unit {0}) Fault → Claims → Type 0
Claimed before ks r after =
    MatchResult r (λ _. (claims before.node before.parents ks ≡ Some after.parents) × (after.node ≡ before.node) × (after.place ≡ before.place))
    (λ f. (claims before.node before.parents ks ≡ None) × (f ≡ record { question = ChildrenFree; place = before.place }))

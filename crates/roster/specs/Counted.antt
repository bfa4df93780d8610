-- The law that a roster owes, for runs of values.
use Rattle.std.specs.Prelude.{◌≡◌, ℕ, ◌<◌, Some, None, Option}
use Rattle.std.proofs.Common.{sym, subst, ◌∙◌}
use Rattle.std.proofs.Math.Nat.{lt_trans, lt_irrefl, add_left_cancel}
use Rattle.std.proofs.lemmas.List.FromFn.{length-range_with_len, get_or-range_with_len}
use Rattle.roster.specs.Values.{NoneTwice}
use Rattle.roster.specs.Runs.{range_values}
use Rattle.roster.specs.declared.range.Range.{Range}

-- no value comes twice: each is its place above the first
pub counted-different : (entry : Option Range) → NoneTwice (range_values entry)
counted-different None = tt
counted-different (Some r) = λ i j lt l e.
    let j_in : j < r.count = subst (λ (n : ℕ). j < n) (length-range_with_len r.first r.count) l in
    let at_i = get_or-range_with_len r.first r.count i 0 (lt_trans lt j_in) in
    let at_j = get_or-range_with_len r.first r.count j 0 j_in in
    let same : i ≡ j = add_left_cancel r.first (sym at_i ∙ e ∙ at_j) in
    lt_irrefl j (subst (λ (n : ℕ). n < j) same lt)

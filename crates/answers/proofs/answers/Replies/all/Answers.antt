use Rattle.std.proofs.Common.{◌∙◌, ap, ℕ, ◌==◌, arith}
use Rattle.std.proofs.lemmas.List.{get_or-replicate}
use Rattle.std.proofs.lemmas.Nat.Bits.{bit_at_ones}
use Rattle.std.specs.Int.{bit_at}
use Rattle.answers.proofs.answers.Replies.all.Goals as goal

pub returns : goal.returns
returns c = λ outer inner o i. ap (λ (row : ℕ). bit_at row inner == 1) (get_or-replicate 17 outer 4294967295 0 o) ∙ ap (λ (b : ℕ). b == 1) (bit_at_ones 32 inner (omega arith))

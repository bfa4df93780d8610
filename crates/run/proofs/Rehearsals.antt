-- What a file draws that was read.
use Rattle.std.proofs.Common.{◌≡◌, sym, ap, subst, ℕ, List, Ok, Err, Result}
use Rattle.std.specs.Result.{IsOkAnd}
use Rattle.fault.specs.declared.fault.Fault.{Fault}
use Rattle.procedure.specs.Drawings.{Drawing}
use Rattle.procedure.specs.Reading.{reading, answer_of, left_by}
use Rattle.run.specs.Replays.{Draws}

-- a reading that is no refusal leaves what it gives
drawn : (x : Result Drawing Fault) (d : Drawing) (r : Result ℕ Fault) (n : ℕ) → r ≡ answer_of x → r ≡ Ok n → d ≡ left_by x → x ≡ Ok d
drawn (Ok e) d r n answer good left = ap Ok (sym left)
drawn (Err f) d r n answer good left = cc

-- what holds of what is left holds of what the file draws
pub draws : (file : List ℕ) (P : Drawing → Type 0) (d : Drawing) (r : Result ℕ Fault) (n : ℕ)
    → r ≡ answer_of (reading file) → r ≡ Ok n → d ≡ left_by (reading file) → P d → Draws file P
draws file P d r n answer good left p = subst (λ (x : Result Drawing Fault). IsOkAnd x P) (sym (drawn (reading file) d r n answer good left)) p

-- A table without an entry.
use Rattle.std.proofs.Common.{◌≡◌, refl, ℕ, zero, suc, Option, None}
use Rattle.std.specs.Prelude.{replicate, slice_index_or}

-- no guard has an entry
pub none_at : {X : Type 0} (n guard : ℕ) → slice_index_or {A = Option X} (replicate n None) guard None ≡ None
none_at zero guard = refl
none_at (suc n) zero = refl
none_at (suc n) (suc guard) = none_at n guard

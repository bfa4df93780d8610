-- The instances of a quantified synchronisation by position.
use Rattle.std.specs.Prelude.{◌≡◌, ℕ, zero, suc, ◌<◌, ◌≢◌, List, length, drop, slice_index}
use Rattle.rules.specs.Cells.{Cells, fit, times}
use Rattle.rules.specs.Rules.{Motion}

-- the cells of the instance at a position from 0, of n cells each
abbrev pub instance_at : ℕ → ℕ → Cells → Cells
instance_at n zero r = fit n r
instance_at n (suc i) r = instance_at n i (drop n r)

-- every instance moves, each under its own value, and nothing else is there afterwards
pub record EveryInstanceMoves (n : ℕ) (B : ℕ → Motion) (xs : List ℕ) (r r' : Cells) : Type 0 where
  pub long : length r' ≡ times xs n
  pub each : (i : ℕ) → i < length xs → B (slice_index xs i) (instance_at n i r) (instance_at n i r')

-- one instance moves, under its own value, the others stay as they are, and nothing else is there afterwards
pub record OneInstanceMoves (n : ℕ) (B : ℕ → Motion) (xs : List ℕ) (r r' : Cells) : Type 0 where
  pub long : length r' ≡ times xs n
  pub which : ℕ
  pub within : which < length xs
  pub moves : B (slice_index xs which) (instance_at n which r) (instance_at n which r')
  pub stay : (i : ℕ) → i < length xs → i ≢ which → instance_at n i r' ≡ instance_at n i r

-- A file that is a whole number of sound records.
use Rattle.std.specs.Prelude.{◌≡◌, ℕ, ◌<◌, true, List, length}
use Rattle.record.specs.Frames.{whole, exact}
use Rattle.procedure.specs.Reading.{start_of, ranged}

-- the file is n records, each whole, exact and with its fields in range
pub record Framed (b : List ℕ) (n : ℕ) : Type 0 where
  pub ends : start_of b n ≡ length b
  pub each-whole : (i : ℕ) → i < n → whole b (start_of b i) ≡ true
  pub each-exact : (i : ℕ) → i < n → exact b (start_of b i) ≡ true
  pub each-ranged : (i : ℕ) → i < n → ranged b (start_of b i) ≡ true

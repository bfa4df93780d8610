-- What was found stands in the first of some places.
use Rattle.std.proofs.Common.{sym, subst, ℕ, List, ◌++◌, take}
use Rattle.std.proofs.lemmas.List.{take-append-le}
use Rattle.std.specs.List.{All}
use Rattle.row.specs.declared.row.Row.{Row}
use Rattle.rules.specs.Cells.{Cells}
use Rattle.opened.specs.States.{FindsAll}
use Rattle.opened.proofs.Filled.{IsFilled}

pub found-filled : (width used : ℕ) (next : List Cells) (places rest : List Row) → FindsAll width next used places → All (IsFilled width) (take used (places ++ rest))
found-filled width used next places rest found = subst (λ (l : List Row). All (IsFilled width) l) (sym (take-append-le used places rest found.fits)) found.filled

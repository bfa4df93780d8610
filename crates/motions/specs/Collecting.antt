-- What is collected in an ordered list of rows.
use Rattle.std.specs.Prelude.{◌≡◌, ℕ, ◌<◌, ◌⊎◌, List, length, Result, MatchResult}
use mathlib.Core.List.{Memᴰ}
use Rattle.ordered.specs.Held.{held, room}
use Rattle.ordered.specs.Order.{Rising}
use Rattle.row.specs.Rows.{row_rank, OrderedRows}
use Rattle.row.specs.declared.row.Row.{Row}

-- `after` rises, and holds exactly what `before` held and the rows of X
pub record Gained (X : Row → Type 0) (before after : List Row) : Type 0 where
  pub rises : Rising row_rank after
  pub only : (y : Row) → Memᴰ y after → Memᴰ y before ⊎ X y
  pub all : (y : Row) → Memᴰ y before ⊎ X y → Memᴰ y after

-- there are more than n different rows that were in `before` or are of X: these, which rise and so have no repeats
pub record Exceeds (X : Row → Type 0) (n : ℕ) (before : List Row) : Type 0 where
  pub rows : List Row
  pub rises : Rising row_rank rows
  pub more : n < length rows
  pub only : (y : Row) → Memᴰ y rows → Memᴰ y before ⊎ X y

-- the rows of X fit into a list of n places with what it held before, or they overflow it
abbrev pub Adds : {E : Type 0} → (Row → Type 0) → ℕ → List Row → List Row → Result (Unit {0}) E → Type 0
Adds X n before after r = MatchResult r (λ _. Gained X before after) (λ _. Exceeds X n before)

-- what stays of a list that is added to: its room, and its lender
pub record Stays (before after : OrderedRows) : Type 0 where
  pub room : room after ≡ room before
  pub lender : after.places.ghost_name ≡ before.places.ghost_name

-- the same of a list over lent places
abbrev pub Added : {E : Type 0} → (Row → Type 0) → OrderedRows → OrderedRows → Result (Unit {0}) E → Type 0
Added X before after r = Adds X (room before) (held before) (held after) r

-- the same rows
pub record AlikeRows (X Z : Row → Type 0) : Type 0 where
  pub to : (y : Row) → X y → Z y
  pub fro : (y : Row) → Z y → X y

-- those of X and those of Y
abbrev pub EitherRow : (X Y : Row → Type 0) → Row → Type 0
EitherRow X Y y = X y ⊎ Y y

-- for each row x of a list, those of Y x
abbrev pub FromEach : List Row → (Row → Row → Type 0) → Row → Type 0
FromEach l Y y = (x : Row) × Memᴰ x l × Y x y

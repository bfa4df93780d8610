-- The order of rows is total, and a row is its cells.
use Rattle.std.specs.Prelude.{◌≡◌, ℕ, List, length}
use Rattle.std.specs.declared.cmp.Ordering.TheVariants.{Less, Equal}
use Rattle.std.specs.Ordering.{ordering_reverse}
use Rattle.std.proofs.Common.{ap, subst}
use Rattle.std.proofs.lemmas.Map.Lookups.{exact_bytes}
use Rattle.std.specs.Cmp.Lexicographic.{nat_list_cmp_total}
use Rattle.ordered.specs.Order.{Order}
use Rattle.row.specs.Rows.{cells_rank, row_rank}
use Rattle.row.specs.declared.row.Row.{Row}
use Rattle.row.specs.contracts.row.Row.{the_propositions}

pub cells-flip : (xs ys : List ℕ) → cells_rank xs ys ≡ ordering_reverse (cells_rank ys xs)
cells-flip = nat_list_cmp_total.antisymm

pub cells-chain : (xs ys zs : List ℕ) → cells_rank xs ys ≡ Less → cells_rank ys zs ≡ Less → cells_rank xs zs ≡ Less
cells-chain = nat_list_cmp_total.trans

pub cells-same : (xs ys : List ℕ) → cells_rank xs ys ≡ Equal → xs ≡ ys
cells-same = exact_bytes

pub cells_order : Order cells_rank
cells_order = record { flip = cells-flip; chain = cells-chain; same = cells-same }

-- a row is its cells
pub same-row : (x y : Row) → x.cells ≡ y.cells → x ≡ y
same-row x y p = subst (λ (cs : List ℕ). (full : length cs ≡ 48) → x ≡ record { cells = cs; full = full }) p (λ full. with-proof x.cells x.full full) y.full
  where
    with-proof : (cs : List ℕ) (f g : length cs ≡ 48) → ◌≡◌ {A = Row} (record { cells = cs; full = f }) (record { cells = cs; full = g })
    with-proof cs f g = ap (λ h. let r : Row = record { cells = cs; full = h.0 } in r) (the_propositions (cs, tt) (f, tt) (g, tt))

pub row_order : Order row_rank
row_order = record {
  flip = λ x y. cells_order.flip x.cells y.cells;
  chain = λ x y z. cells_order.chain x.cells y.cells z.cells;
  same = λ x y e. same-row x y (cells_order.same x.cells y.cells e);
}

use Rattle.std.proofs.Common.{rules, tests, ◌≡◌, ◌∙◌, ap, List}
use Rattle.std.specs.List.{list_any}
use Rattle.std.proofs.lemmas.Iterator.{YieldsList-from_slice}
use Rattle.std.proofs.lemmas.Iterator.Search.{any_from_yields_List}
use Rattle.row.specs.declared.row.Row.{Row}
use Rattle.opened.proofs.Finishes.{part_finished, finished-over}
use Rattle.opened.proofs.opened.Opened.is_finished.Goals as goal

pub returns : goal.returns
returns c =
    let o = c.args.self.now in
    let xs = c.rows.result.now in
    let e : c.any.result ≡ list_any (λ (row : Row). part_finished o o.root row) xs =
    any_from_yields_List (λ (row : Row). part_finished o o.root row) _ _ c.any.result c.any.ensures.ran (YieldsList-from_slice xs cc) (λ x b q k. search (rules, tests)) in
    record {
      says_whether_one_is_finished = e ∙ ap (λ (l : List Row). list_any (λ (row : Row). part_finished o o.root row) l) c.rows.ensures.are_those_in_use ∙ finished-over o;
    }

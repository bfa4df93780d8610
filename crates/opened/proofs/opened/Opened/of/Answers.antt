use Rattle.std.proofs.Common.{rules, ◌≡◌, ◌<◌, ◌≤◌, ◌∷◌, [], length, Some, ◌-◌, ap, sym, ◌∙◌, arith}
use Rattle.std.proofs.lemmas.List.Elements.{All-cons}
use Rattle.std.proofs.lemmas.Result.{err_from_is_err_and}
use Rattle.procedure.specs.Procedures.{drawing}
use Rattle.row.specs.declared.row.Row.{Row}
use Rattle.rules.specs.Cells.{Cells, fit, width, initial}
use Rattle.diagram.specs.Plans.{tree_at}
use Rattle.diagram.specs.declared.plan.Plan.{Plan}
use Rattle.opened.proofs.FirstRow.{root-begins, first-filled}
use Rattle.opened.proofs.KeptValues.{kept-trees}
use Rattle.opened.proofs.Openings.{types-refuse, widths-refuse, ceiling-refuses, opens}
use Rattle.opened.proofs.Planned.{plan-kept, wide-at, diagram-asked, plan-asked, root-told, taken-over}
use Rattle.opened.proofs.opened.Opened.of.Goals as goal

pub returns-in_err-types_known : goal.returns-in_err-types_known
returns-in_err-types_known g c =
    let p = err_from_is_err_and c.from_residual.result c.from_residual.ensures.1 in
    let some : 0 < length (drawing c.args.procedure.now).nodes = omega (arith, c.node_count.ensures.counts_nodes, c.if-node_count-eq0.false) in
    rw (p.1, p.2) (record { opens_or_tells_the_first_no = types-refuse (drawing c.args.procedure.now) (g.R.Roster.values c.args.roster.now) c.args.ceiling some c.in_err-types_known.field-0.0 c.in_err-types_known.ensures })

pub returns-in_err-diagram : goal.returns-in_err-diagram
returns-in_err-diagram g c =
    let p = err_from_is_err_and c.from_residual-in_err-diagram.result c.from_residual-in_err-diagram.ensures.1 in
    let now = c.args.procedure.now in
    let told = g.R.Roster.values c.args.roster.now in
    let some : 0 < length (drawing now).nodes = omega (arith, c.node_count.ensures.counts_nodes, c.if-node_count-eq0.false) in
    let plan : Plan = record { procedure = now; values = c.told_by.result } in
    let w = wide-at plan c.in_err-diagram.field-0.0 c.of.result c.of.ensures.keeps_the_plan_or_tells_the_lowest_wide_node c.in_err-diagram.ensures.cases (λ i e. search rules) in
    let types = c.in_ok-types_known.ensures in
    rw (p.1, p.2) (record { opens_or_tells_the_first_no = widths-refuse (drawing now) told c.args.ceiling some types c.in_err-diagram.field-0.0 (plan-asked now c.told_by.result told c.told_by.ensures.keeps_the_lists_that_fit types c.in_err-diagram.field-0.0 w) })

pub returns-then-ceiling-lt1 : goal.returns-then-ceiling-lt1
returns-then-ceiling-lt1 g c =
    let now = c.args.procedure.now in
    let told = g.R.Roster.values c.args.roster.now in
    let some : 0 < length (drawing now).nodes = omega (arith, c.node_count.ensures.counts_nodes, c.if-node_count-eq0.false) in
    let plan : Plan = record { procedure = now; values = c.told_by.result } in
    let same = plan-kept plan c.in_ok-diagram.diagram c.of.result c.of.ensures.keeps_the_plan_or_tells_the_lowest_wide_node c.in_ok-diagram.ensures.cases in
    let types = c.in_ok-types_known.ensures in
    let widths = diagram-asked now c.told_by.result told c.told_by.ensures.keeps_the_lists_that_fit types c.in_ok-diagram.diagram same in
    record { opens_or_tells_the_first_no = ceiling-refuses (drawing now) told c.args.ceiling some types widths c.then-ceiling-lt1.either ∙ ap Some (sym c.at-then-ceiling-lt1.ensures.is_this_question_at_the_place) }

pub invariant_of-held : goal.invariant_of-held
invariant_of-held g c =
    let d = c.in_ok-diagram.diagram in
    let h : width (tree_at d.plan c.from-node.result) ≤ 48 = omega (arith, c.width.ensures.is_the_width, c.width.ensures.is_within_a_row) in
    record {
      fits = omega arith;
      filled = All-cons (λ (row : Row). row.cells ≡ fit 48 (fit c.width.result row.cells)) c.begun-first.result [] (first-filled d c.from-node.result c.width.result c.begun-first.result.cells h c.width.ensures.is_the_width c.begun-first.ensures.begins c.begun-first.ensures.begins_in_an_empty_row) (λ k row lt. absurd (omega arith));
    }

pub returns : goal.returns
returns g c =
    let now = c.args.procedure.now in
    let told = g.R.Roster.values c.args.roster.now in
    let some : 0 < length (drawing now).nodes = omega (arith, c.node_count.ensures.counts_nodes, c.if-node_count-eq0.false) in
    let plan : Plan = record { procedure = now; values = c.told_by.result } in
    let d = c.in_ok-diagram.diagram in
    let same = plan-kept plan d c.of.result c.of.ensures.keeps_the_plan_or_tells_the_lowest_wide_node c.in_ok-diagram.ensures.cases in
    let types = c.in_ok-types_known.ensures in
    let keeps = c.told_by.ensures.keeps_the_lists_that_fit in
    let widths = diagram-asked now c.told_by.result told keeps types d same in
    let is_root = c.root.ensures.is_the_last_node in
    record {
      opens_or_tells_the_first_no = (
        opens (drawing now) told c.args.ceiling some types widths c.if-ceiling-lt1.false c.if-ceiling-gt128.false,
        record {
          takes_over = taken-over now c.told_by.result told keeps types d c.args.ceiling same;
          has_the_tree = kept-trees (drawing now) now.drawn told types (length (drawing now).nodes - 1);
          begins = ap (λ (s : Cells). s ∷ []) (root-begins d c.in_ok-root.root c.from-node.result c.width.result c.begun-first.result.cells (search rules) (search rules) c.width.ensures.is_the_width c.begun-first.ensures.begins ∙ ap initial (root-told now c.told_by.result told keeps types d same));
        },
      );
    }

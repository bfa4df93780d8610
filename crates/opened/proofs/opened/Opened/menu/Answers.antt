use Rattle.std.proofs.Common.{rules, sym, ◌∙◌, ap, ℕ, Err, Result}
use Rattle.fault.specs.declared.fault.Fault.{Fault}
use Rattle.opened.proofs.Menus.{first-menu, short-menu, written, listed-few, listed-many}
use Rattle.opened.proofs.Few.{menu-few}
use Rattle.opened.proofs.opened.Opened.menu.Goals as goal

pub returns-then-list-clause-answers_as_the_question_says : goal.returns-then-list-clause-answers_as_the_question_says
returns-then-list-clause-answers_as_the_question_says g c =
    let out = c.list.new.out in
    let l = c.list.ensures.lists_those_that_move c.over-out.ensures.holds_nothing in
    let first = first-menu c.args.self.now (g.H.GuardHost.meaning c.args.host.now) out c.list.result l in
    let short = short-menu c.args.self.now (g.H.GuardHost.meaning c.args.host.now) out c.list.result l in
    ap (λ (f : Fault). let r : Result ℕ Fault = Err f in r) c.at.ensures.is_this_question_at_the_place
    ∙ listed-many _ c.args.list.now c.over-out.result out c.over-out.ensures.lends_these_places c.list.ensures.keeps first (sym c.if-list.true ∙ short)

pub returns-then-list-clause-writes_the_menu : goal.returns-then-list-clause-writes_the_menu
returns-then-list-clause-writes_the_menu g c =
    let out = c.list.new.out in
    let l = c.list.ensures.lists_those_that_move c.over-out.ensures.holds_nothing in
    let first = first-menu c.args.self.now (g.H.GuardHost.meaning c.args.host.now) out c.list.result l in
    search rules ∙ written _ c.args.list.now c.over-out.result out c.over-out.ensures.lends_these_places c.list.ensures.keeps first

pub returns-then-list-clause-has_at_most_65536_events : goal.returns-then-list-clause-has_at_most_65536_events
returns-then-list-clause-has_at_most_65536_events g c = menu-few c.args.self.now (g.H.GuardHost.meaning c.args.host.now)

pub returns-clause-answers_as_the_question_says : goal.returns-clause-answers_as_the_question_says
returns-clause-answers_as_the_question_says g c =
    let out = c.list.new.out in
    let l = c.list.ensures.lists_those_that_move c.over-out.ensures.holds_nothing in
    let first = first-menu c.args.self.now (g.H.GuardHost.meaning c.args.host.now) out c.list.result l in
    let short = short-menu c.args.self.now (g.H.GuardHost.meaning c.args.host.now) out c.list.result l in
    listed-few _ c.args.list.now c.over-out.result out c.over-out.ensures.lends_these_places c.list.ensures.keeps first (sym c.if-list.false ∙ short) c.len.result c.len.ensures.counts_what_is_held

pub returns-clause-writes_the_menu : goal.returns-clause-writes_the_menu
returns-clause-writes_the_menu g c =
    let out = c.list.new.out in
    let l = c.list.ensures.lists_those_that_move c.over-out.ensures.holds_nothing in
    let first = first-menu c.args.self.now (g.H.GuardHost.meaning c.args.host.now) out c.list.result l in
    search rules ∙ written _ c.args.list.now c.over-out.result out c.over-out.ensures.lends_these_places c.list.ensures.keeps first

pub returns-clause-has_at_most_65536_events : goal.returns-clause-has_at_most_65536_events
returns-clause-has_at_most_65536_events g c = menu-few c.args.self.now (g.H.GuardHost.meaning c.args.host.now)

use Rattle.std.proofs.Common.{◌∙◌, ap, List, length, arith}
use Rattle.event.specs.declared.event.Event.{Event}
use Rattle.law.specs.Menus.{menu_answer, written_over}
use Rattle.run.proofs.Shown.{none-menu, some-menu, none-answer, none-written, shows-lawfully, offers-lawfully}
use Rattle.run.proofs.run.Run.menu.Goals as goal

pub returns-in-None-clause-answers_as_the_question_says : goal.returns-in-None-clause-answers_as_the_question_says
returns-in-None-clause-answers_as_the_question_says g c = none-answer _ (length c.args.list.now) (none-menu c.args.self.now (g.H.GuardHost.meaning c.args.host.now) c.in-None.is)

pub returns-in-None-clause-writes_the_first_events : goal.returns-in-None-clause-writes_the_first_events
returns-in-None-clause-writes_the_first_events g c = none-written _ c.args.list.now (none-menu c.args.self.now (g.H.GuardHost.meaning c.args.host.now) c.in-None.is)

pub returns-in-None-clause-has_at_most_65536_events : goal.returns-in-None-clause-has_at_most_65536_events
returns-in-None-clause-has_at_most_65536_events g c =
    rw (none-menu c.args.self.now (g.H.GuardHost.meaning c.args.host.now) c.in-None.is) (omega arith)

pub returns-in-None-clause-lists_exactly_the_events_with_which_a_chain_goes_on : goal.returns-in-None-clause-lists_exactly_the_events_with_which_a_chain_goes_on
returns-in-None-clause-lists_exactly_the_events_with_which_a_chain_goes_on g c =
    let none = none-menu c.args.self.now (g.H.GuardHost.meaning c.args.host.now) c.in-None.is in
    shows-lawfully c.args.self.now (g.H.GuardHost.meaning c.args.host.now) c.args.list.now c.args.list.now _ (none-answer _ (length c.args.list.now) none) (none-written _ c.args.list.now none)

pub returns-in-None-clause-an_offer_instead_would_be_refused_with_16_exactly_where_no_chain_goes_on :
    goal.returns-in-None-clause-an_offer_instead_would_be_refused_with_16_exactly_where_no_chain_goes_on
returns-in-None-clause-an_offer_instead_would_be_refused_with_16_exactly_where_no_chain_goes_on g c = offers-lawfully c.args.self.now (g.H.GuardHost.meaning c.args.host.now)

pub returns-in-Some-clause-lists_exactly_the_events_with_which_a_chain_goes_on : goal.returns-in-Some-clause-lists_exactly_the_events_with_which_a_chain_goes_on
returns-in-Some-clause-lists_exactly_the_events_with_which_a_chain_goes_on g c =
    let menu = some-menu c.args.self.now (g.H.GuardHost.meaning c.args.host.now) c.in-Some.opened c.in-Some.is in
    shows-lawfully c.args.self.now (g.H.GuardHost.meaning c.args.host.now) c.args.list.now c.menu.new.list c.menu.result
    (c.menu.ensures.answers_as_the_question_says ∙ ap (λ (l : List Event). menu_answer (length c.args.list.now) l) menu)
    (c.menu.ensures.writes_the_menu ∙ ap (λ (l : List Event). written_over l c.args.list.now) menu)

pub returns-in-Some-clause-an_offer_instead_would_be_refused_with_16_exactly_where_no_chain_goes_on :
    goal.returns-in-Some-clause-an_offer_instead_would_be_refused_with_16_exactly_where_no_chain_goes_on
returns-in-Some-clause-an_offer_instead_would_be_refused_with_16_exactly_where_no_chain_goes_on g c = offers-lawfully c.args.self.now (g.H.GuardHost.meaning c.args.host.now)

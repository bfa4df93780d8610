use Rattle.std.proofs.Common.{sym, ◌∙◌, ap, ℕ, Some, Ok, Err, Option, Result}
use Rattle.opened.specs.Opens.{OpenedWith}
use Rattle.std.proofs.lemmas.Result.{err_from_is_err_and}
use Rattle.fault.specs.Asking.{refusal}
use Rattle.fault.specs.declared.fault.Fault.{Fault}
use Rattle.event.specs.Forms.{form_asks}
use Rattle.run.specs.Runs.{opened_with_of, tree_in, ceiling_in, states}
use Rattle.opened.specs.States.{states_in}
use Rattle.run.proofs.OpenedRuns.{unopened-states}
use Rattle.run.proofs.Offered.{in-form, answered-unopened, answered-refused, answered-taken, held-next, law-without-chain, law-over-ceiling, law-taken, law-instead, law-keeps}
use Rattle.run.proofs.run.Run.offer.Goals as goal

-- src/calling.rt:65:9
pub returns-in_err-in_form-clause-another_event_instead_would_be_refused_with_16_exactly_where_no_chain_goes_on : goal.returns-in_err-in_form-clause-another_event_instead_would_be_refused_with_16_exactly_where_no_chain_goes_on
returns-in_err-in_form-clause-another_event_instead_would_be_refused_with_16_exactly_where_no_chain_goes_on g c =
    law-instead c.args.self.now (g.H.GuardHost.meaning c.args.host.now)

-- src/calling.rt:67:13
pub returns-in_default-clause-answers_as_the_questions_say : goal.returns-in_default-clause-answers_as_the_questions_say
returns-in_default-clause-answers_as_the_questions_say g c =
    let run = c.args.self.now in
    let now = g.H.GuardHost.meaning c.args.host.now in
    let e = c.args.event in
    let form = in-form tt (refusal (form_asks e)) c.in_form.result c.in_ok-in_form.was c.in_form.ensures.refuses_at_the_first_wrong_field in
    answered-unopened (tree_in run) (ceiling_in run) (states run) now e c.at.result (unopened-states run c.in_default.is) form c.at.ensures.is_this_question_at_the_place

-- src/calling.rt:67:13
pub returns-in_default-clause-refuses_with_16_exactly_where_no_chain_goes_on : goal.returns-in_default-clause-refuses_with_16_exactly_where_no_chain_goes_on
returns-in_default-clause-refuses_with_16_exactly_where_no_chain_goes_on g c =
    law-without-chain c.args.self.now (g.H.GuardHost.meaning c.args.host.now) c.args.event (Err c.at.result) (returns-in_default-clause-answers_as_the_questions_say g c)

-- src/calling.rt:67:13
pub returns-in_default-clause-refuses_with_17_exactly_where_more_ends_come_than_the_ceiling : goal.returns-in_default-clause-refuses_with_17_exactly_where_more_ends_come_than_the_ceiling
returns-in_default-clause-refuses_with_17_exactly_where_more_ends_come_than_the_ceiling g c =
    law-over-ceiling c.args.self.now (g.H.GuardHost.meaning c.args.host.now) c.args.event (Err c.at.result) (returns-in_default-clause-answers_as_the_questions_say g c)

-- src/calling.rt:67:13
pub returns-in_default-clause-another_event_instead_would_be_refused_with_16_exactly_where_no_chain_goes_on : goal.returns-in_default-clause-another_event_instead_would_be_refused_with_16_exactly_where_no_chain_goes_on
returns-in_default-clause-another_event_instead_would_be_refused_with_16_exactly_where_no_chain_goes_on g c =
    law-instead c.args.self.now (g.H.GuardHost.meaning c.args.host.now)

-- src/calling.rt:69:20
pub returns-in_err-count-clause-answers_as_the_questions_say : goal.returns-in_err-count-clause-answers_as_the_questions_say
returns-in_err-count-clause-answers_as_the_questions_say g c =
    let run = c.args.self.now in
    let now = g.H.GuardHost.meaning c.args.host.now in
    let e = c.args.event in
    let form = in-form tt (refusal (form_asks e)) c.in_form.result c.in_ok-in_form.was c.in_form.ensures.refuses_at_the_first_wrong_field in
    let r = err_from_is_err_and c.from_residual-in_err-count.result c.from_residual-in_err-count.ensures.1 in
    r.1 ∙ ap {B = Result ℕ Fault} Err r.2
    ∙ answered-refused run now c.in-Some.opened e c.in-Some.is form c.in_err-count.field-0.0 c.in_err-count.ensures.takes_the_next_states_or_tells_the_first_no.0

-- src/calling.rt:69:20
pub returns-in_err-count-clause-refuses_with_16_exactly_where_no_chain_goes_on : goal.returns-in_err-count-clause-refuses_with_16_exactly_where_no_chain_goes_on
returns-in_err-count-clause-refuses_with_16_exactly_where_no_chain_goes_on g c =
    law-without-chain c.args.self.now (g.H.GuardHost.meaning c.args.host.now) c.args.event c.from_residual-in_err-count.result (returns-in_err-count-clause-answers_as_the_questions_say g c)

-- src/calling.rt:69:20
pub returns-in_err-count-clause-refuses_with_17_exactly_where_more_ends_come_than_the_ceiling : goal.returns-in_err-count-clause-refuses_with_17_exactly_where_more_ends_come_than_the_ceiling
returns-in_err-count-clause-refuses_with_17_exactly_where_more_ends_come_than_the_ceiling g c =
    law-over-ceiling c.args.self.now (g.H.GuardHost.meaning c.args.host.now) c.args.event c.from_residual-in_err-count.result (returns-in_err-count-clause-answers_as_the_questions_say g c)

-- src/calling.rt:69:20
pub returns-in_err-count-clause-otherwise_takes_it_and_counts_the_ends : goal.returns-in_err-count-clause-otherwise_takes_it_and_counts_the_ends
returns-in_err-count-clause-otherwise_takes_it_and_counts_the_ends g c =
    law-taken c.args.self.now (g.H.GuardHost.meaning c.args.host.now) c.args.event c.from_residual-in_err-count.result (returns-in_err-count-clause-answers_as_the_questions_say g c)

-- src/calling.rt:69:20
pub returns-in_err-count-clause-another_event_instead_would_be_refused_with_16_exactly_where_no_chain_goes_on : goal.returns-in_err-count-clause-another_event_instead_would_be_refused_with_16_exactly_where_no_chain_goes_on
returns-in_err-count-clause-another_event_instead_would_be_refused_with_16_exactly_where_no_chain_goes_on g c =
    law-instead c.args.self.now (g.H.GuardHost.meaning c.args.host.now)

-- src/calling.rt:52:5
pub returns-clause-answers_as_the_questions_say : goal.returns-clause-answers_as_the_questions_say
returns-clause-answers_as_the_questions_say g c =
    let run = c.args.self.now in
    let now = g.H.GuardHost.meaning c.args.host.now in
    let e = c.args.event in
    let form = in-form tt (refusal (form_asks e)) c.in_form.result c.in_ok-in_form.was c.in_form.ensures.refuses_at_the_first_wrong_field in
    let next = c.in_ok-count.ensures.takes_the_next_states_or_tells_the_first_no in
    answered-taken run now c.in-Some.opened e c.in-Some.is form c.in_ok-count.count next.0 next.2

-- src/calling.rt:52:5
pub returns-clause-stands_as_the_law_says : goal.returns-clause-stands_as_the_law_says
returns-clause-stands_as_the_law_says g c =
    let run = c.args.self.now in
    let now = g.H.GuardHost.meaning c.args.host.now in
    let e = c.args.event in
    let next = c.in_ok-count.ensures.takes_the_next_states_or_tells_the_first_no in
    law-keeps run now e (Ok c.in_ok-count.count) _ _
    (ap {B = Option OpenedWith} Some c.advance.ensures.keeps_what_it_was_opened_with ∙ ap opened_with_of (sym c.in-Some.is))
    (held-next run now c.in-Some.opened e c.in-Some.is c.in_ok-count.count (states_in c.advance.new.self.held) next.1)
    c.tell.ensures.answers_as_after_the_event

-- src/calling.rt:52:5
pub returns-clause-refuses_with_16_exactly_where_no_chain_goes_on : goal.returns-clause-refuses_with_16_exactly_where_no_chain_goes_on
returns-clause-refuses_with_16_exactly_where_no_chain_goes_on g c =
    law-without-chain c.args.self.now (g.H.GuardHost.meaning c.args.host.now) c.args.event (Ok c.in_ok-count.count) (returns-clause-answers_as_the_questions_say g c)

-- src/calling.rt:52:5
pub returns-clause-refuses_with_17_exactly_where_more_ends_come_than_the_ceiling : goal.returns-clause-refuses_with_17_exactly_where_more_ends_come_than_the_ceiling
returns-clause-refuses_with_17_exactly_where_more_ends_come_than_the_ceiling g c =
    law-over-ceiling c.args.self.now (g.H.GuardHost.meaning c.args.host.now) c.args.event (Ok c.in_ok-count.count) (returns-clause-answers_as_the_questions_say g c)

-- src/calling.rt:52:5
pub returns-clause-otherwise_takes_it_and_counts_the_ends : goal.returns-clause-otherwise_takes_it_and_counts_the_ends
returns-clause-otherwise_takes_it_and_counts_the_ends g c =
    law-taken c.args.self.now (g.H.GuardHost.meaning c.args.host.now) c.args.event (Ok c.in_ok-count.count) (returns-clause-answers_as_the_questions_say g c)

-- src/calling.rt:52:5
pub returns-clause-another_event_instead_would_be_refused_with_16_exactly_where_no_chain_goes_on : goal.returns-clause-another_event_instead_would_be_refused_with_16_exactly_where_no_chain_goes_on
returns-clause-another_event_instead_would_be_refused_with_16_exactly_where_no_chain_goes_on g c =
    law-instead c.args.self.now (g.H.GuardHost.meaning c.args.host.now)

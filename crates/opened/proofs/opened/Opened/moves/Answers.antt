use Rattle.std.proofs.Common.{sym, ◌∙◌, ap, true, []}
use Rattle.std.specs.List.{list_any}
use Rattle.event.specs.declared.event.Event.{Event}
use Rattle.rules.specs.Trees.{Guards}
use Rattle.rules.specs.Candidates.{some_moves}
use Rattle.rules.specs.Chains.{answers_after}
use Rattle.rules.proofs.Willing.{none-moves}
use Rattle.diagram.specs.Plans.{arrows_in}
use Rattle.opened.specs.Guarding.{is_guarded}
use Rattle.opened.proofs.Unguarded.{unguarded-agrees}
use Rattle.opened.specs.Opens.{tree_of_opened}
use Rattle.opened.specs.States.{states_in}
use Rattle.opened.proofs.opened.Opened.moves.Goals as goal

-- what would not move if every guard said yes
pub returns-then-not-moves_by : goal.returns-then-not-moves_by
returns-then-not-moves_by g c =
    let o = c.args.self.now in
    let t = tree_of_opened o in
    let yes : Guards = λ guard v. true in
    let tables = c.args.tables.now in
    let willing = c.to.ensures.agrees_with_a_host_that_says_yes o.diagram c.requires.are_enough tables.says_yes_for_nodes tables.says_yes_for_arrows in
    let at-event = ap (λ (e : Event). some_moves t yes e (states_in o.held)) c.to.ensures.answers_to_the_event in
    sym (none-moves t (answers_after (g.H.GuardHost.meaning c.args.host.now) [] c.args.event) c.args.event (states_in o.held) (sym at-event ∙ sym (c.moves_by.ensures yes willing) ∙ c.if-not-moves_by.true))

-- what would, where no guard has a say
pub returns-then-not-has_guarded_arrow : goal.returns-then-not-has_guarded_arrow
returns-then-not-has_guarded_arrow g c =
    let o = c.args.self.now in
    let a = c.to.result in
    let guards = answers_after (g.H.GuardHost.meaning c.args.host.now) [] c.args.event in
    let no-node = sym c.has_guard.ensures ∙ c.if-not-has_guard.true in
    let no-arrow = sym c.has_guarded_arrow.ensures ∙ c.if-not-has_guarded_arrow.true in
    let same-label = ap (λ (e : Event). list_any (is_guarded e.label) (arrows_in o.diagram.plan)) c.to.ensures.answers_to_the_event in
    sym c.if-not-moves_by.false
    ∙ c.moves_by.ensures guards (unguarded-agrees o.diagram a guards no-node (same-label ∙ no-arrow))
    ∙ ap (λ (e : Event). some_moves (tree_of_opened o) guards e (states_in o.held)) c.to.ensures.answers_to_the_event

-- what the host was asked for
pub returns : goal.returns
returns g c =
    let o = c.args.self.now in
    let guards = answers_after (g.H.GuardHost.meaning c.args.host.now) [] c.args.event in
    c.moves_by-2.ensures guards c.ask.ensures.agrees_with_the_host ∙ ap (λ (e : Event). some_moves (tree_of_opened o) guards e (states_in o.held)) c.ask.ensures.answers_to_the_event

use Rattle.std.proofs.Common.{◌≡◌, refl, sym, ◌∙◌, subst, ℕ, ◌+◌, ◌-◌, length, arith}
use Rattle.law.specs.declared.call.Call.TheVariants.{Offer}
use Rattle.run.proofs.Replays.{made-none, made-answers, made-places, made-all}
use Rattle.run.proofs.Stands.{Replayed, went-none, one-more, replayed}
use Rattle.run.proofs.run.Run.replay.Given.{Over}
use Rattle.run.proofs.run.Run.replay.Goals as goal
use Rattle.run.proofs.run.Run.replay.Goals.{then-made-answers-via-then-made-answers, then-made-answers-via-else-made-answers+then-events-at}

pub loop-made-init : goal.loop-made-init
loop-made-init g c =
    let cs = c.args.calls.now in
    (made-none cs c.args.answers.now c.args.events.now, went-none c.args.self.now (g.H.GuardHost.meaning c.args.host.now))

pub loop-made-preserved : goal.loop-made-preserved
loop-made-preserved g c =
    let e = c.make-answer.ensures in
    one-more c.args.self.now (g.H.GuardHost.meaning c.args.host.now) c.args.calls.now c.args.answers.now c.args.events.now c.loop-made.made c.loop-made.at
    c.loop-made.answers c.loop-made.events c.loop-made.self (g.H.GuardHost.meaning c.loop-made.host) c.loop-made.invariant.0 c.loop-made.invariant.1
    (Offer (record { label = 0; count = 0; first = 0; second = 0 })) _ c.places_of-places.result (c.loop-made.at + c.places_of-places.result - c.loop-made.at)
    c.make-answer.result c.make-answer.new.places c.make-answer.new.self (g.H.GuardHost.meaning c.make-answer.new.host)
    refl c.loop-made-test.true c.if-made-answers.false c.places_of-places.ensures (omega arith) (omega arith) c.make-answer.auto.places
    e.comes_to_what_is_computed e.writes_what_it_lists e.holds_the_states_after_it e.tells_the_host_what_was_taken e.keeps_what_it_was_opened_with

-- the calls that were made when there was no more room
made : (g : Over) (c : goal.Joined-then-made-answers g)
    → Replayed c.args.self.now (g.H.GuardHost.meaning c.args.host.now) c.args.calls.now c.args.answers.now c.args.events.now c.loop-made.made
    c.loop-made.answers c.loop-made.events c.loop-made.self (g.H.GuardHost.meaning c.loop-made.host)
made g c =
    replayed c.args.self.now (g.H.GuardHost.meaning c.args.host.now) c.args.calls.now c.args.answers.now c.args.events.now c.loop-made.made c.loop-made.at
    c.loop-made.answers c.loop-made.events c.loop-made.self (g.H.GuardHost.meaning c.loop-made.host) c.loop-made.invariant.0 c.loop-made.invariant.1

pub returns-then-made-answers-clause-makes_as_many_calls_as_there_is_room_for :
    goal.returns-then-made-answers-clause-makes_as_many_calls_as_there_is_room_for
returns-then-made-answers-clause-makes_as_many_calls_as_there_is_room_for g c =
    let m = c.loop-made.invariant.0 in
    elim c.then-made-answers.branch [
      | then-made-answers-via-then-made-answers w ↦ made-answers c.args.calls.now _ c.args.answers.now c.loop-made.answers c.args.events.now c.loop-made.events c.loop-made.made c.loop-made.at m (omega (arith, w.if-made-answers.true, m.as_many))
      | then-made-answers-via-else-made-answers+then-events-at w ↦
          made-places c.args.calls.now _ c.args.answers.now c.loop-made.answers c.args.events.now c.loop-made.events c.loop-made.made c.loop-made.at m _ c.places_of-places.result c.loop-made-test.true
          c.places_of-places.ensures w.if-events-at.true
    ]

pub returns-then-made-answers-clause-logs_what_each_comes_to :
    goal.returns-then-made-answers-clause-logs_what_each_comes_to
returns-then-made-answers-clause-logs_what_each_comes_to g c = (made g c).logs

pub returns-then-made-answers-clause-leaves_later_answers :
    goal.returns-then-made-answers-clause-leaves_later_answers
returns-then-made-answers-clause-leaves_later_answers g c = (made g c).leaves_answers

pub returns-then-made-answers-clause-leaves_later_places :
    goal.returns-then-made-answers-clause-leaves_later_places
returns-then-made-answers-clause-leaves_later_places g c = (made g c).leaves_places

pub returns-then-made-answers-clause-holds_the_states_after_them :
    goal.returns-then-made-answers-clause-holds_the_states_after_them
returns-then-made-answers-clause-holds_the_states_after_them g c = (made g c).holds

pub returns-then-made-answers-clause-tells_the_host_what_was_taken :
    goal.returns-then-made-answers-clause-tells_the_host_what_was_taken
returns-then-made-answers-clause-tells_the_host_what_was_taken g c = (made g c).tells

pub returns-then-made-answers-clause-keeps_what_it_was_opened_with :
    goal.returns-then-made-answers-clause-keeps_what_it_was_opened_with
returns-then-made-answers-clause-keeps_what_it_was_opened_with g c = (made g c).keeps

pub returns-then-made-answers-clause-stands_as_the_law_says :
    goal.returns-then-made-answers-clause-stands_as_the_law_says
returns-then-made-answers-clause-stands_as_the_law_says g c = (made g c).stands

pub returns-then-made-answers-clause-every_call_obeys_the_law :
    goal.returns-then-made-answers-clause-every_call_obeys_the_law
returns-then-made-answers-clause-every_call_obeys_the_law g c = (made g c).lawful

-- all calls were made
all-made : (g : Over) (c : goal.After-loop-made g) → c.loop-made.made ≡ length c.args.calls.now
all-made g c = omega (arith, c.loop-made-test.false, c.loop-made.invariant.0.within)

-- and that is left
ended : (g : Over) (c : goal.After-loop-made g)
    → Replayed c.args.self.now (g.H.GuardHost.meaning c.args.host.now) c.args.calls.now c.args.answers.now c.args.events.now (length c.args.calls.now)
    c.loop-made.answers c.loop-made.events c.loop-made.self (g.H.GuardHost.meaning c.loop-made.host)
ended g c =
    subst (λ (n : ℕ). Replayed c.args.self.now (g.H.GuardHost.meaning c.args.host.now) c.args.calls.now c.args.answers.now c.args.events.now n
    c.loop-made.answers c.loop-made.events c.loop-made.self (g.H.GuardHost.meaning c.loop-made.host)) (all-made g c)
    (replayed c.args.self.now (g.H.GuardHost.meaning c.args.host.now) c.args.calls.now c.args.answers.now c.args.events.now c.loop-made.made c.loop-made.at
    c.loop-made.answers c.loop-made.events c.loop-made.self (g.H.GuardHost.meaning c.loop-made.host) c.loop-made.invariant.0 c.loop-made.invariant.1)

pub returns-clause-makes_as_many_calls_as_there_is_room_for : goal.returns-clause-makes_as_many_calls_as_there_is_room_for
returns-clause-makes_as_many_calls_as_there_is_room_for g c =
    sym (all-made g c) ∙ made-all c.args.calls.now _ c.args.answers.now c.loop-made.answers c.args.events.now c.loop-made.events c.loop-made.made c.loop-made.at c.loop-made.invariant.0 c.loop-made-test.false

pub returns-clause-logs_what_each_comes_to : goal.returns-clause-logs_what_each_comes_to
returns-clause-logs_what_each_comes_to g c = (ended g c).logs

pub returns-clause-leaves_later_answers : goal.returns-clause-leaves_later_answers
returns-clause-leaves_later_answers g c = (ended g c).leaves_answers

pub returns-clause-leaves_later_places : goal.returns-clause-leaves_later_places
returns-clause-leaves_later_places g c = (ended g c).leaves_places

pub returns-clause-holds_the_states_after_them : goal.returns-clause-holds_the_states_after_them
returns-clause-holds_the_states_after_them g c = (ended g c).holds

pub returns-clause-tells_the_host_what_was_taken : goal.returns-clause-tells_the_host_what_was_taken
returns-clause-tells_the_host_what_was_taken g c = (ended g c).tells

pub returns-clause-keeps_what_it_was_opened_with : goal.returns-clause-keeps_what_it_was_opened_with
returns-clause-keeps_what_it_was_opened_with g c = (ended g c).keeps

pub returns-clause-stands_as_the_law_says : goal.returns-clause-stands_as_the_law_says
returns-clause-stands_as_the_law_says g c = (ended g c).stands

pub returns-clause-every_call_obeys_the_law : goal.returns-clause-every_call_obeys_the_law
returns-clause-every_call_obeys_the_law g c = (ended g c).lawful

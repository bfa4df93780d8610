use Rattle.std.proofs.Common.{◌≡◌, ◌∙◌, ℕ, List, length, Option}
use Rattle.procedure.specs.Procedures.{drawing}
use Rattle.roster.specs.Runs.{ranges_values}
use Rattle.boundary.specs.Texts.{page, said}
use Rattle.boundary.specs.Playing.{standing, unopened, call_numbers, calls_numbers}
use Rattle.boundary.proofs.Pages.{rest-said}
use Rattle.boundary.proofs.Calls.{call-made}
use Rattle.boundary.proofs.playing.play.Goals as goal

pub loop-numbers-preserved : goal.loop-numbers-preserved
loop-numbers-preserved g c =
    let steps = c.in-Some.ensures.steps in
    let all : List ℕ = c.loop-numbers.numbers-iterator.rest.now in
    let rest : List ℕ = c.next.new.self.rest.now in
    let x : List ℕ = c.in-Some.numbers.now in
    let five : length x ≡ 5 = steps.1.1 ∙ c.loop-numbers.invariant.by_five in
    let d = drawing c.args.procedure.now in
    let told : ℕ → Option (List ℕ) = ranges_values c.args.ranges.now.entries in
    let before = standing c.loop-numbers.run (g.H.GuardHost.meaning c.loop-numbers.host) in
    let after = standing c.make-at.new.run (g.H.GuardHost.meaning c.make-at.new.host) in
    let whole = said (calls_numbers d told (unopened (g.H.GuardHost.meaning c.args.host.now)) c.args.numbers.now) (page c.args.out.now c.args.at) in
    record {
      by_five = steps.0 ∙ c.loop-numbers.invariant.by_five;
      has_all_places = c.make-at.auto.list ∙ c.loop-numbers.invariant.has_all_places;
      says = rest-said (calls_numbers d told before all) (call_numbers d told before c.of.result) (calls_numbers d told after rest)
          (page c.loop-numbers.out c.loop-numbers.at) (page c.make-at.new.out c.make-at.result) whole
          (call-made d told before after c.of.result all x rest five steps.1.0 c.of.ensures c.make-at.ensures.stands_as_after_it)
          c.make-at.ensures.says_what_it_comes_to c.loop-numbers.invariant.says;
    }

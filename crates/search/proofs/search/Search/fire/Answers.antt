-- The rows of each arrow that is looked at are added to those of the arrows before it.
use Rattle.std.proofs.Common.{◌≡◌, ap, ◌∙◌, ◌+◌, ◌≤◌, length, Ok, Err, slice_index, slice_index_or, arith}
use Rattle.std.proofs.lemmas.Result.{MatchResult-from_err}
use Rattle.std.proofs.lemmas.List.{length-map}
use Rattle.notation.specs.Parts.{blank_arrow}
use Rattle.ordered.specs.Held.{held, room}
use Rattle.procedure.specs.Procedures.{drawing}
use Rattle.rules.specs.Growing.{state_of}
use Rattle.motions.proofs.Adds.{stays-then, adds-overflow, gained-alike}
use Rattle.diagram.specs.Plans.{arrows_in}
use Rattle.search.specs.Searching.{Follows}
use Rattle.search.specs.declared.overflow.Overflow.{Overflow}
use Rattle.search.proofs.Fires.{FromArrows, First, fired-some, fired-all, added-fired}
use Rattle.search.proofs.Looked.{numbered, looked, looked-all}
use Rattle.search.proofs.search.Search.fire.Goals as goal

pub bounds-arrows-number : goal.bounds-arrows-number
bounds-arrows-number c =
    let ws = arrows_in c.args.self.now.diagram.now.plan in
    let all : c.arrows-arrows.result.now ≡ ws = c.arrows-arrows.ensures.tells_the_arrows ∙ ap (λ p. (drawing p).arrows) c.procedure.ensures.is_the_plans in
    (looked ws c.args.part.node c.args.self.now.answers.now.event.label c.looked_at-numbers.result.now c.looked_at-numbers.ensures c.loop-short.short-index c.from-number.result c.loop-short-test.true c.from-number.ensures c.arrows-arrows.result.now all).there

pub returns-in_err-follow-clause-adds : goal.returns-in_err-follow-clause-adds
returns-in_err-follow-clause-adds c = λ g agrees.
    let d = c.args.self.now.diagram.now in
    let a = c.args.self.now.answers.now in
    let p = c.args.part in
    let s = c.args.states.now in
    let q = slice_index c.args.row.now.cells p.at in
    let to = Follows d a g p s q (state_of s q).child c.args.row.now in
    let ws = arrows_in d.plan in
    let n = c.loop-short.short-index in
    let numbers = c.looked_at-numbers.result.now in
    let all : c.arrows-arrows.result.now ≡ ws = c.arrows-arrows.ensures.tells_the_arrows ∙ ap (λ p. (drawing p).arrows) c.procedure.ensures.is_the_plans in
    let at = looked ws p.node a.event.label numbers c.looked_at-numbers.ensures n c.from-number.result c.loop-short-test.true c.from-number.ensures c.arrows-arrows.result.now all in
    let w = slice_index_or c.arrows-arrows.result.now c.from-number.result blank_arrow in
    let before = c.args.out.now in
    let only = looked-all ws p.node a.event.label numbers c.looked_at-numbers.ensures to (λ x y f. (f.0.0, f.0.1.carries.label)) in
    let many = added-fired (numbered ws numbers) to {E = Overflow} n w before c.loop-short.out c.follow.new.out (Err c.in_err-follow.field-0.0) at.is_looked_at
    c.loop-short.invariant.stays (c.loop-short.invariant.adds g agrees) (c.in_err-follow.ensures.adds g agrees at.is_arrow) in
    MatchResult-from_err c.from_residual.result _ _ c.from_residual.ensures.0
    (λ y. adds-overflow (First (numbered ws numbers) to (n + 1)) (FromArrows to ws) (room before) (held before) many (λ x f. only.to x (fired-some (numbered ws numbers) to (n + 1) x f)))

pub loop-short-preserved : goal.loop-short-preserved
loop-short-preserved c = record {
  stays = stays-then c.args.out.now c.loop-short.out c.follow.new.out c.loop-short.invariant.stays c.in_ok-follow.ensures.stays;
  adds = λ g agrees.
      let d = c.args.self.now.diagram.now in
      let a = c.args.self.now.answers.now in
      let p = c.args.part in
      let s = c.args.states.now in
      let q = slice_index c.args.row.now.cells p.at in
      let to = Follows d a g p s q (state_of s q).child c.args.row.now in
      let ws = arrows_in d.plan in
      let n = c.loop-short.short-index in
      let numbers = c.looked_at-numbers.result.now in
      let all : c.arrows-arrows.result.now ≡ ws = c.arrows-arrows.ensures.tells_the_arrows ∙ ap (λ p. (drawing p).arrows) c.procedure.ensures.is_the_plans in
      let at = looked ws p.node a.event.label numbers c.looked_at-numbers.ensures n c.from-number.result c.loop-short-test.true c.from-number.ensures c.arrows-arrows.result.now all in
      let w = slice_index_or c.arrows-arrows.result.now c.from-number.result blank_arrow in
      added-fired (numbered ws numbers) to {E = Overflow} n w c.args.out.now c.loop-short.out c.follow.new.out (Ok c.in_ok-follow.field-0) at.is_looked_at
      c.loop-short.invariant.stays (c.loop-short.invariant.adds g agrees) (c.in_ok-follow.ensures.adds g agrees at.is_arrow);
}

pub returns-clause-adds : goal.returns-clause-adds
returns-clause-adds c = λ g agrees.
    let d = c.args.self.now.diagram.now in
    let a = c.args.self.now.answers.now in
    let p = c.args.part in
    let s = c.args.states.now in
    let q = slice_index c.args.row.now.cells p.at in
    let to = Follows d a g p s q (state_of s q).child c.args.row.now in
    let ws = arrows_in d.plan in
    let n = c.loop-short.short-index in
    let numbers = c.looked_at-numbers.result.now in
    let long = length-map numbers (λ k. slice_index_or ws k blank_arrow) in
    let past : length (numbered ws numbers) ≤ n = omega (arith, long, c.loop-short-test.false) in
    let mine = gained-alike (First (numbered ws numbers) to n) (FromArrows to (numbered ws numbers)) (held c.args.out.now) (held c.loop-short.out) (fired-all (numbered ws numbers) to n past) (c.loop-short.invariant.adds g agrees) in
    gained-alike (FromArrows to (numbered ws numbers)) (FromArrows to ws) (held c.args.out.now) (held c.loop-short.out)
    (looked-all ws p.node a.event.label numbers c.looked_at-numbers.ensures to (λ x y f. (f.0.0, f.0.1.carries.label))) mine

-- The successors in each row are added to those in the rows before it.
use Rattle.std.proofs.Common.{refl, arith}
use Rattle.motions.proofs.Adds.{stays-then}
use Rattle.search.specs.Searching.{Reached}
use Rattle.search.proofs.Rounds.{early, after-rounds, next-round, last-round}
use Rattle.search.proofs.search.Search.each.Goals as goal

pub loop-row-preserved : goal.loop-row-preserved
loop-row-preserved c =
    let stays = c.loop-row.invariant.0 in
    let same = stays.room in (
      stays-then c.args.out.now c.loop-row.out c.collect.new.out stays c.in_ok-collect.ensures.stays,
      λ g agrees r.
          next-round c.args.rows.now c.args.rows.now (λ x y. Reached c.args.self.now.diagram.now c.args.self.now.answers.now g c.args.part x y) refl c.loop-row.row-index c.row-item.result c.loop-row-test.true c.row-item.is c.args.out.now c.loop-row.out stays
          (c.loop-row.invariant.1 g agrees r)
          c.collect.new.out
          (c.in_ok-collect.ensures.adds_the_successors g agrees (omega arith)),
    )

pub returns-in_err-collect-clause-stays : goal.returns-in_err-collect-clause-stays
returns-in_err-collect-clause-stays c =
    stays-then c.args.out.now c.loop-row.out c.collect.new.out c.loop-row.invariant.0 c.collect.ensures.stays

pub returns-in_err-collect-clause-adds_the_successors_of_each : goal.returns-in_err-collect-clause-adds_the_successors_of_each
returns-in_err-collect-clause-adds_the_successors_of_each c =
    let stays = c.loop-row.invariant.0 in
    let same = stays.room in
    λ g agrees r.
    early _ c.args.out.now c.collect.new.out c.from_residual.result c.from_residual.ensures.0
    (last-round c.args.rows.now c.args.rows.now (λ x y. Reached c.args.self.now.diagram.now c.args.self.now.answers.now g c.args.part x y) refl c.loop-row.row-index c.row-item.result c.loop-row-test.true c.row-item.is c.args.out.now c.loop-row.out stays
    (c.loop-row.invariant.1 g agrees r)
    (c.in_err-collect.ensures.adds_the_successors g agrees (omega arith)))

pub returns-clause-stays : goal.returns-clause-stays
returns-clause-stays c =
    c.loop-row.invariant.0

pub returns-clause-adds_the_successors_of_each : goal.returns-clause-adds_the_successors_of_each
returns-clause-adds_the_successors_of_each c =
    λ g agrees r.
    after-rounds c.args.rows.now c.args.rows.now (λ x y. Reached c.args.self.now.diagram.now c.args.self.now.answers.now g c.args.part x y) refl c.loop-row.row-index c.args.out.now c.loop-row.out c.loop-row-test.false
    (c.loop-row.invariant.1 g agrees r)

use Rattle.std.proofs.Common.{◌≡◌, ◌+◌, ◌-◌, ◌<◌, length, sym, ◌∙◌, arith}
use Rattle.diagram.proofs.Told.{begun-none, begun-more, value-there, begun-room, begun-all}
use Rattle.diagram.proofs.valuing.list_of.Goals as goal
use Rattle.diagram.proofs.valuing.list_of.Goals.{in-Some-value, in_default-value}

pub loop-position-init : goal.loop-position-init
loop-position-init g c = rw c.new-list.ensures.holds_nothing (begun-none _ _ (sym c.in-Some.is ∙ c.count.ensures.counts_the_values))

pub push-requires : goal.push-requires
push-requires g c =
    let l = begun-room _ _ _ _ c.loop-position.invariant (omega arith) in
    let few : length c.loop-position.list.items < 16 = omega arith in
    (omega arith, few)

pub loop-position-preserved : goal.loop-position-preserved
loop-position-preserved g c =
    let next : c.loop-position.position + 1 - 1 ≡ c.loop-position.position = omega arith in
    elim c.match-value.branch [
      | in-Some-value w ↦
          rw (next, w.list-is, w.push.ensures.holds_one_more)
          (begun-more _ _ _ w.in-Some-value.value _ c.loop-position.invariant c.loop-position.auto.position (sym w.in-Some-value.is ∙ c.value.ensures.tells_the_value))
      | in_default-value w ↦
          absurd (w.in_default-value.not-Some _ (c.value.ensures.tells_the_value ∙ value-there _ _ _ c.loop-position.invariant.counted c.loop-position.auto.position (omega arith)))
    ]

pub returns : goal.returns
returns g c = begun-all _ _ _ _ c.loop-position.invariant (omega arith) c.if-count-gt16.false

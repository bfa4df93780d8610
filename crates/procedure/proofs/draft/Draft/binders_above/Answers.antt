use Rattle.std.proofs.Common.{rules, ◌≡◌, ◌+◌, ◌-◌, length, sym, ap, ◌∙◌, arith}
use Rattle.procedure.specs.Drawings.{Drawing}
use Rattle.procedure.specs.Scopes.{binder_at, binders_above}
use Rattle.procedure.proofs.Wholes.{parent-below, above_more, binder-small}
use Rattle.procedure.proofs.draft.Draft.binders_above.Goals as goal

pub is_binder-requires : goal.is_binder-requires
is_binder-requires c = rw c.from-at.ensures (parent-below c.args.self.now.nodes c.loop.at c.in-Some.parent (sym c.parent_of.ensures ∙ c.in-Some.is))

pub loop-preserved : goal.loop-preserved
loop-preserved c =
    let ns = c.args.self.now.nodes in
    let n : c.len-end.result ≡ length ns = c.len-end.ensures.counts ∙ ap (λ (d : Drawing). length d.nodes) c.self.view_is in
    let up = sym c.parent_of.ensures ∙ c.in-Some.is in
    let here : c.from-above.result ≡ binder_at ns c.in-Some.parent = search rules in
    let p = parent-below ns c.loop.at c.in-Some.parent up in
    let s = binder-small ns c.in-Some.parent in
    let few = c.is_binder.ensures.few in (
      rw c.from-at.ensures (above_more ns (length ns - c.loop.counter) (length ns - (c.loop.counter + 1)) c.loop.at c.in-Some.parent c.loop.above c.from-above.result (binders_above ns c.args.node)
          (omega (arith, n, c.loop-test.true)) up here c.loop.invariant.0),
      rw c.from-at.ensures (omega arith),
      omega (arith, here, s),
    )

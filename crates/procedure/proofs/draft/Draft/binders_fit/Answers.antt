use Rattle.std.proofs.Common.{rules, ◌≡◌, length, ap, ◌∙◌}
use Rattle.fault.proofs.Refusals.{told}
use Rattle.procedure.specs.Drawings.{Drawing}
use Rattle.procedure.specs.Scopes.{binders_few}
use Rattle.procedure.proofs.draft.Draft.binders_fit.Goals as goal

pub returns : goal.returns
returns c =
    let n : c.len.result ≡ length c.args.self.now.nodes = c.len.ensures.counts ∙ ap (λ (d : Drawing). length d.nodes) c.self.view_is in
    told tt _ c.ask_each.result (rw n at (c.ask_each.ensures (binders_few c.args.self.now.nodes) (λ k b lt e. search rules)))

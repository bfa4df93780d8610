use Rattle.std.proofs.Common.{rules, ◌≡◌, length, get_or, ap, ◌∙◌}
use Rattle.fault.proofs.Refusals.{told}
use Rattle.notation.specs.Parts.{blank_arrow}
use Rattle.procedure.specs.Drawings.{Drawing}
use Rattle.procedure.specs.Scopes.{in_scope}
use Rattle.procedure.proofs.draft.Draft.arrows_fit.Goals as goal

pub returns : goal.returns
returns c =
    let n : c.len.result ≡ length c.args.self.now.arrows = c.len.ensures.counts ∙ ap (λ (d : Drawing). length d.arrows) c.self.view_is in
    told tt _ c.ask_each.result (rw n at (c.ask_each.ensures (λ j. in_scope c.args.self.now.nodes (get_or c.args.self.now.arrows j blank_arrow)) (λ k b lt e. search rules)))

use Rattle.std.proofs.Common.{map, None, sym, ◌∙◌, arith}
use Rattle.std.proofs.lemmas.List.{length-map, ext_get_or, get_or-map}
use Rattle.host.specs.Tallying.{heard}
use Rattle.host.proofs.tallying.TalliesGuardHost.tell.Goals as goal

pub returns-clause-raises_every_entry_with_that_label :
    goal.returns-clause-raises_every_entry_with_that_label
returns-clause-raises_every_entry_with_that_label c =
    let before = c.args.self.now in
    let after = c.hear.new.self in
    let raise = heard c.args.event in
    ext_get_or None after.entries (map raise before.entries) (omega (arith, before.full, after.full, length-map before.entries raise))
    (λ k lt. c.hear.ensures.counts k (omega (arith, after.full)) ∙ sym (get_or-map raise before.entries k None None (omega (arith, before.full, after.full))))

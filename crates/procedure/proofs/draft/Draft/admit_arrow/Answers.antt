use Rattle.std.proofs.Common.{rules}
use Rattle.procedure.proofs.Growing.{arrow-more}
use Rattle.procedure.proofs.draft.Draft.admit_arrow.Goals as goal

pub invariant_of-self : goal.invariant_of-self
invariant_of-self c = arrow-more c.self.inside c.args.arrow c.self.invariant c.requires (search rules) (search rules) c.push.new.self c.push.ensures.holds_one_more

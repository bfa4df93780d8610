use Rattle.std.proofs.Common.{arith}
use Rattle.std.proofs.lemmas.Grind.{common_steps}
use Rattle.std.proofs.lemmas.List.FromFn.{length-range_with_len}
use Rattle.roster.proofs.range.Range.len.Goals as goal

pub returns : goal.returns
returns c = grind (arith, common_steps, length-range_with_len c.args.self.first c.args.self.count)

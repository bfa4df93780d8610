use Rattle.std.proofs.Common.{rules, ◌≡◌, slice_index_or, arith}
use Rattle.answers.proofs.Bits.{none-past}
use Rattle.answers.proofs.answers.Replies.get.Goals as goal

pub returns-else-scope-lt32 : goal.returns-else-scope-lt32
returns-else-scope-lt32 c =
    let row : c.unwrap_or-row.result ≡ slice_index_or c.args.self.now.rows c.args.scope.outer 0 = search rules in
    grind (arith, row, none-past c.unwrap_or-row.result c.args.scope.inner c.unwrap_or-row.type_inv c.if-scope-lt32.false)

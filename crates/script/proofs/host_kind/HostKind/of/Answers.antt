use Rattle.std.proofs.Common.{◌≡◌, refl, codes, arith}
use Rattle.std.proofs.lemmas.Slice.Eq.{text_from_reads}
use Rattle.script.proofs.host_kind.HostKind.of.Goals as goal

pub returns-in-limits : goal.returns-in-limits
returns-in-limits c =
    let same : c.args.word.now ≡ codes "limits" = text_from_reads c.args.word.now (codes "limits") (omega arith) (search arith) in
    rw same refl

pub returns-in-tallies : goal.returns-in-tallies
returns-in-tallies c =
    let same : c.args.word.now ≡ codes "tallies" = text_from_reads c.args.word.now (codes "tallies") (omega arith) (search arith) in
    rw same refl

use Rattle.std.proofs.Common.{inl, arith}
use Rattle.script.specs.Words.{is_blank}
use Rattle.script.proofs.Parts.{length-words_by}
use Rattle.script.proofs.calling.numbered_call.Goals as goal

pub count-count-requires-clause-fits : goal.count-count-requires-clause-fits
count-count-requires-clause-fits c =
    let few = length-words_by is_blank c.args.words.text.now in
    inl (omega arith)

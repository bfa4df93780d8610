use Rattle.std.proofs.Common.{ap, length, arith, rules}
use Rattle.std.proofs.lemmas.Bool.Decides.{nat_tests}
use Rattle.script.specs.Words.{is_blank}
use Rattle.script.proofs.Parts.{words_step, words_end}
use Rattle.script.proofs.words.WordsIterator.next.Goals as goal

pub returns-then-is_empty-clause-steps : goal.returns-then-is_empty-clause-steps
returns-then-is_empty-clause-steps c =
    words_end is_blank c.args.self.now.text.now c.from_word.result.now c.split_word.result.0.now c.split_word.result.1.now c.from_word.ensures c.split_word.ensures.word c.split_word.ensures.rest (grind (arith, nat_tests))

pub returns-else-is_empty-clause-steps : goal.returns-else-is_empty-clause-steps
returns-else-is_empty-clause-steps c =
    words_step is_blank c.args.self.now.text.now c.from_word.result.now c.split_word.result.0.now c.split_word.result.1.now c.from_word.ensures c.split_word.ensures.word c.split_word.ensures.rest (grind (arith, nat_tests))

pub returns-else-is_empty-clause-goes : goal.returns-else-is_empty-clause-goes
returns-else-is_empty-clause-goes c =
    let e = words_step is_blank c.args.self.now.text.now c.from_word.result.now c.split_word.result.0.now c.split_word.result.1.now c.from_word.ensures c.split_word.ensures.word c.split_word.ensures.rest (grind (arith, nat_tests)) in
    let n = ap length e in
    record { on = λ _. search (rules, n); keeps = search rules; rests = λ _. search rules }

use Rattle.std.proofs.Common.{◌≡◌, ◌+◌, ◌≤◌, length, ◌++◌}
use Rattle.std.specs.Option.{option_map}
use Rattle.script.specs.Words.{words_between}
use Rattle.script.specs.Numbers.{numbers_of}
use Rattle.script.proofs.number.numbers.Given as goal

abbrev pub invariant-loop-word : goal.invariant-loop-word
invariant-loop-word l = record {
  can : (goal.iterator-loop-word).can_next l.word-iterator;
  ends : (goal.iterator-loop-word).is_finite l.word-iterator;
  room : length l.table.items + length (words_between l.word-iterator.text.now) ≤ 4;
  reads : numbers_of (words_between l.initial.words.text.now) ≡ option_map (λ ns. l.table.items ++ ns) (numbers_of (words_between l.word-iterator.text.now));
}

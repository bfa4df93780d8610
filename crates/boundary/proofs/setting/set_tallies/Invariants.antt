use Rattle.std.proofs.Common.{◌≡◌}
use Rattle.boundary.specs.Texts.{page, said}
use Rattle.boundary.specs.Settings.{entries_of, tallies_numbers, tallies_set}
use Rattle.boundary.proofs.setting.set_tallies.Given as goal

abbrev pub invariant-loop-fields : goal.invariant-loop-fields
invariant-loop-fields l = record {
  by_four : l.fields-iterator.size ≡ 4;
  says : said (tallies_numbers l.fields-iterator.rest.now) (page l.out l.at) ≡ said (tallies_numbers l.numbers) (page l.fn.out l.fn.at);
  keeps : tallies_set (entries_of l.tallies.entries) l.fields-iterator.rest.now ≡ tallies_set (entries_of l.fn.tallies.entries) l.numbers;
}

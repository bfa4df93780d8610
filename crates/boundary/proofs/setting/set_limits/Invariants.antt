use Rattle.std.proofs.Common.{◌≡◌}
use Rattle.boundary.specs.Texts.{page, said}
use Rattle.boundary.specs.Settings.{entries_of, limits_numbers, limits_set}
use Rattle.boundary.proofs.setting.set_limits.Given as goal

abbrev pub invariant-loop-fields : goal.invariant-loop-fields
invariant-loop-fields l = record {
  by_four : l.fields-iterator.size ≡ 4;
  says : said (limits_numbers l.fields-iterator.rest.now) (page l.out l.at) ≡ said (limits_numbers l.numbers) (page l.fn.out l.fn.at);
  keeps : limits_set (entries_of l.limits.entries) l.fields-iterator.rest.now ≡ limits_set (entries_of l.fn.limits.entries) l.numbers;
}

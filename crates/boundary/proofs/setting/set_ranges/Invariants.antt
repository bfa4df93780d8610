use Rattle.std.proofs.Common.{◌≡◌}
use Rattle.roster.specs.Runs.{ranges_values}
use Rattle.boundary.specs.Texts.{page, said}
use Rattle.boundary.specs.Settings.{ranges_numbers, ranges_told}
use Rattle.boundary.proofs.setting.set_ranges.Given as goal

abbrev pub invariant-loop-fields : goal.invariant-loop-fields
invariant-loop-fields l = record {
  by_three : l.fields-iterator.size ≡ 3;
  says : said (ranges_numbers l.fields-iterator.rest.now) (page l.out l.at) ≡ said (ranges_numbers l.numbers) (page l.fn.out l.fn.at);
  tells : ranges_told (ranges_values l.ranges.entries) l.fields-iterator.rest.now ≡ ranges_told (ranges_values l.fn.ranges.entries) l.numbers;
}

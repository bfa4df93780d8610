use Rattle.std.proofs.Common.{◌≡◌, length}
use Rattle.procedure.specs.Procedures.{drawing}
use Rattle.roster.specs.Runs.{ranges_values}
use Rattle.boundary.specs.Texts.{page, said}
use Rattle.boundary.specs.Playing.{standing, unopened, calls_numbers}
use Rattle.boundary.proofs.playing.play.Given as goal

abbrev pub invariant-loop-numbers : goal.invariant-loop-numbers
invariant-loop-numbers g l = record {
  by_five : l.numbers-iterator.size ≡ 5;
  has_all_places : length l.list ≡ 65536;
  says :
      said (calls_numbers (drawing l.procedure) (ranges_values l.ranges.entries) (standing l.run (g.H.GuardHost.meaning l.host)) l.numbers-iterator.rest.now) (page l.out l.at)
      ≡ said (calls_numbers (drawing l.procedure) (ranges_values l.ranges.entries) (unopened (g.H.GuardHost.meaning l.fn.host)) l.fn.numbers) (page l.fn.out l.fn.at);
}

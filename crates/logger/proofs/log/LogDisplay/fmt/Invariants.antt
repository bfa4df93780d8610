use Rattle.std.proofs.Common.{◌≡◌, ℕ, List, ◌++◌}
use Rattle.std.specs.Fmt.{IsPlainFormatter, HasWritten}
use Rattle.run.specs.Replays.{outcomes_in}
use Rattle.logger.specs.Logs.{log_text}
use Rattle.logger.proofs.log.LogDisplay.fmt.Given as goal

abbrev pub invariant-loop-outcome : goal.invariant-loop-outcome
invariant-loop-outcome g l = record {
  can : (goal.iterator-loop-outcome g).can_next l.outcome-iterator;
  ends : (goal.iterator-loop-outcome g).is_finite l.outcome-iterator;
  written : IsPlainFormatter l.initial.f → (text : List ℕ)
      × HasWritten g.W.Write.write_str_gives l.initial.f text l.f
      × (text ++ log_text (outcomes_in l.outcome-iterator.calls.now l.outcome-iterator.answers.now l.outcome-iterator.events.now) ≡ log_text (outcomes_in l.self.calls.now l.self.answers.now l.self.events.now));
}

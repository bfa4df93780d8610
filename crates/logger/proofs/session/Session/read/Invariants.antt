use Rattle.std.proofs.Common.{◌≡◌, ◌+◌, length, drop}
use Rattle.logger.specs.Scripts.{lines_in, calls_in, wrong_in}
use Rattle.logger.specs.Playing.{after_lines}
use Rattle.logger.specs.Sessions.{drawn_in, so_far, choice_of}
use Rattle.logger.proofs.session.Session.read.Given as goal

abbrev pub invariant-loop-i : goal.invariant-loop-i
invariant-loop-i l = record {
  stands :
      after_lines (drawn_in l.self) (so_far l.self) (calls_in (choice_of l.self) (drop (length l.yielded) (lines_in l.script)))
      ≡ after_lines (drawn_in l.fn.self) (so_far l.fn.self) (calls_in (choice_of l.fn.self) (lines_in l.script));
  wrong : wrong_in (choice_of l.self) (length l.yielded + 1) (drop (length l.yielded) (lines_in l.script)) ≡ wrong_in (choice_of l.fn.self) 1 (lines_in l.script);
}

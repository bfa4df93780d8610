use Rattle.std.proofs.Common.{take}
use Rattle.law.specs.Calls.{outcomes_of}
use Rattle.run.specs.Runs.{tree_in, ceiling_in, states}
use Rattle.run.proofs.Replays.{Made}
use Rattle.run.proofs.Stands.{Went}
use Rattle.run.proofs.run.Run.replay.Given as goal

abbrev pub invariant-loop-made : goal.invariant-loop-made
invariant-loop-made g l =
    Made l.calls (outcomes_of (tree_in l.fn.self) (ceiling_in l.fn.self) (states l.fn.self) (g.H.GuardHost.meaning l.fn.host) (take l.made l.calls)) l.fn.answers l.answers l.fn.events l.events l.made l.at
    × Went l.fn.self (g.H.GuardHost.meaning l.fn.host) (take l.made l.calls) l.self (g.H.GuardHost.meaning l.host)

use Rattle.std.proofs.Common.{[], Ok}
use Rattle.procedure.specs.Drawings.{Drawing}
use Rattle.procedure.specs.Procedures.{drawing}
use Rattle.law.specs.Calls.{taken, AllLawful}
use Rattle.opened.specs.Opening.{told_values}
use Rattle.run.specs.Runs.{Stands}
use Rattle.run.specs.Replays.{logged, told_tree}
use Rattle.run.proofs.Rehearsals.{draws}
use Rattle.run.proofs.run.Run.rehearse.Goals as goal

pub returns-clause-stands_as_the_law_says_unless_refused :
    goal.returns-clause-stands_as_the_law_says_unless_refused
returns-clause-stands_as_the_law_says_unless_refused g c =
    let values = told_values (g.R.Roster.values c.args.roster.now) in
    let m = g.H.GuardHost.meaning c.args.host.now in
    let log = logged c.args.calls.now (Ok (c.in_ok-held.held, c.replay.result)) c.replay.new.answers c.replay.new.events in
    let d = drawing c.read.new.self in
    draws c.args.file.now (λ (x : Drawing). Stands x values c.args.ceiling m (taken [] log) c.replay.new.self (g.H.GuardHost.meaning c.replay.new.host))
    d c.read.result _ c.read.ensures.answers_as_the_questions_say c.in_ok-read.was c.read.ensures.leaves_what_the_records_draw_or_nothing
    (c.replay.ensures.stands_as_the_law_says d values c.args.ceiling m [] (c.in_ok-held.ensures.stands_as_the_law_says_unless_refused m))

pub returns-clause-every_call_obeys_the_law_unless_refused :
    goal.returns-clause-every_call_obeys_the_law_unless_refused
returns-clause-every_call_obeys_the_law_unless_refused g c =
    let values = told_values (g.R.Roster.values c.args.roster.now) in
    let m = g.H.GuardHost.meaning c.args.host.now in
    let log = logged c.args.calls.now (Ok (c.in_ok-held.held, c.replay.result)) c.replay.new.answers c.replay.new.events in
    let d = drawing c.read.new.self in
    draws c.args.file.now (λ (x : Drawing). AllLawful (told_tree (g.R.Roster.values c.args.roster.now) x) c.args.ceiling m [] log)
    d c.read.result _ c.read.ensures.answers_as_the_questions_say c.in_ok-read.was c.read.ensures.leaves_what_the_records_draw_or_nothing
    (c.replay.ensures.every_call_obeys_the_law d values c.args.ceiling m [] (c.in_ok-held.ensures.stands_as_the_law_says_unless_refused m))

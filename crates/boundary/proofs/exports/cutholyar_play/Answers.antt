use Rattle.std.proofs.Common.{◌≡◌, ap, ℕ, List, length, min}
use Rattle.procedure.specs.Procedures.{drawing}
use Rattle.roster.specs.Runs.{ranges_values}
use Rattle.boundary.specs.Texts.{Page, page, text_over, answer_numbers}
use Rattle.boundary.specs.Settings.{entries_of, limits_numbers, limits_meaning, tallies_numbers, tallies_meaning}
use Rattle.boundary.specs.Playing.{play_text}
use Rattle.boundary.proofs.Whole.{played, limits-by, limits-mean, tallies-by, tallies-mean}
use Rattle.boundary.proofs.exports.cutholyar_play.Goals as goal

-- all that is said
abbrev text : (host : ℕ) (file ranges settings calls : List ℕ) → List ℕ → Page
text host file ranges settings calls places = page (text_over (play_text host file ranges settings calls) places) (min (length (play_text host file ranges settings calls)) (length places))

by-limits : (c : goal.After-slice_known-then-host-eq0-2-1)
    → page c.play.new.out c.play.result ≡ text c.args.host c.args.file.now c.args.ranges.now c.args.settings.now c.args.calls.now c.args.out.now
by-limits c =
    let host = c.args.host in
    let settings : List ℕ = c.args.settings.now in
    let limits = c.set_limits-at.new.limits.entries in
    played host c.args.file.now c.args.ranges.now settings c.args.calls.now c.args.out.now (answer_numbers c.read.result) (limits_numbers settings)
    (drawing c.read.new.self) (ranges_values c.set_ranges-at.new.ranges.entries) (ranges_values c.new-roster.result.entries) (limits_meaning (entries_of limits))
    (page c.say_answer-at.new.out c.say_answer-at.result) (page c.set_ranges-at.new.out c.set_ranges-at.result) (page c.set_limits-at.new.out c.set_limits-at.result) (page c.play.new.out c.play.result)
    (ap answer_numbers c.read.ensures.answers_as_the_questions_say) c.read.ensures.leaves_what_the_records_draw_or_nothing
    c.set_ranges-at.ensures.tells_the_values c.new-roster.ensures.knows_no_type
    (limits-by host settings c.if-host-eq0.true) (limits-mean host settings c.new-limits.result.entries limits c.if-host-eq0.true c.new-limits.ensures.has_none_set c.set_limits-at.ensures.keeps_the_limits)
    c.say_answer-at.ensures c.set_ranges-at.ensures.says_each_answer c.set_limits-at.ensures.says_each_answer c.play.ensures

pub returns-then-host-eq0-clause-writes_the_text :
    goal.returns-then-host-eq0-clause-writes_the_text
returns-then-host-eq0-clause-writes_the_text c = ap (λ (p : Page). p.places) (by-limits c)

pub returns-then-host-eq0-clause-answers_how_much_it_wrote :
    goal.returns-then-host-eq0-clause-answers_how_much_it_wrote
returns-then-host-eq0-clause-answers_how_much_it_wrote c = ap (λ (p : Page). p.written) (by-limits c)

by-tallies : (c : goal.After-slice_known-else-host-eq0-2-1)
    → page c.play-else-host-eq0.new.out c.play-else-host-eq0.result ≡ text c.args.host c.args.file.now c.args.ranges.now c.args.settings.now c.args.calls.now c.args.out.now
by-tallies c =
    let host = c.args.host in
    let settings : List ℕ = c.args.settings.now in
    let tallies = c.set_tallies-at.new.tallies.entries in
    played host c.args.file.now c.args.ranges.now settings c.args.calls.now c.args.out.now (answer_numbers c.read.result) (tallies_numbers settings)
    (drawing c.read.new.self) (ranges_values c.set_ranges-at.new.ranges.entries) (ranges_values c.new-roster.result.entries) (tallies_meaning (entries_of tallies))
    (page c.say_answer-at.new.out c.say_answer-at.result) (page c.set_ranges-at.new.out c.set_ranges-at.result) (page c.set_tallies-at.new.out c.set_tallies-at.result)
    (page c.play-else-host-eq0.new.out c.play-else-host-eq0.result)
    (ap answer_numbers c.read.ensures.answers_as_the_questions_say) c.read.ensures.leaves_what_the_records_draw_or_nothing
    c.set_ranges-at.ensures.tells_the_values c.new-roster.ensures.knows_no_type
    (tallies-by host settings c.if-host-eq0.false) (tallies-mean host settings c.new-tallies.result.entries tallies c.if-host-eq0.false c.new-tallies.ensures.has_none_set c.set_tallies-at.ensures.keeps_the_tallies)
    c.say_answer-at.ensures c.set_ranges-at.ensures.says_each_answer c.set_tallies-at.ensures.says_each_answer c.play-else-host-eq0.ensures

pub returns-else-host-eq0-clause-writes_the_text :
    goal.returns-else-host-eq0-clause-writes_the_text
returns-else-host-eq0-clause-writes_the_text c = ap (λ (p : Page). p.places) (by-tallies c)

pub returns-else-host-eq0-clause-answers_how_much_it_wrote :
    goal.returns-else-host-eq0-clause-answers_how_much_it_wrote
returns-else-host-eq0-clause-answers_how_much_it_wrote c = ap (λ (p : Page). p.written) (by-tallies c)

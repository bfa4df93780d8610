use Rattle.std.proofs.Common.{◌≡◌, refl, sym, ◌∙◌, ap, ℕ, ◌∷◌, ◌++◌, List, map, length, Ok, arith}
use Rattle.std.specs.Prelude.{codes, string_bytes}
use Rattle.std.proofs.lemmas.Result.{on_ok_weaker}
use Rattle.procedure.specs.Reading.{reading, left_by}
use Rattle.roster.specs.Runs.{ranges_values}
use Rattle.law.specs.declared.call.Call.{Call}
use Rattle.run.specs.Replays.{calls_made, outcomes_in, rehearsed}
use Rattle.text.specs.Texts.{◌⌢◌}
use Rattle.script.specs.Texts.{held_line}
use Rattle.script.specs.declared.line.Line.TheVariants.{Open}
use Rattle.logger.specs.Logs.{log_text}
use Rattle.logger.specs.Playing.{after_lines}
use Rattle.logger.specs.Places.{places_together}
use Rattle.logger.specs.Stretches.{standing, line_of_call, after_calls}
use Rattle.logger.proofs.Stretches.{put-back, made-of, opening-stands, opening-refused}
use Rattle.logger.proofs.making.rehearsed.Goals as goal

pub returns-in-Err : goal.returns-in-Err
returns-in-Err g c =
    let told = ranges_values c.args.ranges.now.entries in
    let now = g.H.GuardHost.meaning c.args.host.now in
    let said = string_bytes c.args.said.now in
    let cs : List Call = c.args.stretch.now.calls.items in
    let file = reading c.args.file.now in
    let k = calls_made c.as_slice-calls.result.now (length c.deref_mut.result.now) (length c.deref_mut-2.result.now) in
    let same = c.in-Err.ensures.changes_nothing_when_refused in
    let answer = c.in-Err.ensures.answers_as_the_questions_say ∙ ap (λ (n : ℕ). rehearsed file told n k) c.from.ensures in
    let text = c.in_ok-say_opening-in-Err.ensures in
    on_ok_weaker c.replayed.result
    (λ made. made ∙ (λ i. after_calls (standing (same.0 i) (g.H.GuardHost.meaning (same.1 i)) told (text i)) cs)
    ∙ opening-refused file told c.args.ceiling k c.in-Err.fault c.args.run.now now said cs c.requires.sound answer) (c.replayed.ensures told)

pub returns : goal.returns
returns g c =
    let told = ranges_values c.args.ranges.now.entries in
    let now = g.H.GuardHost.meaning c.args.host.now in
    let said = string_bytes c.args.said.now in
    let cs : List Call = c.as_slice-calls.result.now in
    let file = reading c.args.file.now in
    let ceiling = c.from.result in
    let rows = c.in-Ok.rows in
    let n = c.in-Ok._made in
    let k = calls_made cs (length c.deref_mut.result.now) (length c.deref_mut-2.result.now) in
    let answer = c.in-Ok.ensures.answers_as_the_questions_say in
    let rs = c.deref.ensures.value ∙ put-back c.in_ok-answers.answers.len c.rehearse.new.answers c.in_ok-answers.answers.items (omega (arith, c.rehearse.auto.answers, c.deref_mut.ensures.len)) in
    let es = c.deref-in-Ok.ensures.value ∙ put-back c.in_ok-events.events.len c.rehearse.new.events c.in_ok-events.events.items (omega (arith, c.rehearse.auto.events, c.deref_mut-2.ensures.len)) in
    let answers : length c.deref_mut.result.now ≡ length cs = omega (arith, c.deref_mut.ensures.len, c.in_ok-answers.ensures.len) in
    let places : length c.deref_mut-2.result.now ≡ places_together cs =
    omega (arith, c.deref_mut-2.ensures.len, c.in_ok-events.ensures.len, c.args.stretch.now.counted, ap places_together c.as_slice-calls.ensures.value) in
    let text = c.in_ok-say_opening-in-Ok.ensures in
    let s = standing c.args.run.now now told said in
    on_ok_weaker c.write.result (λ says.
    opening-stands cs c.rehearse.new.answers c.rehearse.new.events told said (string_bytes c.write.new.self) c.rehearse.new.self now (g.H.GuardHost.meaning c.rehearse.new.host)
    n k (length c.deref_mut.result.now) (length c.deref_mut-2.result.now) (made-of file told ceiling k rows n answer) refl answers places
    file ceiling rows c.args.run.now c.requires.sound answer c.in-Ok.ensures.stands_as_the_law_says_unless_refused c.in-Ok.ensures.logs_what_each_comes_to_unless_refused
    c.in-Ok.ensures.holds_the_states_after_them_unless_refused
    (says ∙ (λ i. text i ++ log_text (outcomes_in cs (rs i) (es i))) ∙ (λ i. (said ++ (held_line (Open (sym c.from.ensures i)) (Ok rows) ⌢ codes "\n")) ++ log_text (outcomes_in cs c.rehearse.new.answers c.rehearse.new.events)))
    ∙ (λ i. after_lines (left_by file) s (Open (c.from.ensures i) ∷ map line_of_call (c.as_slice-calls.ensures.value i)))) c.write.ensures.bytes

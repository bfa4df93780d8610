use Rattle.std.proofs.Common.{◌≡◌, refl, ◌∙◌, ap, ◌++◌, List, length, arith}
use Rattle.std.specs.Prelude.{string_bytes}
use Rattle.std.proofs.lemmas.Result.{on_ok_weaker}
use Rattle.law.specs.declared.call.Call.{Call}
use Rattle.run.specs.Replays.{outcomes_in}
use Rattle.logger.specs.Logs.{log_text}
use Rattle.logger.specs.Places.{places_together}
use Rattle.logger.specs.Stretches.{standing, after_calls}
use Rattle.logger.proofs.Stretches.{put-back, replay-stands}
use Rattle.logger.proofs.making.replayed.Goals as goal

pub returns : goal.returns
returns g c = λ told.
    let now = g.H.GuardHost.meaning c.args.host.now in
    let cs : List Call = c.as_slice-calls.result.now in
    let said = string_bytes c.args.said.now in
    let rs = c.deref.ensures.value ∙ put-back c.in_ok-answers.answers.len c.replay.new.answers c.in_ok-answers.answers.items (omega (arith, c.replay.auto.answers, c.deref_mut.ensures.len)) in
    let es = c.deref-2.ensures.value ∙ put-back c.in_ok-events.events.len c.replay.new.events c.in_ok-events.events.items (omega (arith, c.replay.auto.events, c.deref_mut-2.ensures.len)) in
    let answers : length c.deref_mut.result.now ≡ length cs = omega (arith, c.deref_mut.ensures.len, c.in_ok-answers.ensures.len) in
    let places : length c.deref_mut-2.result.now ≡ places_together cs =
    omega (arith, c.deref_mut-2.ensures.len, c.in_ok-events.ensures.len, c.args.stretch.now.counted, ap places_together c.as_slice-calls.ensures.value) in
    on_ok_weaker c.write.result (λ says.
    replay-stands cs c.replay.new.answers c.replay.new.events told said (string_bytes c.write.new.self) c.replay.new.self now (g.H.GuardHost.meaning c.replay.new.host)
    c.replay.result c.replay.result (length c.deref_mut.result.now) (length c.deref_mut-2.result.now) refl c.replay.ensures.makes_as_many_calls_as_there_is_room_for answers places c.args.run.now
    c.replay.ensures.logs_what_each_comes_to c.replay.ensures.holds_the_states_after_them c.replay.ensures.tells_the_host_what_was_taken c.replay.ensures.keeps_what_it_was_opened_with
    (says ∙ (λ i. said ++ log_text (outcomes_in cs (rs i) (es i))))
    ∙ ap (after_calls (standing c.args.run.now now told said)) c.as_slice-calls.ensures.value) c.write.ensures.bytes

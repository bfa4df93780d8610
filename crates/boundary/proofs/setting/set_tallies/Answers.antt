use Rattle.std.proofs.Common.{◌≡◌, sym, ◌∙◌, ap, subst, ℕ, List, ◌++◌, Option, Some, length, slice_index, slice_set, Result, ◌<◌, arith}
use Rattle.fault.specs.Asking.{refusal, UnlessRefused}
use Rattle.fault.specs.declared.fault.Fault.{Fault}
use Rattle.host.specs.Tallying.{tally_asks}
use Rattle.host.specs.declared.tally.Tally.{Tally}
use Rattle.host.specs.declared.guards.Guards.{Guards}
use Rattle.boundary.specs.Texts.{page, answer_numbers}
use Rattle.boundary.specs.Settings.{field, setting_answer, entries_of, entry_set, tallies_numbers, tallies_set}
use Rattle.boundary.proofs.Pages.{rest-said}
use Rattle.boundary.proofs.Entries.{tallies-more, tallies-set-more, tallies-set-end, tally-guard, at-place, entry-set}
use Rattle.boundary.proofs.setting.set_tallies.Goals as goal

pub loop-fields-preserved : goal.loop-fields-preserved
loop-fields-preserved c =
    let steps = c.in-Some.ensures.steps in
    let rest : List ℕ = c.next.new.self.rest.now in
    let x : List ℕ = c.in-Some.fields.now in
    let four : length x ≡ 4 = steps.1.1 ∙ c.loop-fields.invariant.by_four in
    let guard : c.field.result ≡ field (slice_index x 0) = c.field.ensures in
    let label : c.field-in-loop-fields.result ≡ field (slice_index x 1) = c.field-in-loop-fields.ensures in
    let bound : c.field-in-loop-fields-2.result ≡ field (slice_index x 2) = c.field-in-loop-fields-2.ensures in
    let here = c.set-answer.ensures in
    let asks = tally_asks c.field.result c.field-in-loop-fields.result c.field-in-loop-fields-2.result in
    let answered = c.counted.ensures asks here.refuses_at_the_first_wrong_field ∙ (λ i. setting_answer (tally_asks (guard i) (label i) (bound i))) in
    let before = c.loop-fields.tallies.entries in
    let tally : Option Tally = Some (record { label = c.field-in-loop-fields.result; bound = c.field-in-loop-fields-2.result; told = 0 }) in
    let kept = entry-set (λ (h : Guards Tally). entries_of h.entries) (refusal asks) c.set-answer.result c.loop-fields.tallies c.set-answer.new.self c.field.result tally
    here.refuses_at_the_first_wrong_field here.changes_nothing_if_refused
    (λ none ok.
    let inside = tally-guard c.field.result c.field-in-loop-fields.result c.field-in-loop-fields-2.result none in
    at-place before c.set-answer.new.self.entries c.field.result tally (omega (arith, inside, c.loop-fields.tallies.full))
    (subst (λ (r : Result (Unit {0}) Fault). UnlessRefused r (c.set-answer.new.self.entries ≡ slice_set before c.field.result tally)) ok here.replaces_one_entry_unless_refused))
    ∙ (λ i. entry_set (setting_answer (tally_asks (guard i) (label i) (bound i))) (guard i) (Some (record { label = label i; bound = bound i; told = 0 })) (entries_of before)) in
    record {
      by_four = steps.0 ∙ c.loop-fields.invariant.by_four;
      says = rest-said _ (answer_numbers c.counted.result) (tallies_numbers rest) (page c.loop-fields.out c.loop-fields.at) (page c.say_answer-at.new.out c.say_answer-at.result) _
          (ap tallies_numbers steps.1.0 ∙ tallies-more x rest four ∙ ap (λ (r : Result ℕ Fault). answer_numbers r ++ tallies_numbers rest) (sym answered)) c.say_answer-at.ensures c.loop-fields.invariant.says;
      keeps = ap (λ (f : ℕ → Option Tally). tallies_set f rest) kept ∙ sym (tallies-set-more (entries_of before) x rest four) ∙ ap (tallies_set (entries_of before)) (sym steps.1.0) ∙ c.loop-fields.invariant.keeps;
    }

pub returns-clause-keeps_the_tallies : goal.returns-clause-keeps_the_tallies
returns-clause-keeps_the_tallies c =
    let few : length c.loop-fields.fields-iterator.rest.now < 4 = omega (arith, c.in-None.ensures.steps.1.0, c.loop-fields.invariant.by_four) in
    sym (tallies-set-end (entries_of c.loop-fields.tallies.entries) c.loop-fields.fields-iterator.rest.now few) ∙ c.loop-fields.invariant.keeps

use Rattle.std.proofs.Common.{◌≡◌, sym, ◌∙◌, ap, subst, ℕ, List, ◌++◌, Option, length, slice_index, slice_set, Result, ◌<◌, arith}
use Rattle.fault.specs.Asking.{refusal, UnlessRefused}
use Rattle.fault.specs.declared.fault.Fault.{Fault}
use Rattle.host.specs.Limiting.{limit_asks, limit_numbered}
use Rattle.host.specs.declared.limit.Limit.{Limit}
use Rattle.host.specs.declared.guards.Guards.{Guards}
use Rattle.boundary.specs.Texts.{page, answer_numbers}
use Rattle.boundary.specs.Settings.{field, setting_answer, entries_of, entry_set, limits_numbers, limits_set}
use Rattle.boundary.proofs.Pages.{rest-said}
use Rattle.boundary.proofs.Entries.{limits-more, limits-set-more, limits-set-end, limit-guard, at-place, entry-set}
use Rattle.boundary.proofs.setting.set_limits.Goals as goal

pub loop-fields-preserved : goal.loop-fields-preserved
loop-fields-preserved c =
    let steps = c.in-Some.ensures.steps in
    let rest : List ℕ = c.next.new.self.rest.now in
    let x : List ℕ = c.in-Some.fields.now in
    let four : length x ≡ 4 = steps.1.1 ∙ c.loop-fields.invariant.by_four in
    let guard : c.field.result ≡ field (slice_index x 0) = c.field.ensures in
    let operand : c.field-in-loop-fields.result ≡ field (slice_index x 1) = c.field-in-loop-fields.ensures in
    let comparison : c.field-in-loop-fields-2.result ≡ field (slice_index x 2) = c.field-in-loop-fields-2.ensures in
    let constant : c.field-in-loop-fields-3.result ≡ field (slice_index x 3) = c.field-in-loop-fields-3.ensures in
    let here = c.set-answer.ensures in
    let asks = limit_asks c.field.result c.field-in-loop-fields.result c.field-in-loop-fields-2.result c.field-in-loop-fields-3.result in
    let answered = c.counted.ensures asks here.refuses_at_the_first_wrong_field ∙ (λ i. setting_answer (limit_asks (guard i) (operand i) (comparison i) (constant i))) in
    let before = c.loop-fields.limits.entries in
    let limit = limit_numbered c.field-in-loop-fields.result c.field-in-loop-fields-2.result c.field-in-loop-fields-3.result in
    let kept = entry-set (λ (h : Guards Limit). entries_of h.entries) (refusal asks) c.set-answer.result c.loop-fields.limits c.set-answer.new.self c.field.result limit
    here.refuses_at_the_first_wrong_field here.changes_nothing_if_refused
    (λ none ok.
    let inside = limit-guard c.field.result c.field-in-loop-fields.result c.field-in-loop-fields-2.result c.field-in-loop-fields-3.result none in
    at-place before c.set-answer.new.self.entries c.field.result limit (omega (arith, inside, c.loop-fields.limits.full))
    (subst (λ (r : Result (Unit {0}) Fault). UnlessRefused r (c.set-answer.new.self.entries ≡ slice_set before c.field.result limit)) ok here.replaces_one_entry_unless_refused))
    ∙ (λ i. entry_set (setting_answer (limit_asks (guard i) (operand i) (comparison i) (constant i))) (guard i) (limit_numbered (operand i) (comparison i) (constant i)) (entries_of before)) in
    record {
      by_four = steps.0 ∙ c.loop-fields.invariant.by_four;
      says = rest-said _ (answer_numbers c.counted.result) (limits_numbers rest) (page c.loop-fields.out c.loop-fields.at) (page c.say_answer-at.new.out c.say_answer-at.result) _
          (ap limits_numbers steps.1.0 ∙ limits-more x rest four ∙ ap (λ (r : Result ℕ Fault). answer_numbers r ++ limits_numbers rest) (sym answered)) c.say_answer-at.ensures c.loop-fields.invariant.says;
      keeps = ap (λ (f : ℕ → Option Limit). limits_set f rest) kept ∙ sym (limits-set-more (entries_of before) x rest four) ∙ ap (limits_set (entries_of before)) (sym steps.1.0) ∙ c.loop-fields.invariant.keeps;
    }

pub returns-clause-keeps_the_limits : goal.returns-clause-keeps_the_limits
returns-clause-keeps_the_limits c =
    let few : length c.loop-fields.fields-iterator.rest.now < 4 = omega (arith, c.in-None.ensures.steps.1.0, c.loop-fields.invariant.by_four) in
    sym (limits-set-end (entries_of c.loop-fields.limits.entries) c.loop-fields.fields-iterator.rest.now few) ∙ c.loop-fields.invariant.keeps

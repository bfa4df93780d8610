use Rattle.std.proofs.Common.{◌≡◌, sym, ◌∙◌, ap, subst, ℕ, List, ◌++◌, Option, Some, length, slice_index, Result, ◌<◌, arith}
use Rattle.std.specs.List.{range_with_len}
use Rattle.fault.specs.Asking.{refusal, UnlessRefused}
use Rattle.fault.specs.declared.fault.Fault.{Fault}
use Rattle.roster.specs.Runs.{ranges_values, range_asks}
use Rattle.roster.specs.declared.ranges.Ranges.{Ranges}
use Rattle.boundary.specs.Texts.{page, answer_numbers}
use Rattle.boundary.specs.Settings.{field, setting_answer, entry_set, ranges_numbers, ranges_told}
use Rattle.boundary.proofs.Pages.{rest-said}
use Rattle.boundary.proofs.Entries.{ranges-more, told-more, told-end, at-one, entry-set}
use Rattle.boundary.proofs.setting.set_ranges.Goals as goal

pub loop-fields-preserved : goal.loop-fields-preserved
loop-fields-preserved c =
    let steps = c.in-Some.ensures.steps in
    let rest : List ℕ = c.next.new.self.rest.now in
    let x : List ℕ = c.in-Some.fields.now in
    let three : length x ≡ 3 = steps.1.1 ∙ c.loop-fields.invariant.by_three in
    let ty : c.field.result ≡ field (slice_index x 0) = c.field.ensures in
    let first : c.field-in-loop-fields.result ≡ field (slice_index x 1) = c.field-in-loop-fields.ensures in
    let count : c.field-in-loop-fields-2.result ≡ field (slice_index x 2) = c.field-in-loop-fields-2.ensures in
    let here = c.set-answer.ensures in
    let asks = range_asks c.field.result c.field-in-loop-fields.result c.field-in-loop-fields-2.result in
    let answered = c.counted.ensures asks here.refuses_at_the_first_wrong_field ∙ (λ i. setting_answer (range_asks (ty i) (first i) (count i))) in
    let before = ranges_values c.loop-fields.ranges.entries in
    let values : Option (List ℕ) = Some (range_with_len c.field-in-loop-fields.result c.field-in-loop-fields-2.result) in
    let told = entry-set (λ (r : Ranges). ranges_values r.entries) (refusal asks) c.set-answer.result c.loop-fields.ranges c.set-answer.new.self c.field.result values
    here.refuses_at_the_first_wrong_field here.changes_nothing_if_refused
    (λ none ok. at-one before (ranges_values c.set-answer.new.self.entries) c.field.result values
    (subst (λ (r : Result (Unit {0}) Fault). UnlessRefused r (ranges_values c.set-answer.new.self.entries c.field.result ≡ values)) ok here.means_exactly_the_range_unless_refused)
    here.leaves_other_types)
    ∙ (λ i. entry_set (setting_answer (range_asks (ty i) (first i) (count i))) (ty i) (Some (range_with_len (first i) (count i))) before) in
    record {
      by_three = steps.0 ∙ c.loop-fields.invariant.by_three;
      says = rest-said _ (answer_numbers c.counted.result) (ranges_numbers rest) (page c.loop-fields.out c.loop-fields.at) (page c.say_answer-at.new.out c.say_answer-at.result) _
          (ap ranges_numbers steps.1.0 ∙ ranges-more x rest three ∙ ap (λ (r : Result ℕ Fault). answer_numbers r ++ ranges_numbers rest) (sym answered)) c.say_answer-at.ensures c.loop-fields.invariant.says;
      tells = ap (λ (v : ℕ → Option (List ℕ)). ranges_told v rest) told ∙ sym (told-more before x rest three) ∙ ap (ranges_told before) (sym steps.1.0) ∙ c.loop-fields.invariant.tells;
    }

pub returns-clause-tells_the_values : goal.returns-clause-tells_the_values
returns-clause-tells_the_values c =
    let few : length c.loop-fields.fields-iterator.rest.now < 3 = omega (arith, c.in-None.ensures.steps.1.0, c.loop-fields.invariant.by_three) in
    sym (told-end (ranges_values c.loop-fields.ranges.entries) c.loop-fields.fields-iterator.rest.now few) ∙ c.loop-fields.invariant.tells

use Rattle.std.proofs.Common.{refl, sym, ap, ◌∙◌, [], ◌++◌, append_assoc, append-nil, rules}
use Rattle.std.proofs.Output.{writes_in_calls_nil, has_written_append, has_written_of_eq}
use Rattle.logger.specs.Logs.{logged, outcome_line, log_text}
use Rattle.logger.proofs.log.LogDisplay.fmt.Goals as goal

pub loop-outcome-init : goal.loop-outcome-init
loop-outcome-init g c = rw c.into_iter-outcome-iterator.ensures.into_iter_gives (record {
  can = search rules;
  ends = search rules;
  written = λ plain. ([], record { wrote = writes_in_calls_nil _ _; plain = plain }, refl);
})

pub loop-outcome-preserved : goal.loop-outcome-preserved
loop-outcome-preserved g c = record {
  can = search rules;
  ends = search rules;
  written = λ plain.
      let so_far = c.loop-outcome.invariant.written plain in
      let more = c.in_ok-write.ensures.writes so_far.1.plain refl in (
        so_far.0 ++ outcome_line (logged c.in-Some.outcome),
        has_written_append _ _ _ _ _ _ so_far.1 more,
        append_assoc so_far.0 (outcome_line (logged c.in-Some.outcome)) _ ∙ ap (λ l. so_far.0 ++ log_text l) (sym c.in-Some.ensures.steps) ∙ so_far.2,
      );
}

pub returns-clause-writes : goal.returns-clause-writes
returns-clause-writes g c = λ plain ok.
    let so_far = c.loop-outcome.invariant.written plain in
    has_written_of_eq _ _ _ _ _ (sym (append-nil so_far.0) ∙ ap (λ l. so_far.0 ++ log_text l) (sym c.in-None.ensures.steps.0) ∙ so_far.2) so_far.1

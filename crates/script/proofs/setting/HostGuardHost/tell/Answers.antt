use Rattle.script.proofs.setting.HostGuardHost.tell.Goals as goal

pub returns-in-Tallies-clause-answers_as_after_the_event : goal.returns-in-Tallies-clause-answers_as_after_the_event
returns-in-Tallies-clause-answers_as_after_the_event c = λ w guard e v. rw c.in-Tallies.is (c.tell-in-Tallies.ensures.answers_as_after_the_event w guard e v)

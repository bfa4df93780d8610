use Rattle.diagram.proofs.Carried.{root-carries, candidates-complete, at-positions}
use Rattle.diagram.proofs.laws.candidates_are_complete.Goals as goal

pub returns : goal.returns
returns c = record {
  an_event_that_an_arrow_carries_is_a_candidate = λ d e. root-carries d e;
  an_event_that_moves_the_root_is_a_candidate = candidates-complete;
  a_candidate_is_at_its_arrows_positions = at-positions;
}

use Rattle.law.proofs.Logs.{all-lawful, states-hold, meaning-told}
use Rattle.law.specs.Calls.{outcomes_of}
use Rattle.law.proofs.laws.what_is_computed_obeys_the_law.Goals as goal

pub returns : goal.returns
returns c = record {
  it_obeys = λ t ceiling m w held now calls sound holds told. record {
    lawful = all-lawful t ceiling m sound w held now holds told calls;
    holds = states-hold t ceiling m w held now holds told calls;
    told = meaning-told t ceiling m w now (outcomes_of t ceiling held now calls) told;
  };
}

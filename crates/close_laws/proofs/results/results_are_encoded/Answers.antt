use Rattle.close_laws.proofs.SetResults.{results_are_encoded}
use Rattle.close_laws.proofs.results.results_are_encoded.Goals as goal

pub returns : goal.returns
returns c = results_are_encoded c.transaction_laws.ensures c.legal_settles.ensures

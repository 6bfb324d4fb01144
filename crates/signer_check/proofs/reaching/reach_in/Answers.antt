use Rattle.signer_check.proofs.Prelude.{rules}
use Rattle.signer_check.specs.Weight.{counted}
use Rattle.signer_check.proofs.Needs.{reached_where_nothing_is_missing}
use Rattle.signer_check.proofs.reaching.reach_in.Goals as goal

pub returns-clause-reached : goal.returns-clause-reached
returns-clause-reached c =
    let reached = reached_where_nothing_is_missing c.args.needed
    (counted c.args.hash.now c.args.signatures.now c.args.signers.now) in
    search (rules, reached)

use Rattle.signer_check.proofs.Prelude.{[], List, Option, ap}
use Rattle.std.specs.Prelude.{unwrap_or}
use Rattle.op_types.specs.declared.vouch.Vouch.{Vouch}
use Rattle.signer_check.proofs.Grouped.{at_signature}
use Rattle.signer_check.proofs.groups.put_group.Goals as goal

pub returns-clause-others : goal.returns-clause-others
returns-clause-others c q apart =
    ap (λ (o : Option (List Vouch)). unwrap_or o [])
    (c.in_ok-insert.ensures.updates.2 q (at_signature c.args.signature q apart))

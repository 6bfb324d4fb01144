use Rattle.signer_check.proofs.Prelude.{[], List, Option, ap}
use Rattle.std.specs.Prelude.{unwrap_or}
use Rattle.op_types.specs.declared.vouch.Vouch.{Vouch}
use Rattle.signer_check.proofs.Grouped.{at_signature}
use Rattle.signer_check.proofs.groups.take_group.Goals as goal

pub returns-in-Some-clause-others : goal.returns-in-Some-clause-others
returns-in-Some-clause-others c q apart =
    ap (λ (o : Option (List Vouch)). unwrap_or o [])
    (c.remove.ensures.updates.2 q (at_signature c.args.signature.now q apart))

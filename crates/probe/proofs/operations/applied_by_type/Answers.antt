use Rattle.probe.proofs.Prelude.{ap}
use Rattle.probe.specs.Ready as spec
use Rattle.probe.proofs.Plain.{plain_is_sound}
use Rattle.probe.proofs.operations.applied_by_type.Goals as goal

pub apply-requires-clause-sound : goal.apply-requires-clause-sound
apply-requires-clause-sound c =
    plain_is_sound c.args.entries.now.current
    (c.requires.ready.plain (c.requires.plain (ap spec.asks_for_pools c.in-ChangeTrust.is)))

use Rattle.entry_map.proofs.Prelude.{Some}
use Rattle.entry_map.proofs.Layers.{keyed_found}
use Rattle.entry_map.proofs.lookup.newest_change.Goals as goal

pub returns-in-Some-clause-keyed : goal.returns-in-Some-clause-keyed
returns-in-Some-clause-keyed c =
    keyed_found c.args.top.now c.args.key.now (Some c.in-Some.change) c.in-Some.ensures.keyed c.in-Some.ensures.found

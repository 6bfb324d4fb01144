use Rattle.watch_run.proofs.Prelude.{◌<◌, length, rules, arith}
use Rattle.watch_run.proofs.reading.read_beside.Goals as goal

pub for_each_mut-requires-clause-accepts : goal.for_each_mut-requires-clause-accepts
for_each_mut-requires-clause-accepts g c κs within = λ i reader lt is.
    let few : i < 4 = omega (arith, lt, c.requires) in
    ((search rules, few), (search rules, search rules, search rules))

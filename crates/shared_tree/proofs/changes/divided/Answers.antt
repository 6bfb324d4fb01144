use Rattle.shared_tree.proofs.Prelude.{arith}
use Rattle.shared_tree.proofs.Divided.{count_within}
use Rattle.shared_tree.proofs.changes.divided.Goals as goal

pub split_at-requires : goal.split_at-requires
split_at-requires g c =
    let within = count_within g.met.K.Ord.total c.key.result.now c.args.changes.now in
    omega (arith, c.count_below.ensures, within)

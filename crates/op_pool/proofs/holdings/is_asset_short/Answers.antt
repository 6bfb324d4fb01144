use Rattle.op_pool.proofs.Prelude.{location_key}
use Rattle.op_pool.proofs.Fitting.{in_range_at}
use Rattle.op_pool.proofs.holdings.is_asset_short.Goals as goal

pub is_short-requires : goal.is_short-requires
is_short-requires g c =
    in_range_at c.args.entries.now.current (location_key c.args.id.now c.location_of.result) c.requires

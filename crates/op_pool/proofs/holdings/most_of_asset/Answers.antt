use Rattle.op_pool.proofs.Prelude.{location_key}
use Rattle.op_pool.proofs.Fitting.{in_range_at, most_fits}
use Rattle.op_pool.proofs.holdings.most_of_asset.Goals as goal

pub most_taken-requires-clause-range : goal.most_taken-requires-clause-range
most_taken-requires-clause-range g c =
    in_range_at c.args.entries.now.current (location_key c.args.id.now c.location_of.result) c.requires.in_range

pub most_taken-requires-clause-fits : goal.most_taken-requires-clause-fits
most_taken-requires-clause-fits g c =
    most_fits c.args.entries.now.current (location_key c.args.id.now c.location_of.result) c.requires.in_range
    c.requires.sound

use Rattle.op_flags.proofs.Prelude.{length}
use Rattle.op_flags.proofs.revoked_shares.+push_with_asset.Given as goal

abbrev pub decreases-push_with_asset : goal.decreases-push_with_asset
decreases-push_with_asset g l = length l.pools.now

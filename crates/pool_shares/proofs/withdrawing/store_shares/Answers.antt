use Rattle.pool_shares.proofs.Prelude.{sym, ap, ◌∙◌, Undo, pool_slot_at}
use Rattle.ledger_types.specs.declared.asset.TrustLineAsset.TheVariants.{PoolShare}
use Rattle.pool_shares.proofs.Beside.{pools_still}
use Rattle.pool_shares.proofs.withdrawing.store_shares.Goals as goal

pub store_reserves-requires-clause-loaded : goal.store_reserves-requires-clause-loaded
store_reserves-requires-clause-loaded g c =
    c.requires.pool
    ∙ sym (ap (λ (u : Undo). pool_slot_at u.current c.args.pool_id.now) c.in_ok-store_balance.ensures
    ∙ pools_still c.args.entries.now.current c.args.id.now (PoolShare c.args.pool_id.now) _ c.args.pool_id.now)

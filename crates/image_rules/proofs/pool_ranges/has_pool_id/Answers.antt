use Rattle.image_rules.proofs.Prelude.{subst, sym, ◌↔◌, IsTrue, IfOk, HasPoolId}
use Rattle.image_rules.proofs.pool_ranges.has_pool_id.Goals as goal

pub returns-in-LiquidityPool : goal.returns-in-LiquidityPool
returns-in-LiquidityPool c =
    subst (λ b. IfOk c.is_named_rightly.result (λ kept. IsTrue kept ↔ HasPoolId b)) (sym c.in-LiquidityPool.is)
    c.is_named_rightly.ensures

use Rattle.image_rules.proofs.Prelude.{sym, ap, ◌∙◌, rules, to_z-of_z, FitsSigned, w64, of_asset}
use Rattle.ledger_types.specs.declared.asset.Asset.TheVariants as asset
use Rattle.image_rules.proofs.Bounded.{lumens_of_pool}
use Rattle.image_rules.proofs.lumens.lumens_in.Goals as goal

pub returns-in-LiquidityPool-clause-value : goal.returns-in-LiquidityPool-clause-value
returns-in-LiquidityPool-clause-value c =
    let p = c.in-LiquidityPool.pool in
    let lumens = c.lumens_among-in-LiquidityPool.result in
    let reserve : FitsSigned w64 p.reserve_a = search rules in
    let fits : FitsSigned w64 lumens = search rules in
    lumens_of_pool c.args.body.now p lumens c.in-LiquidityPool.is c.requires
    (ap (of_asset asset.Native p.params.asset_a) (sym (to_z-of_z w64 p.reserve_a reserve))
    ∙ c.lumens_among-in-LiquidityPool.ensures)
    ∙ sym (to_z-of_z w64 lumens fits)

use Rattle.image_rules.proofs.Prelude.{subst, sym, ◌∙◌, rules, to_z-of_z, FitsSigned, w64, stated, count_at, kind_of}
use Rattle.image_rules.proofs.Prelude.{own_count, AgreesIn}
use Rattle.ledger_types.specs.declared.entry.LedgerEntryBody.TheVariants as body
use Rattle.ledger_types.specs.declared.key.LedgerKey.TheVariants as key
use Rattle.image_rules.proofs.Aggregated.{states_count}
use Rattle.image_rules.proofs.aggregates.agrees.Goals as goal

pub returns-in-TrustLine : goal.returns-in-TrustLine
returns-in-TrustLine c =
    let t = c.in-TrustLine.line in
    let fits : FitsSigned w64 c.stated_by_line.result = search rules in
    subst (λ b. AgreesIn c.args.tally.now c.args.aggregate (own_count c.args.aggregate c.args.entry.now) b
    c.is_count-in-TrustLine.result) (sym c.in-TrustLine.is)
    (states_count c.count_of-in-TrustLine.result (count_at c.args.tally.now (key.TrustLine t.account_id t.asset))
    _ (stated (kind_of c.args.aggregate) (body.TrustLine t)) c.is_count-in-TrustLine.result
    c.is_count-in-TrustLine.ensures c.count_of-in-TrustLine.ensures
    (c.stated_by_line.ensures ∙ sym (to_z-of_z w64 c.stated_by_line.result fits)))

pub returns-in-LiquidityPool : goal.returns-in-LiquidityPool
returns-in-LiquidityPool c =
    let p = c.in-LiquidityPool.pool in
    let fits : FitsSigned w64 c.stated_by_pool.result = search rules in
    subst (λ b. AgreesIn c.args.tally.now c.args.aggregate (own_count c.args.aggregate c.args.entry.now) b
    c.is_count-in-LiquidityPool.result) (sym c.in-LiquidityPool.is)
    (states_count c.count_of-in-LiquidityPool.result (count_at c.args.tally.now (key.LiquidityPool p.pool_id))
    _ (stated (kind_of c.args.aggregate) (body.LiquidityPool p)) c.is_count-in-LiquidityPool.result
    c.is_count-in-LiquidityPool.ensures c.count_of-in-LiquidityPool.ensures
    (c.stated_by_pool.ensures ∙ sym (to_z-of_z w64 c.stated_by_pool.result fits)))

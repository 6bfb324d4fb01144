use Rattle.image_rules.proofs.Prelude.{◌≢◌, None, subst, All, All-cons, All-tail, get, LedgerKey, share_keys, pools_in}
use Rattle.std.proofs.Common.{IsTrue, ◌↔◌}
use Rattle.ledger_types.specs.declared.key.LedgerKey.TheVariants as key
use Rattle.image_rules.proofs.owners.is_share_there.Goals as goal

pub returns-then-pool : goal.returns-then-pool
returns-then-pool c =
    let P = λ (q : LedgerKey). get c.args.entries.now q ≢ None in
    let k = key.LiquidityPool c.args.pool_id in
    let rest = share_keys c.args.id.now (pools_in c.args.entries.now c.args.pool_id) in
    let lines = subst (λ o. IsTrue c.in_ok-lines.lines ↔ All P (share_keys c.args.id.now o))
    c.in_ok-params.ensures c.in_ok-lines.ensures in (
      λ said. All-cons P k rest (c.in_ok-pool.ensures.0 c.if-pool.true) (lines.0 said),
      λ all. lines.1 (All-tail P k rest all),
    )

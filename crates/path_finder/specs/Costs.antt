-- What a path costs: what is needed of the asset that is sent, by the hops of PATH_PAYMENT_STRICT_RECEIVE from the
-- destination's asset back to it (PathPaymentOpFrameBase in stellar-core; CAP-0024).
use Rattle.std.specs.Prelude.{◌≡◌, ℤ, pos, ◌≤ℤ◌, List, Option, Some, None, Result, Ok, Err}
use Rattle.ledger_types.specs.declared.asset.Asset.{Asset}
use Rattle.entry_map.specs.EntryMap.{EntryMap}
use Rattle.sponsor_rules.specs.declared.context.Ctx.{Ctx}
use Rattle.trade_cross.specs.Crossable.{IsCrossable}
use Rattle.op_payment.specs.Paths.{Carried, set_out, received}
use Rattle.op_payment.specs.declared.hop_fault.HopFault.{HopFault}
use Rattle.path_finder.specs.declared.query.PathQuery.{PathQuery}

-- the query's source is the taker
abbrev pub context_for : Ctx → PathQuery → Ctx
context_for ctx query = record ctx { op_source = query.source }

-- what is needed of the first asset, and none where a hop isn't served
abbrev pub amount_needed : Result Carried HopFault → Option ℤ
amount_needed (Ok carried) = Some (pos carried.amount)
amount_needed (Err fault) = None

-- What has to arrive is received along the path, whatever the source and the destination hold.
unfoldable pub cost_of : Ctx → PathQuery → EntryMap → List Asset → Option ℤ
cost_of ctx query m path =
    amount_needed (received (context_for ctx query) query.send path query.dest (set_out query.amount m))

-- what a cost can be asked for
pub record IsPayable (ctx : Ctx) (query : PathQuery) (m : EntryMap) : Type 0 where
  pub crossable : IsCrossable m
  pub source : ctx.op_source ≡ query.source
  pub amount : pos 0 ≤ℤ query.amount

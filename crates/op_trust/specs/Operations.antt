-- CHANGE_TRUST, by what the line is in, and the operations of this crate, by their types.
use Rattle.std.specs.Prelude.{Err}
use Rattle.ledger_types.specs.declared.asset.Asset.TheVariants as asset
use Rattle.ledger_types.specs.declared.asset.ChangeTrustAsset.{ChangeTrustAsset}
use Rattle.ledger_types.specs.declared.asset.ChangeTrustAsset.TheVariants as asked
use Rattle.op_types.specs.declared.operation.OperationBody.{OperationBody}
use Rattle.op_types.specs.declared.operation.OperationBody.TheVariants as body
use Rattle.op_types.specs.declared.operation_result.OperationResult.TheVariants.{NotSupported}
use Rattle.op_types.specs.declared.trust_ops.ChangeTrustOp.{ChangeTrustOp}
use Rattle.entry_map.specs.EntryMap.{EntryMap}
use Rattle.sponsor_rules.specs.declared.context.Ctx.{Ctx}
use Rattle.op_form.specs.Done.{Attempt, Done, done_of}
use Rattle.op_trust.specs.ChangeTrust.{asset_trust}
use Rattle.op_trust.specs.ShareTrust.{share_trust}

-- by what the line that is asked for is in
abbrev pub trust_in : Ctx → ChangeTrustOp → EntryMap → ChangeTrustAsset → Attempt
trust_in ctx trust_op m asked.Native = asset_trust ctx asset.Native trust_op.limit m
trust_in ctx trust_op m (asked.Alphanum4 code issuer) =
    asset_trust ctx (asset.Alphanum4 code issuer) trust_op.limit m
trust_in ctx trust_op m (asked.Alphanum12 code issuer) =
    asset_trust ctx (asset.Alphanum12 code issuer) trust_op.limit m
trust_in ctx trust_op m (asked.PoolShare params) = share_trust ctx params trust_op.limit m

abbrev pub change_trust : Ctx → ChangeTrustOp → EntryMap → Attempt
change_trust ctx trust_op m = trust_in ctx trust_op m trust_op.line

-- Operations of other types are those of other crates.
abbrev pub attempt_of : Ctx → OperationBody → EntryMap → Attempt
attempt_of ctx (body.ChangeTrust trust_op) m = change_trust ctx trust_op m
attempt_of ctx other m = Err NotSupported

unfoldable pub trust_operation : Ctx → OperationBody → EntryMap → Done
trust_operation ctx of m = done_of ctx m (attempt_of ctx of m)

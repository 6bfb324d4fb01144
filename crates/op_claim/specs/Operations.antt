-- The operations of this crate, by their types.
use Rattle.std.specs.Prelude.{Err}
use Rattle.op_types.specs.declared.operation.OperationBody.{OperationBody}
use Rattle.op_types.specs.declared.operation.OperationBody.TheVariants as body
use Rattle.op_types.specs.declared.operation_result.OperationResult.TheVariants.{NotSupported}
use Rattle.entry_map.specs.EntryMap.{EntryMap}
use Rattle.sponsor_rules.specs.declared.context.Ctx.{Ctx}
use Rattle.op_form.specs.Done.{Attempt, Done, done_of}
use Rattle.op_claim.specs.ClaimClaimableBalance.{claim_claimable_balance}
use Rattle.op_claim.specs.Clawback.{clawback}
use Rattle.op_claim.specs.ClawbackClaimableBalance.{clawback_claimable_balance}
use Rattle.op_claim.specs.CreateClaimableBalance.{create_claimable_balance}

-- Operations of other types are those of other crates.
abbrev pub attempt_of : Ctx → OperationBody → EntryMap → Attempt
attempt_of ctx (body.CreateClaimableBalance create_op) m = create_claimable_balance ctx create_op m
attempt_of ctx (body.ClaimClaimableBalance claim_op) m = claim_claimable_balance ctx claim_op m
attempt_of ctx (body.Clawback claw_op) m = clawback ctx claw_op m
attempt_of ctx (body.ClawbackClaimableBalance claw_op) m = clawback_claimable_balance ctx claw_op m
attempt_of ctx other m = Err NotSupported

unfoldable pub claim_operation : Ctx → OperationBody → EntryMap → Done
claim_operation ctx of m = done_of ctx m (attempt_of ctx of m)

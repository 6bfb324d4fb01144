-- CLAWBACK_CLAIMABLE_BALANCE (ClawbackClaimableBalanceOpFrame in stellar-core; CAP-0035).
use Rattle.std.specs.Prelude.{not, ◌∷◌, [], Bool}
use Rattle.ledger_types.specs.declared.claimable_balance.ClaimableBalanceEntry.{ClaimableBalanceEntry}
use Rattle.ledger_types.specs.declared.key.LedgerKey.TheVariants as key
use Rattle.op_types.specs.declared.balance_ops.ClawbackClaimableBalanceOp.{ClawbackClaimableBalanceOp}
use Rattle.op_types.specs.declared.balance_results.ClawbackClaimableBalanceResult.{ClawbackClaimableBalanceResult}
use Rattle.op_types.specs.declared.balance_results.ClawbackClaimableBalanceResult.TheVariants as claw
use Rattle.op_types.specs.declared.operation_result.OperationResult.{OperationResult}
use Rattle.op_types.specs.declared.operation_result.OperationResult.TheVariants.{Inner}
use Rattle.op_types.specs.declared.operation_result.OperationResultTr.TheVariants as tr
use Rattle.entry_map.specs.EntryMap.{EntryMap}
use Rattle.entry_slots.specs.Balances.{balance_at}
use Rattle.entry_slots.specs.Tests.{Tests}
use Rattle.sponsor_rules.specs.declared.context.Ctx.{Ctx}
use Rattle.sponsor_rules.specs.Removing.{map_after_removing}
use Rattle.op_form.specs.Done.{Attempt, Move}
use Rattle.op_form.specs.Done.{OfAccount, OfBalance}
use Rattle.op_form.specs.Assets.{is_issued_by}
use Rattle.op_form.specs.Flags.{has_any, balance_flags}
use Rattle.op_form.specs.Steps.{unless_refused, after_some, success}

abbrev pub answer : ClawbackClaimableBalanceResult → OperationResult
answer code = Inner (tr.ClawbackClaimableBalance code)

-- CLAIMABLE_BALANCE_CLAWBACK_ENABLED_FLAG (1)
abbrev pub is_balance_clawback_enabled : ClaimableBalanceEntry → Bool
is_balance_clawback_enabled balance = has_any (balance_flags balance) 1

abbrev pub balance_tests : Ctx → ClaimableBalanceEntry → Tests OperationResult
balance_tests ctx balance =
    (not (is_issued_by balance.asset ctx.op_source), answer claw.NotIssuer)
    ∷ (not (is_balance_clawback_enabled balance), answer claw.NotClawbackEnabled)
    ∷ []

-- what is clawed back goes to its issuer, who keeps none
abbrev pub clawback_move : Ctx → ClawbackClaimableBalanceOp → ClaimableBalanceEntry → Move
clawback_move ctx claw_op balance =
    record {
      from = OfBalance claw_op.balance_id;
      to = OfAccount ctx.op_source;
      asset = balance.asset;
      amount = balance.amount;
    }

abbrev pub clawed_back : Ctx → ClawbackClaimableBalanceOp → ClaimableBalanceEntry → EntryMap → Attempt
clawed_back ctx claw_op balance m =
    success ctx (answer claw.Success) (map_after_removing (key.ClaimableBalance claw_op.balance_id) m)
    (clawback_move ctx claw_op balance ∷ [])

abbrev pub clawback_claimable_balance : Ctx → ClawbackClaimableBalanceOp → EntryMap → Attempt
clawback_claimable_balance ctx claw_op m =
    after_some (balance_at m claw_op.balance_id) (answer claw.DoesNotExist)
    (λ balance. unless_refused (balance_tests ctx balance) (clawed_back ctx claw_op balance m))

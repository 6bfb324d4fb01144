-- CLAIM_CLAIMABLE_BALANCE (ClaimClaimableBalanceOpFrame in stellar-core; CAP-0023).
use Rattle.std.specs.Prelude.{ℕ, not, ◌∷◌, [], List, Bool, false, Option, Some, None}
use Rattle.std.specs.List.{find}
use Rattle.ledger_types.specs.declared.ids.AccountId.{AccountId}
use Rattle.ledger_types.specs.declared.claimable_balance.ClaimableBalanceEntry.{ClaimableBalanceEntry}
use Rattle.ledger_types.specs.declared.claimable_balance.Claimant.{Claimant}
use Rattle.ledger_types.specs.declared.key.LedgerKey.TheVariants as key
use Rattle.op_types.specs.declared.balance_ops.ClaimClaimableBalanceOp.{ClaimClaimableBalanceOp}
use Rattle.op_types.specs.declared.balance_results.ClaimClaimableBalanceResult.{ClaimClaimableBalanceResult}
use Rattle.op_types.specs.declared.balance_results.ClaimClaimableBalanceResult.TheVariants as claim
use Rattle.op_types.specs.declared.operation_result.OperationResult.{OperationResult}
use Rattle.op_types.specs.declared.operation_result.OperationResult.TheVariants.{Inner}
use Rattle.op_types.specs.declared.operation_result.OperationResultTr.TheVariants as tr
use Rattle.entry_map.specs.EntryMap.{EntryMap}
use Rattle.entry_slots.specs.Balances.{balance_at}
use Rattle.entry_slots.specs.Tests.{Tests}
use Rattle.sponsor_rules.specs.declared.context.Ctx.{Ctx}
use Rattle.sponsor_rules.specs.Payers.{is_same_account}
use Rattle.sponsor_rules.specs.Removing.{map_after_removing}
use Rattle.op_form.specs.declared.amounts.CreditFault.{CreditFault}
use Rattle.op_form.specs.declared.amounts.CreditFault.TheVariants as credit
use Rattle.op_form.specs.Done.{Attempt, Move}
use Rattle.op_form.specs.Done.{OfAccount, OfBalance}
use Rattle.op_form.specs.Amounts.{map_after_credit}
use Rattle.op_form.specs.Steps.{unless_refused, after_step, after_some, success}
use Rattle.op_claim.specs.Predicates.{holds_at}

abbrev pub answer : ClaimClaimableBalanceResult → OperationResult
answer code = Inner (tr.ClaimClaimableBalance code)

-- ---- who may claim

abbrev pub holds_of : ℕ → Option Claimant → Bool
holds_of close_time None = false
holds_of close_time (Some claimant) = holds_at close_time claimant.predicate

-- an account is a claimant whose predicate holds
abbrev pub may_claim : Ctx → AccountId → List Claimant → Bool
may_claim ctx id claimants =
    holds_of ctx.close_time (find (λ claimant. is_same_account claimant.destination id) claimants)

abbrev pub claim_tests : Ctx → ClaimableBalanceEntry → Tests OperationResult
claim_tests ctx balance = (not (may_claim ctx ctx.op_source balance.claimants), answer claim.CannotClaim) ∷ []

-- ---- the operation

abbrev pub credit_result : CreditFault → OperationResult
credit_result credit.NoLine = answer claim.NoTrust
credit_result credit.NotAuthorized = answer claim.NotAuthorized
credit_result credit.Full = answer claim.LineFull

abbrev pub claim_move : Ctx → ClaimClaimableBalanceOp → ClaimableBalanceEntry → Move
claim_move ctx claim_op balance =
    record {
      from = OfBalance claim_op.balance_id;
      to = OfAccount ctx.op_source;
      asset = balance.asset;
      amount = balance.amount;
    }

-- the balance goes, and then the source takes the amount
abbrev pub removed_and_taken : Ctx → ClaimClaimableBalanceOp → ClaimableBalanceEntry → EntryMap → Attempt
removed_and_taken ctx claim_op balance m =
    after_step
    (map_after_credit ctx.op_source balance.asset balance.amount
    (map_after_removing (key.ClaimableBalance claim_op.balance_id) m)) credit_result
    (λ taken. success ctx (answer claim.Success) taken (claim_move ctx claim_op balance ∷ []))

abbrev pub claim_claimable_balance : Ctx → ClaimClaimableBalanceOp → EntryMap → Attempt
claim_claimable_balance ctx claim_op m =
    after_some (balance_at m claim_op.balance_id) (answer claim.DoesNotExist)
    (λ balance. unless_refused (claim_tests ctx balance) (removed_and_taken ctx claim_op balance m))

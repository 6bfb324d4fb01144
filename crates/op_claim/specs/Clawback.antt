-- CLAWBACK (ClawbackOpFrame in stellar-core; CAP-0035).
use Rattle.std.specs.Prelude.{ℤ, pos, int_le, int_lt, not, ◌||◌, ◌∷◌, []}
use Rattle.ledger_types.specs.declared.trust_line.TrustLineEntry.{TrustLineEntry}
use Rattle.ledger_types.specs.Ids.{account_of}
use Rattle.op_types.specs.declared.operation_result.OperationResult.{OperationResult}
use Rattle.op_types.specs.declared.operation_result.OperationResult.TheVariants.{Inner}
use Rattle.op_types.specs.declared.operation_result.OperationResultTr.TheVariants as tr
use Rattle.op_types.specs.declared.trust_ops.ClawbackOp.{ClawbackOp}
use Rattle.op_types.specs.declared.trust_results.ClawbackResult.{ClawbackResult}
use Rattle.op_types.specs.declared.trust_results.ClawbackResult.TheVariants as claw
use Rattle.valid_values.specs.Assets.{is_valid_asset}
use Rattle.entry_map.specs.EntryMap.{EntryMap}
use Rattle.entry_slots.specs.Lines.{with_line}
use Rattle.entry_slots.specs.Tests.{Tests}
use Rattle.reserve_rules.specs.Reserve.{line_available}
use Rattle.sponsor_rules.specs.declared.context.Ctx.{Ctx}
use Rattle.sponsor_rules.specs.Payers.{is_same_account}
use Rattle.op_form.specs.Done.{Attempt, Move}
use Rattle.op_form.specs.Done.{OfAccount}
use Rattle.op_form.specs.Amounts.{with_less}
use Rattle.op_form.specs.Assets.{is_issued_by, line_asset_of, line_of_asset}
use Rattle.op_form.specs.Flags.{is_line_clawback_enabled}
use Rattle.op_form.specs.Steps.{unless_refused, after_some, success}

abbrev pub answer : ClawbackResult → OperationResult
answer code = Inner (tr.Clawback code)

-- nobody issues lumens
abbrev pub clawback_tests : Ctx → ClawbackOp → Tests OperationResult
clawback_tests ctx claw_op = (
  int_le claw_op.amount (pos 0) || not (is_valid_asset claw_op.asset) || not (is_issued_by claw_op.asset ctx.op_source)
      || is_same_account (account_of claw_op.from) ctx.op_source,
  answer claw.Malformed,
) ∷ []

abbrev pub line_tests : ℤ → TrustLineEntry → Tests OperationResult
line_tests amount line =
    (not (is_line_clawback_enabled line), answer claw.NotClawbackEnabled)
    ∷ (int_lt (line_available line) amount, answer claw.Underfunded)
    ∷ []

-- what is clawed back goes to its issuer, who keeps none
abbrev pub clawback_move : Ctx → ClawbackOp → Move
clawback_move ctx claw_op =
    record {
      from = OfAccount (account_of claw_op.from);
      to = OfAccount ctx.op_source;
      asset = claw_op.asset;
      amount = claw_op.amount;
    }

-- the line gives the amount, authorised or not
abbrev pub clawed_back : Ctx → ClawbackOp → EntryMap → Attempt
clawed_back ctx claw_op m =
    success ctx (answer claw.Success)
    (with_line m (account_of claw_op.from) (line_asset_of claw_op.asset) (with_less claw_op.amount))
    (clawback_move ctx claw_op ∷ [])

abbrev pub clawback : Ctx → ClawbackOp → EntryMap → Attempt
clawback ctx claw_op m =
    unless_refused (clawback_tests ctx claw_op)
    (after_some (line_of_asset m (account_of claw_op.from) claw_op.asset) (answer claw.NoTrust)
    (λ line. unless_refused (line_tests claw_op.amount line) (clawed_back ctx claw_op m)))

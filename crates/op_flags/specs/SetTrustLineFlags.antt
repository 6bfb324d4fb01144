-- SET_TRUST_LINE_FLAGS (SetTrustLineFlagsOpFrame in stellar-core; CAP-0035).
use Rattle.std.specs.Prelude.{ℕ, nat_lt, nat_eq, bit_and, bit_or, bit_xor, not, ◌&&◌, ◌||◌, ◌∷◌, [], Bool}
use Rattle.ledger_types.specs.declared.account.AccountEntry.{AccountEntry}
use Rattle.ledger_types.specs.declared.trust_line.TrustLineEntry.{TrustLineEntry}
use Rattle.op_types.specs.declared.operation_result.OperationResult.{OperationResult}
use Rattle.op_types.specs.declared.operation_result.OperationResult.TheVariants.{Inner, NoAccount}
use Rattle.op_types.specs.declared.operation_result.OperationResultTr.TheVariants as tr
use Rattle.op_types.specs.declared.trust_ops.SetTrustLineFlagsOp.{SetTrustLineFlagsOp}
use Rattle.op_types.specs.declared.trust_results.SetTrustLineFlagsResult.{SetTrustLineFlagsResult}
use Rattle.op_types.specs.declared.trust_results.SetTrustLineFlagsResult.TheVariants as set
use Rattle.valid_values.specs.Assets.{is_valid_asset}
use Rattle.entry_map.specs.EntryMap.{EntryMap}
use Rattle.entry_slots.specs.Accounts.{account_at}
use Rattle.entry_slots.specs.Tests.{Tests}
use Rattle.sponsor_rules.specs.declared.context.Ctx.{Ctx}
use Rattle.sponsor_rules.specs.Payers.{is_same_account}
use Rattle.op_form.specs.Done.{Attempt}
use Rattle.op_form.specs.Assets.{is_issued_by, line_of_asset}
use Rattle.op_form.specs.Flags.{has_any, is_auth_revocable}
use Rattle.op_form.specs.Steps.{unless_refused, after_some}
use Rattle.op_flags.specs.LineFlags.{authorizing, flagged}

abbrev pub answer : SetTrustLineFlagsResult → OperationResult
answer code = Inner (tr.SetTrustLineFlags code)

-- ---- what is asked for

-- the source isn't the issuer, or the line would be its own
abbrev pub is_foreign : Ctx → SetTrustLineFlagsOp → Bool
is_foreign ctx set_op =
    not (is_valid_asset set_op.asset) || not (is_issued_by set_op.asset ctx.op_source)
    || is_same_account set_op.trustor ctx.op_source

-- No line has flags above TRUSTLINE_CLAWBACK_ENABLED (4), which can be cleared and not set. AUTHORIZED (1) and
-- AUTHORIZED_TO_MAINTAIN_LIABILITIES (2) aren't set together.
abbrev pub are_flags_bad : SetTrustLineFlagsOp → Bool
are_flags_bad set_op =
    nat_lt 7 set_op.clear_flags || nat_lt 7 set_op.set_flags || has_any set_op.set_flags set_op.clear_flags
    || has_any set_op.set_flags 4 || nat_eq (bit_and set_op.set_flags authorizing) authorizing

-- lumens have no issuer, so they are foreign
abbrev pub set_tests : Ctx → SetTrustLineFlagsOp → Tests OperationResult
set_tests ctx set_op = (is_foreign ctx set_op || are_flags_bad set_op, answer set.Malformed) ∷ []

-- ---- the operation

-- flags without those that are cleared, and with those that are set
abbrev pub new_flags : SetTrustLineFlagsOp → TrustLineEntry → ℕ
new_flags set_op line = bit_or (bit_xor line.flags (bit_and line.flags set_op.clear_flags)) set_op.set_flags

-- a flag goes
abbrev pub loses : TrustLineEntry → (flags flag : ℕ) → Bool
loses line flags flag = has_any line.flags flag && not (has_any flags flag)

-- AUTHORIZED is taken back, or AUTHORIZED_TO_MAINTAIN_LIABILITIES with nothing in its place
abbrev pub takes_back : TrustLineEntry → (flags : ℕ) → Bool
takes_back line flags = loses line flags 1 || loses line flags 2 && not (has_any flags 1)

abbrev pub flag_tests : AccountEntry → TrustLineEntry → (flags : ℕ) → Tests OperationResult
flag_tests source line flags =
    (not (is_auth_revocable source) && takes_back line flags, answer set.CantRevoke)
    ∷ (nat_eq (bit_and flags authorizing) authorizing, answer set.InvalidState)
    ∷ []

abbrev pub line_set : Ctx → SetTrustLineFlagsOp → EntryMap → AccountEntry → TrustLineEntry → Attempt
line_set ctx set_op m source line =
    unless_refused (flag_tests source line (new_flags set_op line))
    (flagged ctx set_op.trustor set_op.asset (new_flags set_op line)
    (answer set.LowReserve) (answer set.Success) line m)

abbrev pub set_trust_line_flags : Ctx → SetTrustLineFlagsOp → EntryMap → Attempt
set_trust_line_flags ctx set_op m =
    unless_refused (set_tests ctx set_op)
    (after_some (line_of_asset m set_op.trustor set_op.asset) (answer set.NoTrustLine)
    (λ line. after_some (account_at m ctx.op_source) NoAccount (λ source. line_set ctx set_op m source line)))

-- ALLOW_TRUST (AllowTrustOpFrame in stellar-core; CAP-0018).
use Rattle.std.specs.Prelude.{ℕ, nat_lt, nat_eq, bit_and, bit_or, bit_xor, not, ◌&&◌, ◌||◌, ◌∷◌, [], Bool}
use Rattle.ledger_types.specs.declared.ids.AccountId.{AccountId}
use Rattle.ledger_types.specs.declared.account.AccountEntry.{AccountEntry}
use Rattle.ledger_types.specs.declared.asset.Asset.{Asset}
use Rattle.ledger_types.specs.declared.asset.Asset.TheVariants as asset
use Rattle.ledger_types.specs.declared.trust_line.TrustLineEntry.{TrustLineEntry}
use Rattle.op_types.specs.declared.operation_result.OperationResult.{OperationResult}
use Rattle.op_types.specs.declared.operation_result.OperationResult.TheVariants.{Inner, NoAccount}
use Rattle.op_types.specs.declared.operation_result.OperationResultTr.TheVariants as tr
use Rattle.op_types.specs.declared.trust_ops.AllowTrustOp.{AllowTrustOp}
use Rattle.op_types.specs.declared.trust_ops.AssetCode.{AssetCode}
use Rattle.op_types.specs.declared.trust_ops.AssetCode.TheVariants as code
use Rattle.op_types.specs.declared.trust_results.AllowTrustResult.{AllowTrustResult}
use Rattle.op_types.specs.declared.trust_results.AllowTrustResult.TheVariants as allow
use Rattle.valid_values.specs.Assets.{is_valid_asset}
use Rattle.entry_map.specs.EntryMap.{EntryMap}
use Rattle.entry_slots.specs.Accounts.{account_at}
use Rattle.entry_slots.specs.Tests.{Tests}
use Rattle.sponsor_rules.specs.declared.context.Ctx.{Ctx}
use Rattle.sponsor_rules.specs.Payers.{is_same_account}
use Rattle.op_form.specs.Done.{Attempt}
use Rattle.op_form.specs.Assets.{line_of_asset}
use Rattle.op_form.specs.Flags.{is_auth_revocable, is_authorized}
use Rattle.op_form.specs.Steps.{unless_refused, after_some}
use Rattle.op_flags.specs.LineFlags.{authorizing, flagged}

abbrev pub answer : AllowTrustResult → OperationResult
answer code = Inner (tr.AllowTrust code)

-- the asset with a code that an account issues
abbrev pub asset_with : AssetCode → AccountId → Asset
asset_with (code.Alphanum4 bytes) issuer = asset.Alphanum4 bytes issuer
asset_with (code.Alphanum12 bytes) issuer = asset.Alphanum12 bytes issuer

abbrev pub asset_allowed : Ctx → AllowTrustOp → Asset
asset_allowed ctx allow_op = asset_with allow_op.asset ctx.op_source

-- ---- tests

-- authorisation is nothing, AUTHORIZED (1) or AUTHORIZED_TO_MAINTAIN_LIABILITIES (2)
abbrev pub allow_tests : Ctx → AllowTrustOp → Tests OperationResult
allow_tests ctx allow_op = (
  nat_lt 2 allow_op.authorize || not (is_valid_asset (asset_allowed ctx allow_op))
      || is_same_account allow_op.trustor ctx.op_source,
  answer allow.Malformed,
) ∷ []

-- an authorisation is taken back, or a full one is reduced to that to maintain liabilities
abbrev pub takes_back : AllowTrustOp → TrustLineEntry → Bool
takes_back allow_op line =
    nat_eq allow_op.authorize 0 || nat_eq allow_op.authorize 2 && is_authorized line

abbrev pub revoke_tests : AllowTrustOp → AccountEntry → TrustLineEntry → Tests OperationResult
revoke_tests allow_op source line =
    (not (is_auth_revocable source) && takes_back allow_op line, answer allow.CantRevoke) ∷ []

-- ---- the operation

-- the flags that don't authorise stay
abbrev pub allowed_flags : AllowTrustOp → TrustLineEntry → ℕ
allowed_flags allow_op line = bit_or (bit_xor line.flags (bit_and line.flags authorizing)) allow_op.authorize

abbrev pub line_allowed : Ctx → AllowTrustOp → EntryMap → AccountEntry → TrustLineEntry → Attempt
line_allowed ctx allow_op m source line =
    unless_refused (revoke_tests allow_op source line)
    (flagged ctx allow_op.trustor (asset_allowed ctx allow_op) (allowed_flags allow_op line)
    (answer allow.LowReserve) (answer allow.Success) line m)

abbrev pub allow_trust : Ctx → AllowTrustOp → EntryMap → Attempt
allow_trust ctx allow_op m =
    unless_refused (allow_tests ctx allow_op)
    (after_some (line_of_asset m allow_op.trustor (asset_allowed ctx allow_op)) (answer allow.NoTrustLine)
    (λ line. after_some (account_at m ctx.op_source) NoAccount (λ source. line_allowed ctx allow_op m source line)))

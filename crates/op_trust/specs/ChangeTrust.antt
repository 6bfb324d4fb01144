-- CHANGE_TRUST for assets (ChangeTrustOpFrame in stellar-core; CAP-0033 for who pays, CAP-0035 for the flags).
use Rattle.std.specs.Prelude.{ℕ, ◌+◌, ℤ, pos, ◌+ℤ◌, int_lt, bit_or, not, ◌||◌, ◌∷◌, [], is_some, Bool}
use Rattle.std.specs.Prelude.{Option, Some, None, if◌then◌else◌}
use Rattle.std.specs.Ordering.{int_eq}
use Rattle.ledger_types.specs.declared.asset.Asset.{Asset}
use Rattle.ledger_types.specs.declared.account.AccountEntry.{AccountEntry}
use Rattle.ledger_types.specs.declared.trust_line.TrustLineEntry.{TrustLineEntry}
use Rattle.ledger_types.specs.declared.entry.LedgerEntry.{LedgerEntry}
use Rattle.ledger_types.specs.declared.entry.LedgerEntryBody.TheVariants as body
use Rattle.ledger_types.specs.declared.key.LedgerKey.TheVariants as key
use Rattle.op_types.specs.declared.operation_result.OperationResult.{OperationResult}
use Rattle.op_types.specs.declared.operation_result.OperationResult.TheVariants.{Inner}
use Rattle.op_types.specs.declared.operation_result.OperationResultTr.TheVariants as tr
use Rattle.op_types.specs.declared.trust_results.ChangeTrustResult.{ChangeTrustResult}
use Rattle.op_types.specs.declared.trust_results.ChangeTrustResult.TheVariants as trust
use Rattle.valid_values.specs.Assets.{is_valid_asset}
use Rattle.entry_map.specs.EntryMap.{EntryMap}
use Rattle.entry_slots.specs.Lines.{with_line}
use Rattle.entry_slots.specs.LineExtensions.{line_liabilities, use_count}
use Rattle.entry_slots.specs.Tests.{Tests}
use Rattle.sponsor_rules.specs.declared.context.Ctx.{Ctx}
use Rattle.sponsor_rules.specs.Adding.{map_after_adding}
use Rattle.sponsor_rules.specs.Removing.{map_after_removing}
use Rattle.op_form.specs.Done.{Attempt}
use Rattle.op_form.specs.Assets.{is_native, is_issued_by, issuer_at, line_asset_of, line_of_asset}
use Rattle.op_form.specs.Flags.{is_auth_required, is_account_clawback_enabled}
use Rattle.op_form.specs.Steps.{unless_refused, after_some, after_charge, success}

abbrev pub answer : ChangeTrustResult → OperationResult
answer code = Inner (tr.ChangeTrust code)

-- ---- tests

-- no line is held in lumens, nor by the issuer
abbrev pub asked_tests : Ctx → Asset → ℤ → Tests OperationResult
asked_tests ctx held limit = (
  int_lt limit (pos 0) || is_native held || not (is_valid_asset held) || is_issued_by held ctx.op_source,
  answer trust.Malformed,
) ∷ []

-- a limit doesn't hold the balance and what the account's offers would take
abbrev pub is_exceeded : ℤ → TrustLineEntry → Bool
is_exceeded limit line = int_lt limit (line.balance +ℤ (line_liabilities line).buying)

abbrev pub limit_tests : ℤ → TrustLineEntry → Tests OperationResult
limit_tests limit line = (is_exceeded limit line, answer trust.InvalidLimit) ∷ []

-- ---- a line that is there

-- a line with another limit
abbrev pub with_limit : ℤ → TrustLineEntry → TrustLineEntry
with_limit limit line = record line { limit = limit }

abbrev pub limited : Ctx → Asset → ℤ → EntryMap → Attempt
limited ctx held limit m =
    unless_refused ((not (is_some (issuer_at m held)), answer trust.NoIssuer) ∷ [])
    (success ctx (answer trust.Success) (with_line m ctx.op_source (line_asset_of held) (with_limit limit)) [])

-- a line that pools use stays
abbrev pub removed : Ctx → Asset → TrustLineEntry → EntryMap → Attempt
removed ctx held line m =
    unless_refused ((not (int_eq (use_count line) (pos 0)), answer trust.CannotDelete) ∷ [])
    (success ctx (answer trust.Success) (map_after_removing (key.TrustLine ctx.op_source (line_asset_of held)) m) [])

-- ---- a new line

-- AUTHORIZED (1) where the issuer doesn't ask to authorise, TRUSTLINE_CLAWBACK_ENABLED (4) where it can claw back
abbrev pub new_line_flags : AccountEntry → ℕ
new_line_flags issuer =
    bit_or (if is_auth_required issuer then 0 else 1) (if is_account_clawback_enabled issuer then 4 else 0)

abbrev pub new_line : Ctx → Asset → ℤ → AccountEntry → LedgerEntry
new_line ctx held limit issuer =
    record {
      last_modified_ledger_seq = ctx.seq + 1;
      body = body.TrustLine (record {
        account_id = ctx.op_source;
        asset = line_asset_of held;
        balance = pos 0;
        limit = limit;
        flags = new_line_flags issuer;
        ext = None;
      });
      ext = None;
    }

abbrev pub added : Ctx → Asset → ℤ → AccountEntry → EntryMap → Attempt
added ctx held limit issuer m =
    after_charge (map_after_adding ctx ctx.op_source (new_line ctx held limit issuer) m) (answer trust.LowReserve)
    (λ with_new. success ctx (answer trust.Success) with_new [])

-- ---- the operation

-- by the line that the source has, if it has one
abbrev pub changed : Ctx → Asset → ℤ → EntryMap → Option TrustLineEntry → Attempt
changed ctx held limit m (Some line) =
    unless_refused (limit_tests limit line)
    (if int_eq limit (pos 0) then removed ctx held line m else limited ctx held limit m)
changed ctx held limit m None =
    unless_refused ((int_eq limit (pos 0), answer trust.InvalidLimit) ∷ [])
    (after_some (issuer_at m held) (answer trust.NoIssuer) (λ issuer. added ctx held limit issuer m))

abbrev pub asset_trust : Ctx → Asset → ℤ → EntryMap → Attempt
asset_trust ctx held limit m =
    unless_refused (asked_tests ctx held limit) (changed ctx held limit m (line_of_asset m ctx.op_source held))

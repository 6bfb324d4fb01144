-- Flags of a line that its asset's issuer changes, and what goes with an authorisation (TrustFlagsOpFrameBase in
-- stellar-core; CAP-0018, CAP-0038).
use Rattle.std.specs.Prelude.{◌≢◌, ℕ, ◌≤◌, ◌%◌, not, ◌&&◌, [], Bool, true, false, Result, Ok}
use Rattle.ledger_types.specs.declared.ids.AccountId.{AccountId}
use Rattle.ledger_types.specs.declared.asset.Asset.{Asset}
use Rattle.ledger_types.specs.declared.trust_line.TrustLineEntry.{TrustLineEntry}
use Rattle.op_types.specs.declared.operation_result.OperationResult.{OperationResult}
use Rattle.entry_map.specs.EntryMap.{EntryMap}
use Rattle.entry_slots.specs.Lines.{with_line}
use Rattle.sponsor_rules.specs.declared.context.Ctx.{Ctx}
use Rattle.op_form.specs.Done.{Attempt}
use Rattle.op_form.specs.Assets.{line_asset_of}
use Rattle.op_form.specs.Flags.{has_any}
use Rattle.op_form.specs.Steps.{after, success}
use Rattle.op_flags.specs.Revoking.{map_without_offers}
use Rattle.op_flags.specs.RevokedShares.{Revoked, shares_revoked}

-- a line with other flags
abbrev pub with_flags : ℕ → TrustLineEntry → TrustLineEntry
with_flags flags line = record line { flags = flags }

-- AUTHORIZED (1) and AUTHORIZED_TO_MAINTAIN_LIABILITIES (2)
abbrev pub authorizing : ℕ
authorizing = 3

-- what flags of a line can be: none above 4, and not both that authorise
abbrev pub AreFlagsFit : ℕ → Type 0
AreFlagsFit flags = (flags ≤ 7) × (flags % 4 ≢ 3)

-- the line was authorised, at least to maintain liabilities, and isn't any more
abbrev pub is_revoked : TrustLineEntry → (flags : ℕ) → Bool
is_revoked line flags = has_any line.flags authorizing && not (has_any flags authorizing)

-- the account's offers in the asset go with an authorisation that is taken back
abbrev pub map_after_revoking : AccountId → Asset → (revoked : Bool) → EntryMap → EntryMap
map_after_revoking trustor held true m = map_without_offers trustor held m
map_after_revoking trustor held false m = m

-- the line has its new flags, once the offers are gone
abbrev pub map_after_flagging : AccountId → Asset → (flags : ℕ) → (revoked : Bool) → EntryMap → EntryMap
map_after_flagging trustor held flags revoked m =
    with_line (map_after_revoking trustor held revoked m) trustor (line_asset_of held) (with_flags flags)

-- the account's shares in pools with the asset go with an authorisation that is taken back
abbrev pub shares_left : Ctx → (low : OperationResult) → AccountId → Asset → (revoked : Bool) → EntryMap
    → Result Revoked OperationResult
shares_left ctx low trustor held true m = shares_revoked ctx low trustor held m
shares_left ctx low trustor held false m = Ok (record { entries = m; moves = [] })

-- The line gets its new flags. With an authorisation that is taken back go the account's offers in the asset and its
-- pool shares. `low` is the operation's own result for a reserve that can't be paid.
abbrev pub flagged : Ctx → AccountId → Asset → (flags : ℕ) → (low succeeded : OperationResult) → TrustLineEntry
    → EntryMap → Attempt
flagged ctx trustor held flags low succeeded line m =
    let revoked = is_revoked line flags in
    after (shares_left ctx low trustor held revoked (map_after_flagging trustor held flags revoked m))
    (λ left. success ctx succeeded left.entries left.moves)

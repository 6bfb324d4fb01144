-- What the flags of accounts and of trust lines say (CAP-0018, CAP-0035; TransactionUtils in stellar-core).
use Rattle.std.specs.Prelude.{ℕ, not, nat_eq, bit_and, Bool, true, false, Option, Some, None}
use Rattle.ledger_types.specs.declared.account.AccountEntry.{AccountEntry}
use Rattle.ledger_types.specs.declared.claimable_balance.ClaimableBalanceEntry.{ClaimableBalanceEntry}
use Rattle.ledger_types.specs.declared.claimable_balance.ClaimableBalanceEntryExtensionV1.{
  ClaimableBalanceEntryExtensionV1,
}
use Rattle.ledger_types.specs.declared.trust_line.TrustLineEntry.{TrustLineEntry}

-- one of these flags is set
abbrev pub has_any : (flags mask : ℕ) → Bool
has_any flags mask = not (nat_eq (bit_and flags mask) 0)

-- ---- accounts

-- AUTH_REQUIRED_FLAG (1): new lines in what the account issues aren't authorised
abbrev pub is_auth_required : AccountEntry → Bool
is_auth_required account = has_any account.flags 1

-- AUTH_REVOCABLE_FLAG (2): the account may take an authorisation back
abbrev pub is_auth_revocable : AccountEntry → Bool
is_auth_revocable account = has_any account.flags 2

-- AUTH_CLAWBACK_ENABLED_FLAG (8): what the account issues can be taken back
abbrev pub is_account_clawback_enabled : AccountEntry → Bool
is_account_clawback_enabled account = has_any account.flags 8

-- ---- lines

-- AUTHORIZED_FLAG (1)
abbrev pub is_authorized : TrustLineEntry → Bool
is_authorized line = has_any line.flags 1

-- TRUSTLINE_CLAWBACK_ENABLED_FLAG (4)
abbrev pub is_line_clawback_enabled : TrustLineEntry → Bool
is_line_clawback_enabled line = has_any line.flags 4

-- what is held in a line, if it exists, can be taken back
abbrev pub is_clawback_line : Option TrustLineEntry → Bool
is_clawback_line None = false
is_clawback_line (Some line) = is_line_clawback_enabled line

-- ---- claimable balances

-- CLAIMABLE_BALANCE_CLAWBACK_ENABLED_FLAG (1), where it is set
abbrev pub flagged_ext : (clawback : Bool) → Option ClaimableBalanceEntryExtensionV1
flagged_ext false = None
flagged_ext true = Some (record { flags = 1 })

abbrev pub flags_in : Option ClaimableBalanceEntryExtensionV1 → ℕ
flags_in None = 0
flags_in (Some ext) = ext.flags

-- a balance without the extension has no flag
abbrev pub balance_flags : ClaimableBalanceEntry → ℕ
balance_flags balance = flags_in balance.ext

-- The ranges of a header (LedgerHeader in Stellar-ledger.x) of protocols 18 and 19.
use Rattle.std.specs.Prelude.{◌≡◌, ℕ, ◌*◌, ◌^◌, ◌≤◌, pos, ◌≤ℤ◌, Option, Some, None}
use Rattle.hash_ids.specs.ledger_types.declared.header.LedgerHeader.{LedgerHeader}
use Rattle.hash_ids.specs.ledger_types.declared.header.LedgerHeaderExtensionV1.{LedgerHeaderExtensionV1}

abbrev pub header_flags_in : Option LedgerHeaderExtensionV1 → ℕ
header_flags_in None = 0
header_flags_in (Some ext) = ext.flags

-- which pool operations are disabled (CAP-0038)
abbrev pub header_flags : LedgerHeader → ℕ
header_flags h = header_flags_in h.ext

-- the versions of the protocol that a ledger may have
abbrev pub IsSupported : (version : ℕ) → Type 0
IsSupported version = (18 ≤ version) × (version ≤ 19)

-- No ledger draws 2^32 ids.
pub record IsHeaderInRange (h : LedgerHeader) : Type 0 where
  pub version : IsSupported h.ledger_version
  pub seq_low : 1 ≤ h.ledger_seq
  pub seq_high : h.ledger_seq ≤ 2147483647
  pub base_fee : 1 ≤ h.base_fee
  pub base_reserve : 1 ≤ h.base_reserve
  pub total_coins : pos 0 ≤ℤ h.total_coins
  pub fee_pool : pos 0 ≤ℤ h.fee_pool
  pub id_pool : h.id_pool ≤ h.ledger_seq * 2 ^ 32
  pub flags : header_flags h ≤ 7

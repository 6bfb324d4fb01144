-- The bounds of what is counted.
use Rattle.std.specs.Prelude.{◌≡◌, ◌+◌, ◌≤◌, pos, ◌<ℤ◌, ◌⊎◌}
use Rattle.hash_ids.specs.ledger_types.declared.entry.LedgerEntryBody.{LedgerEntryBody}
use Rattle.hash_ids.specs.ledger_types.declared.entry.LedgerEntryBody.TheVariants as body
use Rattle.sponsor_laws.specs.entry_slots.AccountExtensions.{num_sponsoring}

-- an account has at most 1000 subentries
abbrev pub AreSubentriesFew : LedgerEntryBody → Type 0
AreSubentriesFew (body.Account account) = account.num_sub_entries ≤ 1000
AreSubentriesFew other = Unit {0}

-- an account's subentries and the reserves that it pays as a sponsor fit 32 bits together
abbrev pub DoReservesFit : LedgerEntryBody → Type 0
DoReservesFit (body.Account account) = account.num_sub_entries + num_sponsoring account ≤ 4294967295
DoReservesFit other = Unit {0}

-- a pool has both reserves and shares, or none of the three
abbrev pub IsFilledOrEmpty : LedgerEntryBody → Type 0
IsFilledOrEmpty (body.LiquidityPool p) =
    ((pos 0 <ℤ p.reserve_a) × (pos 0 <ℤ p.reserve_b) × (pos 0 <ℤ p.total_pool_shares))
    ⊎ ((p.reserve_a ≡ pos 0) × (p.reserve_b ≡ pos 0) × (p.total_pool_shares ≡ pos 0))
IsFilledOrEmpty other = Unit {0}

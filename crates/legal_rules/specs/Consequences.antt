-- What a legal state gives of an account that exists.
use Rattle.std.specs.Prelude.{◌≡◌, ℕ, ◌≤◌, pos, ◌≤ℤ◌, length, Some}
use Rattle.hash_ids.specs.ledger_types.declared.ids.AccountId.{AccountId}
use Rattle.hash_ids.specs.ledger_types.declared.account.AccountEntry.{AccountEntry}
use Rattle.hash_ids.specs.ledger_types.declared.header.LedgerHeader.{LedgerHeader}
use Rattle.entry_sums.specs.entry_map.EntryMap.{EntryMap}
use Rattle.sponsor_laws.specs.entry_slots.Accounts.{account_at}
use Rattle.sponsor_laws.specs.entry_slots.AccountExtensions.{num_sponsoring}
use Rattle.sponsor_laws.specs.reserve_rules.Reserve.{min_balance, IsInRange}
use Rattle.sponsor_laws.specs.sponsor_rules.declared.context.Ctx.{Ctx}
use Rattle.sponsor_laws.specs.sponsor_rules.Payers.{IsReadyAccount}
use Rattle.sponsor_laws.specs.Sums.{SponsorsNothing}
use Rattle.legal_rules.specs.Sponsorships.{AreSponsorshipsSound, IsSponsorReady}
use Rattle.legal_rules.specs.Aggregates.{Kind}
use Rattle.hash_ids.specs.ledger_types.declared.key.LedgerKey.{LedgerKey}
use Rattle.std.specs.Prelude.{ℤ, ◌-ℤ◌, ◌↔◌}
use Rattle.legal_rules.specs.Headers.{IsHeaderInRange}
use Rattle.legal_rules.specs.Legal.{view, IsLegal}
use Rattle.legal_rules.specs.Owing.{Owed, nothing_owed, IsLegalOwing}

-- balance and liabilities are in their ranges
abbrev pub AccountsInRange : Type 0
AccountsInRange = (h : LedgerHeader) (m : EntryMap) (id : AccountId) (a : AccountEntry) → IsLegal h m
    → account_at m id ≡ Some a → IsInRange a

-- two reserves more can be paid by others
abbrev pub AccountsReady : Type 0
AccountsReady = (h : LedgerHeader) (m : EntryMap) (id : AccountId) (a : AccountEntry) → IsLegal h m
    → account_at m id ≡ Some a → IsReadyAccount a

-- a minimum balance isn't below 0
abbrev pub MinBalancesLow : Type 0
MinBalancesLow = (h : LedgerHeader) (m : EntryMap) (id : AccountId) (a : AccountEntry) (base_reserve : ℕ) → IsLegal h m
    → account_at m id ≡ Some a → pos 0 ≤ℤ min_balance a base_reserve

-- there are at most 20 signers; each is a subentry, and there are at most 1000 of these
abbrev pub SignersFew : Type 0
SignersFew = (h : LedgerHeader) (m : EntryMap) (id : AccountId) (a : AccountEntry) → IsLegal h m
    → account_at m id ≡ Some a
    → (length a.signers ≤ 20) × (length a.signers ≤ a.num_sub_entries) × (a.num_sub_entries ≤ 1000)

-- an account that pays no reserve as a sponsor is nobody's sponsor
abbrev pub IdleSponsorsNothing : Type 0
IdleSponsorsNothing = (h : LedgerHeader) (m : EntryMap) (id : AccountId) (a : AccountEntry) → IsLegal h m
    → account_at m id ≡ Some a → num_sponsoring a ≡ 0 → SponsorsNothing m id

-- where open sponsorships are sound, each account's open sponsor exists and is another one
abbrev pub SponsorsReady : Type 0
SponsorsReady = (ctx : Ctx) (m : EntryMap) (owner : AccountId) → AreSponsorshipsSound ctx m → IsSponsorReady ctx owner m

-- a state in which an aggregate owes anything isn't legal
abbrev pub LegalOwesNothing : Type 0
LegalOwesNothing = (h : LedgerHeader) (m : EntryMap) (owed : Owed) (sum : ℤ) → IsLegal h m
    → IsLegalOwing (view m) h.id_pool owed sum m → (kind : Kind) (k : LedgerKey) → owed kind k ≡ pos 0

-- The two forms of legality say the same: aggregates that balance, and aggregates that owe nothing.
abbrev pub LegalIsOwingNothing : Type 0
LegalIsOwingNothing = (h : LedgerHeader) (m : EntryMap) → IsLegal h m
    ↔ (IsHeaderInRange h × IsLegalOwing (view m) h.id_pool nothing_owed (h.total_coins -ℤ h.fee_pool) m)

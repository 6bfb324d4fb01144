-- That adding, removing and moving keep the counts of accounts equal to their sums, and owners and sponsors existing;
-- and what these sums say of the counts.
use Rattle.std.specs.Prelude.{◌≡◌, ◌≢◌, ◌+◌, ◌≤◌, [], Option, Some, None, Ok}
use Rattle.std.specs.FinMap.{get}
use Rattle.sponsor_rules.specs.ledger_types.declared.ids.AccountId.{AccountId}
use Rattle.sponsor_rules.specs.ledger_types.declared.account.AccountEntry.{AccountEntry}
use Rattle.sponsor_rules.specs.ledger_types.declared.signer.Signer.{Signer}
use Rattle.sponsor_rules.specs.ledger_types.declared.signer.SignerKey.{SignerKey}
use Rattle.sponsor_rules.specs.ledger_types.declared.claimable_balance.ClaimableBalanceEntry.{ClaimableBalanceEntry}
use Rattle.sponsor_rules.specs.ledger_types.declared.liquidity_pool.LiquidityPoolEntry.{LiquidityPoolEntry}
use Rattle.sponsor_rules.specs.ledger_types.declared.entry.LedgerEntry.{LedgerEntry}
use Rattle.sponsor_rules.specs.ledger_types.declared.entry.LedgerEntryBody.{LedgerEntryBody}
use Rattle.sponsor_rules.specs.ledger_types.declared.entry.LedgerEntryBody.TheVariants as body
use Rattle.sponsor_rules.specs.ledger_types.declared.key.LedgerKey.{LedgerKey}
use Rattle.sponsor_rules.specs.ledger_types.Keys.{key_of}
use Rattle.sponsor_rules.specs.entry_map.EntryMap.{EntryMap}
use Rattle.sponsor_rules.specs.declared.context.Ctx.{Ctx}
use Rattle.sponsor_rules.specs.declared.count.Count.{Count}
use Rattle.sponsor_rules.specs.declared.count.Count.TheVariants.{SubEntries, Sponsoring, Sponsored}
use Rattle.sponsor_rules.specs.entry_slots.Accounts.{account_in, account_at, HasAccount}
use Rattle.sponsor_rules.specs.entry_slots.EntrySponsor.{sponsor_of}
use Rattle.sponsor_rules.specs.Charge.{owner_of}
use Rattle.sponsor_rules.specs.Counting.{count_in}
use Rattle.sponsor_rules.specs.Payers.{open_sponsor, payer_of}
use Rattle.sponsor_rules.specs.Adding.{map_after_adding}
use Rattle.sponsor_rules.specs.Removing.{map_after_removing}
use Rattle.sponsor_rules.specs.Moving.{map_after_moving}
use Rattle.sponsor_rules.specs.Signers.{map_after_adding_signer, map_after_removing_signer, map_after_moving_signer}
use Rattle.sponsor_laws.specs.Sums.{AreCounted, HasItems, AllHaveItems, SponsorsNothing}

-- counts equal their sums, owners and sponsors exist, and each signer has an item for its sponsor
pub record AreKept (m : EntryMap) : Type 0 where
  pub counted : AreCounted m
  pub items : AllHaveItems m

-- ---- adding

-- an account's open sponsor is another account
abbrev pub IsApart : Ctx → AccountId → Type 0
IsApart ctx owner = (sponsor : AccountId) → open_sponsor ctx owner ≡ Some sponsor → sponsor ≢ owner

-- an account that is added: its counts are 0, it has no signers, and so no sponsors of signers
pub record IsNewAccount (account : AccountEntry) : Type 0 where
  pub counts : (count : Count) → count_in count account ≡ 0
  pub signers : account.signers ≡ []
  pub items : HasItems account

-- Who has to exist before a thing is added: the owner of a line, an offer or data, and the payer, unless that is the
-- account that is added. For a pool nobody has to.
abbrev pub HaveToExist : Ctx → AccountId → LedgerEntryBody → EntryMap → Type 0
HaveToExist ctx owner (body.Account account) m = (sponsor : AccountId) → open_sponsor ctx owner ≡ Some sponsor
    → HasAccount m sponsor
HaveToExist ctx owner (body.LiquidityPool pool) m = Unit {0}
HaveToExist ctx owner (body.ClaimableBalance balance) m = HasAccount m (payer_of ctx owner)
HaveToExist ctx owner (body.TrustLine line) m = HasAccount m owner × HasAccount m (payer_of ctx owner)
HaveToExist ctx owner (body.Offer offer) m = HasAccount m owner × HasAccount m (payer_of ctx owner)
HaveToExist ctx owner (body.Data data_entry) m = HasAccount m owner × HasAccount m (payer_of ctx owner)

-- an entry that may be added: nothing is under its key, it is the owner's, and it has no sponsor yet
pub record IsAddable (ctx : Ctx) (owner : AccountId) (entry : LedgerEntry) (m : EntryMap) : Type 0 where
  pub free : get m (key_of entry) ≡ None
  pub owned : (id : AccountId) → owner_of entry.body ≡ Some id → id ≡ owner
  pub unsponsored : sponsor_of entry ≡ None
  pub new_account : (account : AccountEntry) → account_in entry.body ≡ Some account → IsNewAccount account
  pub existing : HaveToExist ctx owner entry.body m
  pub apart : IsApart ctx owner

abbrev pub AddingKeeps : Type 0
AddingKeeps = (ctx : Ctx) (owner : AccountId) (entry : LedgerEntry) (old new : EntryMap) → AreKept old
    → IsAddable ctx owner entry old → map_after_adding ctx owner entry old ≡ Ok new → AreKept new

-- ---- removing

-- an account that may be removed has no subentries and sponsors nothing
pub record IsBare (m : EntryMap) (account : AccountEntry) : Type 0 where
  pub subentries : count_in SubEntries account ≡ 0
  pub sponsors : SponsorsNothing m account.account_id

abbrev pub IsRemovable : LedgerKey → EntryMap → Type 0
IsRemovable key m = (entry : LedgerEntry) (account : AccountEntry) → get m key ≡ Some entry
    → account_in entry.body ≡ Some account → IsBare m account

abbrev pub RemovingKeeps : Type 0
RemovingKeeps = (key : LedgerKey) (old : EntryMap) → AreKept old → IsRemovable key old
    → AreKept (map_after_removing key old)

-- ---- moving

abbrev pub PayerExists : Option AccountId → EntryMap → Type 0
PayerExists payer m = (id : AccountId) → payer ≡ Some id → HasAccount m id

abbrev pub MovingKeeps : Type 0
MovingKeeps = (ctx : Ctx) (key : LedgerKey) (payer : Option AccountId) (old new : EntryMap) → AreKept old
    → PayerExists payer old → map_after_moving ctx key payer old ≡ Ok new → AreKept new

-- ---- signers

abbrev pub AddingSignerKeeps : Type 0
AddingSignerKeeps =
    (ctx : Ctx) (id : AccountId) (signer : Signer) (old new : EntryMap) → AreKept old → HasAccount old id
    → HasAccount old (payer_of ctx id) → IsApart ctx id
    → map_after_adding_signer ctx id signer old ≡ Ok new → AreKept new

abbrev pub RemovingSignerKeeps : Type 0
RemovingSignerKeeps = (id : AccountId) (key : SignerKey) (old : EntryMap) → AreKept old
    → AreKept (map_after_removing_signer id key old)

abbrev pub MovingSignerKeeps : Type 0
MovingSignerKeeps =
    (ctx : Ctx) (id : AccountId) (key : SignerKey) (payer : Option AccountId) (old new : EntryMap) → AreKept old
    → PayerExists payer old
    → map_after_moving_signer ctx id key payer old ≡ Ok new → AreKept new

-- ---- sponsoring nothing

-- each entry that has a sponsor counts: claimable balances have claimants, and pools have no sponsor
pub record SponsoredEntriesCount (m : EntryMap) : Type 0 where
  pub claimants : (key : LedgerKey) (entry : LedgerEntry) (balance : ClaimableBalanceEntry) → get m key ≡ Some entry
      → entry.body ≡ body.ClaimableBalance balance → balance.claimants ≢ []
  pub pools : (key : LedgerKey) (entry : LedgerEntry) (pool : LiquidityPoolEntry) → get m key ≡ Some entry
      → entry.body ≡ body.LiquidityPool pool → sponsor_of entry ≡ None

-- an account that pays no reserve for others is nobody's sponsor
abbrev pub ZeroSponsorsNothing : Type 0
ZeroSponsorsNothing =
    (id : AccountId) (account : AccountEntry) (m : EntryMap) → AreKept m → SponsoredEntriesCount m
    → account_at m id ≡ Some account → count_in Sponsoring account ≡ 0
    → SponsorsNothing m id

-- ---- what others pay

-- The reserves of an account that others pay are at most its own two and one for each of its subentries, so its minimum
-- balance is not below 0.
abbrev pub SponsoredAtMost : Type 0
SponsoredAtMost =
    (id : AccountId) (account : AccountEntry) (m : EntryMap) → AreKept m → account_at m id ≡ Some account
    → count_in Sponsored account ≤ 2 + count_in SubEntries account

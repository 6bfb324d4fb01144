-- That entries which are added, removed and moved keep a state legal, but for what they count beside their reserves.
use Rattle.std.specs.Prelude.{◌≡◌, ℕ, ℤ, pos, neg_ℤ, ◌+ℤ◌, ◌≤◌, ◌≤ℤ◌, List, [], Option, Some, None, Ok}
use Rattle.std.specs.FinMap.{get}
use Rattle.hash_ids.specs.ledger_types.declared.ids.AccountId.{AccountId}
use Rattle.hash_ids.specs.ledger_types.declared.account.AccountEntry.{AccountEntry}
use Rattle.hash_ids.specs.ledger_types.declared.data_entry.DataEntry.{DataEntry}
use Rattle.hash_ids.specs.ledger_types.declared.header.LedgerHeader.{LedgerHeader}
use Rattle.hash_ids.specs.ledger_types.declared.entry.LedgerEntry.{LedgerEntry}
use Rattle.hash_ids.specs.ledger_types.declared.entry.LedgerEntryBody.TheVariants as body
use Rattle.hash_ids.specs.ledger_types.declared.key.LedgerKey.{LedgerKey}
use Rattle.hash_ids.specs.ledger_types.declared.key.LedgerKey.TheVariants as key
use Rattle.hash_ids.specs.ledger_types.Keys.{key_of}
use Rattle.entry_sums.specs.entry_map.EntryMap.{EntryMap}
use Rattle.sponsor_laws.specs.entry_slots.Accounts.{account_at, HasAccount}
use Rattle.sponsor_laws.specs.entry_slots.AccountExtensions.{num_sponsoring}
use Rattle.sponsor_laws.specs.entry_slots.EntrySponsor.{sponsor_of}
use Rattle.sponsor_laws.specs.reserve_rules.Reserve.{room}
use Rattle.sponsor_laws.specs.sponsor_rules.declared.charge.Charge.TheVariants as charge
use Rattle.sponsor_laws.specs.sponsor_rules.declared.context.Ctx.{Ctx}
use Rattle.sponsor_laws.specs.sponsor_rules.Adding.{map_after_adding}
use Rattle.sponsor_laws.specs.sponsor_rules.Charge.{charge_of}
use Rattle.sponsor_laws.specs.sponsor_rules.Moving.{map_after_moving}
use Rattle.sponsor_laws.specs.sponsor_rules.Payers.{payer_of}
use Rattle.sponsor_laws.specs.sponsor_rules.Removing.{map_after_removing}
use Rattle.sponsor_laws.specs.Laws.{PayerExists}
use Rattle.entry_sums.specs.Sums.{total}
use Rattle.legal_rules.specs.Aggregates.{Subentries, Sponsoring, Sponsored, View}
use Rattle.hash_ids.specs.ledger_types.declared.claimable_balance.ClaimableBalanceEntry.{ClaimableBalanceEntry}
use Rattle.legal_rules.specs.Supply.{of_asset, held}
use Rattle.legal_rules.specs.OfferIds.{offer_with}
use Rattle.legal_rules.specs.Ranges.{IsBodyInRange, IsDataInRange}
use Rattle.legal_rules.specs.Sponsorships.{IsSponsorReady}
use Rattle.legal_rules.specs.Legal.{IsLegal}
use Rattle.legal_rules.specs.Owing.{weighed, Owed, plus, less, beside_reserves, IsEntryLegal, IsLegalOwing}
use Rattle.legal_rules.specs.Payments.{with_paid}

-- ---- adding

-- no offer has the id of an entry that is added
abbrev pub IsIdFree : EntryMap → LedgerEntry → Type 0
IsIdFree m entry = (id : ℤ) → (total (offer_with id) m +ℤ offer_with id entry) ≤ℤ pos 1

-- an entry that nobody pays for yet, under a key where nothing is
pub record IsFresh (m : EntryMap) (entry : LedgerEntry) : Type 0 where
  pub free : get m (key_of entry) ≡ None
  pub unsponsored : sponsor_of entry ≡ None
  pub id_free : IsIdFree m entry

-- A line, an offer or data is added: what it counts beside its reserve is owed.
abbrev pub SubentryAdded : Type 0
SubentryAdded =
    (v : View) (id_pool next : ℕ) (owed : Owed) (sum : ℤ) (ctx : Ctx) (owner : AccountId) (n : ℕ) (entry : LedgerEntry)
    (old new : EntryMap) → IsLegalOwing v id_pool owed sum old → charge_of entry.body ≡ charge.Subentry owner n
    → IsFresh old entry → id_pool ≤ next → IsEntryLegal next entry → HasAccount old owner → IsSponsorReady ctx owner old
    → map_after_adding ctx owner entry old ≡ Ok new
    → IsLegalOwing v next (plus owed (beside_reserves (weighed v entry))) (sum +ℤ held v.asset entry) new

-- A claimable balance is added: nothing is owed, and so much more is held of its asset as its amount is.
abbrev pub BalanceAdded : Type 0
BalanceAdded =
    (v : View) (id_pool : ℕ) (owed : Owed) (sum : ℤ) (ctx : Ctx) (owner : AccountId) (b : ClaimableBalanceEntry)
    (entry : LedgerEntry) (old new : EntryMap) → IsLegalOwing v id_pool owed sum old
    → entry.body ≡ body.ClaimableBalance b → IsFresh old entry → IsBodyInRange id_pool entry.body
    → HasAccount old (payer_of ctx owner) → map_after_adding ctx owner entry old ≡ Ok new
    → IsLegalOwing v id_pool owed (sum +ℤ of_asset v.asset b.asset b.amount) new

-- an account that has nothing but its lumens
pub record IsNewAccount (a : AccountEntry) : Type 0 where
  pub subentries : a.num_sub_entries ≡ 0
  pub signers : a.signers ≡ []
  pub ext : a.ext ≡ None

-- An account is added: nothing is owed.
abbrev pub AccountAdded : Type 0
AccountAdded =
    (v : View) (id_pool : ℕ) (owed : Owed) (sum : ℤ) (ctx : Ctx) (a : AccountEntry) (entry : LedgerEntry)
    (old new : EntryMap) → IsLegalOwing v id_pool owed sum old → entry.body ≡ body.Account a → IsNewAccount a
    → IsFresh old entry → IsEntryLegal id_pool entry → IsSponsorReady ctx a.account_id old
    → map_after_adding ctx a.account_id entry old ≡ Ok new
    → IsLegalOwing v id_pool owed (sum +ℤ held v.asset entry) new

-- ---- removing

-- no aggregate of reserves owes anything: more may be stated there than is counted, as for an entry that is out of the
-- map for a while
pub record AreReservesSettled (owed : Owed) : Type 0 where
  pub subentries : (k : LedgerKey) → owed Subentries k ≤ℤ pos 0
  pub sponsored : (k : LedgerKey) → owed Sponsored k ≤ℤ pos 0
  pub sponsoring : (k : LedgerKey) → owed Sponsoring k ≤ℤ pos 0

-- A line, an offer or data is removed: what it counted beside its reserve isn't owed any more.
abbrev pub SubentryRemoved : Type 0
SubentryRemoved =
    (v : View) (id_pool : ℕ) (owed : Owed) (sum : ℤ) (owner : AccountId) (n : ℕ) (k : LedgerKey) (entry : LedgerEntry)
    (m : EntryMap) → IsLegalOwing v id_pool owed sum m → AreReservesSettled owed → get m k ≡ Some entry
    → charge_of entry.body ≡ charge.Subentry owner n
    → IsLegalOwing v id_pool (plus owed (less (beside_reserves (weighed v entry))))
    (sum +ℤ neg_ℤ (held v.asset entry)) (map_after_removing k m)

abbrev pub BalanceRemoved : Type 0
BalanceRemoved =
    (v : View) (id_pool : ℕ) (owed : Owed) (sum : ℤ) (n : ℕ) (k : LedgerKey) (entry : LedgerEntry) (m : EntryMap)
    → IsLegalOwing v id_pool owed sum m → AreReservesSettled owed → get m k ≡ Some entry
    → charge_of entry.body ≡ charge.Payer n
    → IsLegalOwing v id_pool owed (sum +ℤ neg_ℤ (held v.asset entry)) (map_after_removing k m)

-- ---- moving

-- Any entry moves to another payer, or to its owner: aggregates and supply stay.
abbrev pub EntryMoved : Type 0
EntryMoved =
    (v : View) (id_pool : ℕ) (owed : Owed) (sum : ℤ) (ctx : Ctx) (k : LedgerKey) (payer : Option AccountId)
    (old new : EntryMap) → IsLegalOwing v id_pool owed sum old → AreReservesSettled owed → PayerExists payer old
    → map_after_moving ctx k payer old ≡ Ok new → IsLegalOwing v id_pool owed sum new

-- ---- complete changes

-- data that nobody pays for yet
abbrev pub new_data : ℕ → DataEntry → LedgerEntry
new_data seq data_entry = record { last_modified_ledger_seq = seq; body = body.Data data_entry; ext = None }

abbrev pub AddingDataKeeps : Type 0
AddingDataKeeps =
    (h : LedgerHeader) (ctx : Ctx) (seq : ℕ) (data_entry : DataEntry) (old new : EntryMap) → IsLegal h old
    → IsDataInRange data_entry → get old (key_of (new_data seq data_entry)) ≡ None
    → HasAccount old data_entry.account_id
    → IsSponsorReady ctx data_entry.account_id old
    → map_after_adding ctx data_entry.account_id (new_data seq data_entry) old ≡ Ok new → IsLegal h new

abbrev pub RemovingDataKeeps : Type 0
RemovingDataKeeps = (h : LedgerHeader) (id : AccountId) (name : List ℕ) (m : EntryMap) → IsLegal h m
    → IsLegal h (map_after_removing (key.Data id name) m)

abbrev pub MovingKeeps : Type 0
MovingKeeps =
    (h : LedgerHeader) (ctx : Ctx) (k : LedgerKey) (payer : Option AccountId) (old new : EntryMap) → IsLegal h old
    → PayerExists payer old → map_after_moving ctx k payer old ≡ Ok new → IsLegal h new

-- an account without subentries that sponsors nothing is removed, and its lumens go to another one
abbrev pub MergesKeep : Type 0
MergesKeep =
    (h : LedgerHeader) (m : EntryMap) (id destination : AccountId) (a b : AccountEntry) → IsLegal h m
    → account_at m id ≡ Some a → a.num_sub_entries ≡ 0 → num_sponsoring a ≡ 0
    → account_at (map_after_removing (key.Account id) m) destination ≡ Some b → a.balance ≤ℤ room b
    → IsLegal h (with_paid destination a.balance (map_after_removing (key.Account id) m))

-- What an invariant says of entries, kind by kind, and the changes of a map under which it is closed.
use Rattle.entry_map.specs.EntryMap.{EntryMap, erase, put}
use Rattle.entry_slots.specs.AccountExtensions.{account_liabilities, with_account_liabilities, with_seq_num}
use Rattle.entry_slots.specs.EntrySponsor.{sponsor_of}
use Rattle.ledger_types.specs.declared.account.AccountEntry.{AccountEntry}
use Rattle.ledger_types.specs.declared.account.AccountEntryExtensionV3.{AccountEntryExtensionV3}
use Rattle.ledger_types.specs.declared.asset.Asset.{Asset}
use Rattle.ledger_types.specs.declared.claim_atom.ClaimAtom.{ClaimAtom}
use Rattle.ledger_types.specs.declared.claimable_balance.ClaimableBalanceEntry.{ClaimableBalanceEntry}
use Rattle.ledger_types.specs.declared.data_entry.DataEntry.{DataEntry}
use Rattle.ledger_types.specs.declared.entry.LedgerEntry.{LedgerEntry}
use Rattle.ledger_types.specs.declared.entry.LedgerEntryBody.{LedgerEntryBody}
use Rattle.ledger_types.specs.declared.ids.AccountId.{AccountId}
use Rattle.ledger_types.specs.declared.ids.Hash.{Hash}
use Rattle.ledger_types.specs.declared.key.LedgerKey.{LedgerKey}
use Rattle.ledger_types.specs.declared.liquidity_pool.LiquidityPoolEntry.{LiquidityPoolEntry}
use Rattle.ledger_types.specs.declared.offer.OfferEntry.{OfferEntry}
use Rattle.ledger_types.specs.declared.price.Liabilities.{Liabilities}
use Rattle.ledger_types.specs.declared.signer.Signer.{Signer}
use Rattle.ledger_types.specs.declared.signer.SignerKey.{SignerKey}
use Rattle.ledger_types.specs.declared.trust_line.TrustLineEntry.{TrustLineEntry}
use Rattle.reserve_rules.specs.Reserve.{greatest_i64}
use Rattle.sponsor_rules.specs.Counting.{with_count}
use Rattle.sponsor_rules.specs.SignerIndex.{with_signer_at, with_signer_sponsor, without_signer}
use Rattle.sponsor_rules.specs.declared.count.Count.{Count}
use Rattle.std.proofs.Common.{slice_set}
use Rattle.std.specs.FinMap.{get}
use Rattle.std.specs.Prelude.{None, Option, Some, pos, ℕ, ℤ, ◌≡◌, ◌≤ℤ◌}
use Rattle.ledger_types.specs.declared.claim_atom.ClaimAtom.TheVariants as atom
use Rattle.ledger_types.specs.declared.entry.LedgerEntryBody.TheVariants as body
use Rattle.ledger_types.specs.declared.key.LedgerKey.TheVariants as key

pub record Kinds : Type 1 where
  pub Account : AccountEntry → Type 0
  pub Line : TrustLineEntry → Type 0
  pub Offer : OfferEntry → Type 0
  pub Data : DataEntry → Type 0
  pub Balance : ClaimableBalanceEntry → Type 0
  pub Pool : LiquidityPoolEntry → Type 0
  pub Sponsor : Option AccountId → Type 0
  pub Key : SignerKey → Type 0
  -- what an account is given with a sequence number that is set
  pub Extension : Option AccountEntryExtensionV3 → Type 0
  -- an asset that is named
  pub Named : Asset → Type 0

abbrev pub FitsBody : Kinds → LedgerEntryBody → Type 0
FitsBody of (body.Account account) = of.Account account
FitsBody of (body.TrustLine held) = of.Line held
FitsBody of (body.Offer offer) = of.Offer offer
FitsBody of (body.Data entry) = of.Data entry
FitsBody of (body.ClaimableBalance balance) = of.Balance balance
FitsBody of (body.LiquidityPool pool) = of.Pool pool

-- an entry that may be put
pub record Fits (of : Kinds) (e : LedgerEntry) : Type 0 where
  pub body : FitsBody of e.body
  pub sponsor : of.Sponsor (sponsor_of e)

-- the key of anything but an account
abbrev pub IsOther : LedgerKey → Type 0
IsOther (key.Account id) = ⊥
IsOther k = Unit {0}

-- a number that is at most the greatest where another one is
abbrev pub IsBoundBy : (was now : ℤ) → Type 0
IsBoundBy was now = was ≤ℤ greatest_i64 → now ≤ℤ greatest_i64

-- what a pool holds and counts is bound by what it held and counted
pub record AreBoundBy (p : LiquidityPoolEntry) (a b shares lines : ℤ) : Type 0 where
  pub reserve_a : IsBoundBy p.reserve_a a
  pub reserve_b : IsBoundBy p.reserve_b b
  pub total : IsBoundBy p.total_pool_shares shares
  pub counted : IsBoundBy p.pool_shares_trust_line_count lines

pub record Invariant : Type 1 where
  pub of : Kinds
  pub Holds : EntryMap → Type 0
  -- a key whose entry may go
  pub Goes : LedgerKey → Type 0
  pub others : (k : LedgerKey) → IsOther k → Goes k
  pub found : (m : EntryMap) (k : LedgerKey) (e : LedgerEntry) → Holds m → get m k ≡ Some e → Fits of e
  pub putting : (m : EntryMap) (e : LedgerEntry) → Holds m → Fits of e → Holds (put m e)
  pub erasing : (m : EntryMap) (k : LedgerKey) → Holds m → Goes k → Holds (erase m k)
  -- Unit where it asks for facts of the state at hand, and ⊥ where none are needed
  pub Asks : Type 0
  pub nobody : of.Sponsor None
  -- changes of accounts
  pub counted : (count : Count) (n : ℕ) (a : AccountEntry) → of.Account a → of.Account (with_count count n a)
  pub numbered : (balance seq_num : ℤ) (a : AccountEntry) → of.Account a
      → of.Account (record a { balance = balance; seq_num = seq_num })
  pub sequenced : (n : ℤ) (ext : Option AccountEntryExtensionV3) → of.Extension ext → (a : AccountEntry)
      → of.Account a → of.Account (with_seq_num n ext a)
  pub signed : (index : ℕ) (one : Signer) (sponsor : Option AccountId) → of.Key one.key → of.Sponsor sponsor
      → (a : AccountEntry) → of.Account a → of.Account (with_signer_at index one sponsor a)
  pub unsigned : (index : ℕ) (a : AccountEntry) → of.Account a → of.Account (without_signer index a)
  pub sponsored : (index : ℕ) (sponsor : Option AccountId) → of.Sponsor sponsor → (a : AccountEntry) → of.Account a
      → of.Account (with_signer_sponsor index sponsor a)
  pub weighed : (index : ℕ) (one : Signer) → of.Key one.key → (a : AccountEntry) → of.Account a
      → of.Account (record a { signers = slice_set a.signers index one })
  -- liabilities that are bound
  pub liable : (owed : Liabilities) (a : AccountEntry)
      → (Asks → IsBoundBy (account_liabilities a).selling owed.selling) → of.Account a
      → of.Account (with_account_liabilities owed a)
  -- a line of the same account in the same asset
  pub same_line : (t s : TrustLineEntry) → s.account_id ≡ t.account_id → s.asset ≡ t.asset → of.Line t → of.Line s
  -- a pool of which so much is held, where that much can be
  pub pooled : (reserve_a reserve_b shares lines : ℤ) (p : LiquidityPoolEntry)
      → (Asks → AreBoundBy p reserve_a reserve_b shares lines) → of.Pool p
      → of.Pool (record p {
        reserve_a = reserve_a;
        reserve_b = reserve_b;
        total_pool_shares = shares;
        pool_shares_trust_line_count = lines;
      })
  pub pool_assets : (p : LiquidityPoolEntry) → of.Pool p → of.Named p.params.asset_a × of.Named p.params.asset_b
  pub pool_bounds : (p : LiquidityPoolEntry) → of.Pool p → Asks
      → (p.reserve_a ≤ℤ greatest_i64) × (p.reserve_b ≤ℤ greatest_i64)
  -- what is left of an offer
  pub offer_left : (n : ℕ) (o : OfferEntry) → (Asks → (pos n ≤ℤ greatest_i64) × of.Offer o)
      → of.Offer (record o { amount = pos n })
  -- a trade, as it is reported
  pub Reported : ClaimAtom → Type 0
  pub crossed : (o : OfferEntry) (wheat sheep : ℤ) → (Asks → of.Offer o)
      → Reported (atom.OrderBook o.seller_id o.offer_id o.selling wheat o.buying sheep)
  pub swapped : (p : LiquidityPoolEntry) (id : Hash) (wheat sheep : Asset) (sold bought : ℤ) → of.Named wheat
      → of.Named sheep → (Asks → p.pool_id ≡ id) → of.Pool p → Reported (atom.LiquidityPool id wheat sold sheep bought)

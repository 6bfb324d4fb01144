-- What each kind of entry counts.
use Rattle.sponsor_laws.proofs.Prelude.{◌≡◌, ◌≢◌, refl, ap, ◌∙◌, ℕ, ◌≤◌, false, [], length, Option, Some, None, arith}
use Rattle.sponsor_laws.proofs.Prelude.{if◌then◌else◌, count_by, get, AccountId, AccountEntry, ClaimableBalanceEntry}
use Rattle.sponsor_laws.proofs.Prelude.{LiquidityPoolEntry, LedgerEntry, LedgerEntryBody, LedgerKey, key_of_body}
use Rattle.sponsor_laws.proofs.Prelude.{EntryMap, Count, SubEntries, Sponsoring, Sponsored, account_in, sponsor_of}
use Rattle.sponsor_laws.proofs.Prelude.{line_multiplicity, multiplicity, owner_of, is_same_account, is_this, is_there}
use Rattle.sponsor_laws.proofs.Prelude.{signer_sponsors, subentries_for, total, counted_for, is_itself}
use Rattle.sponsor_rules.specs.ledger_types.declared.asset.TrustLineAsset.{TrustLineAsset}
use Rattle.sponsor_rules.specs.ledger_types.declared.asset.TrustLineAsset.TheVariants as asset
use Rattle.sponsor_rules.specs.ledger_types.declared.trust_line.TrustLineEntry.{TrustLineEntry}
use Rattle.sponsor_rules.specs.ledger_types.declared.offer.OfferEntry.{OfferEntry}
use Rattle.sponsor_rules.specs.ledger_types.declared.data_entry.DataEntry.{DataEntry}
use Rattle.sponsor_rules.specs.ledger_types.declared.entry.LedgerEntryBody.TheVariants as body
use Rattle.sponsor_rules.specs.ledger_types.declared.key.LedgerKey.TheVariants as key
use Rattle.sponsor_laws.proofs.Accounts.{share, own_part, counted_split}
use Rattle.sponsor_laws.proofs.Even.{IsEven, sums_of, nothing_if}
use Rattle.sponsor_laws.proofs.Shifts.{Shift, at_one, no_shift}
use Rattle.sponsor_laws.proofs.Paying.{HasEnough}
use Rattle.sponsor_laws.proofs.Settling.{erase_total}

-- ---- what exists is in the counts

this_itself : (id : AccountId) (o : Option AccountId) (k : ℕ) → o ≡ Some id → (if is_this id o then k else 0) ≡ k
this_itself id o k is = ap (λ x. if is_this id x then k else 0) is ∙ ap (λ t. if t then k else 0) (is_itself id)

pub pays_for : (e : LedgerEntry) (s : AccountId) → sponsor_of e ≡ Some s
    → multiplicity e.body ≤ counted_for Sponsoring s e
pays_for e s is = let here = this_itself s (sponsor_of e) (multiplicity e.body) is in
    let split = counted_split Sponsoring s e in omega arith

pub is_paid_for : (e : LedgerEntry) (s owner : AccountId) → sponsor_of e ≡ Some s → owner_of e.body ≡ Some owner
    → multiplicity e.body ≤ counted_for Sponsored owner e
is_paid_for e s owner is owns =
    let here : share Sponsored owner (multiplicity e.body) (owner_of e.body) (sponsor_of e) ≡ multiplicity e.body =
    ap (λ o. if is_there o then (if is_this owner (owner_of e.body) then multiplicity e.body else 0) else 0) is
    ∙ this_itself owner (owner_of e.body) (multiplicity e.body) owns in
    let split = counted_split Sponsored owner e in
    omega arith

pub in_total : (m : EntryMap) (k : LedgerKey) (e : LedgerEntry) (count : Count) (id : AccountId) → get m k ≡ Some e
    → counted_for count id e ≤ total count id m
in_total m k e count id there = let sum = erase_total m k e count id there in omega arith

pub enough : (q : Shift) (count : Count) (n : ℕ) (id : AccountId) (m : EntryMap) (k : LedgerKey) (e : LedgerEntry)
    → IsEven m → get m k ≡ Some e → n ≤ counted_for count id e → q count id ≡ 0
    → HasEnough no_shift q count n id m
enough q count n id m k e h there le none was exists = let sum = sums_of m h id was count exists in
    let part = in_total m k e count id there in omega arith

-- ---- lines, offers and data

-- what counts k times as a subentry of its owner
pub record IsSubentry (b : LedgerEntryBody) (owner : AccountId) (k : ℕ) : Type 0 where
  pub owns : owner_of b ≡ Some owner
  pub times : multiplicity b ≡ k
  pub parts : (count : Count) (id : AccountId) → own_part count id b ≡ at_one SubEntries k owner count id
  pub no_account : account_in b ≡ None

line_part : (count : Count) (id : AccountId) (line : TrustLineEntry)
    → own_part count id (body.TrustLine line) ≡ at_one SubEntries
    (line_multiplicity line.asset) line.account_id count id
line_part SubEntries id line = refl
line_part Sponsoring id line = refl
line_part Sponsored id line = refl

offer_part : (count : Count) (id : AccountId) (offer : OfferEntry)
    → own_part count id (body.Offer offer) ≡ at_one SubEntries 1 offer.seller_id count id
offer_part SubEntries id offer = refl
offer_part Sponsoring id offer = refl
offer_part Sponsored id offer = refl

data_part : (count : Count) (id : AccountId) (data_entry : DataEntry)
    → own_part count id (body.Data data_entry) ≡ at_one SubEntries 1 data_entry.account_id count id
data_part SubEntries id data_entry = refl
data_part Sponsoring id data_entry = refl
data_part Sponsored id data_entry = refl

pub line_is : (b : LedgerEntryBody) (line : TrustLineEntry) → b ≡ body.TrustLine line
    → IsSubentry b line.account_id (line_multiplicity line.asset)
line_is b line is = record {
  owns = ap owner_of is;
  times = ap multiplicity is;
  parts = λ count id. ap (own_part count id) is ∙ line_part count id line;
  no_account = ap account_in is;
}

pub offer_is : (b : LedgerEntryBody) (offer : OfferEntry) → b ≡ body.Offer offer → IsSubentry b offer.seller_id 1
offer_is b offer is = record {
  owns = ap owner_of is;
  times = ap multiplicity is;
  parts = λ count id. ap (own_part count id) is ∙ offer_part count id offer;
  no_account = ap account_in is;
}

pub data_is : (b : LedgerEntryBody) (data_entry : DataEntry) → b ≡ body.Data data_entry
    → IsSubentry b data_entry.account_id 1
data_is b data_entry is = record {
  owns = ap owner_of is;
  times = ap multiplicity is;
  parts = λ count id. ap (own_part count id) is ∙ data_part count id data_entry;
  no_account = ap account_in is;
}

pub no_account_key : (b : LedgerEntryBody) (id : AccountId) → account_in b ≡ None → key_of_body b ≢ key.Account id
no_account_key (body.Account a) id none is = absurd (cc)
no_account_key other id none is = absurd (cc)

-- ---- parts of other kinds

pub balance_part : (count : Count) (id : AccountId) (balance : ClaimableBalanceEntry)
    → own_part count id (body.ClaimableBalance balance) ≡ 0
balance_part SubEntries id balance = refl
balance_part Sponsoring id balance = refl
balance_part Sponsored id balance = refl

pub pool_part : (count : Count) (id : AccountId) (pool : LiquidityPoolEntry)
    → own_part count id (body.LiquidityPool pool) ≡ 0
pool_part SubEntries id pool = refl
pool_part Sponsoring id pool = refl
pool_part Sponsored id pool = refl

pub share_nothing : (count : Count) (id : AccountId) (owner sponsor : Option AccountId)
    → share count id 0 owner sponsor ≡ 0
share_nothing SubEntries id owner sponsor = refl
share_nothing Sponsoring id owner sponsor = nothing_if (is_this id sponsor) 0 refl
share_nothing Sponsored id owner sponsor = nothing_if (is_there sponsor) _ (nothing_if (is_this id owner) 0 refl)

pub share_of_others : (count : Count) (id owner : AccountId) (k : ℕ) (sponsor : Option AccountId)
    → is_same_account owner id ≡ false → share count id k (Some owner) sponsor ≡ share count id k None sponsor
share_of_others SubEntries id owner k sponsor apart = refl
share_of_others Sponsoring id owner k sponsor apart = refl
share_of_others Sponsored id owner k sponsor apart = ap
    (λ t. if is_there sponsor then (if t then k else 0) else 0) apart

pub bare_part : (count : Count) (id : AccountId) (account : AccountEntry) → signer_sponsors account ≡ []
    → is_same_account account.account_id id ≡ false → own_part count id (body.Account account) ≡ 0
bare_part SubEntries id account none apart = ap (λ t. if t then length account.signers else 0) apart
bare_part Sponsoring id account none apart = ap (count_by (is_this id)) none
bare_part Sponsored id account none apart = ap (λ t. if t then count_by is_there (signer_sponsors account) else 0) apart

pub counts_once : (a : TrustLineAsset) → 1 ≤ line_multiplicity a
counts_once (asset.PoolShare pool) = omega arith
counts_once other = omega arith

pub owned_counts : (b : LedgerEntryBody) (id : AccountId) → account_in b ≡ None → owner_of b ≡ Some id
    → 1 ≤ subentries_for id b
owned_counts (body.Account account) id none owns = absurd (cc)
owned_counts (body.TrustLine line) id none owns = let here = this_itself id (owner_of (body.TrustLine line))
    (line_multiplicity line.asset) owns in let le = counts_once line.asset in omega arith
owned_counts (body.Offer offer) id none owns = let here = this_itself id (owner_of (body.Offer offer)) 1 owns in
    omega arith
owned_counts (body.Data data_entry) id none owns = let here = this_itself id (owner_of (body.Data data_entry)) 1 owns in
    omega arith
owned_counts (body.ClaimableBalance balance) id none owns = absurd (cc)
owned_counts (body.LiquidityPool pool) id none owns = absurd (cc)

pub account_or_not : (P : Type 0) (b : LedgerEntryBody) → (account_in b ≡ None → P)
    → ((account : AccountEntry) → account_in b ≡ Some account → P) → P
account_or_not P (body.Account account) f g = g account refl
account_or_not P other f g = f refl

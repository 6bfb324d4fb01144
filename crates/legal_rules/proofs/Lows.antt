-- No entry counts below 0.
use Rattle.legal_rules.proofs.Prelude.{ℕ, Bool, true, false, List, Option, Some, None, ℤ, pos, ◌≤ℤ◌, if◌then◌else◌}
use Rattle.legal_rules.proofs.Prelude.{option_map, AccountId, PoolParams, TrustLineAsset, LedgerEntry, LedgerEntryBody}
use Rattle.legal_rules.proofs.Prelude.{LedgerKey, multiplicity, owner_of, sponsor_of, Kind, Subentries, Sponsoring}
use Rattle.legal_rules.proofs.Prelude.{Sponsored, Selling, Buying, Shares, ShareLines, Uses, View, counted, Pools}
use Rattle.legal_rules.proofs.Prelude.{needed_line, shares_in, share_lines, uses_of, uses_by, uses, pool_named, is_key}
use Rattle.legal_rules.proofs.Prelude.{for_key, for_account, for_each, signer_sponsors_in, sells, buys, IsBodyInRange}
use Rattle.legal_rules.proofs.Prelude.{IsEntryInRange, add_nonnegative, natural_nonnegative}
use Rattle.hash_ids.specs.ledger_types.declared.asset.TrustLineAsset.TheVariants as line
use Rattle.hash_ids.specs.ledger_types.declared.entry.LedgerEntryBody.TheVariants as body
use Rattle.hash_ids.specs.ledger_types.declared.key.LedgerKey.TheVariants as key

if_low : (b : Bool) (n : ℤ) → pos 0 ≤ℤ n → pos 0 ≤ℤ (if b then n else pos 0)
if_low true n low = low
if_low false n low = natural_nonnegative 0

pub for_key_low : (k : LedgerKey) (o : Option LedgerKey) (n : ℤ) → pos 0 ≤ℤ n → pos 0 ≤ℤ for_key k o n
for_key_low k None n low = natural_nonnegative 0
for_key_low k (Some other) n low = if_low (is_key other k) n low

pub for_account_low : (k : LedgerKey) (id : Option AccountId) (n : ℕ) → pos 0 ≤ℤ for_account k id n
for_account_low k id n = for_key_low k (option_map key.Account id) (pos n) (natural_nonnegative n)

for_each_low : (k : LedgerKey) (ids : List (Option AccountId)) → pos 0 ≤ℤ for_each k ids
for_each_low k ids = natural_nonnegative _

uses_of_low : (k : LedgerKey) (id : AccountId) (o : Option PoolParams) → pos 0 ≤ℤ uses_of k id o
uses_of_low k id None = natural_nonnegative 0
uses_of_low k id (Some params) =
    add_nonnegative _ _ (for_key_low k (needed_line id params.asset_a) (pos 1) (natural_nonnegative 1))
    (for_key_low k (needed_line id params.asset_b) (pos 1) (natural_nonnegative 1))

uses_by_low : (pools : Pools) (k : LedgerKey) (id : AccountId) (a : TrustLineAsset) → pos 0 ≤ℤ uses_by pools k id a
uses_by_low pools k id (line.PoolShare pool) = uses_of_low k id (pools pool)
uses_by_low pools k id other = natural_nonnegative 0

sells_low : (k : LedgerKey) (b : LedgerEntryBody) → pos 0 ≤ℤ sells k b
sells_low k (body.Offer offer) = for_key_low k _ _ (natural_nonnegative _)
sells_low k other = natural_nonnegative 0

buys_low : (k : LedgerKey) (b : LedgerEntryBody) → pos 0 ≤ℤ buys k b
buys_low k (body.Offer offer) = for_key_low k _ _ (natural_nonnegative _)
buys_low k other = natural_nonnegative 0

shares_low : (id_pool : ℕ) (k : LedgerKey) (b : LedgerEntryBody) → IsBodyInRange id_pool b → pos 0 ≤ℤ shares_in k b
shares_low id_pool k (body.TrustLine line) range = for_key_low k
    (pool_named line.asset) line.balance range.range.balance
shares_low id_pool k other range = natural_nonnegative 0

share_lines_low : (k : LedgerKey) (b : LedgerEntryBody) → pos 0 ≤ℤ share_lines k b
share_lines_low k (body.TrustLine line) = for_key_low k (pool_named line.asset) (pos 1) (natural_nonnegative 1)
share_lines_low k other = natural_nonnegative 0

uses_low : (pools : Pools) (k : LedgerKey) (b : LedgerEntryBody) → pos 0 ≤ℤ uses pools k b
uses_low pools k (body.TrustLine line) = uses_by_low pools k line.account_id line.asset
uses_low pools k other = natural_nonnegative 0

pub counted_low : (id_pool : ℕ) (v : View) (kind : Kind) (k : LedgerKey) (e : LedgerEntry) → IsEntryInRange id_pool e
    → pos 0 ≤ℤ counted v kind k e
counted_low id_pool v Subentries k e range = for_account_low k (owner_of e.body) _
counted_low id_pool v Sponsored k e range = for_account_low k (owner_of e.body) _
counted_low id_pool v Sponsoring k e range =
    add_nonnegative _ _ (for_account_low k (sponsor_of e) (multiplicity e.body))
    (for_each_low k (signer_sponsors_in e.body))
counted_low id_pool v Selling k e range = sells_low k e.body
counted_low id_pool v Buying k e range = buys_low k e.body
counted_low id_pool v Shares k e range = shares_low id_pool k e.body range.body
counted_low id_pool v ShareLines k e range = share_lines_low k e.body
counted_low id_pool v Uses k e range = uses_low v.pools k e.body

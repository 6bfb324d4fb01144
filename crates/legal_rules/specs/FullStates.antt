-- A small legal state with an entry of every kind, and changes of it of which each breaks one rule.
use Rattle.std.specs.Prelude.{◌≡◌, ℕ, ◌*◌, ◌+◌, ◌^◌, ℤ, pos, List, [], ◌∷◌, Option, Some, None, replicate}
use Rattle.std.specs.FinMap.{empty}
use Rattle.hash_ids.specs.ledger_types.declared.ids.AccountId.{AccountId}
use Rattle.hash_ids.specs.ledger_types.declared.ids.Hash.{Hash}
use Rattle.hash_ids.specs.ledger_types.declared.asset.Asset.{Asset}
use Rattle.hash_ids.specs.ledger_types.declared.asset.Asset.TheVariants as asset
use Rattle.hash_ids.specs.ledger_types.declared.asset.TrustLineAsset.TheVariants as line
use Rattle.hash_ids.specs.ledger_types.declared.signer.SignerKey.TheVariants as signer
use Rattle.hash_ids.specs.ledger_types.declared.account.AccountEntry.{AccountEntry}
use Rattle.hash_ids.specs.ledger_types.declared.account.AccountEntryExtensionV1.{AccountEntryExtensionV1}
use Rattle.hash_ids.specs.ledger_types.declared.trust_line.TrustLineEntry.{TrustLineEntry}
use Rattle.hash_ids.specs.ledger_types.declared.trust_line.TrustLineEntryExtensionV1.{TrustLineEntryExtensionV1}
use Rattle.hash_ids.specs.ledger_types.declared.offer.OfferEntry.{OfferEntry}
use Rattle.hash_ids.specs.ledger_types.declared.data_entry.DataEntry.{DataEntry}
use Rattle.hash_ids.specs.ledger_types.declared.claimable_balance.ClaimableBalanceEntry.{ClaimableBalanceEntry}
use Rattle.hash_ids.specs.ledger_types.declared.liquidity_pool.LiquidityPoolEntry.{LiquidityPoolEntry}
use Rattle.hash_ids.specs.ledger_types.declared.header.LedgerHeader.{LedgerHeader}
use Rattle.hash_ids.specs.ledger_types.declared.entry.LedgerEntry.{LedgerEntry}
use Rattle.hash_ids.specs.ledger_types.declared.entry.LedgerEntryBody.{LedgerEntryBody}
use Rattle.hash_ids.specs.ledger_types.declared.entry.LedgerEntryBody.TheVariants as body
use Rattle.hash_ids.specs.ledger_types.declared.predicate.ClaimPredicate.TheVariants.{Unconditional}
use Rattle.hash_ids.specs.Ids.{pool_id_of}
use Rattle.entry_sums.specs.entry_map.EntryMap.{EntryMap, put}
use Rattle.sponsor_laws.specs.reserve_rules.Reserve.{greatest_i64}
use Rattle.legal_rules.specs.OfferLiabilities.{bound_of}
use Rattle.legal_rules.specs.Legal.{IsLegal}

-- ---- the entries

-- an account whose key is 32 times one byte
abbrev pub account_named : ℕ → AccountId
account_named byte = record { 0 = replicate 32 byte }

abbrev pub issuer : AccountId
issuer = account_named 1

abbrev pub owner : AccountId
owner = account_named 2

abbrev pub sponsor : AccountId
sponsor = account_named 3

-- no account
abbrev pub stranger : AccountId
stranger = account_named 4

abbrev pub usd_code : List ℕ
usd_code = 85 ∷ 83 ∷ 68 ∷ 0 ∷ []

abbrev pub usd : Asset
usd = asset.Alphanum4 usd_code issuer

-- the pool of lumens and dollars
unfoldable pub pool_id : Hash
pool_id = pool_id_of asset.Native usd

abbrev pub entry_by : Option AccountId → LedgerEntryBody → LedgerEntry
entry_by None b = record { last_modified_ledger_seq = 7; body = b; ext = None }
entry_by (Some id) b =
    record { last_modified_ledger_seq = 7; body = b; ext = Some (record { sponsoring_id = Some id }) }

abbrev pub bare_account : AccountId → ℤ → AccountEntry
bare_account id balance = record {
  account_id = id;
  balance = balance;
  seq_num = pos 0;
  num_sub_entries = 0;
  inflation_dest = None;
  flags = 0;
  home_domain = [];
  thresholds = 1 ∷ 0 ∷ 0 ∷ 0 ∷ [];
  signers = [];
  ext = None;
}

abbrev pub account_ext : (buying selling : ℤ) → (sponsored sponsoring : ℕ) → List (Option AccountId)
    → Option AccountEntryExtensionV1
account_ext buying selling sponsored sponsoring ids = Some (record {
  liabilities = record { buying = buying; selling = selling };
  ext = Some (record {
    num_sponsored = sponsored;
    num_sponsoring = sponsoring;
    signer_sponsoring_ids = ids;
    ext = None;
  });
})

abbrev pub issuer_account : AccountEntry
issuer_account = record (bare_account issuer (pos 1000)) { flags = 10 }

-- its signer is sponsored, as it is itself
abbrev pub owner_account : AccountEntry
owner_account = record (bare_account owner (pos 100)) {
  num_sub_entries = 6;
  signers = record { key = signer.PreAuthTx (record { 0 = replicate 32 5 }); weight = 1 } ∷ [];
  ext = account_ext (pos 20) (pos 0) 6 0 (Some sponsor ∷ []);
}

abbrev pub sponsor_account : AccountEntry
sponsor_account = record (bare_account sponsor (pos 200)) { ext = account_ext (pos 0) (pos 0) 0 8 [] }

-- a line of dollars, of which an offer sells 10, and which one line of shares uses
abbrev pub dollars : TrustLineEntry
dollars = record {
  account_id = owner;
  asset = line.Alphanum4 usd_code issuer;
  balance = pos 100;
  limit = pos 1000;
  flags = 1;
  ext = Some (record {
    liabilities = record { buying = pos 0; selling = pos 10 };
    ext = Some (record { liquidity_pool_use_count = pos 1 });
  });
}

abbrev pub shares : TrustLineEntry
shares = record {
  account_id = owner;
  asset = line.PoolShare pool_id;
  balance = pos 50;
  limit = pos 100;
  flags = 0;
  ext = None;
}

-- 10 dollars for 20 lumens
abbrev pub sale : OfferEntry
sale = record {
  seller_id = owner;
  offer_id = pos 1;
  selling = usd;
  buying = asset.Native;
  amount = pos 10;
  price = record { n = pos 2; d = pos 1 };
  flags = 0;
}

abbrev pub note : DataEntry
note = record { account_id = owner; data_name = 120 ∷ []; data_value = [] }

-- one of its claimants is no account
abbrev pub promise : ClaimableBalanceEntry
promise = record {
  balance_id = record { 0 = record { 0 = replicate 32 9 } };
  claimants = record { destination = owner; predicate = Unconditional }
      ∷ record { destination = stranger; predicate = Unconditional } ∷ [];
  asset = asset.Native;
  amount = pos 30;
  ext = None;
}

abbrev pub pool : LiquidityPoolEntry
pool = record {
  pool_id = pool_id;
  params = record { asset_a = asset.Native; asset_b = usd; fee = pos 30 };
  reserve_a = pos 40;
  reserve_b = pos 60;
  total_pool_shares = pos 50;
  pool_shares_trust_line_count = pos 1;
}

-- ---- the state

-- entries that are put one by one, the last one first
abbrev pub state_of : List LedgerEntry → EntryMap
state_of [] = empty
state_of (e ∷ es) = put (state_of es) e

abbrev pub full_list : List LedgerEntry
full_list =
    entry_by None (body.Offer sale) ∷ entry_by None (body.Account issuer_account)
    ∷ entry_by (Some sponsor) (body.Account owner_account) ∷ entry_by None (body.Account sponsor_account)
    ∷ entry_by None (body.TrustLine dollars) ∷ entry_by (Some sponsor) (body.TrustLine shares)
    ∷ entry_by (Some sponsor) (body.Data note) ∷ entry_by (Some sponsor) (body.ClaimableBalance promise)
    ∷ entry_by None (body.LiquidityPool pool) ∷ []

abbrev pub full_entries : EntryMap
full_entries = state_of full_list

abbrev pub no_hash : Hash
no_hash = record { 0 = replicate 32 0 }

-- 1370 stroops are held, and 5 are in the fee pool
abbrev pub full_header : LedgerHeader
full_header = record {
  ledger_version = 18;
  previous_ledger_hash = no_hash;
  scp_value = record { tx_set_hash = no_hash; close_time = 0; upgrades = []; ext = None };
  tx_set_result_hash = no_hash;
  bucket_list_hash = no_hash;
  ledger_seq = 7;
  total_coins = pos 1375;
  fee_pool = pos 5;
  inflation_seq = 0;
  id_pool = 1;
  base_fee = 100;
  base_reserve = 5;
  max_tx_set_size = 100;
  skip_list = no_hash ∷ no_hash ∷ no_hash ∷ no_hash ∷ [];
  ext = None;
}

abbrev pub FullStateIsLegal : Type 0
FullStateIsLegal = IsLegal full_header full_entries

-- ---- changes that break one rule

abbrev pub with_owner : AccountEntry → EntryMap
with_owner a = put full_entries (entry_by (Some sponsor) (body.Account a))

abbrev pub with_sponsor_of : (sponsored sponsoring : ℕ) → EntryMap
with_sponsor_of sponsored sponsoring = put full_entries (entry_by None (body.Account (record sponsor_account {
  ext = account_ext (pos 0) (pos 0) sponsored sponsoring [];
})))

abbrev pub with_dollars : TrustLineEntry → EntryMap
with_dollars t = put full_entries (entry_by None (body.TrustLine t))

abbrev pub with_pool_of : LiquidityPoolEntry → EntryMap
with_pool_of p = put full_entries (entry_by None (body.LiquidityPool p))

abbrev pub line_ext : (selling uses : ℤ) → Option TrustLineEntryExtensionV1
line_ext selling uses = Some (record {
  liabilities = record { buying = pos 0; selling = selling };
  ext = Some (record { liquidity_pool_use_count = uses });
})

abbrev pub sponsor_of_so_many : ℕ → LedgerEntry
sponsor_of_so_many n = entry_by None (body.Account (record sponsor_account {
  ext = account_ext (pos 0) (pos 0) 0 n [];
}))

-- data whose owner is its sponsor, with the counts of both accounts
abbrev pub own_data : List LedgerEntry
own_data =
    entry_by (Some owner) (body.Data note)
    ∷ entry_by (Some sponsor) (body.Account (record owner_account {
      ext = account_ext (pos 20) (pos 0) 6 1 (Some sponsor ∷ []);
    }))
    ∷ sponsor_of_so_many 7 ∷ full_list

-- a claimable balance that nobody pays for, with the count of who did
abbrev pub own_promise : List LedgerEntry
own_promise = entry_by None (body.ClaimableBalance promise) ∷ sponsor_of_so_many 6 ∷ full_list

-- an offer of the issuer with the id of the other one, with the counts of the issuer
abbrev pub two_sales : List LedgerEntry
two_sales =
    entry_by None (body.Offer
    (record sale { seller_id = issuer; amount = pos 7; price = record { n = pos 3; d = pos 2 } }))
    ∷ entry_by None (body.Account (record issuer_account {
      num_sub_entries = 1;
      ext = Some (record { liabilities = record { buying = pos 10; selling = pos 0 }; ext = None });
    }))
    ∷ full_list

-- an account with more subentries than any has
abbrev pub overfull_owner : LedgerEntry
overfull_owner = entry_by (Some sponsor) (body.Account (record owner_account { num_sub_entries = 1001 }))

-- an account with so many signers
abbrev pub owner_signed_by : ℕ → LedgerEntry
owner_signed_by n = entry_by (Some sponsor) (body.Account (record owner_account {
  signers = replicate n (record { key = signer.PreAuthTx (record { 0 = replicate 32 5 }); weight = 1 });
}))

-- a signer whose sponsor is no account, with the count of who did pay
abbrev pub lost_signer : List LedgerEntry
lost_signer =
    entry_by (Some sponsor) (body.Account (record owner_account {
      ext = account_ext (pos 20) (pos 0) 6 0 (Some stranger ∷ []);
    }))
    ∷ sponsor_of_so_many 7 ∷ full_list

-- a claimable balance whose sponsor is no account, with the count of who did pay
abbrev pub lost_promise : List LedgerEntry
lost_promise = entry_by (Some stranger) (body.ClaimableBalance promise) ∷ sponsor_of_so_many 6 ∷ full_list

-- a line of shares of a pool that isn't there
abbrev pub lost_pool : List LedgerEntry
lost_pool =
    entry_by None (body.Account owner_account) ∷ entry_by None (body.Account sponsor_account)
    ∷ entry_by None (body.TrustLine (record dollars { ext = line_ext (pos 0) (pos 0) }))
    ∷ entry_by None (body.TrustLine shares) ∷ []

-- a line of shares without the line of dollars that it needs
abbrev pub lost_dollars : List LedgerEntry
lost_dollars =
    entry_by None (body.Account owner_account) ∷ entry_by None (body.Account sponsor_account)
    ∷ entry_by None (body.TrustLine shares) ∷ entry_by None (body.LiquidityPool pool) ∷ []

-- an offer without the line of what it sells
abbrev pub lost_sale : List LedgerEntry
lost_sale =
    entry_by None (body.Offer sale) ∷ entry_by None (body.Account owner_account)
    ∷ entry_by None (body.Account sponsor_account) ∷ []

-- each of these states breaks a rule
pub record RulesBind : Type 0 where
  -- the header
  pub a_later_protocol : IsLegal (record full_header { ledger_version = 20 }) full_entries → ⊥
  pub an_earlier_protocol : IsLegal (record full_header { ledger_version = 17 }) full_entries → ⊥
  pub no_base_reserve : IsLegal (record full_header { base_reserve = 0 }) full_entries → ⊥
  pub more_ids_than_ledgers_draw : IsLegal (record full_header { id_pool = 7 * 2 ^ 32 + 1 }) full_entries → ⊥
  -- each entry by itself
  pub an_offer_above_the_pool_of_ids : IsLegal (record full_header { id_pool = 0 }) full_entries → ⊥
  pub a_line_of_an_offer_without_authorisation : IsLegal full_header (with_dollars (record dollars { flags = 4 })) → ⊥
  pub data_that_its_owner_sponsors : IsLegal full_header (state_of own_data) → ⊥
  pub more_than_20_signers : IsLegal full_header (put full_entries (owner_signed_by 21)) → ⊥
  pub a_claimable_balance_without_sponsor : IsLegal full_header (state_of own_promise) → ⊥
  pub a_pool_with_a_sponsor :
      IsLegal full_header (put full_entries (entry_by (Some sponsor) (body.LiquidityPool pool))) → ⊥
  -- owners, sponsors and distinct ids
  pub two_offers_of_one_id : IsLegal full_header (state_of two_sales) → ⊥
  pub data_of_no_account : IsLegal full_header
      (put full_entries (entry_by None (body.Data (record note { account_id = stranger })))) → ⊥
  pub a_signer_whose_sponsor_is_no_account : IsLegal full_header (state_of lost_signer) → ⊥
  pub a_claimable_balance_whose_sponsor_is_no_account : IsLegal full_header (state_of lost_promise) → ⊥
  pub shares_of_no_pool : IsLegal full_header (state_of lost_pool) → ⊥
  pub shares_without_a_line_that_they_need : IsLegal full_header (state_of lost_dollars) → ⊥
  pub an_offer_without_its_line : IsLegal full_header (state_of lost_sale) → ⊥
  -- liabilities
  pub a_line_that_sells_less_than_its_offer :
      IsLegal full_header (with_dollars (record dollars { ext = line_ext (pos 9) (pos 1) })) → ⊥
  pub an_account_that_buys_less_than_its_offer : IsLegal full_header
      (with_owner (record owner_account { ext = account_ext (pos 0) (pos 0) 6 0 (Some sponsor ∷ []) })) → ⊥
  pub an_account_that_sells_without_offer : IsLegal full_header
      (with_owner (record owner_account { ext = account_ext (pos 20) (pos 1) 6 0 (Some sponsor ∷ []) })) → ⊥
  -- subentries
  pub a_subentry_too_few : IsLegal full_header (with_owner (record owner_account { num_sub_entries = 5 })) → ⊥
  pub more_than_1000_subentries : IsLegal full_header (put full_entries overfull_owner) → ⊥
  -- sponsorship
  pub a_sponsored_reserve_too_few : IsLegal full_header
      (with_owner (record owner_account { ext = account_ext (pos 20) (pos 0) 5 0 (Some sponsor ∷ []) })) → ⊥
  pub an_owner_that_sponsors_nothing : IsLegal full_header
      (with_owner (record owner_account { ext = account_ext (pos 20) (pos 0) 6 1 (Some sponsor ∷ []) })) → ⊥
  pub a_sponsoring_reserve_too_few : IsLegal full_header (with_sponsor_of 0 7) → ⊥
  -- pools
  pub an_unused_line_of_shares :
      IsLegal full_header (with_dollars (record dollars { ext = line_ext (pos 10) (pos 0) })) → ⊥
  pub shares_that_nobody_has : IsLegal full_header (with_pool_of (record pool { total_pool_shares = pos 49 })) → ⊥
  pub two_lines_where_one_exists :
      IsLegal full_header (with_pool_of (record pool { pool_shares_trust_line_count = pos 2 })) → ⊥
  pub half_a_pool : IsLegal full_header (with_pool_of (record pool { reserve_b = pos 0 })) → ⊥
  -- lumens
  pub a_lumen_too_few : IsLegal (record full_header { total_coins = pos 1374 }) full_entries → ⊥
  pub lumens_without_the_reserves_of_pools :
      IsLegal (record full_header { total_coins = pos 1335 }) full_entries → ⊥
  pub lumens_without_claimable_balances :
      IsLegal (record full_header { total_coins = pos 1345 }) full_entries → ⊥
  pub lumens_without_the_fee_pool : IsLegal (record full_header { total_coins = pos 1370 }) full_entries → ⊥

-- ---- what offers bind

-- an offer of so much at a price of n/d
abbrev pub offered : (amount n d : ℤ) → OfferEntry
offered amount n d = record sale { amount = amount; price = record { n = n; d = d } }

-- the wheat and the sheep of offers by the exchange table, rounded
pub record BoundsAreRounded : Type 0 where
  pub exact : bound_of (offered (pos 10) (pos 2) (pos 1)) ≡ record { wheat = 10; sheep = 20 }
  pub two_thirds : bound_of (offered (pos 7) (pos 2) (pos 3)) ≡ record { wheat = 6; sheep = 4 }
  pub three_halves : bound_of (offered (pos 7) (pos 3) (pos 2)) ≡ record { wheat = 7; sheep = 10 }
  pub more_at_three_halves : bound_of (offered (pos 27) (pos 3) (pos 2)) ≡ record { wheat = 27; sheep = 40 }
  pub three_sevenths : bound_of (offered (pos 5) (pos 3) (pos 7)) ≡ record { wheat = 5; sheep = 2 }
  pub too_small : bound_of (offered (pos 2) (pos 1) (pos 3)) ≡ record { wheat = 0; sheep = 0 }
  -- no more is taken than 64 bits hold
  pub greatest : bound_of (offered greatest_i64 (pos 2147483647) (pos 1))
      ≡ record { wheat = 4294967298; sheep = 9223372036854775806 }

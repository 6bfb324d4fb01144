-- The bytes of entries: what no test of an operation says of them, and their formats do.
use Rattle.close_laws.proofs.Prelude as prelude
use prelude.{ℕ, ◌+◌, ◌<◌, arith, List, [], ◌∷◌, All, Option, Some, None, Bool, true, false, cond, All-head, All-tail}
use prelude.{option_map, ◌≤ℤ◌, find, account_of, AccountId, MuxedAccount, Signer, AccountEntry}
use prelude.{AccountEntryExtensionV2, TrustLineEntry, OfferEntry, DataEntry, Claimant}
use prelude.{ClaimableBalanceEntry, LiquidityPoolEntry, LedgerEntry, LedgerEntryBody}
use prelude.{i64, fixed, var, constant, option, optional, account_id, muxed_account, signer_key, claimant, EntryMap}
use prelude.{EachEntry}
use prelude.{account_liabilities, second_in}
use prelude.{sponsor_of, greatest_i64, Ctx, is_same_account, open_sponsor}
use prelude.{IsEncoded}
use prelude.{third_in, AccountEntryExtensionV3, extension_of, account_extension_v3, extension, pos, u32, u64}
use Rattle.std.specs.Prelude.{nat_lt}
use Rattle.close_rules.proofs.ledger_types_proofs.Booleans.{if_either}
use Rattle.close_rules.specs.sponsor_rules.SeqNums.{new_extension_v3}
use Rattle.close_rules.specs.ledger_types.declared.ids.MuxedAccount.TheVariants as muxed
use Rattle.close_rules.specs.ledger_types.declared.entry.LedgerEntryBody.TheVariants as body
use Rattle.close_rules.specs.xdr_entries.Basic as basic
use Rattle.close_rules.specs.sponsor_rules.declared.context.Sponsorship.{Sponsorship}

-- ---- ids

abbrev pub IsId : AccountId → Type 0
IsId id = IsEncoded account_id id

-- an account that may be named
abbrev pub IsIdIf : Option AccountId → Type 0
IsIdIf found = IsEncoded (optional account_id) found

pub no_id : IsIdIf None
unfolding option
no_id = record { within = tt; sized = tt }

pub some_id : (id : AccountId) → IsId id → IsIdIf (Some id)
unfolding option
some_id id encoded = record { within = encoded.within; sized = encoded.sized }

pub id_of_some : (id : AccountId) → IsIdIf (Some id) → IsId id
unfolding option
id_of_some id encoded = record { within = encoded.within; sized = encoded.sized }

key_id : (bytes : List ℕ) → IsEncoded (fixed 32) bytes → IsId (record { 0 = bytes })
unfolding account_id constant
key_id bytes encoded = record { within = (tt, encoded.within); sized = (tt, encoded.sized) }

-- the account that a muxed one names
pub muxed_id : (source : MuxedAccount) → IsEncoded muxed_account source → IsId (account_of source)
unfolding muxed_account
muxed_id (muxed.Ed25519 bytes) encoded = key_id bytes (record { within = encoded.within; sized = encoded.sized })
muxed_id (muxed.MuxedEd25519 id bytes) encoded =
    key_id bytes (record { within = encoded.within.1; sized = encoded.sized.1 })

-- ---- entries

abbrev pub sponsors_in : Option AccountEntryExtensionV2 → List (Option AccountId)
sponsors_in None = []
sponsors_in (Some ext) = ext.signer_sponsoring_ids

-- the sponsors of its signers that an account records
abbrev pub recorded : AccountEntry → List (Option AccountId)
recorded account = sponsors_in (second_in account.ext)

-- what an account records of its sequence number
abbrev pub IsThird : Option AccountEntryExtensionV3 → Type 0
IsThird found = IsEncoded (extension_of (pos 3) account_extension_v3) found

pub no_third : IsThird None
unfolding extension
no_third = record { within = tt; sized = tt }

v3_encoded : (ledger time : ℕ) → ledger < 4294967296 → time < 18446744073709551616
    → IsEncoded account_extension_v3 (record { seq_ledger = ledger; seq_time = time })
unfolding account_extension_v3 u32 u64 constant
v3_encoded ledger time low high = record { within = (tt, (tt, tt)); sized = (tt, (low, high)) }

some_third : (ext : AccountEntryExtensionV3) → IsEncoded account_extension_v3 ext → IsThird (Some ext)
unfolding extension
some_third ext encoded = record { within = encoded.within; sized = encoded.sized }

-- what an account is given with a sequence number that is set in a close
pub new_third : (ctx : Ctx) → ctx.seq < 2147483647 → ctx.close_time < 18446744073709551616
    → IsThird (new_extension_v3 ctx)
new_third ctx seq time =
    let ext : AccountEntryExtensionV3 = record { seq_ledger = ctx.seq + 1; seq_time = ctx.close_time } in
    if_either IsThird (nat_lt ctx.version 19) None (Some ext) no_third
    (some_third ext (v3_encoded (ctx.seq + 1) ctx.close_time (omega arith) time))

abbrev pub IsKey : Signer → Type 0
IsKey signer = IsEncoded signer_key signer.key

pub record AreAccountBytes (account : AccountEntry) : Type 0 where
  pub id : IsId account.account_id
  pub inflation_dest : IsIdIf account.inflation_dest
  pub home_domain : IsEncoded (var 32) account.home_domain
  pub thresholds : IsEncoded (fixed 4) account.thresholds
  pub signers : All IsKey account.signers
  pub sponsors : All IsIdIf (recorded account)
  pub third : IsThird (third_in (second_in account.ext))
  -- what no balance bounds: an account whose balance falls by a fee may sell more than it has
  pub selling : (account_liabilities account).selling ≤ℤ greatest_i64

pub record AreDataBytes (entry : DataEntry) : Type 0 where
  pub id : IsId entry.account_id
  pub name : IsEncoded (var 64) entry.data_name
  pub value : IsEncoded (var 64) entry.data_value

pub record AreLineBytes (held : TrustLineEntry) : Type 0 where
  pub id : IsId held.account_id
  pub asset : IsEncoded basic.trust_line_asset held.asset

abbrev pub IsClaimant : Claimant → Type 0
IsClaimant one = IsEncoded claimant one

pub record AreBalanceBytes (balance : ClaimableBalanceEntry) : Type 0 where
  pub id : IsEncoded basic.claimable_balance_id balance.balance_id
  pub claimants : All IsClaimant balance.claimants
  pub asset : IsEncoded basic.asset balance.asset
  pub amount : IsEncoded i64 balance.amount

-- the numbers of an offer too, of which a range bounds only the flags
pub record AreOfferBytes (offer : OfferEntry) : Type 0 where
  pub id : IsId offer.seller_id
  pub offer_id : IsEncoded i64 offer.offer_id
  pub selling : IsEncoded basic.asset offer.selling
  pub buying : IsEncoded basic.asset offer.buying
  pub amount : IsEncoded i64 offer.amount
  pub price : IsEncoded basic.price offer.price

-- the greatest that the numbers of a pool may be, too: a range says only that they aren't below 0
pub record ArePoolBytes (pool : LiquidityPoolEntry) : Type 0 where
  pub id : IsEncoded basic.hash pool.pool_id
  pub params : IsEncoded basic.pool_params pool.params
  pub reserve_a : pool.reserve_a ≤ℤ greatest_i64
  pub reserve_b : pool.reserve_b ≤ℤ greatest_i64
  pub shares : pool.total_pool_shares ≤ℤ greatest_i64
  pub lines : pool.pool_shares_trust_line_count ≤ℤ greatest_i64

abbrev pub AreBodyBytes : LedgerEntryBody → Type 0
AreBodyBytes (body.Account account) = AreAccountBytes account
AreBodyBytes (body.TrustLine held) = AreLineBytes held
AreBodyBytes (body.Data entry) = AreDataBytes entry
AreBodyBytes (body.ClaimableBalance balance) = AreBalanceBytes balance
AreBodyBytes (body.Offer offer) = AreOfferBytes offer
AreBodyBytes (body.LiquidityPool pool) = ArePoolBytes pool

pub record AreEntryBytes (e : LedgerEntry) : Type 0 where
  pub body : AreBodyBytes e.body
  pub sponsor : IsIdIf (sponsor_of e)

abbrev pub AreBytes : EntryMap → Type 0
AreBytes m = EachEntry (λ k e. AreEntryBytes e) m

-- a change that keeps the bytes of an account
abbrev pub KeepsAccounts : (AccountEntry → AccountEntry) → Type 0
KeepsAccounts change = (account : AccountEntry) → AreAccountBytes account → AreAccountBytes (change account)

-- ---- contexts

abbrev pub IsOpener : Sponsorship → Type 0
IsOpener opened = IsId opened.sponsor

-- Whoever opened a sponsorship has an id, and what accounts are given with a sequence number can be written.
pub record IsContextBytes (ctx : Ctx) : Type 0 where
  pub all : All IsOpener ctx.sponsorships
  pub extension : IsThird (new_extension_v3 ctx)

opened_by : (test : Sponsorship → Bool) (opened : List Sponsorship) → All IsOpener opened
    → IsIdIf (option_map (λ one. one.sponsor) (find test opened))
opened_by test [] all = no_id
opened_by test (one ∷ others) all =
    either (test one) (All-head IsOpener one others all) (opened_by test others (All-tail IsOpener one others all))
  where
    either : (b : Bool) → IsId one.sponsor → IsIdIf (option_map (λ x. x.sponsor) (find test others))
        → IsIdIf (option_map (λ x. x.sponsor) (cond b (Some one) (find test others)))
    either true here rest = some_id one.sponsor here
    either false here rest = rest

pub open_sponsor_id : (ctx : Ctx) (id : AccountId) → IsContextBytes ctx → IsIdIf (open_sponsor ctx id)
unfolding open_sponsor
open_sponsor_id ctx id sponsors =
    opened_by (λ opened. is_same_account opened.sponsored id) ctx.sponsorships sponsors.all

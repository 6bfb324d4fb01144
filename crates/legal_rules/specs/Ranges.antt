-- The ranges of entries: what holds of each by itself (the invariant LedgerEntryIsValid of stellar-core; CAP-0018 and
-- CAP-0035 for the flags, CAP-0023 for claimable balances, CAP-0038 for pools).
use Rattle.std.specs.Prelude.{◌≡◌, ◌≢◌, ℕ, ◌/◌, ◌%◌, ◌≤◌, pos, ◌≤ℤ◌, Bool, true, nat_eq, length, All, List, Option}
use Rattle.std.specs.Prelude.{Some, None}
use Rattle.std.specs.declared.cmp.Ordering.TheVariants.{Less}
use Rattle.std.specs.List.{AllPairs}
use Rattle.hash_ids.specs.ledger_types.declared.ids.AccountId.{AccountId}
use Rattle.hash_ids.specs.ledger_types.declared.asset.TrustLineAsset.{TrustLineAsset}
use Rattle.hash_ids.specs.ledger_types.declared.asset.TrustLineAsset.TheVariants as line
use Rattle.hash_ids.specs.ledger_types.declared.signer.Signer.{Signer}
use Rattle.hash_ids.specs.ledger_types.declared.signer.SignerKey.TheVariants as signer
use Rattle.hash_ids.specs.ledger_types.declared.account.AccountEntry.{AccountEntry}
use Rattle.hash_ids.specs.ledger_types.declared.trust_line.TrustLineEntry.{TrustLineEntry}
use Rattle.hash_ids.specs.ledger_types.declared.offer.OfferEntry.{OfferEntry}
use Rattle.hash_ids.specs.ledger_types.declared.data_entry.DataEntry.{DataEntry}
use Rattle.hash_ids.specs.ledger_types.declared.claimable_balance.Claimant.{Claimant}
use Rattle.hash_ids.specs.ledger_types.declared.claimable_balance.ClaimableBalanceEntry.{ClaimableBalanceEntry}
use Rattle.hash_ids.specs.ledger_types.declared.claimable_balance.ClaimableBalanceEntryExtensionV1.{
  ClaimableBalanceEntryExtensionV1,
}
use Rattle.hash_ids.specs.ledger_types.declared.liquidity_pool.LiquidityPoolEntry.{LiquidityPoolEntry}
use Rattle.hash_ids.specs.ledger_types.declared.entry.LedgerEntry.{LedgerEntry}
use Rattle.hash_ids.specs.ledger_types.declared.entry.LedgerEntryBody.{LedgerEntryBody}
use Rattle.hash_ids.specs.ledger_types.declared.entry.LedgerEntryBody.TheVariants as body
use Rattle.hash_ids.specs.ledger_types.KeyOrder.{asset_cmp, signer_key_cmp}
use Rattle.valid_values.specs.Texts.{is_valid_text}
use Rattle.valid_values.specs.Assets.{is_valid_code, is_valid_asset}
use Rattle.valid_values.specs.Predicates.{is_valid_stored_predicate}
use Rattle.hash_ids.specs.Ids.{pool_id_of}
use Rattle.sponsor_laws.specs.entry_slots.AccountExtensions.{sponsorship_of}
use Rattle.sponsor_laws.specs.entry_slots.LineExtensions.{use_count}
use Rattle.sponsor_laws.specs.entry_slots.EntrySponsor.{sponsor_of}
use Rattle.sponsor_laws.specs.reserve_rules.Reserve.{greatest_i64, IsInRange, IsLineInRange}
use Rattle.sponsor_laws.specs.sponsor_rules.Charge.{owner_of}
use Rattle.legal_rules.specs.OfferLiabilities.{bound_of}

-- a flag, a power of two, is set
abbrev pub has_flag : ℕ → ℕ → Bool
has_flag flags flag = nat_eq (flags / flag % 2) 1

-- ---- accounts

-- no flag but the four, and AUTH_CLAWBACK_ENABLED (8) beside AUTH_REVOCABLE (2) alone
pub record AreAccountFlags (flags : ℕ) : Type 0 where
  pub known : flags ≤ 15
  pub clawback : has_flag flags 8 ≡ true → has_flag flags 2 ≡ true

-- The signers of an account, of which there are at most 20 (MAX_SIGNERS), and who is recorded as paying for each. A key
-- of another kind with the bytes of the account's own key is not its own key.
pub record AreSignersInRange (id : AccountId) (signers : List Signer)
    (sponsors : List (Option AccountId)) : Type 0 where
  -- the bound of the type, which changes have to keep
  pub few : length signers ≤ 20
  pub rising : AllPairs (λ x y. signer_key_cmp x.key y.key ≡ Less) signers
  pub weights : All (λ s. (1 ≤ s.weight) × (s.weight ≤ 255)) signers
  pub others : All (λ s. s.key ≢ signer.Ed25519 id.0) signers
  pub items : length sponsors ≡ length signers
  pub paid_by_others : All (λ s. s ≢ Some id) sponsors

-- balance and liabilities are at least 0, and what is to be bought fits beside the balance
pub record IsAccountInRange (a : AccountEntry) : Type 0 where
  pub range : IsInRange a
  pub seq_num : pos 0 ≤ℤ a.seq_num
  -- the width of the type, which changes have to keep; the other widths are those of what can be written
  pub greatest_seq_num : a.seq_num ≤ℤ greatest_i64
  pub flags : AreAccountFlags a.flags
  pub home_domain : is_valid_text a.home_domain ≡ true
  pub signers : AreSignersInRange a.account_id a.signers (sponsorship_of a).signer_sponsoring_ids

-- ---- trust lines

-- the line of an account that isn't the issuer, in a valid credit asset or in pool shares
abbrev pub IsHeldIn : AccountId → TrustLineAsset → Type 0
IsHeldIn id line.Native = ⊥
IsHeldIn id (line.Alphanum4 code issuer) = (is_valid_code 1 code ≡ true) × (issuer ≢ id)
IsHeldIn id (line.Alphanum12 code issuer) = (is_valid_code 5 code ≡ true) × (issuer ≢ id)
IsHeldIn id (line.PoolShare pool) = Unit {0}

-- AUTHORIZED (1) and AUTHORIZED_TO_MAINTAIN_LIABILITIES (2) aren't set together; a line of pool shares has no flag
abbrev pub AreLineFlags : TrustLineAsset → ℕ → Type 0
AreLineFlags (line.PoolShare pool) flags = flags ≡ 0
AreLineFlags other flags = (flags ≤ 7) × (flags % 4 ≢ 3)

-- balance and liabilities are at least 0, what is to be sold is in the balance, and what is to be bought within the
-- limit
pub record IsTrustLineInRange (t : TrustLineEntry) : Type 0 where
  pub range : IsLineInRange t
  pub limit : pos 1 ≤ℤ t.limit
  -- the width of the type, as that of a sequence number
  pub greatest : t.limit ≤ℤ greatest_i64
  pub held : IsHeldIn t.account_id t.asset
  pub flags : AreLineFlags t.asset t.flags
  pub uses : pos 0 ≤ℤ use_count t

-- ---- offers and data

-- an id that was drawn from the header's pool of ids
pub record IsOfferInRange (id_pool : ℕ) (o : OfferEntry) : Type 0 where
  pub amount : pos 1 ≤ℤ o.amount
  pub n : pos 1 ≤ℤ o.price.n
  pub d : pos 1 ≤ℤ o.price.d
  pub wheat : 1 ≤ (bound_of o).wheat
  pub sheep : 1 ≤ (bound_of o).sheep
  pub id_low : pos 1 ≤ℤ o.offer_id
  pub id_high : o.offer_id ≤ℤ pos id_pool
  pub selling : is_valid_asset o.selling ≡ true
  pub buying : is_valid_asset o.buying ≡ true
  pub assets : o.selling ≢ o.buying
  pub flags : o.flags ≤ 1

pub record IsDataInRange (entry : DataEntry) : Type 0 where
  pub some : 1 ≤ length entry.data_name
  pub name : is_valid_text entry.data_name ≡ true

-- ---- claimable balances and pools

abbrev pub balance_flags : Option ClaimableBalanceEntryExtensionV1 → ℕ
balance_flags None = 0
balance_flags (Some ext) = ext.flags

-- between 1 and 10 claimants, each with a destination of its own
pub record AreClaimantsInRange (claimants : List Claimant) : Type 0 where
  pub some : 1 ≤ length claimants
  pub few : length claimants ≤ 10
  pub apart : AllPairs (λ x y. x.destination ≢ y.destination) claimants
  pub predicates : All (λ c. is_valid_stored_predicate c.predicate ≡ true) claimants

pub record IsBalanceInRange (balance : ClaimableBalanceEntry) : Type 0 where
  pub amount : pos 1 ≤ℤ balance.amount
  pub asset : is_valid_asset balance.asset ≡ true
  pub flags : balance_flags balance.ext ≤ 1
  pub claimants : AreClaimantsInRange balance.claimants

-- whether a pool's assets are valid isn't judged
pub record IsPoolInRange (p : LiquidityPoolEntry) : Type 0 where
  pub fee : p.params.fee ≡ pos 30
  pub assets : asset_cmp p.params.asset_a p.params.asset_b ≡ Less
  pub id : p.pool_id ≡ pool_id_of p.params.asset_a p.params.asset_b
  pub reserve_a : pos 0 ≤ℤ p.reserve_a
  pub reserve_b : pos 0 ≤ℤ p.reserve_b
  pub shares : pos 0 ≤ℤ p.total_pool_shares
  pub lines : pos 0 ≤ℤ p.pool_shares_trust_line_count

-- ---- entries

abbrev pub IsBodyInRange : ℕ → LedgerEntryBody → Type 0
IsBodyInRange id_pool (body.Account account) = IsAccountInRange account
IsBodyInRange id_pool (body.TrustLine line) = IsTrustLineInRange line
IsBodyInRange id_pool (body.Offer offer) = IsOfferInRange id_pool offer
IsBodyInRange id_pool (body.Data entry) = IsDataInRange entry
IsBodyInRange id_pool (body.ClaimableBalance balance) = IsBalanceInRange balance
IsBodyInRange id_pool (body.LiquidityPool pool) = IsPoolInRange pool

-- a claimable balance has a sponsor, a pool has none, and nobody sponsors what is his own
abbrev pub IsPaidRightly : LedgerEntryBody → Option AccountId → Type 0
IsPaidRightly (body.ClaimableBalance balance) sponsor = sponsor ≢ None
IsPaidRightly (body.LiquidityPool pool) sponsor = sponsor ≡ None
IsPaidRightly other sponsor = sponsor ≢ None → sponsor ≢ owner_of other

pub record IsEntryInRange (id_pool : ℕ) (e : LedgerEntry) : Type 0 where
  pub body : IsBodyInRange id_pool e.body
  pub paid : IsPaidRightly e.body (sponsor_of e)

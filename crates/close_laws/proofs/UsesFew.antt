-- Few pools use a line: each line of pool shares counts twice as a subentry of its account.
use Rattle.close_laws.proofs.Prelude.{◌≡◌, refl, ap, ◌∙◌, ℕ, ◌≤◌, length, Bool, true, false, Option, Some, None, arith}
use Rattle.close_laws.proofs.Prelude.{ints, ℤ, pos, ◌+ℤ◌, ◌≤ℤ◌, get, AccountId, Asset, PoolParams, TrustLineAsset}
use Rattle.close_laws.proofs.Prelude.{LedgerHeader, LedgerEntry, LedgerEntryBody, LedgerKey, EntryMap, same_itself}
use Rattle.close_laws.proofs.Prelude.{line_multiplicity, owner_of, is_same_account, Subentries, Uses, counted, stated}
use Rattle.close_laws.proofs.Prelude.{stated_at, AreSubentriesFew, view, IsLegal, Pools, needed_line, uses_of, uses_by}
use Rattle.close_laws.proofs.Prelude.{uses, apart_keys, indicator_at_most_one}
use Rattle.close_rules.proofs.entry_sums_proofs.Summing.{total_at_most}
use Rattle.close_rules.specs.legal_rules.EntryKeys.{is_key, for_key, for_account}
use Rattle.close_rules.specs.legal_rules.Reserves.{subentries_in}
use Rattle.std.specs.Prelude.{if◌then◌else◌}
use Rattle.close_rules.specs.ledger_types.declared.asset.Asset.TheVariants as asset
use Rattle.close_rules.specs.ledger_types.declared.asset.TrustLineAsset.TheVariants as line
use Rattle.close_rules.specs.ledger_types.declared.entry.LedgerEntryBody.TheVariants as body
use Rattle.close_rules.specs.ledger_types.declared.key.LedgerKey.TheVariants as key

-- ---- what one line of pool shares counts

for_key_at_most_one : (k : LedgerKey) (o : Option LedgerKey) → for_key k o (pos 1) ≤ℤ pos 1
for_key_at_most_one k None = omega (arith, ints)
for_key_at_most_one k (Some named) = indicator_at_most_one (is_key named k)

sum_at_most_two : (x y : ℤ) → x ≤ℤ pos 1 → y ≤ℤ pos 1 → (x +ℤ y) ≤ℤ pos 2
sum_at_most_two x y first second = omega (arith, ints)

neither : (x y : ℤ) → x ≤ℤ pos 0 → y ≤ℤ pos 0 → (x +ℤ y) ≤ℤ pos 0
neither x y first second = omega (arith, ints)

-- a line of another account uses none of this one's
module _ (id other : AccountId) (held : TrustLineAsset)
    (apart : is_key (key.Account other) (key.Account id) ≡ false) where
  same_owner : (x : TrustLineAsset) → key.TrustLine other x ≡ key.TrustLine id held → ⊥
  same_owner x same =
      let owner : other ≡ id = cc in
      let tied = ap (λ (i : AccountId). is_key (key.Account i) (key.Account id)) owner ∙ same_itself (key.Account id) in
      absurd (cc)

  not_this : (t : Bool) → t ≡ false → (if t then pos 1 else pos 0) ≤ℤ pos 0
  not_this true is = absurd (cc)
  not_this false is = omega (arith, ints)

  unless_issued : (b : Bool) (x : TrustLineAsset)
      → for_key (key.TrustLine id held) (if b then None else Some (key.TrustLine other x)) (pos 1) ≤ℤ pos 0
  unless_issued true x = omega (arith, ints)
  unless_issued false x = not_this (is_key (key.TrustLine other x) (key.TrustLine id held))
      (apart_keys (key.TrustLine other x) (key.TrustLine id held) (same_owner x))

  not_needed : (x : Asset) → for_key (key.TrustLine id held) (needed_line other x) (pos 1) ≤ℤ pos 0
  not_needed asset.Native = omega (arith, ints)
  not_needed (asset.Alphanum4 code issuer) =
      unless_issued (is_same_account issuer other) (line.Alphanum4 code issuer)
  not_needed (asset.Alphanum12 code issuer) =
      unless_issued (is_same_account issuer other) (line.Alphanum12 code issuer)

least : (b : Bool) (n : ℕ) → pos 0 ≤ℤ (if b then pos n else pos 0)
least true n = omega (arith, ints)
least false n = omega (arith, ints)

by_params : (id other : AccountId) (held : TrustLineAsset) (params : Option PoolParams) (b : Bool)
    → is_key (key.Account other) (key.Account id) ≡ b
    → uses_of (key.TrustLine id held) other params ≤ℤ (if b then pos 2 else pos 0)
by_params id other held None b is = least b 2
by_params id other held (Some params) true is =
    sum_at_most_two _ _ (for_key_at_most_one (key.TrustLine id held) (needed_line other params.asset_a))
    (for_key_at_most_one (key.TrustLine id held) (needed_line other params.asset_b))
by_params id other held (Some params) false is =
    neither _ _ (not_needed id other held is params.asset_a) (not_needed id other held is params.asset_b)

-- ---- what entries count

module _ (pools : Pools) (id : AccountId) (held : TrustLineAsset) where
  by_line : (owner : AccountId) (x : TrustLineAsset)
      → uses_by pools (key.TrustLine id held) owner x
      ≤ℤ for_account (key.Account id) (Some owner) (line_multiplicity x)
  by_line owner line.Native = least (is_key (key.Account owner) (key.Account id)) 1
  by_line owner (line.Alphanum4 code issuer) = least (is_key (key.Account owner) (key.Account id)) 1
  by_line owner (line.Alphanum12 code issuer) = least (is_key (key.Account owner) (key.Account id)) 1
  by_line owner (line.PoolShare pool) =
      by_params id owner held (pools pool) (is_key (key.Account owner) (key.Account id)) refl

  by_body : (of : LedgerEntryBody)
      → uses pools (key.TrustLine id held) of ≤ℤ for_account (key.Account id) (owner_of of) (subentries_in of)
  by_body (body.Account a) = least (is_key (key.Account a.account_id) (key.Account id)) (length a.signers)
  by_body (body.TrustLine t) = by_line t.account_id t.asset
  by_body (body.Offer o) = least (is_key (key.Account o.seller_id) (key.Account id)) 1
  by_body (body.Data d) = least (is_key (key.Account d.account_id) (key.Account id)) 1
  by_body (body.ClaimableBalance b) = omega (arith, ints)
  by_body (body.LiquidityPool p) = omega (arith, ints)

-- ---- what a line states

small : (n : ℕ) → n ≤ 1000 → pos n ≤ℤ pos 1000
small n le = omega (arith, ints)

few_stated : (of : LedgerEntryBody) → AreSubentriesFew of → stated Subentries of ≤ℤ pos 1000
few_stated (body.Account a) few = small a.num_sub_entries few
few_stated other few = omega (arith, ints)

at_most_all : (used uses subentries stated : ℤ) → used ≡ uses → uses ≤ℤ subentries → stated ≡ subentries
    → stated ≤ℤ pos 1000 → used ≤ℤ pos 1000
at_most_all used uses subentries stated is le are few = omega (arith, ints)

module _ (h : LedgerHeader) (m : EntryMap) (legal : IsLegal h m) where
  few_at : (k : LedgerKey) (o : Option LedgerEntry) → get m k ≡ o → stated_at Subentries o ≤ℤ pos 1000
  few_at k None there = omega (arith, ints)
  few_at k (Some e) there = few_stated e.body (legal.few k e there)

  pub uses_few : (id : AccountId) (held : TrustLineAsset)
      → stated_at Uses (get m (key.TrustLine id held)) ≤ℤ pos 1000
  uses_few id held =
      at_most_all _ _ _ _ (legal.uses (key.TrustLine id held))
      (total_at_most (counted (view m) Uses (key.TrustLine id held)) (counted (view m) Subentries (key.Account id)) m
      (λ k e there. by_body (view m).pools id held e.body))
      (legal.subentries (key.Account id)) (few_at (key.Account id) (get m (key.Account id)) refl)

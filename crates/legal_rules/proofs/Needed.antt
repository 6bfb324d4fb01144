-- What entries need exists, since they count for it.
use Rattle.legal_rules.proofs.Prelude as prelude
use prelude.{◌≡◌, ◌≢◌, ◌⊎◌, inl, inr, refl, sym, ap, ◌∙◌, ℕ, ◌≤◌, Bool, true, false, cond, List, [], ◌∷◌, ◌++◌, get_or}
use prelude.{All, Option, Some, None, arith, All-nil, All-cons, All-head, All-tail, All-append, get_or-le-sum_by, ℤ}
use prelude.{pos, ◌≤ℤ◌, if◌then◌else◌, count_by, flat_map, get, AccountId, PoolParams, TrustLineAsset, LedgerEntry}
use prelude.{LedgerEntryBody, LedgerKey, key_of, key_of_body, EntryMap, same_itself, sponsor_of, multiplicity, owner_of}
use prelude.{total, EachEntry, part_at_most, is_key, for_key, for_account, subentries_in, signer_sponsors_in, is_for}
use prelude.{holder, sells, buys, Pools, needed_line, share_lines, uses, uses_by, uses_of, Kind, Subentries, Sponsoring}
use prelude.{Selling, Buying, ShareLines, Uses, counted, stated_at, IsBodyInRange, IsEntryInRange, IsPaidRightly}
use prelude.{account_keys, keys_in, share_keys, pool_keys, holding_keys, needed_keys, view, pools_in, IsAggregated}
use prelude.{add_positive_first, add_positive_second, natural_nonnegative, natural_positive, counts_once}
use Rattle.hash_ids.specs.ledger_types.declared.asset.TrustLineAsset.TheVariants as line
use Rattle.hash_ids.specs.ledger_types.declared.entry.LedgerEntryBody.TheVariants as body
use Rattle.hash_ids.specs.ledger_types.declared.key.LedgerKey.TheVariants as key
use Rattle.legal_rules.proofs.Lows.{counted_low, for_key_low, for_account_low}
use Rattle.legal_rules.proofs.Numbers.{at_least_one_states_some}

-- ---- a number for what is named itself

one_if : (t : Bool) (n : ℤ) → t ≡ true → pos 1 ≤ℤ n → pos 1 ≤ℤ (if t then n else pos 0)
one_if true n is some = some
one_if false n is some = absurd (cc)

pub for_itself : (k : LedgerKey) (o : Option LedgerKey) (n : ℤ) → o ≡ Some k → pos 1 ≤ℤ n → pos 1 ≤ℤ for_key k o n
for_itself k None n is some = absurd (cc)
for_itself k (Some named) n is some = one_if (is_key named k) n
    (ap (λ q. is_key q k) (let same : named ≡ k = cc in same) ∙ same_itself k) some

pub for_own : (id : AccountId) (o : Option AccountId) (n : ℕ) → o ≡ Some id → 1 ≤ n
    → pos 1 ≤ℤ for_account (key.Account id) o n
for_own id None n is some = absurd (cc)
for_own id (Some named) n is some = one_if (is_key (key.Account named) (key.Account id)) (pos n)
    (ap (λ x. is_key (key.Account x) (key.Account id)) (let same : named ≡ id = cc in same)
    ∙ same_itself (key.Account id)) (natural_positive n some)

-- ---- keys that are needed, by what is counted for them

module _ (P : LedgerKey → Type 0) where
  pub keys_all : (o : Option LedgerKey) → ((k : LedgerKey) → o ≡ Some k → P k) → All P (keys_in o)
  keys_all None h = All-nil P
  keys_all (Some k) h = All-cons P k [] (h k refl) (All-nil P)

  accounts_all : (o : Option AccountId) → ((id : AccountId) → o ≡ Some id → P (key.Account id)) → All P (account_keys o)
  accounts_all None h = All-nil P
  accounts_all (Some id) h = All-cons P (key.Account id) [] (h id refl) (All-nil P)

  abbrev AccountsPass : Option AccountId → Type 0
  AccountsPass o = All P (account_keys o)

  flat_all : (ids : List (Option AccountId)) → All AccountsPass ids → All P (flat_map account_keys ids)
  flat_all [] h = All-nil P
  flat_all (x ∷ xs) h = All-append P (account_keys x) (flat_map account_keys xs) (All-head AccountsPass x xs h)
      (flat_all xs (All-tail AccountsPass x xs h))

  one_of : (id : AccountId) (o : Option AccountId) → o ≡ Some id
      → ◌≡◌ {A = ℕ} (cond (is_for (key.Account id) o) 1 0) 1
  one_of id None is = absurd (cc)
  one_of id (Some x) is = ap (λ t. cond t 1 0) (ap (λ y. is_key (key.Account y) (key.Account id))
      (let same : x ≡ id = cc in same) ∙ same_itself (key.Account id))

  -- each account in a list counts there
  listed_all : (ids : List (Option AccountId))
      → ((id : AccountId) → 1 ≤ count_by (is_for (key.Account id)) ids → P (key.Account id))
      → All P (flat_map account_keys ids)
  listed_all ids h = flat_all ids (λ index d within. accounts_all (get_or ids index d) (λ id is. h id (
      let le = get_or-le-sum_by (λ (o : Option AccountId). cond (is_for (key.Account id) o) 1 0) ids index d within in
      let one = one_of id (get_or ids index d) is in
      omega arith)))

  shares_all : (id : AccountId) (o : Option PoolParams) → ((k : LedgerKey) → pos 1 ≤ℤ uses_of k id o → P k)
      → All P (share_keys id o)
  shares_all id None h = All-nil P
  shares_all id (Some params) h = All-append P (keys_in (needed_line id params.asset_a))
      (keys_in (needed_line id params.asset_b))
      (keys_all (needed_line id params.asset_a) (λ k is. h k (add_positive_first _ _
      (for_itself k (needed_line id params.asset_a) (pos 1) is (natural_positive 1 (omega arith)))
      (for_key_low k (needed_line id params.asset_b) (pos 1) (natural_nonnegative 1)))))
      (keys_all (needed_line id params.asset_b) (λ k is. h k (add_positive_second _ _
      (for_key_low k (needed_line id params.asset_a) (pos 1) (natural_nonnegative 1))
      (for_itself k (needed_line id params.asset_b) (pos 1) is (natural_positive 1 (omega arith))))))

  trades_all : (id_pool : ℕ) (b : LedgerEntryBody) (pools : Pools) → IsBodyInRange id_pool b
      → ((k : LedgerKey) → pos 1 ≤ℤ share_lines k b → P k) → ((k : LedgerKey) → pos 1 ≤ℤ uses pools k b → P k)
      → ((k : LedgerKey) → pos 1 ≤ℤ sells k b → P k) → ((k : LedgerKey) → pos 1 ≤ℤ buys k b → P k)
      → All P (holding_keys pools b)
  trades_all id_pool (body.TrustLine t) pools range lines used sold bought = by_asset t.asset lines used
    where
      by_asset : (a : TrustLineAsset)
          → ((k : LedgerKey) → pos 1 ≤ℤ share_lines k (body.TrustLine (record t { asset = a })) → P k)
          → ((k : LedgerKey) → pos 1 ≤ℤ uses_by pools k t.account_id a → P k) → All P (pool_keys pools t.account_id a)
      by_asset (line.PoolShare pool) lines used = All-cons P (key.LiquidityPool pool)
          (share_keys t.account_id (pools pool))
          (lines (key.LiquidityPool pool) (for_itself (key.LiquidityPool pool) (Some (key.LiquidityPool pool)) (pos 1)
          refl (natural_positive 1 (omega arith))))
          (shares_all t.account_id (pools pool) used)
      by_asset other lines used = All-nil P
  trades_all id_pool (body.Offer o) pools range lines used sold bought =
      All-append P (keys_in (holder o.seller_id o.selling)) (keys_in (holder o.seller_id o.buying))
      (keys_all (holder o.seller_id o.selling) (λ k is. sold k
      (for_itself k (holder o.seller_id o.selling) _ is (natural_positive _ range.wheat))))
      (keys_all (holder o.seller_id o.buying) (λ k is. bought k
      (for_itself k (holder o.seller_id o.buying) _ is (natural_positive _ range.sheep))))
  trades_all id_pool other pools range lines used sold bought = All-nil P

-- ---- what an entry counts for its owner and its sponsor

-- an account is its own; everything else that has an owner is a subentry of it
pub owned_counts : (b : LedgerEntryBody) (id : AccountId) → owner_of b ≡ Some id
    → (key_of_body b ≡ key.Account id) ⊎ (1 ≤ subentries_in b)
owned_counts (body.Account a) id is = inl (ap key.Account (let same : a.account_id ≡ id = cc in same))
owned_counts (body.TrustLine t) id is = inr (counts_once t.asset)
owned_counts (body.Offer o) id is = inr (omega arith)
owned_counts (body.Data entry) id is = inr (omega arith)
owned_counts other id is = absurd (cc)

pub paid_counts : (id_pool : ℕ) (b : LedgerEntryBody) (sponsor : Option AccountId) → IsBodyInRange id_pool b
    → IsPaidRightly b sponsor → sponsor ≢ None → 1 ≤ multiplicity b
paid_counts id_pool (body.Account a) sponsor range paid some = omega arith
paid_counts id_pool (body.TrustLine t) sponsor range paid some = counts_once t.asset
paid_counts id_pool (body.Offer o) sponsor range paid some = omega arith
paid_counts id_pool (body.Data entry) sponsor range paid some = omega arith
paid_counts id_pool (body.ClaimableBalance balance) sponsor range paid some = range.claimants.some
paid_counts id_pool (body.LiquidityPool pool) sponsor range paid some = absurd (some paid)

module _ (id_pool : ℕ) (m : EntryMap) (keyed : EachEntry (λ k e. key_of e ≡ k) m)
    (entries : EachEntry (λ k e. IsEntryInRange id_pool e) m) (sums : (kind : Kind) → IsAggregated kind m) where
  abbrev Exists : LedgerKey → Type 0
  Exists k = get m k ≢ None

  -- what an entry counts for exists
  counted_there : (kind : Kind) (k q : LedgerKey) (e : LedgerEntry) → get m q ≡ Some e
      → pos 1 ≤ℤ counted (view m) kind k e → Exists k
  counted_there kind k q e there some missing =
      at_least_one_states_some (counted (view m) kind k e) (total (counted (view m) kind k) m)
      (stated_at kind (get m k)) some
      (part_at_most (counted (view m) kind k) m q e
      (λ r x at. counted_low id_pool (view m) kind k x (entries r x at)) there)
      (sums kind k) (ap (stated_at kind) missing)

  owner_exists : (q : LedgerKey) (e : LedgerEntry) → get m q ≡ Some e → All Exists (account_keys (owner_of e.body))
  owner_exists q e there = accounts_all Exists (owner_of e.body) (λ id is. elim (owned_counts e.body id is) [
    | inl own ↦ λ missing.
        let at : get m (key.Account id) ≡ Some e = ap (get m) (sym own ∙ keyed q e there) ∙ there in
        absurd (cc)
    | inr some ↦ counted_there Subentries (key.Account id) q e there
        (for_own id (owner_of e.body) (subentries_in e.body) is some)
  ])

  sponsor_exists : (q : LedgerKey) (e : LedgerEntry) → get m q ≡ Some e → All Exists (account_keys (sponsor_of e))
  sponsor_exists q e there = accounts_all Exists (sponsor_of e) (λ id is.
      counted_there Sponsoring (key.Account id) q e there (add_positive_first _ _
      (for_own id (sponsor_of e) (multiplicity e.body) is (paid_counts id_pool e.body (sponsor_of e)
      (entries q e there).body (entries q e there).paid (λ none. absurd (cc)))) (natural_nonnegative _)))

  signers_exist : (q : LedgerKey) (e : LedgerEntry) → get m q ≡ Some e
      → All Exists (flat_map account_keys (signer_sponsors_in e.body))
  signers_exist q e there = listed_all Exists (signer_sponsors_in e.body) (λ id some.
      counted_there Sponsoring (key.Account id) q e there (add_positive_second _ _
      (for_account_low (key.Account id) (sponsor_of e) (multiplicity e.body)) (natural_positive _ some)))

  pub needs_exist : EachEntry (λ k e. All (λ q. get m q ≢ None) (needed_keys (pools_in m) e)) m
  needs_exist q e there =
      let owner = account_keys (owner_of e.body) in
      let sponsor = account_keys (sponsor_of e) in
      let signers = flat_map account_keys (signer_sponsors_in e.body) in
      All-append Exists (owner ++ sponsor ++ signers) (holding_keys (pools_in m) e.body)
      (All-append Exists (owner ++ sponsor) signers
      (All-append Exists owner sponsor (owner_exists q e there) (sponsor_exists q e there)) (signers_exist q e there))
      (trades_all Exists id_pool e.body (pools_in m) (entries q e there).body
      (λ k some. counted_there ShareLines k q e there some) (λ k some. counted_there Uses k q e there some)
      (λ k some. counted_there Selling k q e there some) (λ k some. counted_there Buying k q e there some))

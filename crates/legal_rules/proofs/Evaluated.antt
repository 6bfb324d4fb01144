-- States of few entries, whose sums are evaluated.
use Rattle.legal_rules.proofs.Prelude as prelude
use prelude.{◌≡◌, ◌≢◌, refl, sym, ap, subst, ◌∙◌, ℕ, Bool, true, false, cond, List, [], ◌∷◌, ◌++◌, All, Option, Some}
use prelude.{None, arith, ints, All-nil, All-cons, All-head, All-tail, length, ◌&&◌, length-filter, flat_map, count_by}
use prelude.{filter, list_all, is_some, AccountId, is_key, for_key, for_account, is_for, for_each, signer_sponsors_in}
use prelude.{subentries_in, sponsored_in_entry, keys_in, account_keys, share_keys, pool_keys, holding_keys, needed_keys}
use prelude.{needed_line, uses_of, uses_by, uses, shares_in, share_lines, pool_named, holder, sells, buys, weight}
use prelude.{IsEntryLegal, offer_with, IsHeaderInRange, Subentries, Sponsoring, Sponsored, Selling, Buying, Shares}
use prelude.{ShareLines, Uses, stated, PoolParams, TrustLineAsset, LedgerEntryBody, sponsor_of, multiplicity, owner_of}
use prelude.{ℤ, pos, ◌+ℤ◌, ◌-ℤ◌, ◌≤ℤ◌, eq_by_cmp, get, empty, get-empty, Asset, LedgerHeader, LedgerEntry, LedgerKey}
use prelude.{key_of, key_cmp, Weight, total, part, EachEntry, put_each, total_put, total_none, Kind, View, counted}
use prelude.{stated_at, Pools, held, params_of, pools_in, IsLegal, state_of, apart_keys, put_get, zeros_add_to_zero}
use prelude.{all_back, all_front}
use Rattle.hash_ids.specs.ledger_types.declared.asset.TrustLineAsset.TheVariants as line
use Rattle.hash_ids.specs.ledger_types.declared.entry.LedgerEntryBody.TheVariants as body
use Rattle.hash_ids.specs.ledger_types.declared.asset.Asset.TheVariants as asset
use Rattle.hash_ids.specs.ledger_types.declared.key.LedgerKey.TheVariants as key
use Rattle.legal_rules.proofs.Legality.{all_aggregated, legal_of}

-- what is under a key
abbrev pub exists_in : List LedgerEntry → LedgerKey → Option LedgerEntry
exists_in [] k = None
exists_in (e ∷ es) k = cond (eq_by_cmp key_cmp k (key_of e)) (Some e) (exists_in es k)

pub get_in : (es : List LedgerEntry) (k : LedgerKey) → get (state_of es) k ≡ exists_in es k
get_in [] k = get-empty key_cmp k
get_in (e ∷ es) k = put_get (state_of es) e k ∙ ap (cond (eq_by_cmp key_cmp k (key_of e)) (Some e)) (get_in es k)

-- the sum, where each entry is put in place of what was under its key
abbrev pub value : Weight → List LedgerEntry → ℤ
value f [] = pos 0
value f (e ∷ es) = (value f es +ℤ f e) -ℤ part f (exists_in es (key_of e))

sum_after_exchange : (new was old is : ℤ) → (new +ℤ was) ≡ (old +ℤ is) → new ≡ ((old +ℤ is) -ℤ was)
sum_after_exchange new was old is put = omega (arith, ints)

pub total_in : (f : Weight) (es : List LedgerEntry) → total f (state_of es) ≡ value f es
total_in f [] = total_none f empty (λ k e there. absurd (let none : get {K = LedgerKey} {X = LedgerEntry} {R = key_cmp}
    empty k ≡ None = get-empty key_cmp k in cc))
total_in f (e ∷ es) =
    sum_after_exchange (total f (state_of (e ∷ es))) (part f (get (state_of es) (key_of e))) (total f (state_of es))
    (f e) (total_put f (state_of es) e)
    ∙ ap (λ o. (total f (state_of es) +ℤ f e) -ℤ part f o) (get_in es (key_of e))
    ∙ ap (λ n. (n +ℤ f e) -ℤ part f (exists_in es (key_of e))) (total_in f es)

pub each_in : (P : LedgerKey → LedgerEntry → Type 0) (es : List LedgerEntry) → All (λ e. P (key_of e) e) es
    → EachEntry P (state_of es)
each_in P [] all = λ k e there. absurd (let none : get {K = LedgerKey} {X = LedgerEntry} {R = key_cmp} empty k ≡ None =
    get-empty key_cmp k in cc)
each_in P (e ∷ es) all = put_each P (state_of es) e (each_in P es (All-tail (λ x. P (key_of x) x) e es all))
    (All-head (λ x. P (key_of x) x) e es all)

-- the pools that exist
abbrev pub pools_of : List LedgerEntry → Pools
pools_of es id = params_of (exists_in es (key.LiquidityPool id))

abbrev pub view_in : Asset → List LedgerEntry → View
view_in x es = record { pools = pools_of es; asset = x }

pub known_pools : (es : List LedgerEntry) → pools_in (state_of es) ≡ pools_of es
known_pools es i id = params_of (get_in es (key.LiquidityPool id) i)

-- an aggregate of a legal state
pub book_in : (h : LedgerHeader) (es : List LedgerEntry) → IsLegal h (state_of es) → (kind : Kind) (k : LedgerKey)
    → stated_at kind (exists_in es k) ≡ value (counted (view_in asset.Native es) kind k) es
book_in h es legal kind k = sym (ap (stated_at kind) (get_in es k))
    ∙ all_aggregated h (state_of es) legal kind k
    ∙ ap (λ (p : Pools). total (counted (record { pools = p; asset = asset.Native }) kind k) (state_of es))
    (known_pools es)
    ∙ total_in (counted (view_in asset.Native es) kind k) es

pub lumens_in : (h : LedgerHeader) (es : List LedgerEntry) → IsLegal h (state_of es)
    → (value (held asset.Native) es +ℤ h.fee_pool) ≡ h.total_coins
lumens_in h es legal = ap (λ n. n +ℤ h.fee_pool) (sym (total_in (held asset.Native) es)) ∙ legal.lumens

-- ---- where an entry counts nothing

same_none : (t : Bool) (n : ℤ) → t ≡ false → cond t n (pos 0) ≡ pos 0
same_none t n apart = ap (λ b. cond b n (pos 0)) apart

abbrev pub IsOther : LedgerKey → LedgerKey → Type 0
IsOther k q = q ≢ k

pub for_key_of_others : (k : LedgerKey) (o : Option LedgerKey) (n : ℤ) → All (IsOther k) (keys_in o)
    → for_key k o n ≡ pos 0
for_key_of_others k None n all = refl
for_key_of_others k (Some q) n all = same_none (is_key q k) n (apart_keys q k (All-head (IsOther k) q [] all))

pub for_account_of_others : (k : LedgerKey) (o : Option AccountId) (n : ℕ) → All (IsOther k) (account_keys o)
    → for_account k o n ≡ pos 0
for_account_of_others k None n all = refl
for_account_of_others k (Some id) n all = same_none (is_key (key.Account id) k) (pos n)
    (apart_keys (key.Account id) k (All-head (IsOther k) (key.Account id) [] all))

pub filter_of_others : (k : LedgerKey) (ids : List (Option AccountId)) → All (IsOther k) (flat_map account_keys ids)
    → filter (is_for k) ids ≡ []
filter_of_others k [] all = refl
filter_of_others k (None ∷ ids) all = filter_of_others k ids all
filter_of_others k (Some id ∷ ids) all =
    ap (λ b. cond b (Some id ∷ filter (is_for k) ids) (filter (is_for k) ids)) (apart_keys (key.Account id) k
    (All-head (IsOther k) (key.Account id) (flat_map account_keys ids) all))
    ∙ filter_of_others k ids (All-tail (IsOther k) (key.Account id) (flat_map account_keys ids) all)

none_for : (k : LedgerKey) (ids : List (Option AccountId)) → All (IsOther k) (flat_map account_keys ids)
    → count_by (is_for k) ids ≡ 0
none_for k ids all = sym (length-filter (is_for k) ids) ∙ ap length (filter_of_others k ids all)

less_none : (a b : ℤ) → a ≡ pos 0 → b ≡ pos 0 → (a -ℤ b) ≡ pos 0
less_none a b none also = omega (arith, ints)

pub uses_of_others : (k : LedgerKey) (id : AccountId) (o : Option PoolParams) → All (IsOther k) (share_keys id o)
    → uses_of k id o ≡ pos 0
uses_of_others k id None all = refl
uses_of_others k id (Some params) all =
    let a = keys_in (needed_line id params.asset_a) in
    let b = keys_in (needed_line id params.asset_b) in
    zeros_add_to_zero _ _ (for_key_of_others k (needed_line id params.asset_a) (pos 1) (all_front (IsOther k) a b all))
    (for_key_of_others k (needed_line id params.asset_b) (pos 1) (all_back (IsOther k) a b all))

module _ (v : View) (k : LedgerKey) where
  lines_none : (id : AccountId) (a : TrustLineAsset) (n : ℤ) → All (IsOther k) (pool_keys v.pools id a)
      → for_key k (pool_named a) n ≡ pos 0
  lines_none id (line.PoolShare p) n all = same_none (is_key (key.LiquidityPool p) k) n
      (apart_keys (key.LiquidityPool p) k (All-head (IsOther k) (key.LiquidityPool p) (share_keys id (v.pools p)) all))
  lines_none id other n all = refl

  uses_by_none : (id : AccountId) (a : TrustLineAsset) → All (IsOther k) (pool_keys v.pools id a)
      → uses_by v.pools k id a ≡ pos 0
  uses_by_none id (line.PoolShare p) all = uses_of_others k id (v.pools p)
      (All-tail (IsOther k) (key.LiquidityPool p) (share_keys id (v.pools p)) all)
  uses_by_none id other all = refl

  sells_none : (b : LedgerEntryBody) → All (IsOther k) (holding_keys v.pools b) → sells k b ≡ pos 0
  sells_none (body.Offer o) all = for_key_of_others k (holder o.seller_id o.selling) _
      (all_front (IsOther k) (keys_in (holder o.seller_id o.selling)) (keys_in (holder o.seller_id o.buying)) all)
  sells_none other all = refl

  buys_none : (b : LedgerEntryBody) → All (IsOther k) (holding_keys v.pools b) → buys k b ≡ pos 0
  buys_none (body.Offer o) all = for_key_of_others k (holder o.seller_id o.buying) _
      (all_back (IsOther k) (keys_in (holder o.seller_id o.selling)) (keys_in (holder o.seller_id o.buying)) all)
  buys_none other all = refl

  shares_none : (b : LedgerEntryBody) → All (IsOther k) (holding_keys v.pools b) → shares_in k b ≡ pos 0
  shares_none (body.TrustLine t) all = lines_none t.account_id t.asset t.balance all
  shares_none other all = refl

  share_lines_none : (b : LedgerEntryBody) → All (IsOther k) (holding_keys v.pools b) → share_lines k b ≡ pos 0
  share_lines_none (body.TrustLine t) all = lines_none t.account_id t.asset (pos 1) all
  share_lines_none other all = refl

  all_uses_none : (b : LedgerEntryBody) → All (IsOther k) (holding_keys v.pools b) → uses v.pools k b ≡ pos 0
  all_uses_none (body.TrustLine t) all = uses_by_none t.account_id t.asset all
  all_uses_none other all = refl

  abbrev own : LedgerEntry → List LedgerKey
  own e = account_keys (owner_of e.body)

  abbrev payer : LedgerEntry → List LedgerKey
  payer e = account_keys (sponsor_of e)

  abbrev signers : LedgerEntry → List LedgerKey
  signers e = flat_map account_keys (signer_sponsors_in e.body)

  reserves : (e : LedgerEntry) → All (IsOther k) (needed_keys v.pools e)
      → All (IsOther k) (own e ++ payer e ++ signers e)
  reserves e all = all_front (IsOther k) (own e ++ payer e ++ signers e) (holding_keys v.pools e.body) all

  holdings : (e : LedgerEntry) → All (IsOther k) (needed_keys v.pools e) → All (IsOther k) (holding_keys v.pools e.body)
  holdings e all = all_back (IsOther k) (own e ++ payer e ++ signers e) (holding_keys v.pools e.body) all

  by_owner : (e : LedgerEntry) (n : ℕ) → All (IsOther k) (needed_keys v.pools e)
      → for_account k (owner_of e.body) n ≡ pos 0
  by_owner e n all = for_account_of_others k (owner_of e.body) n (all_front (IsOther k) (own e) (payer e)
      (all_front (IsOther k) (own e ++ payer e) (signers e) (reserves e all)))

  by_payer : (e : LedgerEntry) (n : ℕ) → All (IsOther k) (needed_keys v.pools e)
      → for_account k (sponsor_of e) n ≡ pos 0
  by_payer e n all = for_account_of_others k (sponsor_of e) n (all_back (IsOther k) (own e) (payer e)
      (all_front (IsOther k) (own e ++ payer e) (signers e) (reserves e all)))

  by_signers : (e : LedgerEntry) → All (IsOther k) (needed_keys v.pools e)
      → for_each k (signer_sponsors_in e.body) ≡ pos 0
  by_signers e all = ap pos (none_for k (signer_sponsors_in e.body)
      (all_back (IsOther k) (own e ++ payer e) (signers e) (reserves e all)))

  -- what an entry counts for is what it needs
  counts_none : (kind : Kind) (e : LedgerEntry) → All (IsOther k) (needed_keys v.pools e) → counted v kind k e ≡ pos 0
  counts_none Subentries e all = by_owner e (subentries_in e.body) all
  counts_none Sponsored e all = by_owner e (sponsored_in_entry e) all
  counts_none Sponsoring e all = zeros_add_to_zero _ _ (by_payer e (multiplicity e.body) all) (by_signers e all)
  counts_none Selling e all = sells_none e.body (holdings e all)
  counts_none Buying e all = buys_none e.body (holdings e all)
  counts_none Shares e all = shares_none e.body (holdings e all)
  counts_none ShareLines e all = share_lines_none e.body (holdings e all)
  counts_none Uses e all = all_uses_none e.body (holdings e all)

  pub weighs_none : (kind : Kind) (e : LedgerEntry) → key_of e ≢ k → All (IsOther k) (needed_keys v.pools e)
      → weight v kind k e ≡ pos 0
  weighs_none kind e other all = less_none (counted v kind k e) _ (counts_none kind e all)
      (same_none (is_key (key_of e) k) (stated kind e.body) (apart_keys (key_of e) k other))

-- ---- a list that is checked

module _ (es : List LedgerEntry) where
  abbrev pub is_there_in : LedgerKey → Bool
  is_there_in k = is_some (exists_in es k)

  -- all that an entry needs exists
  abbrev pub needs_in : LedgerEntry → Bool
  needs_in e = list_all is_there_in (needed_keys (pools_of es) e)

  others_of : (k : LedgerKey) (ks : List LedgerKey) → exists_in es k ≡ None → list_all is_there_in ks ≡ true
      → All (IsOther k) ks
  others_of k [] none all = All-nil (IsOther k)
  others_of k (q ∷ ks) none all = elim (is_there_in q) as (λ b. is_there_in q ≡ b
      → (b && list_all is_there_in ks) ≡ true → All (IsOther k) (q ∷ ks)) [
        | true ↦ λ here rest. All-cons (IsOther k) q ks
            (λ same. let gone : is_some (exists_in es q) ≡ false = ap is_some (ap (exists_in es) same ∙ none) in
            absurd (cc)) (others_of k ks none rest)
        | false ↦ λ here rest. absurd (cc)
      ] refl all

  keyed_in : EachEntry (λ k e. key_of e ≡ k) (state_of es)
  keyed_in = each_in (λ k e. key_of e ≡ k) es (owns es)
    where
      owns : (xs : List LedgerEntry) → All (λ e. key_of e ≡ key_of e) xs
      owns [] = All-nil (λ e. key_of e ≡ key_of e)
      owns (e ∷ xs) = All-cons (λ e. key_of e ≡ key_of e) e xs refl (owns xs)

  abbrev pub AreEven : Asset → Kind → Type 0
  AreEven x kind = All (λ e. value (weight (view_in x es) kind (key_of e)) es ≡ pos 0) es

  -- aggregates that balance at each key that exists, where all that is needed exists, balance
  pub aggregates_in : (x : Asset) (kind : Kind) → All (λ e. needs_in e ≡ true) es → AreEven x kind → (k : LedgerKey)
      → total (weight (view_in x es) kind k) (state_of es) ≡ pos 0
  aggregates_in x kind needs even k = by_entry (exists_in es k) refl
    where
      none_of : exists_in es k ≡ None → (q : LedgerKey) (e : LedgerEntry) → get (state_of es) q ≡ Some e → key_of e ≢ k
      none_of none q e there same =
          let here : exists_in es q ≡ Some e = sym (get_in es q) ∙ there in
          let gone : exists_in es q ≡ None = ap (exists_in es) (sym (keyed_in q e there) ∙ same) ∙ none in
          absurd (cc)

      by_entry : (o : Option LedgerEntry) → exists_in es k ≡ o
          → total (weight (view_in x es) kind k) (state_of es) ≡ pos 0
      by_entry None none = total_none (weight (view_in x es) kind k) (state_of es) (λ q e there.
          weighs_none (view_in x es) k kind e (none_of none q e there) (others_of k (needed_keys (pools_of es) e) none
          (each_in (λ q e. needs_in e ≡ true) es needs q e there)))
      by_entry (Some e) there =
          let at : get (state_of es) k ≡ Some e = get_in es k ∙ there in
          total_in (weight (view_in x es) kind k) es
          ∙ ap (λ q. value (weight (view_in x es) kind q) es) (sym (keyed_in k e at))
          ∙ each_in (λ q y. value (weight (view_in x es) kind (key_of y)) es ≡ pos 0) es even k e at

-- a list whose entries are legal, and whose aggregates balance
pub legal_in : (h : LedgerHeader) (es : List LedgerEntry) → IsHeaderInRange h
    → All (λ e. IsEntryLegal h.id_pool e) es → All (λ e. needs_in es e ≡ true) es
    → ((id : ℤ) → value (offer_with id) es ≤ℤ pos 1) → ((kind : Kind) → AreEven es asset.Native kind)
    → value (held asset.Native) es ≡ (h.total_coins -ℤ h.fee_pool) → IsLegal h (state_of es)
legal_in h es header entries needs offers even lumens = legal_of h (pools_of es) (state_of es) header (record {
  params = λ id. ap (λ (p : Pools). p id) (known_pools es);
  keyed = keyed_in es;
  entries = each_in (λ k e. IsEntryLegal h.id_pool e) es entries;
  offers = λ id. subst (λ n. n ≤ℤ pos 1) (sym (total_in (offer_with id) es)) (offers id);
  aggregates = λ kind k. aggregates_in es asset.Native kind needs (even kind) k;
  supply = total_in (held asset.Native) es ∙ lumens;
})

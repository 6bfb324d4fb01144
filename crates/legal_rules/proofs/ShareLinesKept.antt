-- Lines of pool shares that are added and removed, with what their pools and the lines that they need count.
use Rattle.legal_rules.proofs.Prelude as prelude
use prelude.{◌≡◌, ◌≢◌, refl, sym, ap, subst, ◌∙◌, ℕ, Bool, true, false, cond, List, [], ◌++◌, All, Option, Some, None}
use prelude.{Ok, arith, All-nil, All-cons, All-head, All-tail, ints, ◌%◌, ℤ, pos, neg_ℤ, ◌+ℤ◌, ◌-ℤ◌, ◌≤ℤ◌}
use prelude.{if◌then◌else◌, get, AccountId, Hash, Asset, PoolParams, TrustLineAsset, TrustLineEntry, LiquidityPoolEntry}
use prelude.{LedgerEntry, LedgerEntryBody, LedgerKey, key_of, key_of_body, EntryMap, put, HasAccount, line_in, line_of}
use prelude.{line_at, with_line, line_liabilities, use_count, with_use_count, pool_in, pool_of, pool_at, Ctx}
use prelude.{map_after_adding, map_after_removing, is_same_account, total, EachEntry, total_none, total_not_below}
use prelude.{is_key, for_key, Pools, needed_line, uses, uses_by, uses_of, Kind, Subentries, Sponsoring, Sponsored}
use prelude.{Selling, Buying, Shares, ShareLines, Uses, View, counted, stated, stated_at, held_in, IsBodyInRange}
use prelude.{IsPoolInRange, offer_with, IsSponsorReady, keys_in, params_in, params_of, view, pools_in, weighed, Owed}
use prelude.{nothing_owed, in_aggregate, plus, less, beside_reserves, IsEntryLegal, IsLegalOwing, share_line}
use prelude.{share_aggregates, with_uses, map_with_uses_at, map_with_uses, with_lines, map_with_lines}
use prelude.{map_with_share_lines, HasNeededLines, AddingShareLinesKeep, RemovingShareLinesKeep, apart_keys, put_get}
use prelude.{add_neg_zero, add_sub_self, add_zero, add_zero_at_most, natural_nonnegative, natural_positive, zero_add}
use prelude.{zeros_add_to_zero}
use Rattle.hash_ids.specs.ledger_types.declared.asset.Asset.TheVariants as asset
use Rattle.hash_ids.specs.ledger_types.declared.asset.TrustLineAsset.TheVariants as line
use Rattle.hash_ids.specs.ledger_types.declared.entry.LedgerEntryBody.TheVariants as body
use Rattle.hash_ids.specs.ledger_types.declared.key.LedgerKey.TheVariants as key
use Rattle.legal_rules.proofs.Adding.{exists_still}
use Rattle.legal_rules.proofs.Changed.{uses_counted, pool_changed_by, pool_entry, with_pool_body}
use Rattle.legal_rules.proofs.Counting.{neg_in_aggregate}
use Rattle.legal_rules.proofs.Kept.{subentry_removed_so}
use Rattle.legal_rules.proofs.Legality.{owing_nothing, legal_of}
use Rattle.legal_rules.proofs.Liable.{line_entry, with_line_body, with_line_is}
use Rattle.legal_rules.proofs.Lows.{counted_low, for_key_low}
use Rattle.legal_rules.proofs.Needed.{for_itself}
use Rattle.legal_rules.proofs.PaidFor.{nothing_settled}
use Rattle.legal_rules.proofs.SharesKept.{share_line_added}
use Rattle.legal_rules.proofs.Steps.{legal_as}
use Rattle.legal_rules.proofs.Subentries.{subentry_of}
use Rattle.legal_rules.proofs.Weighing.{total_of}

-- ---- lines that are used more or less

-- what aggregates owe once the line under a key, where one is named, is used n times more
abbrev used : Option LedgerKey → ℤ → Owed
used None n = nothing_owed
used (Some k) n = in_aggregate Uses k (neg_ℤ n)

-- the line under a key, where one is named, exists and can be used n times more
abbrev CanUse : ℤ → EntryMap → Option LedgerKey → Type 0
CanUse n m None = Unit {0}
CanUse n m (Some (key.TrustLine id x)) =
    (t : TrustLineEntry) × (line_at m id x ≡ Some t) × (pos 0 ≤ℤ (use_count t +ℤ n))
CanUse n m (Some other) = ⊥

fallen : (old n : ℤ) → (old -ℤ (old +ℤ n)) ≡ neg_ℤ n
fallen old n = omega (arith, ints)

-- for the line that exists, n more than its use count is a count
same_use : (m : EntryMap) (id : AccountId) (x : TrustLineAsset) (n : ℤ) (t : TrustLineEntry) → line_at m id x ≡ Some t
    → with_line m id x (with_use_count (use_count t +ℤ n)) ≡ with_line m id x (with_uses n)
same_use m id x n t exists =
    let found = line_entry m id x t exists in
    with_line_is m id x (with_use_count (use_count t +ℤ n)) t found.0 found.1
    ∙ sym (with_line_is m id x (with_uses n) t found.0 found.1)

-- The line under a key is used n times more: its aggregate owes so much less.
uses_legal : (v : View) (id_pool : ℕ) (owed : Owed) (sum n : ℤ) (m : EntryMap) (o : Option LedgerKey)
    → IsLegalOwing v id_pool owed sum m → CanUse n m o
    → IsLegalOwing v id_pool (plus owed (used o n)) sum (map_with_uses_at n o m)
uses_legal v id_pool owed sum n m None legal can =
    legal_as v (IsEntryLegal id_pool) owed _ sum sum m legal (λ kind k. sym (add_zero (owed kind k))) refl
uses_legal v id_pool owed sum n m (Some (key.TrustLine id x)) legal can =
    subst (IsLegalOwing v id_pool (plus owed (used (Some (key.TrustLine id x)) n)) sum)
    (same_use m id x n can.0 can.1)
    (legal_as v (IsEntryLegal id_pool) _ _ sum sum _
    (uses_counted v id_pool owed sum m id x (use_count can.0 +ℤ n) can.0 legal can.1 can.2)
    (λ kind k. ap (λ y. owed kind k +ℤ in_aggregate Uses (key.TrustLine id x) y kind k) (fallen (use_count can.0) n))
    refl)
uses_legal v id_pool owed sum n m (Some other) legal can = absurd can

-- ---- lines that can be used

-- what is under a line's key is a line
by_body : (m : EntryMap) (id : AccountId) (x : TrustLineAsset) (n : ℤ) (e : LedgerEntry) (b : LedgerEntryBody)
    → e.body ≡ b → get m (key.TrustLine id x) ≡ Some e → key_of_body b ≡ key.TrustLine id x
    → pos 0 ≤ℤ (stated Uses b +ℤ n) → CanUse n m (Some (key.TrustLine id x))
unfolding line_at
by_body m id x n e (body.TrustLine t) is there own low = (t, ap line_of there ∙ ap line_in is, low)
by_body m id x n e other is there own low = absurd (cc)

by_entry : (m : EntryMap) (id : AccountId) (x : TrustLineAsset) (n : ℤ) (o : Option LedgerEntry)
    → get m (key.TrustLine id x) ≡ o → EachEntry (λ k e. key_of e ≡ k) m → o ≢ None
    → pos 0 ≤ℤ (stated_at Uses o +ℤ n) → CanUse n m (Some (key.TrustLine id x))
by_entry m id x n None there keyed some low = absurd (some refl)
by_entry m id x n (Some e) there keyed some low = by_body m id x n e e.body refl there
    (keyed (key.TrustLine id x) e there) low

-- ---- pools with more or fewer lines

-- a pool's shares stay, so its count of lines alone is owed
lines_only : (q : LedgerKey) (shares lines n : ℤ) (kind : Kind) (k : LedgerKey)
    → plus (in_aggregate Shares q (shares -ℤ shares)) (in_aggregate ShareLines q (lines -ℤ (lines +ℤ n))) kind k
    ≡ in_aggregate ShareLines q (neg_ℤ n) kind k
lines_only q shares lines n Shares k = by_test (is_key q k)
  where
    by_test : (t : Bool) → ((if t then shares -ℤ shares else pos 0) +ℤ pos 0) ≡ pos 0
    by_test true = omega (arith, ints)
    by_test false = refl
lines_only q shares lines n ShareLines k = by_test (is_key q k)
  where
    by_test : (t : Bool) → (pos 0 +ℤ (if t then lines -ℤ (lines +ℤ n) else pos 0)) ≡ (if t then neg_ℤ n else pos 0)
    by_test true = omega (arith, ints)
    by_test false = refl
lines_only q shares lines n kind k = refl

-- A pool has n lines more: its aggregate owes so much less.
lines_legal : (v : View) (id_pool : ℕ) (owed : Owed) (sum n : ℤ) (m : EntryMap) (pool : Hash) (p : LiquidityPoolEntry)
    → IsLegalOwing v id_pool owed sum m → pool_at m pool ≡ Some p → pos 0 ≤ℤ (p.pool_shares_trust_line_count +ℤ n)
    → IsLegalOwing v id_pool (plus owed (in_aggregate ShareLines (key.LiquidityPool pool) (neg_ℤ n))) sum
    (map_with_lines n pool m)
lines_legal v id_pool owed sum n m pool p legal exists low =
    let found = pool_entry m pool p exists in
    let there : get m (key.LiquidityPool pool) ≡ Some (with_pool_body found.0 p) =
    found.1.there ∙ ap Some (λ i. record found.0 { body = found.1.is i }) in
    let was = legal.entries (key.LiquidityPool pool) (with_pool_body found.0 p) there in
    let range : IsPoolInRange p = was.range.body in
    legal_as v (IsEntryLegal id_pool) _ _ _ sum _
    (pool_changed_by v id_pool owed sum m pool (with_lines n) p legal exists (record { id = refl; params = refl })
    (record {
      fee = range.fee;
      assets = range.assets;
      id = range.id;
      reserve_a = range.reserve_a;
      reserve_b = range.reserve_b;
      shares = range.shares;
      lines = low;
    }) was.filled)
    (λ kind k. ap (λ y. owed kind k +ℤ y)
    (lines_only (key.LiquidityPool pool) p.total_pool_shares p.pool_shares_trust_line_count n kind k))
    (add_sub_self sum (held_in v.asset (body.LiquidityPool p)))

-- ---- what n empty lines of an account in a pool count, and what is left once that is stated

abbrev counts_of : ℤ → AccountId → Hash → PoolParams → Owed
counts_of n id pool params ShareLines k = for_key k (Some (key.LiquidityPool pool)) n
counts_of n id pool params Uses k = for_key k (needed_line id params.asset_a) n +ℤ
    for_key k (needed_line id params.asset_b) n
counts_of n id pool params kind k = pos 0

for_less : (k : LedgerKey) (o : Option LedgerKey) (n : ℤ) → for_key k o (neg_ℤ n) ≡ neg_ℤ (for_key k o n)
for_less k None n = refl
for_less k (Some q) n = neg_in_aggregate Uses q n Uses k

used_is : (o : Option LedgerKey) (k : LedgerKey) (n : ℤ) → used o n Uses k ≡ neg_ℤ (for_key k o n)
used_is None k n = refl
used_is (Some q) k n = for_less k (Some q) n

abbrev beside_uses : Owed → Owed
beside_uses owed Uses k = pos 0
beside_uses owed kind k = owed kind k

used_elsewhere : (o : Option LedgerKey) (n : ℤ) (kind : Kind) (k : LedgerKey) → beside_uses (used o n) kind k ≡ pos 0
used_elsewhere None n Uses k = refl
used_elsewhere None n kind k = refl
used_elsewhere (Some q) n Uses k = refl
used_elsewhere (Some q) n kind k = refl

both_taken : (a b x y : ℤ) → x ≡ neg_ℤ a → y ≡ neg_ℤ b → ((((a +ℤ b) +ℤ x) +ℤ y) +ℤ pos 0) ≡ pos 0
both_taken a b x y is also = omega (arith, ints)

one_taken : (a x y z : ℤ) → x ≡ pos 0 → y ≡ pos 0 → z ≡ neg_ℤ a → (((a +ℤ x) +ℤ y) +ℤ z) ≡ pos 0
one_taken a x y z none nothing is = omega (arith, ints)

module _ (n : ℤ) (id : AccountId) (pool : Hash) (params : PoolParams) where
  abbrev line_a : Option LedgerKey
  line_a = needed_line id params.asset_a

  abbrev line_b : Option LedgerKey
  line_b = needed_line id params.asset_b

  -- what is owed after each step
  abbrev Once : Owed
  Once = plus (counts_of n id pool params) (used line_a n)

  abbrev Twice : Owed
  Twice = plus Once (used line_b n)

  abbrev Settled : Owed
  Settled = plus Twice (in_aggregate ShareLines (key.LiquidityPool pool) (neg_ℤ n))

  nothing_left : (kind : Kind) (k : LedgerKey) → Settled kind k ≡ nothing_owed kind k
  nothing_left Uses k = both_taken (for_key k line_a n) (for_key k line_b n) _ _ (used_is line_a k n)
      (used_is line_b k n)
  nothing_left ShareLines k = one_taken (for_key k (Some (key.LiquidityPool pool)) n) _ _ _
      (used_elsewhere line_a n ShareLines k) (used_elsewhere line_b n ShareLines k)
      (for_less k (Some (key.LiquidityPool pool)) n)
  nothing_left kind k = one_taken (pos 0) _ _ (pos 0) (used_elsewhere line_a n kind k) (used_elsewhere line_b n kind k)
      refl

  module _ (v : View) (id_pool : ℕ) (sum : ℤ) (m : EntryMap) where
    abbrev after_a : EntryMap
    after_a = map_with_uses n id params.asset_a m

    abbrev after_b : EntryMap
    after_b = map_with_uses n id params.asset_b after_a

    once : IsLegalOwing v id_pool (counts_of n id pool params) sum m → CanUse n m line_a
        → IsLegalOwing v id_pool Once sum after_a
    once legal can = uses_legal v id_pool (counts_of n id pool params) sum n m line_a legal can

    twice : IsLegalOwing v id_pool Once sum after_a → CanUse n after_a line_b → IsLegalOwing v id_pool Twice sum after_b
    twice so_far can = uses_legal v id_pool Once sum n after_a line_b so_far can

    settled : IsLegalOwing v id_pool Twice sum after_b → (p : LiquidityPoolEntry) → pool_at after_b pool ≡ Some p
        → pos 0 ≤ℤ (p.pool_shares_trust_line_count +ℤ n)
        → IsLegalOwing v id_pool nothing_owed sum (map_with_share_lines n id pool params m)
    settled so_far p exists low = legal_as v (IsEntryLegal id_pool) Settled nothing_owed sum sum _
        (lines_legal v id_pool Twice sum n after_b pool p so_far exists low) nothing_left refl

-- ---- the pool exists

pool_body_known : (b : LedgerEntryBody) (params : PoolParams) → params_in b ≡ Some params
    → (p : LiquidityPoolEntry) × (pool_in b ≡ Some p)
pool_body_known (body.LiquidityPool p) params is = (p, refl)
pool_body_known other params is = absurd (cc)

pool_entry_known : (o : Option LedgerEntry) (params : PoolParams) → params_of o ≡ Some params
    → (p : LiquidityPoolEntry) × (pool_of o ≡ Some p)
pool_entry_known None params is = absurd (cc)
pool_entry_known (Some e) params is = pool_body_known e.body params is

-- a pool whose parameters are known exists
pub pool_known : (m : EntryMap) (pool : Hash) (params : PoolParams) → pools_in m pool ≡ Some params
    → (p : LiquidityPoolEntry) × (pool_at m pool ≡ Some p)
unfolding pool_at
pool_known m pool params is = pool_entry_known (get m (key.LiquidityPool pool)) params is

-- the parameters of a pool that exists are known
pub params_known : (m : EntryMap) (pool : Hash) (p : LiquidityPoolEntry) → pool_at m pool ≡ Some p
    → pools_in m pool ≡ Some p.params
params_known m pool p exists =
    let found = pool_entry m pool p exists in
    ap params_of found.1.there ∙ ap params_in found.1.is

pub pool_low : (v : View) (id_pool : ℕ) (owed : Owed) (sum : ℤ) (m : EntryMap) (pool : Hash) (p : LiquidityPoolEntry)
    → IsLegalOwing v id_pool owed sum m → pool_at m pool ≡ Some p → pos 0 ≤ℤ p.pool_shares_trust_line_count
pool_low v id_pool owed sum m pool p legal exists =
    let found = pool_entry m pool p exists in
    let range : IsBodyInRange id_pool found.0.body = (legal.entries _ found.0 found.1.there).range.body in
    (subst (IsBodyInRange id_pool) found.1.is range).lines

-- ---- a line that is added

uses_in_range : (id_pool : ℕ) (b : LedgerEntryBody) → IsBodyInRange id_pool b → pos 0 ≤ℤ stated Uses b
uses_in_range id_pool (body.TrustLine t) range = range.uses
uses_in_range id_pool other range = omega (arith, ints)

stated_uses_low : (id_pool : ℕ) (o : Option LedgerEntry) → ((e : LedgerEntry) → o ≡ Some e → IsEntryLegal id_pool e)
    → pos 0 ≤ℤ stated_at Uses o
stated_uses_low id_pool None each = omega (arith, ints)
stated_uses_low id_pool (Some e) each = uses_in_range id_pool e.body (each e refl).range.body

one_more : (n : ℤ) → pos 0 ≤ℤ n → pos 0 ≤ℤ (n +ℤ pos 1)
one_more n low = omega (arith, ints)

-- what an account needs for an asset is a line or nothing
abbrev IsLineKey : Option LedgerKey → Type 0
IsLineKey None = Unit {0}
IsLineKey (Some (key.TrustLine id x)) = Unit {0}
IsLineKey (Some other) = ⊥

needs_line : (id : AccountId) (a : Asset) → IsLineKey (needed_line id a)
needs_line id asset.Native = tt
needs_line id (asset.Alphanum4 code issuer) = elim (is_same_account issuer id) as
    (λ t. IsLineKey (if t then None else Some (key.TrustLine id (line.Alphanum4 code issuer))))
    [ true ↦ tt | false ↦ tt ]
needs_line id (asset.Alphanum12 code issuer) = elim (is_same_account issuer id) as
    (λ t. IsLineKey (if t then None else Some (key.TrustLine id (line.Alphanum12 code issuer))))
    [ true ↦ tt | false ↦ tt ]

-- a line that exists can be used once more
can_use_more : (v : View) (id_pool : ℕ) (owed : Owed) (sum : ℤ) (m : EntryMap) (o : Option LedgerKey) → IsLineKey o
    → IsLegalOwing v id_pool owed sum m → All (λ k. get m k ≢ None) (keys_in o) → CanUse (pos 1) m o
can_use_more v id_pool owed sum m None is legal exists = tt
can_use_more v id_pool owed sum m (Some (key.TrustLine id x)) is legal exists =
    by_entry m id x (pos 1) (get m (key.TrustLine id x)) refl legal.keyed
    (All-head (λ k. get m k ≢ None) (key.TrustLine id x) [] exists)
    (one_more _ (stated_uses_low id_pool (get m (key.TrustLine id x)) (legal.entries (key.TrustLine id x))))
can_use_more v id_pool owed sum m (Some other) is legal exists = absurd is

-- what exists still does once a line is used
exists_put : (m : EntryMap) (e : LedgerEntry) (q : LedgerKey) → get m q ≢ None → get (put m e) q ≢ None
exists_put m e q exists missing = elim (is_key q (key_of e)) as (λ t. cond t (Some e) (get m q) ≡ None → ⊥)
    [ true ↦ λ none. absurd (cc) | false ↦ exists ] (sym (put_get m e q) ∙ missing)

exists_used : (n : ℤ) (m : EntryMap) (o : Option LedgerKey) → CanUse n m o → (q : LedgerKey) → get m q ≢ None
    → get (map_with_uses_at n o m) q ≢ None
exists_used n m None can q exists = exists
exists_used n m (Some (key.TrustLine id x)) can q exists =
    let found = line_entry m id x can.0 can.1 in
    subst (λ now. get now q ≢ None) (sym (with_line_is m id x (with_uses n) can.0 found.0 found.1))
    (exists_put m (with_line_body found.0 (with_uses n can.0)) q exists)
exists_used n m (Some other) can q exists = absurd can

-- each of the lines by itself
each_line : (m now : EntryMap) (o : Option LedgerKey) → IsLineKey o
    → ((id : AccountId) (x : TrustLineAsset) → get m (key.TrustLine id x) ≢ None → get now (key.TrustLine id x) ≢ None)
    → All (λ k. get m k ≢ None) (keys_in o) → All (λ k. get now k ≢ None) (keys_in o)
each_line m now None is still exists = All-nil (λ k. get now k ≢ None)
each_line m now (Some (key.TrustLine id x)) is still exists =
    All-cons (λ k. get now k ≢ None) (key.TrustLine id x) []
    (still id x (All-head (λ k. get m k ≢ None) (key.TrustLine id x) [] exists)) (All-nil (λ k. get now k ≢ None))
each_line m now (Some other) is still exists = absurd is

first_lines : (P : LedgerKey → Type 0) (o : Option LedgerKey) (more : List LedgerKey) → All P (keys_in o ++ more)
    → All P (keys_in o)
first_lines P None more all = All-nil P
first_lines P (Some k) more all = All-cons P k [] (All-head P k more all) (All-nil P)

other_lines : (P : LedgerKey → Type 0) (o : Option LedgerKey) (more : List LedgerKey) → All P (keys_in o ++ more)
    → All P more
other_lines P None more all = all
other_lines P (Some k) more all = All-tail P k more all

zero_add_if_zeros : (t : Bool) → (pos 0 +ℤ (if t then pos 0 else pos 0)) ≡ pos 0
zero_add_if_zeros true = refl
zero_add_if_zeros false = refl

-- a line without shares counts itself, and uses
counted_alone : (id : AccountId) (pool : Hash) (params : PoolParams) (kind : Kind) (k : LedgerKey)
    → plus nothing_owed (share_aggregates id pool params (pos 0)) kind k ≡ counts_of (pos 1) id pool params kind k
counted_alone id pool params Shares k = zero_add_if_zeros (is_key (key.LiquidityPool pool) k)
counted_alone id pool params ShareLines k = zero_add _
counted_alone id pool params Uses k = zero_add _
counted_alone id pool params kind k = refl

module _ (v : View) (id_pool : ℕ) (coins : ℤ) (ctx : Ctx) (seq : ℕ) (id : AccountId) (pool : Hash)
    (p : LiquidityPoolEntry) (limit : ℤ) (old added : EntryMap) (start : IsLegalOwing v id_pool nothing_owed coins old)
    (exists : pool_at old pool ≡ Some p) (free : get old (key.TrustLine id (line.PoolShare pool)) ≡ None)
    (range : IsEntryLegal id_pool (share_line seq None id pool (pos 0) limit)) (owner : HasAccount old id)
    (ready : IsSponsorReady ctx id old)
    (done : map_after_adding ctx id (share_line seq None id pool (pos 0) limit) old ≡ Ok added) where
  abbrev new_line : LedgerEntry
  new_line = share_line seq None id pool (pos 0) limit

  known : v.pools pool ≡ Some p.params
  known = sym (start.params pool) ∙ params_known old pool p exists

  open_aggregates : IsLegalOwing v id_pool (counts_of (pos 1) id pool p.params) coins added
  open_aggregates = legal_as v (IsEntryLegal id_pool) _ _ coins coins added
      (share_line_added v id_pool id_pool nothing_owed coins ctx seq id pool p.params (pos 0) limit old added start
      known free (omega arith) range owner ready done) (counted_alone id pool p.params) refl

  line_exists : (i : AccountId) (x : TrustLineAsset) → get old (key.TrustLine i x) ≢ None
      → get added (key.TrustLine i x) ≢ None
  line_exists i x there missing = there (sym (exists_still v id_pool id_pool nothing_owed coins ctx id new_line 2
      old start (record {
        subentry = subentry_of new_line.body id 2 refl;
        free = free;
        unsponsored = refl;
        legal = range;
        wide = omega arith;
        offers = λ n. add_zero_at_most (total (offer_with n) old) (pos 1) (start.offers n);
        owner_exists = owner;
        ready = ready;
      }) added done (key.TrustLine i x) (λ a same. absurd (cc)) (λ same. there (ap (get old) same ∙ free))) ∙ missing)

  pub share_line_counted : HasNeededLines old id p.params
      → IsLegalOwing v id_pool nothing_owed coins (map_with_share_lines (pos 1) id pool p.params added)
  share_line_counted lines =
      let a = needed_line id p.params.asset_a in
      let b = needed_line id p.params.asset_b in
      let had_a = first_lines (λ k. get old k ≢ None) a (keys_in b) lines in
      let had_b = other_lines (λ k. get old k ≢ None) a (keys_in b) lines in
      let is_a = needs_line id p.params.asset_a in
      let is_b = needs_line id p.params.asset_b in
      let can_a = can_use_more v id_pool _ coins added a is_a open_aggregates
      (each_line old added a is_a line_exists had_a) in
      let one = once (pos 1) id pool p.params v id_pool coins added open_aggregates can_a in
      let after = map_with_uses (pos 1) id p.params.asset_a added in
      let can_b = can_use_more v id_pool _ coins after b is_b one
      (each_line old after b is_b (λ i x there. exists_used (pos 1) added a can_a (key.TrustLine i x)
      (line_exists i x there)) had_b) in
      let two = twice (pos 1) id pool p.params v id_pool coins added one can_b in
      let now = pool_known _ pool p.params (two.params pool ∙ known) in
      settled (pos 1) id pool p.params v id_pool coins added two now.0 now.1
      (one_more _ (pool_low v id_pool _ coins _ pool now.0 two now.1))

pub adding_share_lines_keep : AddingShareLinesKeep
adding_share_lines_keep h ctx seq id pool p limit old added legal exists lines free range owner ready done =
    legal_of h (pools_in old) _ legal.header
    (share_line_counted (view old) h.id_pool (h.total_coins -ℤ h.fee_pool) ctx seq id pool p limit old added
    (owing_nothing h old legal) exists free range owner ready done lines)

-- ---- a line of pool shares states nothing

at_other : (named k : LedgerKey) (n : ℤ) → named ≢ k → for_key k (Some named) n ≡ pos 0
at_other named k n apart = ap (λ t. if t then n else pos 0) (apart_keys named k apart)

is_stated : (all states : ℤ) → all ≡ (pos 0 +ℤ states) → all ≡ pos 0 → states ≡ pos 0
is_stated all states is none = omega (arith, ints)

-- a line as one of an account in shares of a pool
abbrev of_shares : AccountId → Hash → TrustLineEntry → TrustLineEntry
of_shares id pool t = record t { account_id = id; asset = line.PoolShare pool }

module _ (id : AccountId) (pool : Hash) where
  abbrev its_key : LedgerKey
  its_key = key.TrustLine id (line.PoolShare pool)

  not_needed : (other : AccountId) (a : Asset) (n : ℤ) → for_key its_key (needed_line other a) n ≡ pos 0
  not_needed other asset.Native n = refl
  not_needed other (asset.Alphanum4 code issuer) n = elim (is_same_account issuer other) as
      (λ t. for_key its_key (if t then None else Some (key.TrustLine other (line.Alphanum4 code issuer))) n ≡ pos 0) [
        | true ↦ refl
        | false ↦ at_other (key.TrustLine other (line.Alphanum4 code issuer)) its_key n (λ same. absurd (cc))
      ]
  not_needed other (asset.Alphanum12 code issuer) n = elim (is_same_account issuer other) as
      (λ t. for_key its_key (if t then None else Some (key.TrustLine other (line.Alphanum12 code issuer))) n ≡ pos 0) [
        | true ↦ refl
        | false ↦ at_other (key.TrustLine other (line.Alphanum12 code issuer)) its_key n (λ same. absurd (cc))
      ]

  not_used_of : (other : AccountId) (o : Option PoolParams) → uses_of its_key other o ≡ pos 0
  not_used_of other None = refl
  not_used_of other (Some params) = zeros_add_to_zero _ _ (not_needed other params.asset_a (pos 1))
      (not_needed other params.asset_b (pos 1))

  not_used_by : (pools : Pools) (other : AccountId) (a : TrustLineAsset) → uses_by pools its_key other a ≡ pos 0
  not_used_by pools other (line.PoolShare x) = not_used_of other (pools x)
  not_used_by pools other a = refl

  not_used : (pools : Pools) (b : LedgerEntryBody) → uses pools its_key b ≡ pos 0
  not_used pools (body.TrustLine t) = not_used_by pools t.account_id t.asset
  not_used pools other = refl

  module _ (v : View) (id_pool : ℕ) (sum : ℤ) (m : EntryMap) (legal : IsLegalOwing v id_pool nothing_owed sum m)
      (was : TrustLineEntry) (e : LedgerEntry) where
    abbrev t : TrustLineEntry
    t = of_shares id pool was

    module _ (there : get m its_key ≡ Some (with_line_body e t)) where
      was_legal : IsEntryLegal id_pool (with_line_body e t)
      was_legal = legal.entries its_key (with_line_body e t) there

      -- it has no flag, so no offer binds it
      unbound_line : ((line_liabilities t).selling ≡ pos 0) × ((line_liabilities t).buying ≡ pos 0)
      unbound_line = was_legal.bound (ap (λ (f : ℕ). f % 4) was_legal.range.body.flags)

      -- no line of shares needs it
      unused : use_count t ≡ pos 0
      unused = is_stated (total (counted v Uses its_key) m) _
          (total_of v (IsEntryLegal id_pool) nothing_owed sum m legal Uses its_key
          ∙ ap (λ o. pos 0 +ℤ stated_at Uses o) there)
          (total_none (counted v Uses its_key) m (λ q x at. not_used v.pools x.body))

-- ---- a line that is removed

no_shares_left : (s u : Bool) (b : ℤ) → b ≡ pos 0
    → (pos 0 +ℤ neg_ℤ ((if s then b else pos 0) -ℤ (if u then pos 0 else pos 0))) ≡ pos 0
no_shares_left true true b none = omega (arith, ints)
no_shares_left true false b none = omega (arith, ints)
no_shares_left false true b none = refl
no_shares_left false false b none = refl

one_line_less : (s u : Bool) → (pos 0 +ℤ neg_ℤ ((if s then pos 1 else pos 0) -ℤ (if u then pos 0 else pos 0)))
    ≡ (if s then neg_ℤ (pos 1) else pos 0)
one_line_less true true = refl
one_line_less true false = refl
one_line_less false true = refl
one_line_less false false = refl

nothing_stated : (u : Bool) (x : ℤ) → x ≡ pos 0 → (pos 0 +ℤ neg_ℤ (pos 0 -ℤ (if u then x else pos 0))) ≡ pos 0
nothing_stated true x none = omega (arith, ints)
nothing_stated false x none = refl

uses_taken : (u : Bool) (a b c d x : ℤ) → x ≡ pos 0 → c ≡ neg_ℤ a → d ≡ neg_ℤ b
    → (pos 0 +ℤ neg_ℤ ((a +ℤ b) -ℤ (if u then x else pos 0))) ≡ (c +ℤ d)
uses_taken true a b c d x none is also = omega (arith, ints)
uses_taken false a b c d x none is also = omega (arith, ints)

one_less : (states owes : ℤ) → owes ≤ℤ neg_ℤ (pos 1) → pos 0 ≤ℤ (owes +ℤ states) → pos 0 ≤ℤ (states +ℤ neg_ℤ (pos 1))
one_less states owes less low = omega (arith, ints)

none_less : (states : ℤ) → states ≡ pos 0 → pos 0 ≤ℤ (states +ℤ neg_ℤ (pos 1)) → ⊥
none_less states none low = omega (arith, ints)

first_owes : (a b c d : ℤ) → pos 1 ≤ℤ a → pos 0 ≤ℤ b → c ≡ neg_ℤ a → d ≡ neg_ℤ b → (c +ℤ d) ≤ℤ neg_ℤ (pos 1)
first_owes a b c d some low is also = omega (arith, ints)

second_owes : (b c d x : ℤ) → pos 1 ≤ℤ b → d ≡ neg_ℤ b → x ≡ neg_ℤ c → ((c +ℤ d) +ℤ x) ≤ℤ neg_ℤ (pos 1)
second_owes b c d x some is also = omega (arith, ints)

line_owes : (a c x y : ℤ) → pos 1 ≤ℤ a → c ≡ neg_ℤ a → x ≡ pos 0 → y ≡ pos 0 → ((c +ℤ x) +ℤ y) ≤ℤ neg_ℤ (pos 1)
line_owes a c x y some is none nothing = omega (arith, ints)

module _ (v : View) (id_pool : ℕ) (owed : Owed) (sum : ℤ) (m : EntryMap)
    (legal : IsLegalOwing v id_pool owed sum m) where
  -- as much is stated as is counted, and no less than nothing is
  pub states_least : (kind : Kind) (k : LedgerKey) → pos 0 ≤ℤ (owed kind k +ℤ stated_at kind (get m k))
  states_least kind k = subst (λ n. pos 0 ≤ℤ n) (total_of v (IsEntryLegal id_pool) owed sum m legal kind k)
      (total_not_below (counted v kind k) m (λ q x at. counted_low id_pool v kind k x (legal.entries q x at).range))

  -- a line of which more uses are stated than are counted exists, and can be used once less
  pub can_use_less : (o : Option LedgerKey) → IsLineKey o
      → ((k : LedgerKey) → o ≡ Some k → owed Uses k ≤ℤ neg_ℤ (pos 1)) → CanUse (neg_ℤ (pos 1)) m o
  can_use_less None is less = tt
  can_use_less (Some (key.TrustLine id x)) is less =
      let k = key.TrustLine id x in
      let low = one_less (stated_at Uses (get m k)) (owed Uses k) (less k refl) (states_least Uses k) in
      by_entry m id x (neg_ℤ (pos 1)) (get m k) refl legal.keyed
      (λ missing. none_less (stated_at Uses (get m k)) (ap (stated_at Uses) missing) low) low
  can_use_less (Some other) is less = absurd is

  pub can_count_less : (pool : Hash) (p : LiquidityPoolEntry) → pool_at m pool ≡ Some p
      → owed ShareLines (key.LiquidityPool pool) ≤ℤ neg_ℤ (pos 1)
      → pos 0 ≤ℤ (p.pool_shares_trust_line_count +ℤ neg_ℤ (pos 1))
  can_count_less pool p exists less =
      let found = pool_entry m pool p exists in
      let states = ap (stated_at ShareLines) found.1.there ∙ ap (stated ShareLines) found.1.is in
      subst (λ n. pos 0 ≤ℤ (n +ℤ neg_ℤ (pos 1))) states
      (one_less (stated_at ShareLines (get m (key.LiquidityPool pool))) (owed ShareLines (key.LiquidityPool pool)) less
      (states_least ShareLines (key.LiquidityPool pool)))

module _ (now_v : View) (id_pool : ℕ) (lumens : ℤ) (id : AccountId) (pool : Hash) (was : TrustLineEntry)
    (p : LiquidityPoolEntry) (m : EntryMap) (at_first : IsLegalOwing now_v id_pool nothing_owed lumens m)
    (e : LedgerEntry) where
  abbrev share_key : LedgerKey
  share_key = key.TrustLine id (line.PoolShare pool)

  abbrev share_line_was : TrustLineEntry
  share_line_was = of_shares id pool was

  abbrev its : LedgerEntry
  its = with_line_body e share_line_was

  abbrev fewer : Owed
  fewer = counts_of (neg_ℤ (pos 1)) id pool p.params

  module _ (there : get m share_key ≡ Some its) (empty : share_line_was.balance ≡ pos 0)
      (known : now_v.pools pool ≡ Some p.params) where
    abbrev own : LedgerKey → Bool
    own k = is_key share_key k

    counted_less : (kind : Kind) (k : LedgerKey)
        → plus nothing_owed (less (beside_reserves (weighed now_v its))) kind k ≡ fewer kind k
    counted_less Subentries k = refl
    counted_less Sponsoring k = refl
    counted_less Sponsored k = refl
    counted_less Selling k = nothing_stated (own k) (line_liabilities share_line_was).selling
        (unbound_line id pool now_v id_pool lumens m at_first was e there).0
    counted_less Buying k = nothing_stated (own k) (line_liabilities share_line_was).buying
        (unbound_line id pool now_v id_pool lumens m at_first was e there).1
    counted_less Shares k = no_shares_left (is_key (key.LiquidityPool pool) k) (own k) share_line_was.balance empty
    counted_less ShareLines k = one_line_less (is_key (key.LiquidityPool pool) k) (own k)
    counted_less Uses k =
        ap (λ o. pos 0 +ℤ neg_ℤ (uses_of k id o -ℤ (if own k then use_count share_line_was else pos 0))) known
        ∙ uses_taken (own k) (for_key k (needed_line id p.params.asset_a) (pos 1))
        (for_key k (needed_line id p.params.asset_b) (pos 1)) _ _ (use_count share_line_was)
        (unused id pool now_v id_pool lumens m at_first was e there)
        (for_less k (needed_line id p.params.asset_a) (pos 1)) (for_less k (needed_line id p.params.asset_b) (pos 1))

    without : IsLegalOwing now_v id_pool fewer lumens (map_after_removing share_key m)
    without = legal_as now_v (IsEntryLegal id_pool) _ fewer _ lumens _
        (subentry_removed_so now_v id_pool nothing_owed lumens id 2 share_key its m at_first nothing_settled there
        refl)
        counted_less (add_neg_zero lumens)

    left : IsLegalOwing now_v id_pool nothing_owed lumens
        (map_with_share_lines (neg_ℤ (pos 1)) id pool p.params (map_after_removing share_key m))
    left =
        let n = neg_ℤ (pos 1) in
        let one_self = natural_positive 1 (omega arith) in
        let gone = map_after_removing share_key m in
        let a = needed_line id p.params.asset_a in
        let b = needed_line id p.params.asset_b in
        let can_a = can_use_less now_v id_pool fewer lumens gone without a (needs_line id p.params.asset_a)
        (λ k is. first_owes (for_key k a (pos 1)) (for_key k b (pos 1)) _ _ (for_itself k a (pos 1) is one_self)
        (for_key_low k b (pos 1) (natural_nonnegative 1)) (for_less k a (pos 1)) (for_less k b (pos 1))) in
        let one = once n id pool p.params now_v id_pool lumens gone without can_a in
        let after = map_with_uses n id p.params.asset_a gone in
        let can_b = can_use_less now_v id_pool _ lumens after one b (needs_line id p.params.asset_b)
        (λ k is. second_owes (for_key k b (pos 1)) (for_key k a n) _ _ (for_itself k b (pos 1) is one_self)
        (for_less k b (pos 1)) (used_is a k n)) in
        let two = twice n id pool p.params now_v id_pool lumens gone one can_b in
        let now = pool_known _ pool p.params (two.params pool ∙ known) in
        let q = key.LiquidityPool pool in
        settled n id pool p.params now_v id_pool lumens gone two now.0 now.1
        (can_count_less now_v id_pool _ lumens _ two pool now.0 now.1 (line_owes (for_key q (Some q) (pos 1)) _ _ _
        (for_itself q (Some q) (pos 1) refl one_self) (for_less q (Some q) (pos 1)) (used_elsewhere a n ShareLines q)
        (used_elsewhere b n ShareLines q)))

-- an empty line is removed, and nothing counts it any more
pub share_line_gone : (v : View) (id_pool : ℕ) (sum : ℤ) (id : AccountId) (pool : Hash) (t : TrustLineEntry)
    (p : LiquidityPoolEntry) (m : EntryMap) → IsLegalOwing v id_pool nothing_owed sum m
    → line_at m id (line.PoolShare pool) ≡ Some t → t.balance ≡ pos 0 → pool_at m pool ≡ Some p
    → IsLegalOwing v id_pool nothing_owed sum (map_with_share_lines (neg_ℤ (pos 1)) id pool p.params
    (map_after_removing (key.TrustLine id (line.PoolShare pool)) m))
share_line_gone v id_pool sum id pool t p m legal exists empty pool_exists =
    let found = line_entry m id (line.PoolShare pool) t exists in
    let e = found.0 in
    let own : key.TrustLine t.account_id t.asset ≡ key.TrustLine id (line.PoolShare pool) =
    sym (ap key_of_body found.1.is) ∙ legal.keyed (key.TrustLine id (line.PoolShare pool)) e found.1.there in
    let ids : t.account_id ≡ id = cc in
    let assets : t.asset ≡ line.PoolShare pool = cc in
    let same : e ≡ with_line_body e (of_shares id pool t) =
    (λ i. record e { body = found.1.is i })
    ∙ (λ i. with_line_body e (record t { account_id = ids i; asset = assets i })) in
    left v id_pool sum id pool t p m legal e (found.1.there ∙ ap Some same) empty
    (sym (legal.params pool) ∙ params_known m pool p pool_exists)

pub removing_share_lines_keep : RemovingShareLinesKeep
removing_share_lines_keep h id pool t p m legal exists empty pool_exists =
    legal_of h (pools_in m) _ legal.header
    (share_line_gone (view m) h.id_pool (h.total_coins -ℤ h.fee_pool) id pool t p m (owing_nothing h m legal) exists
    empty pool_exists)

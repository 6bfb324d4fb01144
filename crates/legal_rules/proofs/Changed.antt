-- One account, one line or one pool that is changed in its place.
use Rattle.legal_rules.proofs.Prelude as prelude
use prelude.{◌≡◌, ◌≢◌, refl, sym, ap, subst, ◌∙◌, ℕ, ◌+◌, ◌≤◌, Bool, true, false, Option, Some, None, arith, ints, ℤ}
use prelude.{pos, ◌+ℤ◌, ◌-ℤ◌, ◌≤ℤ◌, if◌then◌else◌, int_eq, count_by, get, Hash, Liabilities, AccountEntry}
use prelude.{TrustLineEntry, TrustLineEntryExtensionV1, LiquidityPoolEntry, LedgerEntry, LedgerKey, key_of_body}
use prelude.{EntryMap, put, sponsor_of, line_liabilities, line_liabilities_in, line_second_in, use_count_in, use_count}
use prelude.{with_use_count, with_use_count_in, with_use_count_of, no_liabilities, pool_at, with_pool, is_there, is_key}
use prelude.{for_key, for_account, is_for, pool_named, uses_by, Kind, Subentries, Sponsoring, Sponsored, Selling}
use prelude.{Buying, Shares, ShareLines, Uses, View, counted, of_line, is_eq, asset_cmp, PoolParams, of_asset, held_in}
use prelude.{IsPoolInRange, IsFilledOrEmpty, weight, Owed, nothing_owed, in_aggregate, plus, IsEntryLegal, IsLegalOwing}
use prelude.{add_sub_self, add_zero, int_eq_true, pool_kind, IsEntryOf, pools_exact, entry_found, with_found}
use Rattle.hash_ids.specs.ledger_types.declared.trust_line.TrustLineEntryExtensionV2.{TrustLineEntryExtensionV2}
use Rattle.hash_ids.specs.ledger_types.declared.entry.LedgerEntryBody.TheVariants as body
use Rattle.hash_ids.specs.ledger_types.declared.key.LedgerKey.TheVariants as key
use Rattle.legal_rules.specs.ChangeLaws.{KeepsAggregates, AccountChanged, KeepsLineAggregates, in_shares, LineChanged}
use Rattle.legal_rules.specs.ChangeLaws.{UsesCounted, KeepsParams, PoolChanged}
use Rattle.legal_rules.proofs.Liable.{IsLineMove, with_line_body, with_line_legal, line_entry}
use Rattle.legal_rules.proofs.Steps.{with_body, with_account_legal, replace_legal, legal_as}

-- ---- accounts

module _ (a b : AccountEntry) (h : KeepsAggregates a b) where
  own : (k : LedgerKey) → is_key (key.Account b.account_id) k ≡ is_key (key.Account a.account_id) k
  own k = ap (λ i. is_key (key.Account i) k) h.id

  same_weight : (v : View) (kind : Kind) (k : LedgerKey) (e : LedgerEntry)
      → weight v kind k (with_body e b) ≡ weight v kind k (with_body e a)
  same_weight v Subentries k e i =
      (if own k i then pos (h.signers i) else pos 0) -ℤ (if own k i then pos (h.subentries i) else pos 0)
  same_weight v Sponsored k e i =
      (if own k i then pos ((if is_there (sponsor_of e) then 2 else 0) + count_by is_there (h.sponsors i)) else pos 0)
      -ℤ (if own k i then pos (h.sponsored i) else pos 0)
  same_weight v Sponsoring k e i =
      (for_account k (sponsor_of e) 2 +ℤ pos (count_by (is_for k) (h.sponsors i)))
      -ℤ (if own k i then pos (h.sponsoring i) else pos 0)
  same_weight v Selling k e i = pos 0 -ℤ (if own k i then (h.liabilities i).selling else pos 0)
  same_weight v Buying k e i = pos 0 -ℤ (if own k i then (h.liabilities i).buying else pos 0)
  same_weight v Shares k e i = pos 0 -ℤ (if own k i then pos 0 else pos 0)
  same_weight v ShareLines k e i = pos 0 -ℤ (if own k i then pos 0 else pos 0)
  same_weight v Uses k e i = pos 0 -ℤ (if own k i then pos 0 else pos 0)

pub account_changed : AccountChanged
account_changed v id_pool owed sum m id f a legal exists keeps range =
    legal_as v (IsEntryLegal id_pool) _ owed _ _ _
    (with_account_legal v (IsEntryLegal id_pool) owed nothing_owed sum m id f a legal exists
    (record { id = keeps.id; aggregates = λ view kind k e. same_weight a (f a) keeps view kind k e ∙ sym (add_zero _) })
    (λ e was. record {
      range = record {
        body = range;
        paid = subst (λ x. sponsor_of e ≢ None → sponsor_of e ≢ Some x) (sym keeps.id) was.range.paid;
      };
      bound = tt;
      few = subst (λ n. n ≤ 1000) (sym keeps.subentries) was.few;
      fits = subst (λ n. n ≤ 4294967295) (λ i. sym keeps.subentries i + sym keeps.sponsoring i) was.fits;
      filled = tt;
    })) (λ kind k. add_zero (owed kind k)) refl

-- ---- lines

more_shares : (o : Option LedgerKey) (k : LedgerKey) (new old s : ℤ)
    → (for_key k o new -ℤ s) ≡ ((for_key k o old -ℤ s) +ℤ for_key k o (new -ℤ old))
more_shares None k new old s = omega (arith, ints)
more_shares (Some q) k new old s = by_test (is_key q k)
  where
    by_test : (t : Bool) → ((if t then new else pos 0) -ℤ s)
        ≡ (((if t then old else pos 0) -ℤ s) +ℤ (if t then (new -ℤ old) else pos 0))
    by_test true = omega (arith, ints)
    by_test false = omega (arith, ints)

module _ (t u : TrustLineEntry) (h : KeepsLineAggregates t u) where
  abbrev line_key : TrustLineEntry → LedgerKey
  line_key x = key.TrustLine x.account_id x.asset

  its : (k : LedgerKey) → is_key (line_key u) k ≡ is_key (line_key t) k
  its k i = is_key (key.TrustLine (h.id i) (h.asset i)) k

  abbrev as_was : TrustLineEntry
  as_was = record t { balance = u.balance; limit = u.limit; flags = u.flags }

  -- but for its balance it counts and states what it did
  same_line : (v : View) (kind : Kind) (k : LedgerKey) (e : LedgerEntry)
      → weight v kind k (with_line_body e u) ≡ weight v kind k (with_line_body e as_was)
  same_line v Subentries k e i = counted v Subentries k (with_line_body e
      (record u { account_id = h.id i; asset = h.asset i }))
      -ℤ (if its k i then pos 0 else pos 0)
  same_line v Sponsored k e i = counted v Sponsored k (with_line_body e
      (record u { account_id = h.id i; asset = h.asset i }))
      -ℤ (if its k i then pos 0 else pos 0)
  same_line v Sponsoring k e i = counted v Sponsoring k (with_line_body e
      (record u { account_id = h.id i; asset = h.asset i }))
      -ℤ (if its k i then pos 0 else pos 0)
  same_line v Selling k e i = pos 0 -ℤ (if its k i then (h.liabilities i).selling else pos 0)
  same_line v Buying k e i = pos 0 -ℤ (if its k i then (h.liabilities i).buying else pos 0)
  same_line v Uses k e i = uses_by v.pools k (h.id i) (h.asset i) -ℤ (if its k i then h.uses i else pos 0)
  same_line v Shares k e i = for_key k (pool_named (h.asset i)) u.balance -ℤ (if its k i then pos 0 else pos 0)
  same_line v ShareLines k e i = for_key k (pool_named (h.asset i)) (pos 1) -ℤ (if its k i then pos 0 else pos 0)

  more_line : (v : View) (kind : Kind) (k : LedgerKey) (e : LedgerEntry) → weight v kind k (with_line_body e as_was)
      ≡ (weight v kind k (with_line_body e t) +ℤ in_shares t.asset (u.balance -ℤ t.balance) kind k)
  more_line v Shares k e = more_shares (pool_named t.asset) k u.balance t.balance
      (if is_key (line_key t) k then pos 0 else pos 0)
  more_line v kind k e = sym (add_zero _)

  pub line_move : IsLineMove (in_shares t.asset (u.balance -ℤ t.balance)) t u
  line_move = record {
    id = h.id;
    asset = h.asset;
    aggregates = λ v kind k e. same_line v kind k e ∙ more_line v kind k e;
  }

pub line_changed : LineChanged
line_changed v id_pool owed sum m id asset f t legal exists keeps range bound =
    legal_as v (IsEntryLegal id_pool) _ _ _ _ _
    (with_line_legal v id_pool owed _ sum m id asset f t legal exists (line_move t (f t) keeps)
    (λ e was. record {
      range = record {
        body = range;
        paid = subst (λ x. sponsor_of e ≢ None → sponsor_of e ≢ Some x) (sym keeps.id) was.range.paid;
      };
      bound = bound;
      few = tt;
      fits = tt;
      filled = tt;
    })) (λ kind k. refl)
    (λ i. sum +ℤ (of_line v.asset (keeps.asset i) (f t).balance -ℤ of_line v.asset t.asset t.balance))

-- ---- use counts

first_count : (b : Bool) (n : ℤ) → int_eq n (pos 0) ≡ b → use_count_in (line_second_in (if b then None
    else Some (record { liabilities = no_liabilities; ext = Some (record { liquidity_pool_use_count = n }) }))) ≡ n
first_count true n h = sym (int_eq_true n (pos 0) h)
first_count false n h = refl

second_count : (b : Bool) (n : ℤ) → int_eq n (pos 0) ≡ b
    → use_count_in (if b then None else Some (record { liquidity_pool_use_count = n })) ≡ n
second_count true n h = sym (int_eq_true n (pos 0) h)
second_count false n h = refl

counted_of : (n : ℤ) (ext : Option TrustLineEntryExtensionV2) → use_count_in (with_use_count_of n ext) ≡ n
counted_of n None = second_count (int_eq n (pos 0)) n refl
counted_of n (Some ext) = refl

counted_in : (n : ℤ) (ext : Option TrustLineEntryExtensionV1)
    → use_count_in (line_second_in (with_use_count_in n ext)) ≡ n
counted_in n None = first_count (int_eq n (pos 0)) n refl
counted_in n (Some ext) = counted_of n ext.ext

first_bound : (b : Bool) (n : ℤ) → line_liabilities_in (if b then None
    else Some (record { liabilities = no_liabilities; ext = Some (record { liquidity_pool_use_count = n }) }))
    ≡ no_liabilities
first_bound true n = refl
first_bound false n = refl

still_bound : (n : ℤ) (ext : Option TrustLineEntryExtensionV1)
    → line_liabilities_in (with_use_count_in n ext) ≡ line_liabilities_in ext
still_bound n None = first_bound (int_eq n (pos 0)) n
still_bound n (Some ext) = refl

uses_less : (t : Bool) (c old new : ℤ) → (c -ℤ (if t then new else pos 0))
    ≡ ((c -ℤ (if t then old else pos 0)) +ℤ (if t then (old -ℤ new) else pos 0))
uses_less true c old new = omega (arith, ints)
uses_less false c old new = omega (arith, ints)

module _ (n : ℤ) (t : TrustLineEntry) where
  abbrev w : TrustLineEntry
  w = with_use_count n t

  now : line_liabilities w ≡ line_liabilities t
  now = still_bound n t.ext

  abbrev t_key : LedgerKey
  t_key = key.TrustLine t.account_id t.asset

  use_aggregates : (v : View) (kind : Kind) (k : LedgerKey) (e : LedgerEntry) → weight v kind k (with_line_body e w)
      ≡ (weight v kind k (with_line_body e t) +ℤ in_aggregate Uses t_key (use_count t -ℤ n) kind k)
  use_aggregates v Selling k e = (λ i. pos 0 -ℤ (if is_key t_key k then (now i).selling else pos 0)) ∙ sym (add_zero _)
  use_aggregates v Buying k e = (λ i. pos 0 -ℤ (if is_key t_key k then (now i).buying else pos 0)) ∙ sym (add_zero _)
  use_aggregates v Uses k e =
      (λ i. counted v Uses k (with_line_body e t) -ℤ (if is_key t_key k then counted_in n t.ext i else pos 0))
      ∙ uses_less (is_key t_key k) (counted v Uses k (with_line_body e t)) (use_count t) n
  use_aggregates v kind k e = sym (add_zero _)

  use_keeps : (id_pool : ℕ) → pos 0 ≤ℤ n → (e : LedgerEntry) → IsEntryLegal id_pool (with_line_body e t)
      → IsEntryLegal id_pool (with_line_body e w)
  use_keeps id_pool low e was =
      let r = was.range.body in
      let same = sym now in
      record {
        range = record {
          body = record {
            range = record {
              balance = r.range.balance;
              buying = subst (λ (l : Liabilities). pos 0 ≤ℤ l.buying) same r.range.buying;
              selling = subst (λ (l : Liabilities). pos 0 ≤ℤ l.selling) same r.range.selling;
              covered = subst (λ (l : Liabilities). l.selling ≤ℤ t.balance) same r.range.covered;
              fits = subst (λ (l : Liabilities). (t.balance +ℤ l.buying) ≤ℤ t.limit) same r.range.fits;
            };
            limit = r.limit;
            greatest = r.greatest;
            held = r.held;
            flags = r.flags;
            uses = subst (λ x. pos 0 ≤ℤ x) (sym (counted_in n t.ext)) low;
          };
          paid = was.range.paid;
        };
        bound = λ none. (
          ap (λ (l : Liabilities). l.selling) now ∙ (was.bound none).0,
          ap (λ (l : Liabilities). l.buying) now ∙ (was.bound none).1,
        );
        few = tt;
        fits = tt;
        filled = tt;
      }

pub uses_counted : UsesCounted
uses_counted v id_pool owed sum m id asset n t legal exists low =
    let found = line_entry m id asset t exists in
    let same : key.TrustLine t.account_id t.asset ≡ key.TrustLine id asset = sym (ap key_of_body found.1.is)
    ∙ legal.keyed (key.TrustLine id asset) found.0 found.1.there in
    legal_as v (IsEntryLegal id_pool) _ _ _ sum _
    (with_line_legal v id_pool owed _ sum m id asset (with_use_count n) t legal exists
    (record { id = refl; asset = refl; aggregates = use_aggregates n t }) (use_keeps n t id_pool low))
    (λ kind k. ap (λ q. owed kind k +ℤ in_aggregate Uses q (use_count t -ℤ n) kind k) same)
    (add_sub_self sum (of_line v.asset t.asset t.balance))

-- ---- pools

abbrev pub IsPoolEntry : EntryMap → Hash → LiquidityPoolEntry → LedgerEntry → Type 0
IsPoolEntry m id p e = IsEntryOf pool_kind m (key.LiquidityPool id) p e

pub pool_entry : (m : EntryMap) (id : Hash) (p : LiquidityPoolEntry) → pool_at m id ≡ Some p
    → (e : LedgerEntry) × IsPoolEntry m id p e
unfolding pool_at
pool_entry m id p h = entry_found pools_exact m (key.LiquidityPool id) p h

abbrev pub with_pool_body : LedgerEntry → LiquidityPoolEntry → LedgerEntry
with_pool_body e p = record e { body = body.LiquidityPool p }

pub with_pool_is : (m : EntryMap) (id : Hash) (f : LiquidityPoolEntry → LiquidityPoolEntry) (p : LiquidityPoolEntry)
    (e : LedgerEntry) → IsPoolEntry m id p e → with_pool m id f ≡ put m (with_pool_body e (f p))
unfolding with_pool
with_pool_is m id f p e here = with_found pools_exact m (key.LiquidityPool id) f p e here

states_less : (t : Bool) (old new : ℤ) → (pos 0 -ℤ (if t then new else pos 0))
    ≡ ((pos 0 -ℤ (if t then old else pos 0)) +ℤ ((if t then (old -ℤ new) else pos 0) +ℤ pos 0))
states_less true old new = omega (arith, ints)
states_less false old new = omega (arith, ints)

counts_less : (t : Bool) (old new : ℤ) → (pos 0 -ℤ (if t then new else pos 0))
    ≡ ((pos 0 -ℤ (if t then old else pos 0)) +ℤ (pos 0 +ℤ (if t then (old -ℤ new) else pos 0)))
counts_less true old new = omega (arith, ints)
counts_less false old new = omega (arith, ints)

module _ (p q : LiquidityPoolEntry) (h : KeepsParams p q) where
  ours : (k : LedgerKey) → is_key (key.LiquidityPool q.pool_id) k ≡ is_key (key.LiquidityPool p.pool_id) k
  ours k i = is_key (key.LiquidityPool (h.id i)) k

  abbrev Fallen : Owed
  Fallen = plus (in_aggregate Shares (key.LiquidityPool p.pool_id) (p.total_pool_shares -ℤ q.total_pool_shares))
      (in_aggregate ShareLines (key.LiquidityPool p.pool_id) (p.pool_shares_trust_line_count -ℤ
      q.pool_shares_trust_line_count))

  pool_aggregates : (v : View) (e : LedgerEntry) (kind : Kind) (k : LedgerKey)
      → weight v kind k (with_pool_body e q) ≡ (weight v kind k (with_pool_body e p) +ℤ Fallen kind k)
  pool_aggregates v e Shares k = (λ i. pos 0 -ℤ (if ours k i then q.total_pool_shares else pos 0))
      ∙ states_less (is_key (key.LiquidityPool p.pool_id) k) p.total_pool_shares q.total_pool_shares
  pool_aggregates v e ShareLines k = (λ i. pos 0 -ℤ (if ours k i then q.pool_shares_trust_line_count else pos 0))
      ∙ counts_less (is_key (key.LiquidityPool p.pool_id) k) p.pool_shares_trust_line_count
      q.pool_shares_trust_line_count
  pool_aggregates v e Subentries k = (λ i. pos 0 -ℤ (if ours k i then pos 0 else pos 0)) ∙ sym (add_zero _)
  pool_aggregates v e Sponsored k = (λ i. pos 0 -ℤ (if ours k i then pos 0 else pos 0)) ∙ sym (add_zero _)
  pool_aggregates v e Sponsoring k = (λ i. counted v Sponsoring k (with_pool_body e p) -ℤ
      (if ours k i then pos 0 else pos 0))
      ∙ sym (add_zero _)
  pool_aggregates v e Selling k = (λ i. pos 0 -ℤ (if ours k i then pos 0 else pos 0)) ∙ sym (add_zero _)
  pool_aggregates v e Buying k = (λ i. pos 0 -ℤ (if ours k i then pos 0 else pos 0)) ∙ sym (add_zero _)
  pool_aggregates v e Uses k = (λ i. pos 0 -ℤ (if ours k i then pos 0 else pos 0)) ∙ sym (add_zero _)

-- the same, by what the pool holds of the asset at hand
pub pool_changed_by : (v : View) (id_pool : ℕ) (owed : Owed) (sum : ℤ) (m : EntryMap) (id : Hash)
    (f : LiquidityPoolEntry → LiquidityPoolEntry) (p : LiquidityPoolEntry) → IsLegalOwing v id_pool owed sum m
    → pool_at m id ≡ Some p → KeepsParams p (f p) → IsPoolInRange (f p) → IsFilledOrEmpty (body.LiquidityPool (f p))
    → IsLegalOwing v id_pool
    (plus owed (plus (in_aggregate Shares (key.LiquidityPool id) (p.total_pool_shares -ℤ (f p).total_pool_shares))
    (in_aggregate ShareLines (key.LiquidityPool id)
    (p.pool_shares_trust_line_count -ℤ (f p).pool_shares_trust_line_count))))
    (sum +ℤ (held_in v.asset (body.LiquidityPool (f p)) -ℤ held_in v.asset (body.LiquidityPool p))) (with_pool m id f)
pool_changed_by v id_pool owed sum m id f p legal exists keeps range filled =
    let found = pool_entry m id p exists in
    let e0 = with_pool_body found.0 p in
    let there : get m (key.LiquidityPool id) ≡ Some e0 = found.1.there
    ∙ ap Some (λ i. record found.0 { body = found.1.is i }) in
    let was = legal.entries (key.LiquidityPool id) e0 there in
    let same : key.LiquidityPool p.pool_id ≡ key.LiquidityPool id = legal.keyed (key.LiquidityPool id) e0 there in
    legal_as v (IsEntryLegal id_pool) _ _ _ _ _
    (subst (IsLegalOwing v id_pool _ _) (sym (with_pool_is m id f p found.0 found.1))
    (replace_legal v (IsEntryLegal id_pool) owed (Fallen p (f p) keeps) sum m (key.LiquidityPool id) e0
    (with_pool_body found.0 (f p)) there legal
    (record {
      own = ap key.LiquidityPool keeps.id;
      params = ap Some keeps.params;
      offers = λ n. refl;
      aggregates = pool_aggregates p (f p) keeps v found.0;
    })
    (record {
      range = record { body = range; paid = was.range.paid };
      bound = tt;
      few = tt;
      fits = tt;
      filled = filled;
    })))
    (λ kind k. ap (λ q. owed kind k +ℤ plus (in_aggregate Shares q (p.total_pool_shares -ℤ (f p).total_pool_shares))
    (in_aggregate ShareLines q (p.pool_shares_trust_line_count -ℤ (f p).pool_shares_trust_line_count)) kind k) same)
    refl

by_reserves : (s t : Bool) (a b c d : ℤ)
    → (((if s then c else pos 0) +ℤ (if t then d else pos 0)) -ℤ ((if s then a else pos 0) +ℤ (if t then b else pos 0)))
    ≡ ((if s then c -ℤ a else pos 0) +ℤ (if t then d -ℤ b else pos 0))
by_reserves true true a b c d = omega (arith, ints)
by_reserves true false a b c d = omega (arith, ints)
by_reserves false true a b c d = omega (arith, ints)
by_reserves false false a b c d = refl

pub pool_changed : PoolChanged
pool_changed v id_pool owed sum m id f p legal exists keeps range filled =
    subst (λ n. IsLegalOwing v id_pool
    (plus owed (plus (in_aggregate Shares (key.LiquidityPool id) (p.total_pool_shares -ℤ (f p).total_pool_shares))
    (in_aggregate ShareLines (key.LiquidityPool id)
    (p.pool_shares_trust_line_count -ℤ (f p).pool_shares_trust_line_count))))
    (sum +ℤ n) (with_pool m id f)) (ap (λ (params : PoolParams).
    (of_asset v.asset params.asset_a (f p).reserve_a +ℤ of_asset v.asset params.asset_b (f p).reserve_b)
    -ℤ held_in v.asset (body.LiquidityPool p)) keeps.params
    ∙ by_reserves (is_eq (asset_cmp v.asset p.params.asset_a)) (is_eq (asset_cmp v.asset p.params.asset_b)) p.reserve_a
    p.reserve_b (f p).reserve_a (f p).reserve_b)
    (pool_changed_by v id_pool owed sum m id f p legal exists keeps range filled)

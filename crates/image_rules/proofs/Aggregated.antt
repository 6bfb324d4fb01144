-- The aggregates of accounts, of lines and of pools.
use Rattle.image_rules.proofs.Prelude as prelude
use prelude.{◌≡◌, ◌≢◌, refl, sym, ap, subst, ◌∙◌, ℕ, Option, Some, None, Bool, IfSome, All-weaker, ℤ, pos, ◌+ℤ◌, ◌↔◌}
use prelude.{IsTrue, if◌then◌else◌, tied_itself, is_eq, slice_get, get, values, AccountId, Hash, TrustLineAsset}
use prelude.{AccountEntry, TrustLineEntry, LiquidityPoolEntry, LedgerEntry, LedgerEntryBody, LedgerKey, key_of}
use prelude.{key_of_body, keys_total, EntryMap, IsKeyed, total, part, EachEntry, for_account, view, pools_in}
use prelude.{IsAggregated, counted, stated, stated_at, AreOwned, Aggregate, CountMap, IsCountOf, kind_of, itself}
use prelude.{own_count, counted_itself, counted_else, AreCounts, Agrees, AgreesIn}
use Rattle.close_rules.proofs.entry_sums_proofs.Summing.{total_none, total_only, total_plus, total_same}
use Rattle.ledger_types.specs.declared.entry.LedgerEntryBody.TheVariants as body
use Rattle.ledger_types.specs.declared.key.LedgerKey.TheVariants as key
use Rattle.image_rules.specs.declared.aggregates.Aggregate.TheVariants as aggregate
use Rattle.image_rules.proofs.Listed.{exists_at}
use Rattle.image_rules.proofs.Naming.{named_of_needed, IsElsewhere, named_elsewhere, uncounted, counted_parts}
use Rattle.image_rules.proofs.Naming.{none_itself, counted_by_others}

pub keyed_each : (m : EntryMap) → IsKeyed m → EachEntry (λ k e. key_of e ≡ k) m
keyed_each m keyed k e there = subst (λ o. IfSome o (λ x. key_of x ≡ k)) there (keyed k)

-- ---- a line or a pool that states a count

pub states_count : (count known : ℕ) (number states : ℤ) (answer : Bool)
    → ((sum : ℤ) → IsCountOf count sum → (IsTrue answer ↔ (number ≡ sum))) → count ≡ known → states ≡ number
    → (sum : ℤ) → IsCountOf known sum → (IsTrue answer ↔ (states ≡ sum))
states_count count known number states answer says is same sum counts =
    let written = says sum (subst (λ (n : ℕ). IsCountOf n sum) (sym is) counts) in
    (λ yes. same ∙ written.0 yes, λ equal. written.1 (sym same ∙ equal))

-- ---- what an account counts for itself

own_part : (which : Aggregate) (e : LedgerEntry) (a : AccountEntry) → e.body ≡ body.Account a
    → counted_itself which (key.Account a.account_id) e ≡ pos (own_count which e)
own_part which e a is =
    ap (λ b. for_account (key.Account a.account_id) (itself b) (own_count which e)) is
    ∙ ap (λ r. if is_eq r then pos (own_count which e) else pos 0) (tied_itself keys_total (key.Account a.account_id))

-- what is counted for an account is what others count for it and what it counts itself
pub total_parts : (which : Aggregate) (m : EntryMap) (e : LedgerEntry) (a : AccountEntry) → IsKeyed m
    → get m (key_of e) ≡ Some e → e.body ≡ body.Account a
    → total (counted (view m) (kind_of which) (key_of e)) m
    ≡ (total (counted_else (pools_in m) which (key.Account a.account_id)) m +ℤ pos (own_count which e))
total_parts which m e a keyed there is =
    let k : LedgerKey = key.Account a.account_id in
    let own_key : key_of e ≡ k = ap key_of_body is in
    ap (λ q. total (counted (view m) (kind_of which) q) m) own_key
    ∙ total_plus (counted (view m) (kind_of which) k) (counted_else (pools_in m) which k) (counted_itself which k) m
    (counted_parts which (view m) k)
    ∙ ap (λ n. total (counted_else (pools_in m) which k) m +ℤ n)
    (total_only (counted_itself which k) m k
    (λ q x at apart. none_itself which k x (λ same. apart (sym (keyed_each m keyed q x at) ∙ same)))
    ∙ ap (part (counted_itself which k)) (ap (get m) (sym own_key) ∙ there) ∙ own_part which e a is)

-- what is counted for what isn't an account others count
total_else : (which : Aggregate) (m : EntryMap) (e : LedgerEntry) (k : LedgerKey) → key_of e ≡ k
    → ((id : AccountId) → key.Account id ≢ k)
    → total (counted (view m) (kind_of which) (key_of e)) m ≡ total (counted_else (pools_in m) which k) m
total_else which m e k own_key other =
    ap (λ q. total (counted (view m) (kind_of which) q) m) own_key
    ∙ total_same (counted (view m) (kind_of which) k) (counted_else (pools_in m) which k) m
    (λ q x there. counted_by_others which (view m) k x other)

line_key : (owner : AccountId) (held : TrustLineAsset) (id : AccountId) → key.Account id ≢ key.TrustLine owner held
line_key owner held id same = cc

pool_key : (pool : Hash) (id : AccountId) → key.Account id ≢ key.LiquidityPool pool
pool_key pool id same = cc

pub total_line : (which : Aggregate) (m : EntryMap) (e : LedgerEntry) (t : TrustLineEntry) → e.body ≡ body.TrustLine t
    → total (counted (view m) (kind_of which) (key_of e)) m
    ≡ total (counted_else (pools_in m) which (key.TrustLine t.account_id t.asset)) m
total_line which m e t is =
    total_else which m e (key.TrustLine t.account_id t.asset) (ap key_of_body is) (line_key t.account_id t.asset)

pub total_pool : (which : Aggregate) (m : EntryMap) (e : LedgerEntry) (p : LiquidityPoolEntry)
    → e.body ≡ body.LiquidityPool p
    → total (counted (view m) (kind_of which) (key_of e)) m
    ≡ total (counted_else (pools_in m) which (key.LiquidityPool p.pool_id)) m
total_pool which m e p is =
    total_else which m e (key.LiquidityPool p.pool_id) (ap key_of_body is) (pool_key p.pool_id)

-- ---- all entries

-- an entry states what is counted under its own key
abbrev pub IsRight : Aggregate → EntryMap → LedgerEntry → Type 0
IsRight which m e = stated (kind_of which) e.body ≡ total (counted (view m) (kind_of which) (key_of e)) m

-- and entries are under their own keys
abbrev pub IsRightKeyed : Aggregate → EntryMap → LedgerEntry → Type 0
IsRightKeyed which m e = IsKeyed m × IsRight which m e

module _ (which : Aggregate) (m : EntryMap) where
  -- what each entry needs exists, so none names what doesn't
  absent_counts : (k : LedgerKey) → get m k ≡ None → AreOwned m → total (counted (view m) (kind_of which) k) m ≡ pos 0
  absent_counts k none owned = total_none (counted (view m) (kind_of which) k) m (λ q e there.
      uncounted which (view m) k e (named_of_needed (λ r. r ≢ k) (pools_in m) e
      (All-weaker (λ r. get m r ≢ None) (λ r. r ≢ k) (λ r exists same. exists (ap (get m) same ∙ none)) _
      (owned.existing q e there))))

  other_counts : (k : LedgerKey) → IsElsewhere k → total (counted (view m) (kind_of which) k) m ≡ pos 0
  other_counts k elsewhere = total_none (counted (view m) (kind_of which) k) m (λ q e there.
      uncounted which (view m) k e (named_elsewhere k elsewhere (pools_in m) e))

  right_by : (e : LedgerEntry) (b : LedgerEntryBody) → e.body ≡ b → stated (kind_of which) b ≡ pos 0
      → IsElsewhere (key_of_body b) → IsRight which m e
  right_by e b is none elsewhere =
      ap (stated (kind_of which)) is ∙ none
      ∙ sym (other_counts (key_of e) (subst IsElsewhere (sym (ap key_of_body is)) elsewhere))

  aggregated_at : (k : LedgerKey) (o : Option LedgerEntry) → get m k ≡ o → AreOwned m
      → EachEntry (λ q e. IsRightKeyed which m e) m
      → stated_at (kind_of which) o ≡ total (counted (view m) (kind_of which) k) m
  aggregated_at k None none owned right = sym (absent_counts k none owned)
  aggregated_at k (Some e) there owned right =
      let here = right k e there in
      here.1 ∙ ap (λ q. total (counted (view m) (kind_of which) q) m) (keyed_each m here.0 k e there)

  pub aggregated_of_right : AreOwned m → EachEntry (λ q e. IsRightKeyed which m e) m → IsAggregated (kind_of which) m
  aggregated_of_right owned right k = aggregated_at k (get m k) refl owned right

  pub right_of_aggregated : (i : ℕ) (e : LedgerEntry) → IsKeyed m → slice_get (values m) i ≡ Some e
      → IsAggregated (kind_of which) m → IsRight which m e
  right_of_aggregated i e keyed at aggregated =
      sym (ap (stated_at (kind_of which)) (exists_at m i e (keyed_each m keyed) at)) ∙ aggregated (key_of e)

-- ---- what an answer on one entry says

-- what is neither an account nor a line nor a pool states nothing
states_none : (which : Aggregate) (b : LedgerEntryBody) → IsElsewhere (key_of_body b) → stated (kind_of which) b ≡ pos 0
states_none which (body.Account a) elsewhere = absurd (elsewhere.accounts a.account_id refl)
states_none which (body.TrustLine t) elsewhere = absurd (elsewhere.lines t.account_id t.asset refl)
states_none which (body.LiquidityPool p) elsewhere = absurd (elsewhere.pools p.pool_id refl)
states_none aggregate.Subentries b elsewhere = refl
states_none aggregate.Sponsoring b elsewhere = refl
states_none aggregate.Sponsored b elsewhere = refl
states_none aggregate.Selling b elsewhere = refl
states_none aggregate.Buying b elsewhere = refl
states_none aggregate.Shares b elsewhere = refl
states_none aggregate.ShareLines b elsewhere = refl
states_none aggregate.Uses b elsewhere = refl

module _ (which : Aggregate) (m : EntryMap) (counts : CountMap) (i : ℕ) (e : LedgerEntry) (answer : Bool)
    (all : AreCounts which m counts) (keyed : IsKeyed m) (at : slice_get (values m) i ≡ Some e) where
  there : get m (key_of e) ≡ Some e
  there = exists_at m i e (keyed_each m keyed) at

  abbrev own : ℕ
  own = own_count which e

  right_other : (b : LedgerEntryBody) → e.body ≡ b → IsElsewhere (key_of_body b) → IsRight which m e
  right_other b is elsewhere = right_by which m e b is (states_none which b elsewhere) elsewhere

  right_in : (b : LedgerEntryBody) → e.body ≡ b → AgreesIn counts which own b answer → IsTrue answer
      → IsRight which m e
  right_in (body.Account a) is agrees said =
      ap (stated (kind_of which)) is
      ∙ (agrees (total (counted_else (pools_in m) which (key.Account a.account_id)) m)
      (all (key.Account a.account_id))).0 said
      ∙ sym (total_parts which m e a keyed there is)
  right_in (body.TrustLine t) is agrees said =
      ap (stated (kind_of which)) is
      ∙ (agrees (total (counted_else (pools_in m) which (key.TrustLine t.account_id t.asset)) m)
      (all (key.TrustLine t.account_id t.asset))).0 said
      ∙ sym (total_line which m e t is)
  right_in (body.LiquidityPool p) is agrees said =
      ap (stated (kind_of which)) is
      ∙ (agrees (total (counted_else (pools_in m) which (key.LiquidityPool p.pool_id)) m)
      (all (key.LiquidityPool p.pool_id))).0 said
      ∙ sym (total_pool which m e p is)
  right_in (body.Offer offer) is agrees said =
      right_other (body.Offer offer) is
      (record { accounts = λ id same. cc; lines = λ id x same. cc; pools = λ id same. cc })
  right_in (body.Data entry) is agrees said =
      right_other (body.Data entry) is
      (record { accounts = λ id same. cc; lines = λ id x same. cc; pools = λ id same. cc })
  right_in (body.ClaimableBalance balance) is agrees said =
      right_other (body.ClaimableBalance balance) is
      (record { accounts = λ id same. cc; lines = λ id x same. cc; pools = λ id same. cc })

  pub right_of_answer : Agrees counts which e answer → IsTrue answer → IsRight which m e
  right_of_answer agrees said = right_in e.body refl agrees said

  answer_in : (b : LedgerEntryBody) → e.body ≡ b → AgreesIn counts which own b answer → IsRight which m e
      → IsTrue answer
  answer_in (body.Account a) is agrees right =
      (agrees (total (counted_else (pools_in m) which (key.Account a.account_id)) m)
      (all (key.Account a.account_id))).1
      (sym (ap (stated (kind_of which)) is) ∙ right ∙ total_parts which m e a keyed there is)
  answer_in (body.TrustLine t) is agrees right =
      (agrees (total (counted_else (pools_in m) which (key.TrustLine t.account_id t.asset)) m)
      (all (key.TrustLine t.account_id t.asset))).1
      (sym (ap (stated (kind_of which)) is) ∙ right ∙ total_line which m e t is)
  answer_in (body.LiquidityPool p) is agrees right =
      (agrees (total (counted_else (pools_in m) which (key.LiquidityPool p.pool_id)) m)
      (all (key.LiquidityPool p.pool_id))).1
      (sym (ap (stated (kind_of which)) is) ∙ right ∙ total_pool which m e p is)
  answer_in other is agrees right = agrees

  pub answer_of_right : Agrees counts which e answer → IsRight which m e → IsTrue answer
  answer_of_right agrees right = answer_in e.body refl agrees right

-- The reserve of a subentry that doesn't exist is freed.
use Rattle.legal_rules.proofs.Prelude as prelude
use prelude.{◌≡◌, ◌≢◌, refl, subst, ◌∙◌, ℕ, ◌≤◌, Bool, true, false, Option, Some, None, arith, ints, ℤ, pos, neg_ℤ}
use prelude.{◌+ℤ◌, ◌≤ℤ◌, if◌then◌else◌, get, AccountId, AccountEntry, LedgerKey, EntryMap, same_itself, num_sponsored}
use prelude.{total, total_not_below, is_there, Count, map_after_releasing, without_subentry, map_after_discounting}
use prelude.{is_key, for_key, for_account, Kind, Subentries, Sponsoring, Sponsored, View, counted, stated_at, Owed}
use prelude.{nothing_owed, plus, less, in_aggregate, IsEntryLegal, IsLegalOwing, one_more, SubentriesFreed}
use Rattle.hash_ids.specs.ledger_types.declared.key.LedgerKey.TheVariants as key
use Rattle.sponsor_laws.specs.sponsor_rules.declared.count.Count.TheVariants as count
use Rattle.legal_rules.proofs.AccountRanges.{may_fall}
use Rattle.legal_rules.proofs.Bounded.{account_legal}
use Rattle.legal_rules.proofs.Lows.{counted_low}
use Rattle.legal_rules.proofs.Payers.{AreChanged, IsBeside, beside_none, exchanged, no_subentry_step, owner_changed}
use Rattle.legal_rules.proofs.Sponsors.{owner_aggregates, payer_aggregates}
use Rattle.legal_rules.proofs.Existing.{ExistsWith, aggregate_of, by_entry}
use Rattle.legal_rules.proofs.Steps.{legal_as, same_id_at}
use Rattle.legal_rules.proofs.Weighing.{total_of}

states_more : (all owes states : ℤ) → pos 0 ≤ℤ all → all ≡ (owes +ℤ states) → owes ≡ neg_ℤ (pos 1) → pos 1 ≤ℤ states
states_more all owes states low is owed = omega (arith, ints)

one_at_itself : (t : Bool) → t ≡ true → neg_ℤ (if t then pos 1 else pos 0) ≡ neg_ℤ (pos 1)
one_at_itself true is = refl
one_at_itself false is = absurd (cc)

freed : (x : ℤ) → (((neg_ℤ x +ℤ pos 0) +ℤ neg_ℤ (pos 0)) +ℤ (x +ℤ pos 0)) ≡ pos 0
freed x = omega (arith, ints)

freed_payer : (x : ℤ) → (((neg_ℤ x +ℤ x) +ℤ neg_ℤ (pos 0)) +ℤ (pos 0 +ℤ pos 0)) ≡ pos 0
freed_payer x = omega (arith, ints)

freed_paid : (x : ℤ) → (((neg_ℤ x +ℤ pos 0) +ℤ neg_ℤ (pos 0)) +ℤ (pos 0 +ℤ x)) ≡ pos 0
freed_paid x = omega (arith, ints)

freed_none : (t : Bool)
    → (((neg_ℤ (if t then pos 0 else pos 0) +ℤ pos 0) +ℤ neg_ℤ (pos 0)) +ℤ (pos 0 +ℤ pos 0)) ≡ pos 0
freed_none true = omega (arith, ints)
freed_none false = omega (arith, ints)

module _ (v : View) (id_pool : ℕ) (sum : ℤ) (m : EntryMap) (id : AccountId) (s : Option AccountId)
    (legal : IsLegalOwing v id_pool (one_more id s) sum m) (apart : (x : AccountId) → s ≡ Some x → x ≢ id) where
  -- what is counted more than exists is stated
  stated_more : (kind : Kind) (k : LedgerKey) → one_more id s kind k ≡ neg_ℤ (pos 1)
      → pos 1 ≤ℤ stated_at kind (get m k)
  stated_more kind k owed = states_more (total (counted v kind k) m) (one_more id s kind k) (stated_at kind (get m k))
      (total_not_below (counted v kind k) m (λ q e there.
      counted_low id_pool v kind k e (legal.entries q e there).range))
      (total_of v (IsEntryLegal id_pool) (one_more id s) sum m legal kind k) owed

  exists_more : (which : Count) (x : AccountId) → one_more id s (aggregate_of which) (key.Account x) ≡ neg_ℤ (pos 1)
      → ExistsWith which 1 m x
  exists_more which x owed = by_entry which 1 m x (get m (key.Account x)) refl legal.keyed (omega arith)
      (stated_more (aggregate_of which) (key.Account x) owed)

  pub owner : ExistsWith count.SubEntries 1 m id
  owner = exists_more count.SubEntries id
      (one_at_itself (is_key (key.Account id) (key.Account id)) (same_itself (key.Account id)))

  abbrev a : AccountEntry
  a = owner.account

  payer_has : (x : AccountId) → s ≡ Some x → ExistsWith count.Sponsoring 1 m x
  payer_has x is = exists_more count.Sponsoring x
      ((λ i. neg_ℤ (for_account (key.Account x) (is i) 1))
      ∙ one_at_itself (is_key (key.Account x) (key.Account x)) (same_itself (key.Account x)))

  owner_has : (x : AccountId) → s ≡ Some x → 1 ≤ num_sponsored a
  owner_has x is =
      let its = exists_more count.Sponsored id
      ((λ i. neg_ℤ (for_account (key.Account id) (Some id) (if is_there (is i) then 1 else 0)))
      ∙ one_at_itself (is_key (key.Account id) (key.Account id)) (same_itself (key.Account id))) in
      let one = its.exists in
      let two = owner.exists in
      let same : its.account ≡ a = cc in
      subst (λ (b : AccountEntry). 1 ≤ num_sponsored b) same its.enough

  beside : IsBeside s (key.Account id)
  beside x is same = apart x is (ids same)
    where
      ids : {i j : AccountId} → key.Account i ≡ key.Account j → j ≡ i
      ids same = cc

  abbrev Released : Owed
  Released = plus (plus (plus (one_more id s) (payer_aggregates 1 s)) (less (payer_aggregates 1 None)))
      (plus (in_aggregate Subentries (key.Account id) (pos 1)) (owner_aggregates 1 id s))

  changed : AreChanged v id_pool sum Released s None id a (without_subentry 1 s a) m (map_after_discounting id 1 s m)
  changed =
      let bounded = account_legal v id_pool (one_more id s) sum m id a legal owner.exists in
      let same = same_id_at m id a legal.keyed owner.exists in
      owner_changed v id_pool sum
      (plus (plus (one_more id s) (payer_aggregates 1 s)) (less (payer_aggregates 1 None))) _ s None id
      a (without_subentry 1 s) m (map_after_releasing 1 s m)
      (exchanged v id_pool sum 1 s None (one_more id s) m legal payer_has (λ x is. absurd (cc))) owner.exists beside
      (beside_none (key.Account id))
      (no_subentry_step id_pool 1 id s a same owner.enough (may_fall count.SubEntries 1 a bounded.few bounded.fits)
      owner_has)

  all_freed : (t : Option AccountId) → s ≡ t → (kind : Kind) (k : LedgerKey)
      → plus (plus (plus (one_more id t) (payer_aggregates 1 t)) (less (payer_aggregates 1 None)))
      (plus (in_aggregate Subentries (key.Account id) (pos 1)) (owner_aggregates 1 id t)) kind k ≡ pos 0
  all_freed None is Subentries k = freed (for_key k (Some (key.Account id)) (pos 1))
  all_freed None is Sponsored k = freed_none (is_key (key.Account id) k)
  all_freed None is kind k = omega (arith, ints)
  all_freed (Some x) is Subentries k = freed (for_key k (Some (key.Account id)) (pos 1))
  all_freed (Some x) is Sponsored k = freed_paid (for_key k (Some (key.Account id)) (pos 1))
  all_freed (Some x) is Sponsoring k = freed_payer (for_key k (Some (key.Account x)) (pos 1))
  all_freed (Some x) is kind k = omega (arith, ints)

  -- The account has a subentry less, and aggregates owe nothing.
  reserve_freed : IsLegalOwing v id_pool nothing_owed sum (map_after_discounting id 1 s m)
  reserve_freed = legal_as v (IsEntryLegal id_pool) Released nothing_owed sum sum _ changed.legal
      (all_freed s refl) refl

pub subentries_freed : SubentriesFreed
subentries_freed v id_pool sum id sponsor m legal apart = reserve_freed v id_pool sum m id sponsor legal apart

-- A line, an offer or data that is added.
use Rattle.legal_rules.proofs.Prelude as prelude
use prelude.{◌≡◌, ◌≢◌, refl, sym, ap, subst, ◌∙◌, ℕ, ◌+◌, ◌≤◌, false, Option, Some, None, Ok, arith, ints, ltb-false, ℤ}
use prelude.{pos, neg_ℤ, ◌+ℤ◌, ◌≤ℤ◌, get, AccountId, AccountEntry, LedgerEntry, LedgerKey, key_of, EntryMap, put}
use prelude.{account_at, HasAccount, sponsor_of, with_sponsor, Ctx, sponsored_entry, map_after_counting}
use prelude.{map_after_adding_subentry, count_if, map_after_charging, with_subentry, open_sponsor, payer_of, payer_by}
use prelude.{is_full, is_over, subentry_tests_at, done_by, have_passed, HavePassed, total, Kind, Subentries, View, held}
use prelude.{offer_with, IsSponsorReady, weight, weighed, Owed, nothing_owed, in_aggregate, plus, less, beside_reserves}
use prelude.{IsEntryLegal, IsLegalOwing, put_elsewhere}
use Rattle.hash_ids.specs.ledger_types.declared.key.LedgerKey.TheVariants as key
use Rattle.sponsor_laws.specs.sponsor_rules.declared.count.Count.TheVariants as count
use Rattle.legal_rules.proofs.AccountRanges.{MayBe}
use Rattle.legal_rules.proofs.Counting.{neg_in_aggregate}
use Rattle.legal_rules.proofs.Steps.{legal_as, same_id_at}
use Rattle.legal_rules.proofs.Putting.{put_legal, legal_wider}
use Rattle.legal_rules.proofs.Payers.{HasRoom, IsBeside, beside_none, AreChanged, exchanged, owner_changed}
use Rattle.legal_rules.proofs.Payers.{subentry_step}
use Rattle.legal_rules.proofs.Sponsors.{paid_aggregates, owner_aggregates, payer_aggregates, split_aggregates}
use Rattle.legal_rules.proofs.Subentries.{IsSubentry, subentry_weighs, sponsored_weighs, paid_by_other, legal_recorded}

-- ---- the tests

pub subentries_may : (a : AccountEntry) (n : ℕ) → is_full (Some a) n ≡ false → is_over (Some a) n ≡ false
    → MayBe count.SubEntries (a.num_sub_entries + n) a
subentries_may a n full over =
    let few = ltb-false 1000 (count_if count.SubEntries (Some a) + n) full in
    let fits = ltb-false 4294967295 (count_if count.SubEntries (Some a) + count_if count.Sponsoring (Some a) + n) over
    in
    (omega arith, omega arith)

pub room_of : (m : EntryMap) (id : AccountId) (n : ℕ) → HasAccount m id → is_over (account_at m id) n ≡ false
    → HasRoom n m id
room_of m id n exists over =
    let test : is_over (Some exists.0) n ≡ false = ap (λ o. is_over o n) (sym exists.1) ∙ over in
    let fits = ltb-false 4294967295
    (count_if count.SubEntries (Some exists.0) + count_if count.Sponsoring (Some exists.0) + n) test in
    record { account = exists.0; exists = exists.1; fits = omega arith }

-- who pays for the owner is another account that can
pub payers_room : (ctx : Ctx) (owner : AccountId) (n : ℕ) (m : EntryMap) → IsSponsorReady ctx owner m
    → is_over (account_at m (payer_of ctx owner)) n ≡ false → (x : AccountId) → open_sponsor ctx owner ≡ Some x
    → HasRoom n m x
payers_room ctx owner n m ready over x is = room_of m x n (ready.exists x is)
    (ap (λ o. is_over (account_at m (payer_by owner o)) n) (sym is) ∙ over)

pub beside_sponsor : (ctx : Ctx) (owner : AccountId) (m : EntryMap) → IsSponsorReady ctx owner m
    → IsBeside (open_sponsor ctx owner) (key.Account owner)
beside_sponsor ctx owner m ready x is same = ready.other x is (ids same)
  where
    ids : {a b : AccountId} → key.Account a ≡ key.Account b → b ≡ a
    ids same = cc

-- ---- adding

-- what must hold of what is added, its owner and its payer
pub record IsAddable (id_pool next : ℕ) (ctx : Ctx) (owner : AccountId) (entry : LedgerEntry) (n : ℕ) (m : EntryMap)
    : Type 0 where
  pub subentry : IsSubentry entry.body owner n
  pub free : get m (key_of entry) ≡ None
  pub unsponsored : sponsor_of entry ≡ None
  pub legal : IsEntryLegal next entry
  pub wide : id_pool ≤ next
  pub offers : (id : ℤ) → (total (offer_with id) m +ℤ offer_with id entry) ≤ℤ pos 1
  pub owner_exists : HasAccount m owner
  pub ready : IsSponsorReady ctx owner m

settled : (o p own s s' b w : ℤ) → s' ≡ neg_ℤ s → w ≡ ((s +ℤ (own +ℤ p)) +ℤ b)
    → ((((o +ℤ pos 0) +ℤ neg_ℤ p) +ℤ (s' +ℤ neg_ℤ own)) +ℤ w) ≡ (o +ℤ b)
settled o p own s s' b w turned is = omega (arith, ints)

module _ (v : View) (id_pool next : ℕ) (owed : Owed) (sum : ℤ) (ctx : Ctx) (owner : AccountId) (entry : LedgerEntry)
    (n : ℕ) (m : EntryMap) (legal : IsLegalOwing v id_pool owed sum m)
    (h : IsAddable id_pool next ctx owner entry n m) where
  abbrev t : Option AccountId
  t = open_sponsor ctx owner

  abbrev a : AccountEntry
  a = h.owner_exists.0

  abbrev now : EntryMap
  now = map_after_counting owner n t m

  abbrev IsLegalNow : EntryMap → Type 0
  IsLegalNow new = IsLegalOwing v next (plus owed (beside_reserves (weighed v entry))) (sum +ℤ held v.asset entry) new

  abbrev Charged : Owed
  Charged = plus (plus (plus owed nothing_owed) (less (payer_aggregates n t)))
      (plus (in_aggregate Subentries (key.Account owner) (neg_ℤ (pos n))) (less (owner_aggregates n owner t)))

  counted : HavePassed ctx m owner n → AreChanged v id_pool sum Charged None t owner a (with_subentry n t a) m now
  counted tests =
      let same = same_id_at m owner a legal.keyed h.owner_exists.1 in
      let passes = λ (is : is_full (account_at m owner) n ≡ false). ap (λ o. is_full o n) (sym h.owner_exists.1) ∙ is in
      let fits = λ (is : is_over (account_at m owner) n ≡ false). ap (λ o. is_over o n) (sym h.owner_exists.1) ∙ is in
      owner_changed v id_pool sum (plus (plus owed nothing_owed) (less (payer_aggregates n t))) _ None t owner a
      (with_subentry n t) m (map_after_charging n t m)
      (exchanged v id_pool sum n None t owed m legal (λ x is. absurd (cc))
      (payers_room ctx owner n m h.ready tests.payer))
      h.owner_exists.1 (beside_none (key.Account owner)) (beside_sponsor ctx owner m h.ready)
      (subentry_step id_pool n owner t a same (subentries_may a n (passes tests.not_full) (fits tests.owner)))

  weighs : (kind : Kind) (k : LedgerKey) → weight v kind k (sponsored_entry t entry)
      ≡ ((in_aggregate Subentries (key.Account owner) (pos n) kind k +ℤ plus (owner_aggregates n owner t)
      (payer_aggregates n t) kind k)
      +ℤ beside_reserves (weighed v entry) kind k)
  weighs kind k = joined _ (weight v kind k entry) (paid_aggregates n (Some owner) t kind k)
      (in_aggregate Subentries (key.Account owner) (pos n) kind k) (beside_reserves (weighed v entry) kind k)
      (plus (owner_aggregates n owner t) (payer_aggregates n t) kind k)
      (sponsored_weighs v entry t h.unsponsored kind k
      ∙ (λ i. weight v kind k entry +ℤ paid_aggregates (h.subentry.times i) (h.subentry.owns i) t kind k))
      (subentry_weighs v entry owner n h.subentry kind k
      ∙ (λ i. (in_aggregate Subentries (key.Account owner) (pos n) kind k
      +ℤ paid_aggregates n (Some owner) (h.unsponsored i) kind k) +ℤ beside_reserves (weighed v entry) kind k))
      (split_aggregates n owner t kind k)
    where
      joined : (w e p s b y : ℤ) → w ≡ (e +ℤ p) → e ≡ ((s +ℤ pos 0) +ℤ b) → p ≡ y → w ≡ ((s +ℤ y) +ℤ b)
      joined w e p s b y is also splits = omega (arith, ints)

  -- the entry with its sponsor is put
  inserted : (o : Option AccountId) → t ≡ o
      → AreChanged v id_pool sum Charged None t owner a (with_subentry n t a) m now
      → IsLegalNow (put now (sponsored_entry o entry))
  inserted None is changed = legal_as v (IsEntryLegal next) _ (plus owed (beside_reserves (weighed v entry))) _ _ _
      (put_legal v (IsEntryLegal next) Charged sum now
      (legal_wider v id_pool next Charged sum now h.wide changed.legal) entry (changed.absent (key_of entry) h.free)
      h.legal h.subentry.no_pool (λ id. subst (λ x. (x +ℤ offer_with id entry) ≤ℤ pos 1) (sym (changed.offers id))
      (h.offers id)))
      (λ kind k. settled (owed kind k) _ _ _ _ _ _ (neg_in_aggregate Subentries (key.Account owner) (pos n) kind k)
      (ap (λ o. weight v kind k (sponsored_entry o entry)) (sym is) ∙ weighs kind k)) refl
  inserted (Some x) is changed = legal_as v (IsEntryLegal next) _ (plus owed (beside_reserves (weighed v entry))) _ _ _
      (put_legal v (IsEntryLegal next) Charged sum now
      (legal_wider v id_pool next Charged sum now h.wide changed.legal) (with_sponsor (Some x) entry)
      (changed.absent (key_of entry) h.free)
      (legal_recorded next entry (Some x) (paid_by_other entry.body owner (Some x) h.subentry.owns
      (λ same. h.ready.other x is (cc))) h.legal)
      h.subentry.no_pool (λ id. subst (λ x. (x +ℤ offer_with id entry) ≤ℤ pos 1) (sym (changed.offers id))
      (h.offers id)))
      (λ kind k. settled (owed kind k) _ _ _ _ _ _ (neg_in_aggregate Subentries (key.Account owner) (pos n) kind k)
      (ap (λ o. weight v kind k (sponsored_entry o entry)) (sym is) ∙ weighs kind k)) refl

  -- What is added leaves open in the aggregates what it counts beside its reserve.
  pub subentry_added : (new : EntryMap) → map_after_adding_subentry ctx entry owner n m ≡ Ok new → IsLegalNow new
  subentry_added new is =
      let after = put now (sponsored_entry t entry) in
      subst IsLegalNow (done_by (subentry_tests_at ctx m owner n) after new is)
      (inserted t refl (counted (have_passed ctx m owner n after new is)))

  same_key : (o : Option AccountId) → key_of (sponsored_entry o entry) ≡ key_of entry
  same_key None = refl
  same_key (Some x) = refl

  -- what is under a key that is of no account, nor of what is added, is as it was
  pub exists_still : (new : EntryMap) → map_after_adding_subentry ctx entry owner n m ≡ Ok new → (k : LedgerKey)
      → ((x : AccountId) → k ≢ key.Account x) → k ≢ key_of entry → get new k ≡ get m k
  exists_still new is k no_account apart =
      let after = put now (sponsored_entry t entry) in
      ap (λ x. get x k) (sym (done_by (subentry_tests_at ctx m owner n) after new is))
      ∙ put_elsewhere now (sponsored_entry t entry) k (λ same. apart (same ∙ same_key t))
      ∙ (counted (have_passed ctx m owner n after new is)).others k (beside_none k) (λ x is. no_account x)
      (no_account owner)

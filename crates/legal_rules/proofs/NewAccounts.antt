-- An account that is added.
use Rattle.legal_rules.proofs.Prelude as prelude
use prelude.{◌≡◌, refl, ap, subst, ◌∙◌, ℕ, Bool, true, false, [], Option, Some, None, Ok, arith, ints, ℤ, pos, neg_ℤ}
use prelude.{◌+ℤ◌, ◌-ℤ◌, ◌≤ℤ◌, if◌then◌else◌, get, AccountId, AccountEntry, LedgerEntry, LedgerKey, EntryMap, put}
use prelude.{sponsor_of, with_sponsor, Ctx, own_tests, sponsored_account_entry, map_after_adding_account, with_more}
use prelude.{map_after_charging, open_sponsor, payer_tests_at, done_by, payer_passed, total, is_key, Kind, Subentries}
use prelude.{Sponsored, View, lumens_of, offer_with, IsSponsorReady, weight, Owed, in_aggregate, less, IsEntryLegal}
use prelude.{IsLegalOwing, IsNewAccount, add_nothing}
use Rattle.hash_ids.specs.ledger_types.declared.key.LedgerKey.TheVariants as key
use Rattle.sponsor_laws.specs.sponsor_rules.declared.count.Count.TheVariants as count
use Rattle.legal_rules.proofs.Adding.{room_of}
use Rattle.legal_rules.proofs.Counting.{more_step, neg_in_aggregate}
use Rattle.legal_rules.proofs.Payers.{HasRoom, exchanged}
use Rattle.legal_rules.proofs.Putting.{put_legal}
use Rattle.legal_rules.proofs.Sponsors.{unsponsored, paid_aggregates, owner_aggregates, payer_aggregates}
use Rattle.legal_rules.proofs.Sponsors.{split_aggregates, sponsor_weighs}
use Rattle.legal_rules.proofs.Sponsors.{recorded}
use Rattle.legal_rules.proofs.Steps.{with_body, legal_as}
use Rattle.legal_rules.proofs.Subentries.{legal_recorded}
use Rattle.legal_rules.proofs.Numbers.{nothing_less}
use Rattle.legal_rules.proofs.Numbers.{sum_kept}

-- ---- an account that has nothing but its lumens

nothing_at : (t : Bool) → ((if t then pos 0 else pos 0) -ℤ (if t then pos 0 else pos 0)) ≡ pos 0
nothing_at true = refl
nothing_at false = refl

-- it counts for nothing and states nothing
pub bare_weighs : (v : View) (e : LedgerEntry) (a : AccountEntry) → IsNewAccount a → (kind : Kind) (k : LedgerKey)
    → weight v kind k (with_body (unsponsored e) a) ≡ pos 0
bare_weighs v e a new kind k =
    (λ i. weight v kind k (with_body (unsponsored e)
    (record a { num_sub_entries = new.subentries i; signers = new.signers i; ext = new.ext i }))) ∙ nothing kind k
  where
    nothing : (kind : Kind) (k : LedgerKey) → weight v kind k (with_body (unsponsored e)
        (record a { num_sub_entries = 0; signers = []; ext = None })) ≡ pos 0
    nothing Subentries k = nothing_at (is_key (key.Account a.account_id) k)
    nothing Sponsored k = nothing_at (is_key (key.Account a.account_id) k)
    nothing kind k = nothing_less (is_key (key.Account a.account_id) k)

-- ---- adding

apart_plus : (new old : ℤ) → new ≡ old → old ≤ℤ pos 1 → (new +ℤ pos 0) ≤ℤ pos 1
apart_plus new old same le = omega (arith, ints)

unpaid : (w u : ℤ) → w ≡ (u +ℤ pos 0) → u ≡ pos 0 → w ≡ pos 0
unpaid w u is none = omega (arith, ints)

sponsored : (w u bare neg own p q : ℤ) → w ≡ (u +ℤ q) → u ≡ (bare +ℤ neg) → bare ≡ pos 0 → neg ≡ neg_ℤ own
    → q ≡ (own +ℤ p) → w ≡ p
sponsored w u bare neg own p q is less none turned splits = omega (arith, ints)

module _ (v : View) (id_pool : ℕ) (owed : Owed) (sum : ℤ) (ctx : Ctx) (x : LedgerEntry) (a : AccountEntry)
    (m : EntryMap)
    (legal : IsLegalOwing v id_pool owed sum m) (bare : IsNewAccount a)
    (free : get m (key.Account a.account_id) ≡ None) (none : sponsor_of x ≡ None)
    (range : IsEntryLegal id_pool (with_body x a)) (ready : IsSponsorReady ctx a.account_id m) where
  abbrev IsLegalNow : EntryMap → Type 0
  IsLegalNow new = IsLegalOwing v id_pool owed (sum +ℤ lumens_of v.asset a.balance) new

  account_alone : IsLegalNow (put m (with_body x a))
  account_alone = legal_as v (IsEntryLegal id_pool) _ owed _ _ (put m (with_body x a))
      (put_legal v (IsEntryLegal id_pool) owed sum m legal (with_body x a) free range (λ id same. absurd (cc))
      (λ id. apart_plus _ _ refl (legal.offers id)))
      (λ kind k. add_nothing (owed kind k) _ (unpaid _ (weight v kind k (unsponsored (with_body x a)))
      (sponsor_weighs v (with_body x a) kind k ∙ (λ i. weight v kind k (unsponsored (with_body x a))
      +ℤ paid_aggregates 2 (Some a.account_id) (none i) kind k))
      (bare_weighs v x a bare kind k))) refl

  account_sponsored : (s : AccountId) → open_sponsor ctx a.account_id ≡ Some s → HasRoom 2 m s
      → IsLegalNow (put (map_after_charging 2 (Some s) m) (sponsored_account_entry s x a))
  account_sponsored s is room =
      let b = with_more count.Sponsored 2 a in
      let step = more_step id_pool count.Sponsored 2 a a.account_id refl tt in
      let now = map_after_charging 2 (Some s) m in
      let e1 = with_body x b in
      let e2 = with_sponsor (Some s) e1 in
      let changed = exchanged v id_pool sum 2 None (Some s) owed m legal (λ y no. absurd (cc))
      (λ y same. let ids : s ≡ y = cc in subst (HasRoom 2 m) ids room) in
      let weighs : (kind : Kind) (k : LedgerKey) → weight v kind k e2 ≡ payer_aggregates 2 (Some s) kind k = λ kind k.
      sponsored _ (weight v kind k (unsponsored e1)) (weight v kind k (with_body (unsponsored x) a))
      (in_aggregate Sponsored (key.Account a.account_id) (neg_ℤ (pos 2)) kind k)
      (owner_aggregates 2 a.account_id (Some s) kind k) (payer_aggregates 2 (Some s) kind k)
      (paid_aggregates 2 (Some b.account_id) (Some s) kind k)
      (sponsor_weighs v e2 kind k ∙ (λ i. weight v kind k (unsponsored e1)
      +ℤ paid_aggregates 2 (Some b.account_id) (recorded (Some s) e1 i) kind k))
      (step.move.aggregates v kind k (unsponsored x)) (bare_weighs v x a bare kind k)
      (neg_in_aggregate Sponsored (key.Account a.account_id) (pos 2) kind k)
      ((λ i. paid_aggregates 2 (Some (step.move.id i)) (Some s) kind k)
      ∙ split_aggregates 2 a.account_id (Some s) kind k) in
      legal_as v (IsEntryLegal id_pool) _ owed _ _ (put now e2)
      (put_legal v (IsEntryLegal id_pool) _ sum now changed.legal e2
      (changed.absent (key.Account b.account_id) (ap (λ i. get m (key.Account i)) step.move.id ∙ free))
      (legal_recorded id_pool e1 (Some s) (λ some same. ready.other s is
      (let ids : s ≡ b.account_id = cc in ids ∙ step.move.id)) (step.keeps x range))
      (λ id same. absurd (cc))
      (λ id. apart_plus (total (offer_with id) now) (total (offer_with id) m) (changed.offers id) (legal.offers id)))
      (λ kind k. sum_kept (owed kind k) (payer_aggregates 2 (Some s) kind k) (weight v kind k e2) (weighs kind k))
      (ap (λ n. sum +ℤ lumens_of v.asset n) step.balance)

  by_sponsor : (o : Option AccountId) → open_sponsor ctx a.account_id ≡ o → (new : EntryMap)
      → map_after_adding_account ctx (with_body x a) a o m ≡ Ok new → IsLegalNow new
  by_sponsor None is new done = subst IsLegalNow (done_by (own_tests ctx a) (put m (with_body x a)) new done)
      account_alone
  by_sponsor (Some s) is new done =
      let after = put (map_after_charging 2 (Some s) m) (sponsored_account_entry s x a) in
      let over = payer_passed ctx m s 2 after new done in
      subst IsLegalNow (done_by (payer_tests_at ctx m s 2) after new done)
      (account_sponsored s is (room_of m s 2 (ready.exists s is) over))

  -- An account that is added owes nothing, and its lumens are added to the supply.
  pub account_added : (new : EntryMap)
      → map_after_adding_account ctx (with_body x a) a (open_sponsor ctx a.account_id) m ≡ Ok new → IsLegalNow new
  account_added new done = by_sponsor (open_sponsor ctx a.account_id) refl new done

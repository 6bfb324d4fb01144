-- The reserve of a subentry that doesn't exist yet is counted.
use Rattle.legal_rules.proofs.Prelude as prelude
use prelude.{◌≡◌, ◌≢◌, refl, sym, ap, subst, ◌∙◌, ℕ, Bool, true, false, Option, Some, None, Ok, arith, ints, ℤ, pos}
use prelude.{neg_ℤ, ◌+ℤ◌, if◌then◌else◌, get, AccountId, AccountEntry, LedgerKey, EntryMap, account_at, HasAccount}
use prelude.{have_passed, HavePassed, Ctx, map_after_counting, map_after_counting_subentry, map_after_charging}
use prelude.{with_subentry, open_sponsor, is_full, is_over, subentry_tests_at, is_key, for_key, Kind, Subentries}
use prelude.{Sponsoring, Sponsored, View, Owed, nothing_owed, plus, less, in_aggregate, IsEntryLegal, IsLegalOwing}
use prelude.{IsSponsorReady, one_more, SubentriesCounted}
use Rattle.hash_ids.specs.ledger_types.declared.key.LedgerKey.TheVariants as key
use Rattle.legal_rules.proofs.Adding.{subentries_may, payers_room, beside_sponsor}
use Rattle.legal_rules.proofs.Payers.{AreChanged, beside_none, exchanged, owner_changed, subentry_step}
use Rattle.legal_rules.proofs.Sponsors.{owner_aggregates, payer_aggregates}
use Rattle.legal_rules.proofs.Steps.{legal_as, same_id_at}
use Rattle.legal_rules.proofs.Passed.{unless_first_ok}

counts_own : (t : Bool)
    → (((pos 0 +ℤ pos 0) +ℤ neg_ℤ (pos 0)) +ℤ ((if t then neg_ℤ (pos 1) else pos 0) +ℤ neg_ℤ (pos 0)))
    ≡ neg_ℤ (if t then pos 1 else pos 0)
counts_own true = omega (arith, ints)
counts_own false = omega (arith, ints)

counts_none : (t : Bool)
    → (((pos 0 +ℤ pos 0) +ℤ neg_ℤ (pos 0)) +ℤ (pos 0 +ℤ neg_ℤ (pos 0))) ≡ neg_ℤ (if t then pos 0 else pos 0)
counts_none true = omega (arith, ints)
counts_none false = omega (arith, ints)

counts_paid : (x : ℤ) → (((pos 0 +ℤ pos 0) +ℤ neg_ℤ (pos 0)) +ℤ (pos 0 +ℤ neg_ℤ x)) ≡ neg_ℤ x
counts_paid x = omega (arith, ints)

counts_payer : (x : ℤ) → (((pos 0 +ℤ pos 0) +ℤ neg_ℤ x) +ℤ (pos 0 +ℤ neg_ℤ (pos 0))) ≡ neg_ℤ x
counts_payer x = omega (arith, ints)

module _ (v : View) (id_pool : ℕ) (sum : ℤ) (ctx : Ctx) (owner : AccountId) (m : EntryMap)
    (legal : IsLegalOwing v id_pool nothing_owed sum m) (exists : HasAccount m owner)
    (ready : IsSponsorReady ctx owner m) where
  abbrev t : Option AccountId
  t = open_sponsor ctx owner

  abbrev a : AccountEntry
  a = exists.0

  abbrev now : EntryMap
  now = map_after_counting owner 1 t m

  abbrev Charged : Option AccountId → Owed
  Charged o = plus (plus (plus nothing_owed nothing_owed) (less (payer_aggregates 1 o)))
      (plus (in_aggregate Subentries (key.Account owner) (neg_ℤ (pos 1))) (less (owner_aggregates 1 owner o)))

  charged_is : (o : Option AccountId) (kind : Kind) (k : LedgerKey) → Charged o kind k ≡ one_more owner o kind k
  charged_is None Subentries k = counts_own (is_key (key.Account owner) k)
  charged_is None Sponsored k = counts_none (is_key (key.Account owner) k)
  charged_is None kind k = omega (arith, ints)
  charged_is (Some x) Subentries k = counts_own (is_key (key.Account owner) k)
  charged_is (Some x) Sponsored k = counts_paid (for_key k (Some (key.Account owner)) (pos 1))
  charged_is (Some x) Sponsoring k = counts_payer (for_key k (Some (key.Account x)) (pos 1))
  charged_is (Some x) kind k = omega (arith, ints)

  counted : HavePassed ctx m owner 1 → AreChanged v id_pool sum (Charged t) None t owner a (with_subentry 1 t a) m now
  counted tests =
      let same = same_id_at m owner a legal.keyed exists.1 in
      let passes = λ (is : is_full (account_at m owner) 1 ≡ false). ap (λ o. is_full o 1) (sym exists.1) ∙ is in
      let fits = λ (is : is_over (account_at m owner) 1 ≡ false). ap (λ o. is_over o 1) (sym exists.1) ∙ is in
      owner_changed v id_pool sum (plus (plus nothing_owed nothing_owed) (less (payer_aggregates 1 t))) _ None t owner a
      (with_subentry 1 t) m (map_after_charging 1 t m)
      (exchanged v id_pool sum 1 None t nothing_owed m legal (λ x is. absurd (cc))
      (payers_room ctx owner 1 m ready tests.payer))
      exists.1 (beside_none (key.Account owner)) (beside_sponsor ctx owner m ready)
      (subentry_step id_pool 1 owner t a same (subentries_may a 1 (passes tests.not_full) (fits tests.owner)))

  abbrev IsCounted : EntryMap → Type 0
  IsCounted new = IsLegalOwing v id_pool (one_more owner t) sum new
      × ((k : LedgerKey) → ((x : AccountId) → k ≢ key.Account x) → get new k ≡ get m k)

  counted_so : (new : EntryMap) → map_after_counting_subentry ctx owner 1 m ≡ Ok new → IsCounted new
  counted_so new done =
      let went = unless_first_ok (subentry_tests_at ctx m owner 1) now new done in
      let changed = counted (have_passed ctx m owner 1 now new done) in
      subst IsCounted went.1 (
        legal_as v (IsEntryLegal id_pool) (Charged t) (one_more owner t) sum sum now changed.legal (charged_is t) refl,
        λ k no_account. changed.others k (beside_none k) (λ x is. no_account x) (no_account owner),
      )

pub subentries_counted : SubentriesCounted
subentries_counted v id_pool sum ctx owner m new legal exists ready =
    counted_so v id_pool sum ctx owner m legal exists ready new

-- A claimable balance that is added or removed.
use Rattle.legal_rules.proofs.Prelude as prelude
use prelude.{◌≡◌, ◌≢◌, refl, ap, subst, ◌∙◌, ℕ, ◌≤◌, Option, Some, None, Ok, arith, ints, ℤ, pos, neg_ℤ, ◌+ℤ◌, ◌≤ℤ◌}
use prelude.{get, AccountId, ClaimableBalanceEntry, LedgerEntry, LedgerEntryBody, LedgerKey, key_of, key_of_body}
use prelude.{EntryMap, put, erase, HasAccount, sponsor_of, with_sponsor, Ctx, map_after_adding_balance, charge_of}
use prelude.{multiplicity, multiplicity_in, owner_of, owner_in, map_after_charging, map_after_releasing, payer_tests_at}
use prelude.{done_by, payer_passed, total, is_key, Kind, Sponsoring, View, held, offer_with, offer_with_in}
use prelude.{IsBodyInRange, IsPaidRightly, AreSubentriesFew, DoReservesFit, IsFilledOrEmpty, weight, Owed}
use prelude.{IsBoundRightly, IsEntryLegal, IsLegalOwing, AreReservesSettled}
use Rattle.hash_ids.specs.ledger_types.declared.entry.LedgerEntryBody.TheVariants as body
use Rattle.hash_ids.specs.ledger_types.declared.key.LedgerKey.TheVariants as key
use Rattle.sponsor_laws.specs.sponsor_rules.declared.charge.Charge.TheVariants as charge
use Rattle.legal_rules.proofs.Adding.{room_of}
use Rattle.legal_rules.proofs.Needed.{paid_counts}
use Rattle.legal_rules.proofs.PaidFor.{payer_has}
use Rattle.legal_rules.proofs.Payers.{HasRoom, beside_none, exchanged}
use Rattle.legal_rules.proofs.Putting.{IsNoPool, put_legal, erase_legal}
use Rattle.legal_rules.proofs.Sponsors.{unsponsored, paid_aggregates, payer_aggregates, unowned_aggregates}
use Rattle.legal_rules.proofs.Sponsors.{sponsor_weighs}
use Rattle.legal_rules.proofs.Steps.{legal_as}
use Rattle.legal_rules.proofs.Numbers.{nothing_less}
use Rattle.legal_rules.proofs.Numbers.{sum_kept}

-- ---- what a claimable balance is

pub record IsBalance (b : LedgerEntryBody) (n : ℕ) : Type 0 where
  pub owned : owner_of b ≡ None
  pub times : multiplicity b ≡ n
  pub bound : IsBoundRightly b
  pub few : AreSubentriesFew b
  pub fits : DoReservesFit b
  pub filled : IsFilledOrEmpty b
  pub paid : (s : Option AccountId) → s ≢ None → IsPaidRightly b s
  pub was_paid : (s : Option AccountId) → IsPaidRightly b s → s ≢ None
  pub no_pool : IsNoPool (key_of_body b)
  pub no_account : (x : AccountId) → key_of_body b ≢ key.Account x
  pub no_offer : (id : ℤ) → offer_with_in id b ≡ pos 0

pub balance_by : (b : LedgerEntryBody) (n : ℕ) → charge_of b ≡ charge.Payer n → IsBalance b n
balance_by (body.ClaimableBalance c) n is = record {
  owned = refl;
  times = ap multiplicity_in is;
  bound = tt;
  few = tt;
  fits = tt;
  filled = tt;
  paid = λ s some. some;
  was_paid = λ s paid. paid;
  no_pool = λ id same. absurd (cc);
  no_account = λ x same. absurd (cc);
  no_offer = λ id. refl;
}
balance_by other n is = absurd (cc)

balance_bare : (v : View) (e : LedgerEntry) (c : ClaimableBalanceEntry) (kind : Kind) (k : LedgerKey)
    → weight v kind k (record e { body = body.ClaimableBalance c; ext = None }) ≡ pos 0
balance_bare v e c Sponsoring k = nothing_less (is_key (key.ClaimableBalance c.balance_id) k)
balance_bare v e c kind k = nothing_less (is_key (key.ClaimableBalance c.balance_id) k)

bare_by : (v : View) (e : LedgerEntry) (b : LedgerEntryBody) (n : ℕ) → charge_of b ≡ charge.Payer n → (kind : Kind)
    (k : LedgerKey) → weight v kind k (record e { body = b; ext = None }) ≡ pos 0
bare_by v e (body.ClaimableBalance c) n is kind k = balance_bare v e c kind k
bare_by v e other n is kind k = absurd (cc)

summed : (w u p q : ℤ) → w ≡ (u +ℤ p) → u ≡ pos 0 → p ≡ q → w ≡ q
summed w u p q is none same = omega (arith, ints)

-- it counts for its payer alone
balance_weighs : (v : View) (e : LedgerEntry) (n : ℕ) → charge_of e.body ≡ charge.Payer n → (kind : Kind)
    (k : LedgerKey) → weight v kind k e ≡ payer_aggregates n (sponsor_of e) kind k
balance_weighs v e n is kind k = summed _ (weight v kind k (unsponsored e)) _ _ (sponsor_weighs v e kind k)
    (bare_by v e e.body n is kind k)
    ((λ i. paid_aggregates (multiplicity_in (is i)) (owner_in (is i)) (sponsor_of e) kind k)
    ∙ unowned_aggregates n (sponsor_of e) kind k)

-- ---- adding

apart_plus : (a b new old : ℤ) → b ≡ pos 0 → new ≡ old → old ≤ℤ pos 1 → (new +ℤ b) ≤ℤ pos 1
apart_plus a b new old none same le = omega (arith, ints)

pub balance_added : (v : View) (id_pool : ℕ) (owed : Owed) (sum : ℤ) (ctx : Ctx) (entry : LedgerEntry)
    (payer : AccountId) (n : ℕ) (m new : EntryMap) → IsLegalOwing v id_pool owed sum m
    → charge_of entry.body ≡ charge.Payer n
    → get m (key_of entry) ≡ None → IsBodyInRange id_pool entry.body → HasAccount m payer
    → map_after_adding_balance ctx entry payer n m ≡ Ok new
    → IsLegalOwing v id_pool owed (sum +ℤ held v.asset entry) new
balance_added v id_pool owed sum ctx entry payer n m new legal is free range exists done =
    let b = balance_by entry.body n is in
    let now = map_after_charging n (Some payer) m in
    let e = with_sponsor (Some payer) entry in
    let over = payer_passed ctx m payer n (put now e) new done in
    let changed = exchanged v id_pool sum n None (Some payer) owed m legal (λ x none. absurd (cc))
    (λ x same. let ids : payer ≡ x = cc in subst (HasRoom n m) ids (room_of m payer n exists over)) in
    subst (IsLegalOwing v id_pool owed (sum +ℤ held v.asset entry)) (done_by (payer_tests_at ctx m payer n) (put now e)
    new done)
    (legal_as v (IsEntryLegal id_pool) _ owed _ _ (put now e)
    (put_legal v (IsEntryLegal id_pool) _ sum now changed.legal e (changed.absent (key_of entry) free)
    (record {
      range = record { body = range; paid = b.paid (sponsor_of e) (λ none. absurd (cc)) };
      bound = b.bound;
      few = b.few;
      fits = b.fits;
      filled = b.filled;
    }) b.no_pool
    (λ id. apart_plus (pos 0) (offer_with id e) (total (offer_with id) now) (total (offer_with id) m) (b.no_offer id)
    (changed.offers id) (legal.offers id)))
    (λ kind k. sum_kept (owed kind k) (payer_aggregates n (Some payer) kind k) (weight v kind k e)
    (balance_weighs v e n is kind k)) refl)

-- ---- removing

removed : (o p w : ℤ) → w ≡ p → (((o +ℤ p) +ℤ neg_ℤ (pos 0)) +ℤ neg_ℤ w) ≡ o
removed o p w is = omega (arith, ints)

pub balance_removed : (v : View) (id_pool : ℕ) (owed : Owed) (sum : ℤ) (m : EntryMap) (k : LedgerKey) (e : LedgerEntry)
    (n : ℕ) → IsLegalOwing v id_pool owed sum m → AreReservesSettled owed → get m k ≡ Some e
    → charge_of e.body ≡ charge.Payer n
    → IsLegalOwing v id_pool owed (sum +ℤ neg_ℤ (held v.asset e)) (erase (map_after_releasing n (sponsor_of e) m) k)
balance_removed v id_pool owed sum m k e n legal settled there is =
    let b = balance_by e.body n is in
    let s = sponsor_of e in
    let range = (legal.entries k e there).range in
    let some : 1 ≤ n = subst (λ i. 1 ≤ i) b.times (paid_counts id_pool e.body s range.body range.paid
    (b.was_paid s range.paid)) in
    let now = map_after_releasing n s m in
    let changed = exchanged v id_pool sum n s None owed m legal
    (payer_has v id_pool owed sum m legal settled k e there n b.times some) (λ x none. absurd (cc)) in
    let apart = λ (x : AccountId) (same : k ≡ key.Account x). b.no_account x (legal.keyed k e there ∙ same) in
    let still : get now k ≡ Some e = changed.others k (λ x pays. apart x) (beside_none k) ∙ there in
    legal_as v (IsEntryLegal id_pool) _ owed _ _ (erase now k)
    (erase_legal v (IsEntryLegal id_pool) _ sum now changed.legal k e still
    (λ id same. b.no_pool id (legal.keyed k e there ∙ same)))
    (λ kind q. removed (owed kind q) (payer_aggregates n s kind q) (weight v kind q e) (balance_weighs v e n is kind q))
    refl

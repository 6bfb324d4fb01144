-- A line, an offer or data that is removed.
use Rattle.legal_rules.proofs.Prelude.{◌≡◌, ◌≢◌, refl, sym, subst, ◌∙◌, ℕ, Option, Some, None, arith, ints, ℤ, pos}
use Rattle.legal_rules.proofs.Prelude.{neg_ℤ, ◌+ℤ◌, ◌≤ℤ◌, get, AccountId, AccountEntry, LedgerEntry, LedgerKey}
use Rattle.legal_rules.proofs.Prelude.{EntryMap, erase, same_itself, sponsor_of, map_after_releasing, without_subentry}
use Rattle.legal_rules.proofs.Prelude.{map_after_discounting, is_key, for_account, Subentries, View, held}
use Rattle.legal_rules.proofs.Prelude.{IsPaidRightly, weight, weighed, Owed, in_aggregate, plus, less, beside_reserves}
use Rattle.legal_rules.proofs.Prelude.{IsEntryLegal, IsLegalOwing, AreReservesSettled}
use Rattle.hash_ids.specs.ledger_types.declared.key.LedgerKey.TheVariants as key
use Rattle.sponsor_laws.specs.sponsor_rules.declared.count.Count.TheVariants as count
use Rattle.legal_rules.proofs.AccountRanges.{may_fall}
use Rattle.legal_rules.proofs.Bounded.{account_legal}
use Rattle.legal_rules.proofs.Steps.{legal_as, same_id_at}
use Rattle.legal_rules.proofs.Putting.{erase_legal}
use Rattle.legal_rules.proofs.Existing.{ExistsWith, counted_exists}
use Rattle.legal_rules.proofs.Payers.{IsBeside, beside_none, AreChanged, exchanged, owner_changed, no_subentry_step}
use Rattle.legal_rules.proofs.PaidFor.{payer_has, owner_has}
use Rattle.legal_rules.proofs.Sponsors.{owner_aggregates, payer_aggregates, split_aggregates}
use Rattle.legal_rules.proofs.Subentries.{IsSubentry, subentry_weighs, paid_not_by_owner}
use Rattle.legal_rules.proofs.Numbers.{natural_if_true}

settles : (o p own s b w y : ℤ) → w ≡ ((s +ℤ y) +ℤ b) → y ≡ (own +ℤ p)
    → ((((o +ℤ p) +ℤ neg_ℤ (pos 0)) +ℤ (s +ℤ own)) +ℤ neg_ℤ w) ≡ (o +ℤ neg_ℤ b)
settles o p own s b w y is splits = omega (arith, ints)

module _ (v : View) (id_pool : ℕ) (owed : Owed) (sum : ℤ) (m : EntryMap) (legal : IsLegalOwing v id_pool owed sum m)
    (settled : AreReservesSettled owed) (owner : AccountId) (n : ℕ) (k : LedgerKey) (e : LedgerEntry)
    (there : get m k ≡ Some e) (sub : IsSubentry e.body owner n) where
  abbrev s : Option AccountId
  s = sponsor_of e

  -- its owner exists, and counts it
  pub owns : ExistsWith count.SubEntries n m owner
  owns = counted_exists v id_pool owed sum m legal count.SubEntries owner n k e (settled.subentries (key.Account owner))
      there (subst (λ x. pos n ≤ℤ x) (λ i. for_account (key.Account owner) (sym sub.owns i) (sym sub.counts i))
      (natural_if_true (is_key (key.Account owner) (key.Account owner)) n (same_itself (key.Account owner)))) sub.some

  abbrev a : AccountEntry
  a = owns.account

  abbrev now : EntryMap
  now = map_after_discounting owner n s m

  abbrev Released : Owed
  Released = plus (plus (plus owed (payer_aggregates n s)) (less (payer_aggregates n None)))
      (plus (in_aggregate Subentries (key.Account owner) (pos n)) (owner_aggregates n owner s))

  beside : IsBeside s (key.Account owner)
  beside x is same = paid_not_by_owner e.body owner x sub.owns
      (subst (IsPaidRightly e.body) is (legal.entries k e there).range.paid) (ids same)
    where
      ids : {i j : AccountId} → key.Account i ≡ key.Account j → j ≡ i
      ids same = cc

  discounted : AreChanged v id_pool sum Released s None owner a (without_subentry n s a) m now
  discounted =
      let bounded = account_legal v id_pool owed sum m owner a legal owns.exists in
      let same = same_id_at m owner a legal.keyed owns.exists in
      owner_changed v id_pool sum
      (plus (plus owed (payer_aggregates n s)) (less (payer_aggregates n None))) _ s None owner a
      (without_subentry n s) m (map_after_releasing n s m)
      (exchanged v id_pool sum n s None owed m legal
      (payer_has v id_pool owed sum m legal settled k e there n sub.times sub.some) (λ x is. absurd (cc)))
      owns.exists beside (beside_none (key.Account owner))
      (no_subentry_step id_pool n owner s a same owns.enough (may_fall count.SubEntries n a bounded.few bounded.fits)
      (owner_has v id_pool owed sum m legal settled k e there n sub.times sub.some owner a sub.owns owns.exists))

  pub no_account : (x : AccountId) → k ≢ key.Account x
  no_account x same = sub.no_account x (legal.keyed k e there ∙ same)

  -- What is removed takes from the aggregates what it counted beside its reserve.
  pub subentry_removed : IsLegalOwing v id_pool (plus owed (less (beside_reserves (weighed v e))))
      (sum +ℤ neg_ℤ (held v.asset e)) (erase now k)
  subentry_removed =
      let still = discounted.others k (λ x is. no_account x) (beside_none k) (no_account owner) ∙ there in
      legal_as v (IsEntryLegal id_pool) _ (plus owed (less (beside_reserves (weighed v e)))) _ _ (erase now k)
      (erase_legal v (IsEntryLegal id_pool) Released sum now discounted.legal k e still
      (λ id same. sub.no_pool id (legal.keyed k e there ∙ same)))
      (λ kind q. settles (owed kind q) (payer_aggregates n s kind q) (owner_aggregates n owner s kind q)
      (in_aggregate Subentries (key.Account owner) (pos n) kind q) (beside_reserves (weighed v e) kind q)
      (weight v kind q e) _
      (subentry_weighs v e owner n sub kind q) (split_aggregates n owner s kind q)) refl

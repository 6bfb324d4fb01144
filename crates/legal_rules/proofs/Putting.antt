-- A state within a transaction after an entry is put under a key where nothing was, or taken away.
use Rattle.legal_rules.proofs.Prelude as prelude
use prelude.{ℕ, ◌≤◌, ◌≡◌, ◌≢◌, refl, sym, ap, subst, ◌∙◌, Some, None, arith, ints, ℤ, pos, neg_ℤ, ◌+ℤ◌, ◌≤ℤ◌, is_eq}
use prelude.{int_cmp, get, Hash, OfferEntry, LedgerEntry, LedgerEntryBody, LedgerKey, key_of, EntryMap, put, erase}
use prelude.{Weight, total, part, put_each, erase_each, total_put, total_erase, View, held, offer_with, offer_with_in}
use prelude.{IsOfferInRange, IsBodyInRange, params_of, weight, weighed, Owed, plus, less, IsLegalWith, IsLegalOwing}
use prelude.{erase_elsewhere, put_elsewhere, indicator_nonnegative}
use Rattle.hash_ids.specs.ledger_types.declared.entry.LedgerEntryBody.TheVariants as body
use Rattle.hash_ids.specs.ledger_types.declared.key.LedgerKey.TheVariants as key

-- the key is of no pool
abbrev pub IsNoPool : LedgerKey → Type 0
IsNoPool k = (id : Hash) → k ≢ key.LiquidityPool id

added : (new none old is : ℤ) → (new +ℤ none) ≡ (old +ℤ is) → none ≡ pos 0 → new ≡ (old +ℤ is)
added new none old is put nothing = omega (arith, ints)

sum_after_removal : (new was old : ℤ) → (new +ℤ was) ≡ old → new ≡ (old +ℤ neg_ℤ was)
sum_after_removal new was old erased = omega (arith, ints)

still_one : (old was new : ℤ) → new ≡ (old +ℤ neg_ℤ was) → pos 0 ≤ℤ was → old ≤ℤ pos 1 → new ≤ℤ pos 1
still_one old was new is low le = omega (arith, ints)

pub offer_with_in_nonnegative : (id : ℤ) (b : LedgerEntryBody) → pos 0 ≤ℤ offer_with_in id b
offer_with_in_nonnegative id (body.Offer o) = indicator_nonnegative (is_eq (int_cmp o.offer_id id))
offer_with_in_nonnegative id other = omega (arith, ints)

module _ (v : View) (P : LedgerEntry → Type 0) (owed : Owed) (sum : ℤ) (m : EntryMap)
    (legal : IsLegalWith v P owed sum m) where
  -- an entry is put: aggregates owe what it counts, less what it states
  pub put_legal : (e : LedgerEntry) → get m (key_of e) ≡ None → P e → IsNoPool (key_of e)
      → ((id : ℤ) → (total (offer_with id) m +ℤ offer_with id e) ≤ℤ pos 1)
      → IsLegalWith v P (plus owed (weighed v e)) (sum +ℤ held v.asset e) (put m e)
  put_legal e free holds no_pool apart =
      let summed : (f : Weight) → total f (put m e) ≡ (total f m +ℤ f e) =
      λ f. added (total f (put m e)) (part f (get m (key_of e))) (total f m) (f e) (total_put f m e)
      (ap (part f) free) in
      record {
        params = λ id. ap params_of (put_elsewhere m e (key.LiquidityPool id) (λ same. no_pool id (sym same)))
            ∙ legal.params id;
        keyed = put_each (λ k x. key_of x ≡ k) m e legal.keyed refl;
        entries = put_each (λ k x. P x) m e legal.entries holds;
        offers = λ id. subst (λ n. n ≤ℤ pos 1) (sym (summed (offer_with id))) (apart id);
        aggregates = λ kind k. summed (weight v kind k) ∙ ap (λ n. n +ℤ weight v kind k e) (legal.aggregates kind k);
        supply = summed (held v.asset) ∙ ap (λ n. n +ℤ held v.asset e) legal.supply;
      }

  -- an entry is taken away: aggregates owe no more what it counted, and owe what it stated
  pub erase_legal : (k : LedgerKey) (e : LedgerEntry) → get m k ≡ Some e → IsNoPool k
      → IsLegalWith v P (plus owed (less (weighed v e))) (sum +ℤ neg_ℤ (held v.asset e)) (erase m k)
  erase_legal k e there no_pool =
      let summed : (f : Weight) → total f (erase m k) ≡ (total f m +ℤ neg_ℤ (f e)) =
      λ f. sum_after_removal (total f (erase m k)) (f e) (total f m)
      (ap (λ o. total f (erase m k) +ℤ part f o) (sym there) ∙ total_erase f m k) in
      record {
        params = λ id. ap params_of (erase_elsewhere m k (key.LiquidityPool id) (λ same. no_pool id (sym same)))
            ∙ legal.params id;
        keyed = erase_each (λ q x. key_of x ≡ q) m k legal.keyed;
        entries = erase_each (λ q x. P x) m k legal.entries;
        offers = λ id. still_one (total (offer_with id) m) (offer_with id e) _ (summed (offer_with id))
            (offer_with_in_nonnegative id e.body) (legal.offers id);
        aggregates = λ kind q. summed (weight v kind q)
            ∙ ap (λ n. n +ℤ neg_ℤ (weight v kind q e)) (legal.aggregates kind q);
        supply = summed (held v.asset) ∙ ap (λ n. n +ℤ neg_ℤ (held v.asset e)) legal.supply;
      }

-- ---- more ids

wider_offer : (n k : ℕ) (o : OfferEntry) → n ≤ k → IsOfferInRange n o → IsOfferInRange k o
wider_offer n k o le r = record {
  amount = r.amount;
  n = r.n;
  d = r.d;
  wheat = r.wheat;
  sheep = r.sheep;
  id_low = r.id_low;
  id_high = below n k o.offer_id le r.id_high;
  selling = r.selling;
  buying = r.buying;
  assets = r.assets;
  flags = r.flags;
}
  where
    below : (n k : ℕ) (x : ℤ) → n ≤ k → x ≤ℤ pos n → x ≤ℤ pos k
    below n k x le low = omega (arith, ints)

wider_body : (n k : ℕ) (b : LedgerEntryBody) → n ≤ k → IsBodyInRange n b → IsBodyInRange k b
wider_body n k (body.Offer o) le r = wider_offer n k o le r
wider_body n k other le r = r

-- ids up to a greater one
pub legal_wider : (v : View) (n k : ℕ) (owed : Owed) (sum : ℤ) (m : EntryMap) → n ≤ k → IsLegalOwing v n owed sum m
    → IsLegalOwing v k owed sum m
legal_wider v n k owed sum m le legal = record {
  params = legal.params;
  keyed = legal.keyed;
  entries = λ q e there.
      let r = legal.entries q e there in
      record {
        range = record { body = wider_body n k e.body le r.range.body; paid = r.range.paid };
        bound = r.bound;
        few = r.few;
        fits = r.fits;
        filled = r.filled;
      };
  offers = legal.offers;
  aggregates = legal.aggregates;
  supply = legal.supply;
}

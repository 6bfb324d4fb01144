-- The offers of a map from which one entry of an offer went.
use Rattle.op_laws.proofs.Prelude.{◌≡◌, refl, sym, ap, ◌∙◌, Bool, true, false, cond, not, ◌&&◌, All, List, [], ◌∷◌}
use Rattle.op_laws.proofs.Prelude.{Option, Some, None, map, All-head, All-tail, filter, cons_option, Equal, eq_by_cmp}
use Rattle.op_laws.proofs.Prelude.{get, entries, entries_sorted, get-entries, AccountId, OfferEntry, LedgerEntry}
use Rattle.op_laws.proofs.Prelude.{LedgerEntryBody, LedgerKey, key_of_body, key_cmp, keys_total, keys_exact, EntryMap}
use Rattle.op_laws.proofs.Prelude.{erase, offer_in, offers_in, offers_of, offer_key, erase_get}
use Rattle.std.proofs.Common.{ℤ}
use Rattle.std.specs.FinMap.Entries.{find, where_key, find-where_key, is_sorted-where_key, same_entries}
use Rattle.op_flags.specs.ledger_types.declared.entry.LedgerEntryBody.TheVariants as body
use Rattle.op_flags.specs.ledger_types.declared.key.LedgerKey.TheVariants as key
use Rattle.op_flags.specs.entry_map.EntryMap.{IsKeyed}
use Rattle.op_flags.specs.entry_map.Indexes.{is_of_offer}
use Rattle.op_flags.proofs.offer_book_proofs.Selling.{IsOwn, all_own}

abbrev Pairs : Type 0
Pairs = List (LedgerKey × LedgerEntry)

abbrev listed : Pairs → List OfferEntry
listed es = offers_in (map (λ p. p.1) es)

-- ---- a test of keys passes the offers under keys that pass it

module _ (p : LedgerKey → Bool) where
  abbrev passes : OfferEntry → Bool
  passes o = p (offer_key o)

  by_test : (t : Bool) (e : LedgerKey × LedgerEntry) (es : Pairs)
      → listed (cond t (e ∷ es) es) ≡ cond t (cons_option (offer_in e.1.body) (listed es)) (listed es)
  by_test true e es = refl
  by_test false e es = refl

  either : (t : Bool) (os : List OfferEntry) → cond t os os ≡ os
  either true os = refl
  either false os = refl

  by_body : (k : LedgerKey) (b : LedgerEntryBody) (os kept : List OfferEntry) → key_of_body b ≡ k
      → kept ≡ filter passes os
      → cond (p k) (cons_option (offer_in b) kept) kept ≡ filter passes (cons_option (offer_in b) os)
  by_body k (body.Offer o) os kept own same =
      ap (λ q. cond (p q) (o ∷ kept) kept) (sym own) ∙ ap (λ l. cond (p (offer_key o)) (o ∷ l) l) same
  by_body k (body.Account a) os kept own same = either (p k) kept ∙ same
  by_body k (body.TrustLine a) os kept own same = either (p k) kept ∙ same
  by_body k (body.Data a) os kept own same = either (p k) kept ∙ same
  by_body k (body.ClaimableBalance a) os kept own same = either (p k) kept ∙ same
  by_body k (body.LiquidityPool a) os kept own same = either (p k) kept ∙ same

  listed_where : (es : Pairs) → All IsOwn es → listed (where_key key_cmp p es) ≡ filter passes (listed es)
  listed_where [] own = refl
  listed_where (e ∷ es) own = by_test (p e.0) e (where_key key_cmp p es)
      ∙ by_body e.0 e.1.body (listed es) (listed (where_key key_cmp p es)) (All-head IsOwn e es own)
      (listed_where es (All-tail IsOwn e es own))

  alike : (q x : LedgerKey) → key_cmp q x ≡ Equal → p x ≡ p q
  alike q x tied = ap p (sym (keys_exact q x tied))

  found_where : (es : Pairs) (q : LedgerKey)
      → find key_cmp q (where_key key_cmp p es) ≡ cond (p q) (find key_cmp q es) None
  found_where es q = find-where_key key_cmp p q (alike q) es

all_pass : (os : List OfferEntry) → filter (λ o. true) os ≡ os
all_pass [] = refl
all_pass (o ∷ os) = ap (λ l. o ∷ l) (all_pass os)

cond_turned : (t : Bool) (x : Option LedgerEntry) → cond t None x ≡ cond (not t) x None
cond_turned true x = refl
cond_turned false x = refl

-- an offer under another key
abbrev pub is_elsewhere : LedgerKey → OfferEntry → Bool
is_elsewhere k o = not (eq_by_cmp key_cmp (offer_key o) k)

-- what is under the keys of offers is as before, but for one of them, which is gone
abbrev pub IsGone : LedgerKey → (old new : EntryMap) → Type 0
IsGone k old new = (s : AccountId) (i : ℤ)
    → get new (key.Offer s i) ≡ cond (eq_by_cmp key_cmp (key.Offer s i) k) None (get old (key.Offer s i))

-- one of them is another entry
abbrev pub IsReplaced : LedgerKey → LedgerEntry → (old new : EntryMap) → Type 0
IsReplaced k e old new = (s : AccountId) (i : ℤ)
    → get new (key.Offer s i) ≡ cond (eq_by_cmp key_cmp (key.Offer s i) k) (Some e) (get old (key.Offer s i))

module _ (k : LedgerKey) (old new : EntryMap) (keyed : IsKeyed old) (also : IsKeyed new) (gone : IsGone k old new) where
  abbrev still : LedgerKey → Bool
  still q = is_of_offer q && not (eq_by_cmp key_cmp q k)

  same_at : (q : LedgerKey)
      → cond (is_of_offer q) (find key_cmp q (entries new)) None ≡ cond (still q) (find key_cmp q (entries old)) None
  same_at (key.Offer s i) =
      let q = key.Offer s i in
      sym (get-entries new q) ∙ gone s i ∙ cond_turned (eq_by_cmp key_cmp q k) (get old q)
      ∙ ap (λ x. cond (still q) x None) (get-entries old q)
  same_at (key.Account a) = refl
  same_at (key.TrustLine a x) = refl
  same_at (key.Data a x) = refl
  same_at (key.ClaimableBalance b) = refl
  same_at (key.LiquidityPool b) = refl

  same_pairs : where_key key_cmp is_of_offer (entries new) ≡ where_key key_cmp still (entries old)
  same_pairs = same_entries key_cmp keys_total keys_exact (where_key key_cmp is_of_offer (entries new))
      (where_key key_cmp still (entries old))
      (is_sorted-where_key key_cmp is_of_offer (entries new) (entries_sorted new))
      (is_sorted-where_key key_cmp still (entries old) (entries_sorted old))
      (λ q. found_where is_of_offer (entries new) q ∙ same_at q ∙ sym (found_where still (entries old) q))

  -- all other offers are left, in their order
  pub offers_left : offers_of new ≡ filter (is_elsewhere k) (offers_of old)
  offers_left =
      sym (all_pass (offers_of new)) ∙ sym (listed_where is_of_offer (entries new) (all_own new also))
      ∙ ap listed same_pairs ∙ listed_where still (entries old) (all_own old keyed)

-- ---- without what is under the key

pub erased_gone : (k : LedgerKey) (m : EntryMap) → IsGone k m (erase m k)
erased_gone k m s i = erase_get m k (key.Offer s i)

none_of_both : (t : Bool) (x y : Option LedgerEntry) → cond t None (cond t x y) ≡ cond t None y
none_of_both true x y = refl
none_of_both false x y = refl

pub replaced_gone : (k : LedgerKey) (e : LedgerEntry) (old new : EntryMap) → IsReplaced k e old new
    → IsGone k old (erase new k)
replaced_gone k e old new replaced s i =
    let q = key.Offer s i in
    erase_get new k q ∙ ap (λ x. cond (eq_by_cmp key_cmp q k) None x) (replaced s i)
    ∙ none_of_both (eq_by_cmp key_cmp q k) (Some e) (get old q)

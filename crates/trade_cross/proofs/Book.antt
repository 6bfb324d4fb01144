-- The offer at the head of a book exists.
use Rattle.trade_cross.proofs.Prelude as prelude
use prelude.{◌≡◌, refl, sym, ap, subst, ◌∙◌, true, T, All, List, [], ◌∷◌, Some, All-nil, All-cons, All-head, All-tail}
use prelude.{All-weaker, All-filter, filter_passes, filter, cons_option, map, get, entries, entries_sorted, get-entries}
use prelude.{Asset, OfferEntry, LedgerEntry, LedgerEntryBody, LedgerKey, key_of_body, key_cmp, EntryMap, offer_in}
use prelude.{offers_in, offers_of, is_of_pair, ranked, book_in, head, offer_at, book, best, IsKeyed}
use Rattle.std.specs.FinMap.Entries.{find, is_sorted}
use Rattle.ledger_types.specs.declared.entry.LedgerEntryBody.TheVariants as body
use Rattle.entry_map.specs.Book.{offer_of}
use Rattle.entry_map.proofs.Ranked.{all_ranked}
use Rattle.legal_rules.proofs.entry_sums_proofs.Lists.{found_later}
use Rattle.entry_map.proofs.Aggregates.{found_first}
use Rattle.ledger_types.proofs.Booleans.{first_true, second_true}

-- ---- entries

each_found : (es : List (LedgerKey × LedgerEntry)) → T (is_sorted key_cmp es)
    → All (λ p. find key_cmp p.0 es ≡ Some p.1) es
each_found [] sorted = All-nil (λ p. find key_cmp p.0 [] ≡ Some p.1)
each_found (e ∷ es) sorted = All-cons (λ p. find key_cmp p.0 (e ∷ es) ≡ Some p.1) e es (found_first e es)
    (All-weaker (λ p. find key_cmp p.0 es ≡ Some p.1) (λ p. find key_cmp p.0 (e ∷ es) ≡ Some p.1)
    (λ p there. found_later e es p.0 p.1 (first_true _ _ sorted) there) es
    (each_found es (second_true _ _ sorted)))

entries_exist : (m : EntryMap) → All (λ p. get m p.0 ≡ Some p.1) (entries m)
entries_exist m = All-weaker (λ p. find key_cmp p.0 (entries m) ≡ Some p.1) (λ p. get m p.0 ≡ Some p.1)
    (λ p there. get-entries m p.0 ∙ there) (entries m) (each_found (entries m) (entries_sorted m))

-- ---- offers

-- an offer of the pair that exists
pub record IsInBook (m : EntryMap) (selling buying : Asset) (o : OfferEntry) : Type 0 where
  pub exists : offer_at m o.seller_id o.offer_id ≡ Some o
  pub pair : is_of_pair selling buying o ≡ true

abbrev pub IsThere : EntryMap → (LedgerKey × LedgerEntry) → Type 0
IsThere m p = get m p.0 ≡ Some p.1

module _ (m : EntryMap) (P : OfferEntry → Type 0)
    (holds : (k : LedgerKey) (e : LedgerEntry) (o : OfferEntry) → get m k ≡ Some e → e.body ≡ body.Offer o → P o) where
  by_body : (k : LedgerKey) (e : LedgerEntry) (b : LedgerEntryBody) (others : List OfferEntry) → get m k ≡ Some e
      → e.body ≡ b → All P others → All P (cons_option (offer_in b) others)
  by_body k e (body.Offer o) others there is all = All-cons P o others (holds k e o there is) all
  by_body k e other others there is all = all

  each_in : (es : List (LedgerKey × LedgerEntry)) → All (IsThere m) es → All P (offers_in (map (λ p. p.1) es))
  each_in [] all = All-nil P
  each_in (e ∷ es) all = by_body e.0 e.1 e.1.body (offers_in (map (λ p. p.1) es)) (All-head (IsThere m) e es all) refl
      (each_in es (All-tail (IsThere m) e es all))

  -- what holds of each offer that exists
  pub each_offer : All P (offers_of m)
  each_offer = each_in (entries m) (entries_exist m)

module _ (m : EntryMap) (keyed : IsKeyed m) (selling buying : Asset) where
  abbrev Exists : OfferEntry → Type 0
  Exists o = offer_at m o.seller_id o.offer_id ≡ Some o

  abbrev IsOffer : OfferEntry → Type 0
  IsOffer o = IsInBook m selling buying o

  its_offer : (k : LedgerKey) (e : LedgerEntry) (o : OfferEntry) → get m k ≡ Some e → e.body ≡ body.Offer o → Exists o
  unfolding offer_at
  its_offer k e o there is =
      ap (λ q. offer_of (get m q)) (sym (ap key_of_body is) ∙ keyed k e there) ∙ ap offer_of there ∙ ap offer_in is

  both : (os : List OfferEntry) → All Exists os → All (λ o. is_of_pair selling buying o ≡ true) os → All IsOffer os
  both [] exist pair = All-nil IsOffer
  both (o ∷ os) exist pair = All-cons IsOffer o os
      (record {
        exists = All-head Exists o os exist;
        pair = All-head (λ o. is_of_pair selling buying o ≡ true) o os pair;
      }) (both os (All-tail Exists o os exist) (All-tail (λ o. is_of_pair selling buying o ≡ true) o os pair))

  head_is_there : (os : List OfferEntry) (o : OfferEntry) → All IsOffer os → head os ≡ Some o → IsOffer o
  head_is_there [] o all is = absurd (cc)
  head_is_there (first ∷ others) o all is = let same : first ≡ o =
      cc in subst IsOffer same (All-head IsOffer first others all)

  -- The best offer exists.
  pub best_exists : (o : OfferEntry) → best m selling buying ≡ Some o → IsOffer o
  unfolding best book book_in
  best_exists o is =
      let of_pair = filter (is_of_pair selling buying) (offers_of m) in
      head_is_there (ranked of_pair) o (all_ranked IsOffer of_pair (both of_pair
      (All-filter (is_of_pair selling buying) Exists (offers_of m) (each_offer m Exists its_offer))
      (filter_passes (is_of_pair selling buying) (offers_of m)))) is

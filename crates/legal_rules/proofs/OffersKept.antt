-- Offers that are added and changed, with what they bind.
use Rattle.legal_rules.proofs.Prelude as prelude
use prelude.{◌≡◌, ◌≢◌, refl, sym, ap, subst, ◌∙◌, ℕ, ◌+◌, Bool, true, false, Option, Some, None, arith, ints, ℤ, pos}
use prelude.{neg_ℤ, ◌+ℤ◌, ◌-ℤ◌, ◌≤ℤ◌, if◌then◌else◌, is_eq, int_cmp, get, AccountId, OfferEntry, LedgerHeader}
use prelude.{LedgerEntry, LedgerEntryBody, LedgerKey, key_of_body, EntryMap, sponsor_of, offer_at, with_offer, total}
use prelude.{EachEntry, total_none, bound_of, is_key, for_key, for_account, sponsored_in_entry, holder, sells, buys}
use prelude.{Kind, Subentries, Sponsoring, Sponsored, Selling, Buying, View, counted, offer_with, offer_with_in}
use prelude.{IsBodyInRange, IsHeaderInRange, binding, acquiring, bound_account, CanBind, CanBindBoth, trade_aggregates}
use prelude.{LiabilitiesAcquired, OfferChanged, new_offer, with_next_id, NewOffersKeep, IsIdLeft, view, pools_in}
use prelude.{weight, weighed, Owed, nothing_owed, plus, less, beside_reserves, IsEntryLegal, IsLegalOwing, add_assoc_to}
use prelude.{add_to_zero_at_most_one, add_zero, int_cmp_equal, sub_if_zeros, offer_kind, put, IsEntryOf, offers_exact}
use prelude.{offer_found, entry_found, with_found}
use Rattle.hash_ids.specs.ledger_types.declared.entry.LedgerEntryBody.TheVariants as body
use Rattle.hash_ids.specs.ledger_types.declared.key.LedgerKey.TheVariants as key
use Rattle.legal_rules.proofs.Kept.{subentry_added_so}
use Rattle.legal_rules.proofs.Legality.{owing_nothing, legal_of}
use Rattle.legal_rules.proofs.Liable.{unbound, bound_step, line_entry, bound_line_legal}
use Rattle.legal_rules.proofs.Steps.{replace_legal, legal_as, stepped, same_id_at}

-- ---- ids

too_late : (x id : ℤ) (n : ℕ) → x ≡ id → x ≤ℤ pos n → pos (n + 1) ≤ℤ id → ⊥
too_late x id n same high later = omega (arith, ints)

-- no offer in range has an id past the last one
no_later : (n : ℕ) (id : ℤ) (b : LedgerEntryBody) → IsBodyInRange n b → pos (n + 1) ≤ℤ id → offer_with_in id b ≡ pos 0
no_later n id (body.Offer o) range later = elim (is_eq (int_cmp o.offer_id id)) as
    (λ t. is_eq (int_cmp o.offer_id id) ≡ t → (if t then pos 1 else pos 0) ≡ pos 0) [
      | true ↦ λ h. absurd (too_late o.offer_id id n (int_cmp_equal _ _ h) range.id_high later)
      | false ↦ λ h. refl
    ] refl
no_later n id other range later = refl

other_with : (sum one : ℤ) → sum ≤ℤ pos 1 → one ≡ pos 0 → (sum +ℤ one) ≤ℤ pos 1
other_with sum one le none = omega (arith, ints)

at_last : (x id : ℤ) (n : ℕ) → x ≡ id → x ≡ pos (n + 1) → pos (n + 1) ≤ℤ id
at_last x id n same last = omega (arith, ints)

next_apart : (n : ℕ) (seq : ℕ) (offer : OfferEntry) → offer.offer_id ≡ pos (n + 1) → (m : EntryMap)
    → EachEntry (λ k x. IsEntryLegal n x) m → ((id : ℤ) → total (offer_with id) m ≤ℤ pos 1)
    → (id : ℤ) → (total (offer_with id) m +ℤ offer_with id (new_offer seq offer)) ≤ℤ pos 1
next_apart n seq offer is m entries few id = elim (is_eq (int_cmp offer.offer_id id)) as
    (λ t. is_eq (int_cmp offer.offer_id id) ≡ t → (total (offer_with id) m +ℤ (if t then pos 1 else pos 0)) ≤ℤ pos 1) [
      | true ↦ λ h. add_to_zero_at_most_one _ (pos 1) (total_none (offer_with id) m (λ k e there.
          no_later n id e.body (entries k e there).range.body (at_last offer.offer_id id n (int_cmp_equal _ _ h) is)))
          (omega (arith, ints))
      | false ↦ λ h. other_with _ (pos 0) (few id) refl
    ] refl

-- ---- what is bound

-- what aggregates owe once what an offer binds in a holder is bound
abbrev pub unbound_if : Option LedgerKey → (selling buying : ℤ) → Owed
unbound_if None selling buying = nothing_owed
unbound_if (Some k) selling buying = unbound k selling buying

pub binding_legal : (v : View) (id_pool : ℕ) (owed : Owed) (sum : ℤ) (m : EntryMap) (o : Option LedgerKey)
    (selling buying : ℤ) → IsLegalOwing v id_pool owed sum m → CanBind m o selling buying
    → IsLegalOwing v id_pool (plus owed (unbound_if o selling buying)) sum (binding o selling buying m)
binding_legal v id_pool owed sum m None selling buying legal can =
    legal_as v (IsEntryLegal id_pool) owed _ sum sum m legal (λ kind k. sym (add_zero (owed kind k))) refl
binding_legal v id_pool owed sum m (Some (key.Account id)) selling buying legal can =
    legal_as v (IsEntryLegal id_pool) _ _ sum sum _
    (stepped v (IsEntryLegal id_pool) owed _ sum m id (bound_account selling buying) can.0 legal can.1
    (bound_step selling buying can.0 id_pool can.2))
    (λ kind k i. owed kind k +ℤ unbound (key.Account (same_id_at m id can.0 legal.keyed can.1 i)) selling buying kind k)
    refl
binding_legal v id_pool owed sum m (Some (key.TrustLine id x)) selling buying legal can =
    let found = line_entry m id x can.0 can.1 in
    bound_line_legal v id_pool owed sum m id x selling buying can.0 legal can.1 can.2 can.3
    (sym (ap key_of_body found.1.is) ∙ legal.keyed (key.TrustLine id x) found.0 found.1.there)
binding_legal v id_pool owed sum m (Some other) selling buying legal can = absurd can

-- what aggregates owe once wheat is bound for sale, and sheep for purchase
abbrev pub traded : OfferEntry → (wheat sheep : ℤ) → Owed
traded o wheat sheep Selling k = neg_ℤ (for_key k (holder o.seller_id o.selling) wheat)
traded o wheat sheep Buying k = neg_ℤ (for_key k (holder o.seller_id o.buying) sheep)
traded o wheat sheep kind k = pos 0

first_only : (a b x : ℤ) → a ≡ x → b ≡ pos 0 → (a +ℤ b) ≡ x
first_only a b x is none = omega (arith, ints)

second_only : (a b x : ℤ) → a ≡ pos 0 → b ≡ x → (a +ℤ b) ≡ x
second_only a b x none is = omega (arith, ints)

sold : (o : Option LedgerKey) (k : LedgerKey) (n : ℤ) → unbound_if o n (pos 0) Selling k ≡ neg_ℤ (for_key k o n)
sold None k n = refl
sold (Some q) k n = elim (is_key q k) as
    (λ t. ((if t then neg_ℤ n else pos 0) +ℤ pos 0) ≡ neg_ℤ (if t then n else pos 0))
    [ true ↦ omega (arith, ints) | false ↦ refl ]

bought : (o : Option LedgerKey) (k : LedgerKey) (n : ℤ) → unbound_if o (pos 0) n Buying k ≡ neg_ℤ (for_key k o n)
bought None k n = refl
bought (Some q) k n = elim (is_key q k) as
    (λ t. (pos 0 +ℤ (if t then neg_ℤ n else pos 0)) ≡ neg_ℤ (if t then n else pos 0))
    [ true ↦ omega (arith, ints) | false ↦ refl ]

nothing_sold : (o : Option LedgerKey) (k : LedgerKey) (n : ℤ) → unbound_if o (pos 0) n Selling k ≡ pos 0
nothing_sold None k n = refl
nothing_sold (Some q) k n = elim (is_key q k) as
    (λ t. ◌≡◌ {A = ℤ} ((if t then pos 0 else pos 0) +ℤ pos 0) (pos 0)) [ true ↦ refl | false ↦ refl ]

pub nothing_bought : (o : Option LedgerKey) (k : LedgerKey) (n : ℤ) → unbound_if o n (pos 0) Buying k ≡ pos 0
nothing_bought None k n = refl
nothing_bought (Some q) k n = elim (is_key q k) as
    (λ t. ◌≡◌ {A = ℤ} (pos 0 +ℤ (if t then pos 0 else pos 0)) (pos 0)) [ true ↦ refl | false ↦ refl ]

-- the aggregates of no trade
abbrev beside_trade : Owed → Owed
beside_trade owed Selling k = pos 0
beside_trade owed Buying k = pos 0
beside_trade owed kind k = owed kind k

unbound_elsewhere : (o : Option LedgerKey) (selling buying : ℤ) (kind : Kind) (k : LedgerKey)
    → beside_trade (unbound_if o selling buying) kind k ≡ pos 0
unbound_elsewhere None selling buying Selling k = refl
unbound_elsewhere None selling buying kind k = refl
unbound_elsewhere (Some q) selling buying Selling k = refl
unbound_elsewhere (Some q) selling buying kind k = refl

both_bound : (o : OfferEntry) (wheat sheep : ℤ) (kind : Kind) (k : LedgerKey)
    → plus (unbound_if (holder o.seller_id o.selling) wheat (pos 0))
    (unbound_if (holder o.seller_id o.buying) (pos 0) sheep) kind k ≡ traded o wheat sheep kind k
both_bound o wheat sheep Selling k = first_only _ _ _ (sold (holder o.seller_id o.selling) k wheat)
    (nothing_sold (holder o.seller_id o.buying) k sheep)
both_bound o wheat sheep Buying k = second_only _ _ _ (nothing_bought (holder o.seller_id o.selling) k wheat)
    (bought (holder o.seller_id o.buying) k sheep)
both_bound o wheat sheep kind k = first_only _ _ _
    (unbound_elsewhere (holder o.seller_id o.selling) wheat (pos 0) kind k)
    (unbound_elsewhere (holder o.seller_id o.buying) (pos 0) sheep kind k)

pub trading_legal : (v : View) (id_pool : ℕ) (owed : Owed) (sum : ℤ) (m : EntryMap) (o : OfferEntry) (wheat sheep : ℤ)
    → IsLegalOwing v id_pool owed sum m → CanBindBoth o wheat sheep m
    → IsLegalOwing v id_pool (plus owed (traded o wheat sheep)) sum
    (binding (holder o.seller_id o.buying) (pos 0) sheep (binding (holder o.seller_id o.selling) wheat (pos 0) m))
trading_legal v id_pool owed sum m o wheat sheep legal can = legal_as v (IsEntryLegal id_pool) _ _ _ _ _
    (binding_legal v id_pool _ _ _ (holder o.seller_id o.buying) (pos 0) sheep
    (binding_legal v id_pool owed sum m (holder o.seller_id o.selling) wheat (pos 0) legal can.0) can.1)
    (λ kind k. add_assoc_to (owed kind k) (unbound_if (holder o.seller_id o.selling) wheat (pos 0) kind k)
    (unbound_if (holder o.seller_id o.buying) (pos 0) sheep kind k) _ (both_bound o wheat sheep kind k)) refl

acquired : (o : OfferEntry) (kind : Kind) (k : LedgerKey)
    → traded o (pos (bound_of o).wheat) (pos (bound_of o).sheep) kind k ≡ less (trade_aggregates o) kind k
acquired o Selling k = refl
acquired o kind k = refl

pub acquiring_legal : LiabilitiesAcquired
acquiring_legal v id_pool owed sum o m legal can = legal_as v (IsEntryLegal id_pool) _ _ _ _ _
    (trading_legal v id_pool owed sum m o _ _ legal can) (λ kind k. ap (λ n. owed kind k +ℤ n) (acquired o kind k)) refl

-- ---- an offer that is added

offer_aggregates : (v : View) (seq : ℕ) (o : OfferEntry) (kind : Kind) (k : LedgerKey)
    → beside_reserves (weighed v (new_offer seq o)) kind k ≡ trade_aggregates o kind k
offer_aggregates v seq o Subentries k = refl
offer_aggregates v seq o Sponsoring k = refl
offer_aggregates v seq o Sponsored k = refl
offer_aggregates v seq o kind k = sub_if_zeros (is_key (key_of_body (body.Offer o)) k) _

cancels : (w c : ℤ) → w ≡ c → ((pos 0 +ℤ w) +ℤ neg_ℤ c) ≡ pos 0
cancels w c is = omega (arith, ints)

next_header : (h : LedgerHeader) → IsHeaderInRange h → IsIdLeft h → IsHeaderInRange (with_next_id h)
next_header h r left = record {
  version = r.version;
  seq_low = r.seq_low;
  seq_high = r.seq_high;
  base_fee = r.base_fee;
  base_reserve = r.base_reserve;
  total_coins = r.total_coins;
  fee_pool = r.fee_pool;
  id_pool = left;
  flags = r.flags;
}

pub new_offers_keep : NewOffersKeep
new_offers_keep h ctx seq offer old m legal last range left free owner ready is can =
    let v = view old in
    let next = h.id_pool + 1 in
    let coins = h.total_coins -ℤ h.fee_pool in
    let start = owing_nothing h old legal in
    let added = subentry_added_so v h.id_pool next nothing_owed coins ctx offer.seller_id 1 (new_offer seq offer) old m
    start refl (record {
      free = free;
      unsponsored = refl;
      id_free = next_apart h.id_pool seq offer last old start.entries legal.offers;
    }) (omega arith) (record {
      range = record { body = range; paid = λ some. absurd (some refl) };
      bound = tt;
      few = tt;
      fits = tt;
      filled = tt;
    }) owner ready is in
    legal_of (with_next_id h) (pools_in old) (acquiring offer m) (next_header h legal.header left)
    (legal_as v (IsEntryLegal next) _ nothing_owed _ coins (acquiring offer m)
    (acquiring_legal v next _ _ offer m added can) (λ kind k. cancels _ _ (offer_aggregates v seq offer kind k))
    (add_zero coins))

-- ---- an offer that is changed

abbrev pub IsOfferEntry : EntryMap → AccountId → ℤ → OfferEntry → LedgerEntry → Type 0
IsOfferEntry m seller id o e = IsEntryOf offer_kind m (key.Offer seller id) o e

pub offer_entry : (m : EntryMap) (seller : AccountId) (id : ℤ) (o : OfferEntry) → offer_at m seller id ≡ Some o
    → (e : LedgerEntry) × IsOfferEntry m seller id o e
unfolding offer_at
offer_entry m seller id o h =
    entry_found offers_exact m (key.Offer seller id) o (sym (offer_found (get m (key.Offer seller id))) ∙ h)

moved_so : (t u : Bool) (x y c d : ℤ) → x ≡ (y +ℤ (neg_ℤ c +ℤ d))
    → (x -ℤ (if t then pos 0 else pos 0)) ≡ ((y -ℤ (if u then pos 0 else pos 0)) +ℤ (neg_ℤ c +ℤ d))
moved_so true true x y c d is = omega (arith, ints)
moved_so true false x y c d is = omega (arith, ints)
moved_so false true x y c d is = omega (arith, ints)
moved_so false false x y c d is = omega (arith, ints)

same_plus_zeros : (x y : ℤ) → x ≡ y → x ≡ (y +ℤ (pos 0 +ℤ pos 0))
same_plus_zeros x y is = omega (arith, ints)

in_place : (c d : ℤ) → d ≡ (c +ℤ (neg_ℤ c +ℤ d))
in_place c d = omega (arith, ints)

abbrev pub with_offer_body : LedgerEntry → OfferEntry → LedgerEntry
with_offer_body e o = record e { body = body.Offer o }

module _ (v : View) (e : LedgerEntry) (old new : OfferEntry) (same : new.seller_id ≡ old.seller_id) where
  abbrev at_old : LedgerKey → Bool
  at_old k = is_key (key_of_body (body.Offer old)) k

  abbrev at_new : LedgerKey → Bool
  at_new k = is_key (key_of_body (body.Offer new)) k

  offer_moves : (kind : Kind) (k : LedgerKey) → weight v kind k (with_offer_body e new)
      ≡ (weight v kind k (with_offer_body e old) +ℤ plus (less (trade_aggregates old)) (trade_aggregates new) kind k)
  offer_moves Subentries k = moved_so (at_new k) (at_old k) (for_account k (Some new.seller_id) 1)
      (for_account k (Some old.seller_id) 1) (pos 0) (pos 0)
      (same_plus_zeros _ _ (λ i. for_account k (Some (same i)) 1))
  offer_moves Sponsored k = moved_so (at_new k) (at_old k)
      (for_account k (Some new.seller_id) (sponsored_in_entry (with_offer_body e new)))
      (for_account k (Some old.seller_id) (sponsored_in_entry (with_offer_body e old))) (pos 0) (pos 0)
      (same_plus_zeros _ _ (λ i. for_account k (Some (same i)) (sponsored_in_entry (with_offer_body e old))))
  offer_moves Sponsoring k = moved_so (at_new k) (at_old k) (counted v Sponsoring k (with_offer_body e new))
      (counted v Sponsoring k (with_offer_body e old)) (pos 0) (pos 0) (same_plus_zeros _ _ refl)
  offer_moves Selling k = moved_so (at_new k) (at_old k) (sells k (body.Offer new)) (sells k (body.Offer old))
      (sells k (body.Offer old)) (sells k (body.Offer new))
      (in_place (sells k (body.Offer old)) (sells k (body.Offer new)))
  offer_moves Buying k = moved_so (at_new k) (at_old k) (buys k (body.Offer new)) (buys k (body.Offer old))
      (buys k (body.Offer old)) (buys k (body.Offer new)) (in_place (buys k (body.Offer old)) (buys k (body.Offer new)))
  offer_moves kind k = moved_so (at_new k) (at_old k) (pos 0) (pos 0) (pos 0) (pos 0) refl

pub with_offer_is : (m : EntryMap) (seller : AccountId) (id : ℤ) (f : OfferEntry → OfferEntry) (o : OfferEntry)
    (e : LedgerEntry) → IsOfferEntry m seller id o e
    → with_offer m seller id f ≡ put m (with_offer_body e (f o))
unfolding with_offer
with_offer_is m seller id f o e here = with_found offers_exact m (key.Offer seller id) f o e here

pub offer_changed : OfferChanged
offer_changed v id_pool owed sum old new m legal exists seller id range =
    let found = offer_entry m old.seller_id old.offer_id old exists in
    let e0 = with_offer_body found.0 old in
    let e1 = with_offer_body found.0 new in
    let k = key.Offer old.seller_id old.offer_id in
    let there0 : get m k ≡ Some e0 = found.1.there ∙ ap Some (λ i. record found.0 { body = found.1.is i }) in
    let was = legal.entries k e0 there0 in
    subst (IsLegalOwing v id_pool (plus owed (plus (less (trade_aggregates old)) (trade_aggregates new))) sum)
    (sym (with_offer_is m old.seller_id old.offer_id (λ o. new) old found.0 found.1))
    (legal_as v (IsEntryLegal id_pool) _ _ _ sum _
    (replace_legal v (IsEntryLegal id_pool) owed
    (plus (less (trade_aggregates old)) (trade_aggregates new)) sum m k e0 e1
    there0 legal
    (record {
      own = λ i. key.Offer (seller i) (id i);
      params = refl;
      offers = λ n. ap (λ x. if is_eq (int_cmp x n) then pos 1 else pos 0) id;
      aggregates = offer_moves v found.0 old new seller;
    })
    (record {
      range = record {
        body = range;
        paid = subst (λ x. sponsor_of found.0 ≢ None → sponsor_of found.0 ≢ Some x) (sym seller) was.range.paid;
      };
      bound = tt;
      few = tt;
      fits = tt;
      filled = tt;
    }))
    (λ kind q. refl) (add_zero sum))

-- An old offer that is out of the book is counted and doesn't exist.
use Rattle.op_offers.proofs.Prelude as prelude
use prelude.{◌≡◌, refl, sym, ap, ◌∙◌, ◌+◌, Bool, true, false, Option, Some, None, arith, ints, ℤ, pos, neg_ℤ, ◌+ℤ◌}
use prelude.{◌-ℤ◌, ◌≤ℤ◌, if◌then◌else◌, is_eq, int_cmp, get, AccountId, OfferEntry, LedgerEntry, LedgerEntryBody}
use prelude.{LedgerKey, key_of_body, EntryMap, erase, sponsor_of, line_of, line_at, offer_of, offer_at, total, part}
use prelude.{part_at_most, total_erase, is_there, is_key, for_account, holder, releasing, Kind, Subentries, Sponsoring}
use prelude.{Sponsored, View, offer_with, offer_with_in, trade_aggregates, nothing_owed, plus, less, weighed}
use prelude.{IsEntryLegal, nothing_right, with_offer_body, erase_legal, still_there, legal_as, offer_key}
use prelude.{map_without_offer, IsHeld, one_more, OldOffersOut, erase_beside, IsKeyed, release_open, erase_elsewhere}
use prelude.{left_over, int_cmp_same, add-zero, offer_with_in_nonnegative}
use Rattle.ledger_types.specs.declared.entry.LedgerEntryBody.TheVariants as body
use Rattle.ledger_types.specs.declared.key.LedgerKey.TheVariants as key

-- ---- what is owed

owes_own : (x y : ℤ) (t : Bool) → y ≡ x → ((pos 0 +ℤ pos 0) +ℤ neg_ℤ (y -ℤ (if t then pos 0 else pos 0))) ≡ neg_ℤ x
owes_own x y true is = omega (arith, ints)
owes_own x y false is = omega (arith, ints)

owes_payer : (x : ℤ) (t : Bool)
    → ((pos 0 +ℤ pos 0) +ℤ neg_ℤ ((x +ℤ pos 0) -ℤ (if t then pos 0 else pos 0))) ≡ neg_ℤ x
owes_payer x true = omega (arith, ints)
owes_payer x false = omega (arith, ints)

owes_none : (x : ℤ) (t : Bool) → ((pos 0 +ℤ x) +ℤ neg_ℤ (x -ℤ (if t then pos 0 else pos 0))) ≡ pos 0
owes_none x true = omega (arith, ints)
owes_none x false = omega (arith, ints)

owes_one : (v : View) (e : LedgerEntry) (o : OfferEntry) (kind : Kind) (k : LedgerKey)
    → plus (plus nothing_owed (trade_aggregates o)) (less (weighed v (with_offer_body e o))) kind k
    ≡ one_more o.seller_id (sponsor_of e) kind k
owes_one v e o Subentries k = owes_own (for_account k (Some o.seller_id) 1) (for_account k (Some o.seller_id) 1)
    (is_key (key_of_body (body.Offer o)) k) refl
owes_one v e o Sponsored k =
    owes_own (for_account k (Some o.seller_id) (if is_there (sponsor_of e) then 1 else 0))
    (for_account k (Some o.seller_id) ((if is_there (sponsor_of e) then 1 else 0) + 0))
    (is_key (key_of_body (body.Offer o)) k)
    (ap (λ n. for_account k (Some o.seller_id) n) (add-zero (if is_there (sponsor_of e) then 1 else 0)))
owes_one v e o Sponsoring k = owes_payer (for_account k (sponsor_of e) 1) (is_key (key_of_body (body.Offer o)) k)
owes_one v e o kind k = owes_none (trade_aggregates o kind k) (is_key (key_of_body (body.Offer o)) k)

-- ---- ids

too_many : (rest one all : ℤ) → (rest +ℤ one) ≡ all → all ≤ℤ pos 1 → pos 1 ≤ℤ one → pos 1 ≤ℤ rest → ⊥
too_many rest one all is most some more = omega (arith, ints)

one_if : (t : Bool) → t ≡ true → pos 1 ≤ℤ (if t then pos 1 else pos 0)
one_if true is = omega (arith, ints)
one_if false is = absurd (cc)

counts_itself : (id : ℤ) (seller : AccountId) (b : LedgerEntryBody) → key_of_body b ≡ key.Offer seller id
    → pos 1 ≤ℤ offer_with_in id b
counts_itself id seller (body.Offer o) own =
    one_if (is_eq (int_cmp o.offer_id id)) (ap (λ i. is_eq (int_cmp i id)) (ids own) ∙ int_cmp_same id)
  where
    ids : {i j : ℤ} {p q : AccountId} → key.Offer p i ≡ key.Offer q j → i ≡ j
    ids same = cc
counts_itself id seller other own = absurd (cc)

module _ (m : EntryMap) (keyed : IsKeyed m) (apart : (id : ℤ) → total (offer_with id) m ≤ℤ pos 1) (o : OfferEntry)
    (e : LedgerEntry) (there : get m (offer_key o) ≡ Some (with_offer_body e o)) where
  no_other : (seller : AccountId) (x : Option LedgerEntry) → get (erase m (offer_key o))
      (key.Offer seller o.offer_id) ≡ x
      → x ≡ None
  no_other seller None is = refl
  no_other seller (Some other) is =
      let left = left_over m (offer_key o) (key.Offer seller o.offer_id) other is in
      absurd (too_many (total (offer_with o.offer_id) (erase m (offer_key o)))
      (offer_with o.offer_id (with_offer_body e o)) (total (offer_with o.offer_id) m)
      (ap (λ y. total (offer_with o.offer_id) (erase m (offer_key o)) +ℤ part (offer_with o.offer_id) y) (sym there)
      ∙ total_erase (offer_with o.offer_id) m (offer_key o)) (apart o.offer_id)
      (counts_itself o.offer_id o.seller_id (body.Offer o) refl)
      (most (counts_itself o.offer_id seller other.body (keyed (key.Offer seller o.offer_id) other left.1))
      (part_at_most (offer_with o.offer_id) (erase m (offer_key o)) (key.Offer seller o.offer_id) other
      (λ k y at. offer_with_in_nonnegative o.offer_id y.body) is)))
    where
      most : {x y : ℤ} → pos 1 ≤ℤ x → x ≤ℤ y → pos 1 ≤ℤ y
      most le also = omega (arith, ints)

-- ---- what is held

pub erased_held : (m : EntryMap) (o : OfferEntry) (k : Option LedgerKey) → IsHeld m k → IsHeld (erase m (offer_key o)) k
unfolding line_at
erased_held m o None held = tt
erased_held m o (Some (key.Account x)) held =
    (held.0, erase_beside m (offer_key o) x (λ same. absurd (cc)) ∙ held.1)
erased_held m o (Some (key.TrustLine x y)) held = (held.0, line_kept ∙ held.1, held.2)
  where
    line_kept : line_at (erase m (offer_key o)) x y ≡ line_at m x y
    line_kept = ap line_of (erase_elsewhere m (offer_key o) (key.TrustLine x y) (λ same. absurd (cc)))
erased_held m o (Some other) held = absurd held

pub old_offers_out : OldOffersOut
unfolding offer_at
old_offers_out v id_pool sum old e m legal there is =
    let e1 = with_offer_body e old in
    let there1 : get m (offer_key old) ≡ Some e1 = there ∙ ap Some (λ i. record e { body = is i }) in
    let exists : offer_at m old.seller_id old.offer_id ≡ Some old = ap offer_of there1 in
    let r = releasing old m in
    let out = release_open v id_pool 0 nothing_owed nothing_right old sum m legal exists in
    let at = still_there v id_pool nothing_owed sum old m legal nothing_right.trades e there1 in (
      legal_as v (IsEntryLegal id_pool) _ (one_more old.seller_id (sponsor_of e)) _ sum (map_without_offer old m)
          (erase_legal v (IsEntryLegal id_pool) (plus nothing_owed (trade_aggregates old)) sum r out.legal
          (offer_key old) e1 at
          (λ id same. absurd (cc)))
          (λ kind k. owes_one v e old kind k) (nothing_off sum),
      erased_held r old (holder old.seller_id old.selling) out.gives,
      erased_held r old (holder old.seller_id old.buying) out.takes,
      λ seller. no_other r out.legal.keyed out.legal.offers old e at seller _ refl,
    )
  where
    nothing_off : (x : ℤ) → (x +ℤ neg_ℤ (pos 0)) ≡ x
    nothing_off x = omega (arith, ints)

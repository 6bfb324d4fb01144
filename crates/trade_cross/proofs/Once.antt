-- One offer that is crossed changes each of its owner's two holders once.
use Rattle.trade_cross.proofs.Prelude.{◌≡◌, ◌≢◌, refl, sym, ap, subst, ◌∙◌, ℕ, suc, Option, Some, arith, ints, ℤ, pos}
use Rattle.trade_cross.proofs.Prelude.{neg_ℤ, ◌+ℤ◌, ◌-ℤ◌, get, OfferEntry, LedgerEntry, LedgerKey, EntryMap, offer_of}
use Rattle.trade_cross.proofs.Prelude.{offer_at, with_offer, Amounts, acquiring, releasing, binding, IsKeyed, bound_of}
use Rattle.trade_cross.proofs.Prelude.{seller_gives_at, seller_takes_at, map_after_trade, with_amount, offer_key}
use Rattle.trade_cross.proofs.Prelude.{giving_change, taking_change, paying, changing, Change}
use Rattle.trade_cross.proofs.Altering.{altered_opt, AreApart, KeepsKeys, keeps_both, opt_keyed, opt_elsewhere}
use Rattle.trade_cross.proofs.Altering.{opt_both}
use Rattle.trade_cross.proofs.Altering.{opt_swapped, opt_as}
use Rattle.trade_cross.proofs.Extended.{IsExtended, entry_once, entry_twice}
use Rattle.trade_cross.proofs.Changing.{over, resized_body, bound_entry, paid_entry, changed_entry}
use Rattle.trade_cross.proofs.Changing.{bound_keeps, paid_keeps, changed_keeps, resized_keeps}
use Rattle.trade_cross.proofs.Changing.{bound_altered, paid_altered, changed_altered, resized_altered}
use Rattle.trade_cross.proofs.Passing.{IsOwnKey, holder_own}

-- ---- the trade

module _ (m : EntryMap) (keyed : IsKeyed m) (o : OfferEntry) (apart : AreApart (seller_gives_at o) (seller_takes_at o))
    (a : Amounts) where
  abbrev w : Option LedgerKey
  w = seller_gives_at o

  abbrev s : Option LedgerKey
  s = seller_takes_at o

  own_w : IsOwnKey o.seller_id w
  own_w = holder_own o.seller_id o.selling

  own_s : IsOwnKey o.seller_id s
  own_s = holder_own o.seller_id o.buying

  abbrev less_wheat : ℤ
  less_wheat = neg_ℤ (pos (bound_of o).wheat)

  abbrev less_sheep : ℤ
  less_sheep = neg_ℤ (pos (bound_of o).sheep)

  -- on the side that gives: released, and paid from
  abbrev pub gives_entry : LedgerEntry → LedgerEntry
  gives_entry e = paid_entry (neg_ℤ (pos a.wheat)) (bound_entry less_wheat (pos 0) e)

  abbrev pub takes_entry : LedgerEntry → LedgerEntry
  takes_entry e = paid_entry (pos a.sheep) (bound_entry (pos 0) less_sheep e)

  pub gives_keeps : KeepsKeys gives_entry
  gives_keeps = keeps_both (paid_entry (neg_ℤ (pos a.wheat))) (bound_entry less_wheat (pos 0))
      (paid_keeps (neg_ℤ (pos a.wheat))) (bound_keeps less_wheat (pos 0))

  pub takes_keeps : KeepsKeys takes_entry
  takes_keeps = keeps_both (paid_entry (pos a.sheep)) (bound_entry (pos 0) less_sheep) (paid_keeps (pos a.sheep))
      (bound_keeps (pos 0) less_sheep)

  abbrev unsold : EntryMap
  unsold = altered_opt w (bound_entry less_wheat (pos 0)) m

  unsold_keyed : IsKeyed unsold
  unsold_keyed = opt_keyed m keyed w (bound_entry less_wheat (pos 0)) (bound_keeps less_wheat (pos 0))

  abbrev released : EntryMap
  released = altered_opt s (bound_entry (pos 0) less_sheep) unsold

  released_keyed : IsKeyed released
  released_keyed = opt_keyed unsold unsold_keyed s (bound_entry (pos 0) less_sheep) (bound_keeps (pos 0) less_sheep)

  pub releasing_is : releasing o m ≡ released
  releasing_is =
      ap (binding s (pos 0) less_sheep) (bound_altered m keyed o.seller_id w own_w less_wheat (pos 0))
      ∙ bound_altered unsold unsold_keyed o.seller_id s own_s (pos 0) less_sheep

  abbrev given : EntryMap
  given = altered_opt w (paid_entry (neg_ℤ (pos a.wheat))) released

  given_keyed : IsKeyed given
  given_keyed = opt_keyed released released_keyed w (paid_entry (neg_ℤ (pos a.wheat)))
      (paid_keeps (neg_ℤ (pos a.wheat)))

  abbrev pub giver : EntryMap
  giver = altered_opt w gives_entry m

  pub giver_keyed : IsKeyed giver
  giver_keyed = opt_keyed m keyed w gives_entry gives_keeps

  given_is : given ≡ altered_opt s (bound_entry (pos 0) less_sheep) giver
  given_is =
      opt_swapped unsold unsold_keyed w s (paid_entry (neg_ℤ (pos a.wheat))) (bound_entry (pos 0) less_sheep)
      (paid_keeps (neg_ℤ (pos a.wheat))) (bound_keeps (pos 0) less_sheep) apart
      ∙ ap (altered_opt s (bound_entry (pos 0) less_sheep))
      (opt_both m keyed w (paid_entry (neg_ℤ (pos a.wheat))) (bound_entry less_wheat (pos 0))
      (paid_keeps (neg_ℤ (pos a.wheat))) (bound_keeps less_wheat (pos 0)))

  abbrev pub traded : EntryMap
  traded = altered_opt s takes_entry giver

  pub traded_keyed : IsKeyed traded
  traded_keyed = opt_keyed giver giver_keyed s takes_entry takes_keeps

  -- the trade after the release, holder by holder
  pub trade_is : map_after_trade o a (releasing o m) ≡ traded
  trade_is =
      ap (map_after_trade o a) releasing_is
      ∙ ap (paying s (pos a.sheep)) (paid_altered released released_keyed o.seller_id w own_w (neg_ℤ (pos a.wheat)))
      ∙ paid_altered given given_keyed o.seller_id s own_s (pos a.sheep)
      ∙ ap (altered_opt s (paid_entry (pos a.sheep))) given_is
      ∙ opt_both giver giver_keyed s (paid_entry (pos a.sheep)) (bound_entry (pos 0) less_sheep)
      (paid_keeps (pos a.sheep)) (bound_keeps (pos 0) less_sheep)

  -- the owner's holders, changed once each, where the offer goes
  module _ (rest : ℕ) where
    abbrev gives_change : Change
    gives_change = giving_change o a rest

    abbrev takes_change : Change
    takes_change = taking_change o a rest

    abbrev changed_giver : EntryMap
    changed_giver = altered_opt w (changed_entry gives_change) m

    changed_keyed : IsKeyed changed_giver
    changed_keyed = opt_keyed m keyed w (changed_entry gives_change) (changed_keeps gives_change)

    changed_is : changing s takes_change (changing w gives_change m)
        ≡ altered_opt s (changed_entry takes_change) changed_giver
    changed_is = ap (changing s takes_change) (changed_altered m keyed o.seller_id w own_w gives_change)
        ∙ changed_altered changed_giver changed_keyed o.seller_id s own_s takes_change

  none_less : (n : ℕ) → neg_ℤ (pos n) ≡ (pos 0 -ℤ pos n)
  none_less n = omega (arith, ints)

  gone_entries : traded ≡ altered_opt s (changed_entry (taking_change o a 0)) (changed_giver 0)
  gone_entries =
      opt_as giver s takes_entry (changed_entry (taking_change o a 0)) (λ x is e there.
      entry_once (pos a.sheep) (pos 0) less_sheep (pos 0) (pos 0 -ℤ pos (bound_of o).sheep) refl
      (none_less (bound_of o).sheep) e)
      ∙ ap (altered_opt s (changed_entry (taking_change o a 0)))
      (opt_as m w gives_entry (changed_entry (giving_change o a 0)) (λ x is e there.
      entry_once (neg_ℤ (pos a.wheat)) less_wheat (pos 0) (pos 0 -ℤ pos (bound_of o).wheat) (pos 0)
      (none_less (bound_of o).wheat) refl e))

  -- the same as changes of entries
  pub gone_altered : map_after_trade o a (releasing o m)
      ≡ altered_opt s (changed_entry (taking_change o a 0)) (altered_opt w (changed_entry (giving_change o a 0)) m)
  gone_altered = trade_is ∙ gone_entries

  pub gone_is : map_after_trade o a (releasing o m)
      ≡ changing (seller_takes_at o) (taking_change o a 0) (changing (seller_gives_at o) (giving_change o a 0) m)
  gone_is = trade_is ∙ gone_entries ∙ sym (changed_is 0)

  -- ---- an offer that rests

  module _ (j : ℕ) (exists : offer_at (map_after_trade o a (releasing o m)) o.seller_id o.offer_id ≡ Some o)
      (sells : (x : LedgerKey) → w ≡ Some x → (e : LedgerEntry) → get m x ≡ Some e → IsExtended e.body)
      (buys : (x : LedgerKey) → s ≡ Some x → (e : LedgerEntry) → get m x ≡ Some e → IsExtended e.body)
      (w_beside : w ≢ Some (offer_key o)) (s_beside : s ≢ Some (offer_key o)) where
    abbrev new : OfferEntry
    new = with_amount (suc j) o

    abbrev resized : LedgerEntry → LedgerEntry
    resized = over (resized_body (suc j))

    abbrev at : Option LedgerKey
    at = Some (offer_key o)

    abbrev more_wheat : ℤ
    more_wheat = pos (bound_of new).wheat

    abbrev more_sheep : ℤ
    more_sheep = pos (bound_of new).sheep

    w_apart : AreApart w at
    w_apart x is same = w_beside (is ∙ sym same)

    s_apart : AreApart s at
    s_apart x is same = s_beside (is ∙ sym same)

    abbrev in_place : EntryMap
    in_place = altered_opt at resized traded

    in_place_keyed : IsKeyed in_place
    in_place_keyed = opt_keyed traded traded_keyed at resized (resized_keeps (suc j))

    in_place_is : with_offer (map_after_trade o a (releasing o m)) o.seller_id o.offer_id (λ was. new) ≡ in_place
    in_place_is =
        ap (λ n. with_offer n o.seller_id o.offer_id (λ was. new)) trade_is
        ∙ resized_altered traded traded_keyed (suc j) o
        (subst (λ n. offer_at n o.seller_id o.offer_id ≡ Some o) trade_is exists)

    abbrev sold_more : EntryMap
    sold_more = altered_opt w (bound_entry more_wheat (pos 0)) in_place

    sold_keyed : IsKeyed sold_more
    sold_keyed = opt_keyed in_place in_place_keyed w (bound_entry more_wheat (pos 0)) (bound_keeps more_wheat (pos 0))

    acquiring_is : acquiring new in_place ≡ altered_opt s (bound_entry (pos 0) more_sheep) sold_more
    acquiring_is =
        ap (binding s (pos 0) more_sheep) (bound_altered in_place in_place_keyed o.seller_id w own_w more_wheat (pos 0))
        ∙ bound_altered sold_more sold_keyed o.seller_id s own_s (pos 0) more_sheep

    -- what the seller binds anew, before the offer is changed
    abbrev giver_bound : EntryMap
    giver_bound = altered_opt w (λ e. bound_entry more_wheat (pos 0) (gives_entry e)) m

    abbrev giver_twice : LedgerEntry → LedgerEntry
    giver_twice e = bound_entry more_wheat (pos 0) (gives_entry e)

    giver_twice_keeps : KeepsKeys giver_twice
    giver_twice_keeps = keeps_both (bound_entry more_wheat (pos 0)) gives_entry (bound_keeps more_wheat (pos 0))
        gives_keeps

    giver_bound_keyed : IsKeyed giver_bound
    giver_bound_keyed = opt_keyed m keyed w giver_twice giver_twice_keeps

    abbrev taker_twice : LedgerEntry → LedgerEntry
    taker_twice e = bound_entry (pos 0) more_sheep (takes_entry e)

    sold_before : altered_opt w (bound_entry more_wheat (pos 0)) traded ≡ altered_opt s takes_entry giver_bound
    sold_before =
        opt_swapped giver giver_keyed w s (bound_entry more_wheat (pos 0)) takes_entry (bound_keeps more_wheat (pos 0))
        takes_keeps apart
        ∙ ap (altered_opt s takes_entry) (opt_both m keyed w (bound_entry more_wheat (pos 0)) gives_entry
        (bound_keeps more_wheat (pos 0)) gives_keeps)

    sold_is : sold_more ≡ altered_opt at resized (altered_opt s takes_entry giver_bound)
    sold_is =
        opt_swapped traded traded_keyed w at (bound_entry more_wheat (pos 0)) resized (bound_keeps more_wheat (pos 0))
        (resized_keeps (suc j)) w_apart
        ∙ ap (altered_opt at resized) sold_before

    abbrev both_paid : EntryMap
    both_paid = altered_opt s takes_entry giver_bound

    both_paid_keyed : IsKeyed both_paid
    both_paid_keyed = opt_keyed giver_bound giver_bound_keyed s takes_entry takes_keeps

    bound_is : altered_opt s (bound_entry (pos 0) more_sheep) sold_more
        ≡ altered_opt at resized (altered_opt s taker_twice giver_bound)
    bound_is =
        ap (altered_opt s (bound_entry (pos 0) more_sheep)) sold_is
        ∙ opt_swapped both_paid both_paid_keyed s at (bound_entry (pos 0) more_sheep) resized
        (bound_keeps (pos 0) more_sheep) (resized_keeps (suc j)) s_apart
        ∙ ap (altered_opt at resized) (opt_both giver_bound giver_bound_keyed s (bound_entry (pos 0) more_sheep)
        takes_entry (bound_keeps (pos 0) more_sheep) takes_keeps)

    difference : (n k : ℕ) → (neg_ℤ (pos n) +ℤ pos k) ≡ (pos k -ℤ pos n)
    difference n k = omega (arith, ints)

    none_twice : (pos 0 +ℤ pos 0) ≡ pos 0
    none_twice = refl

    abbrev once : EntryMap
    once = changing (seller_takes_at o) (taking_change o a (suc j))
        (changing (seller_gives_at o) (giving_change o a (suc j)) m)

    -- an entry under the key of the side that takes is as it was before the side that gives was changed
    still : (x : LedgerKey) → s ≡ Some x → (e : LedgerEntry) → get giver_bound x ≡ Some e → get m x ≡ Some e
    still x is e there = sym (opt_elsewhere m keyed w giver_twice giver_twice_keeps x (λ same. apart x same is)) ∙ there

    twice_is : altered_opt s taker_twice giver_bound
        ≡ altered_opt s (changed_entry (taking_change o a (suc j))) (changed_giver (suc j))
    twice_is =
        opt_as giver_bound s taker_twice (changed_entry (taking_change o a (suc j))) (λ x is e there.
        entry_twice (pos 0) (pos 0) (pos 0) less_sheep more_sheep (more_sheep -ℤ pos (bound_of o).sheep) none_twice
        (difference (bound_of o).sheep (bound_of new).sheep) (pos a.sheep) e (buys x is e (still x is e there)))
        ∙ ap (altered_opt s (changed_entry (taking_change o a (suc j))))
        (opt_as m w giver_twice (changed_entry (giving_change o a (suc j))) (λ x is e there.
        entry_twice less_wheat more_wheat (more_wheat -ℤ pos (bound_of o).wheat) (pos 0) (pos 0) (pos 0)
        (difference (bound_of o).wheat (bound_of new).wheat) none_twice (neg_ℤ (pos a.wheat)) e (sells x is e there)))

    -- the offer still exists where each holder was changed once
    pub once_exists : offer_at once o.seller_id o.offer_id ≡ Some o
    unfolding offer_at
    once_exists =
        ap (λ n. offer_of (get n (offer_key o))) (changed_is (suc j))
        ∙ ap offer_of (opt_elsewhere (changed_giver (suc j)) (changed_keyed (suc j)) s
        (changed_entry (taking_change o a (suc j))) (changed_keeps (taking_change o a (suc j))) (offer_key o) s_beside
        ∙ opt_elsewhere m keyed w (changed_entry (giving_change o a (suc j)))
        (changed_keeps (giving_change o a (suc j))) (offer_key o) w_beside
        ∙ sym (opt_elsewhere m keyed w gives_entry gives_keeps (offer_key o) w_beside)
        ∙ sym (opt_elsewhere giver giver_keyed s takes_entry takes_keeps (offer_key o) s_beside))
        ∙ ap (λ n. offer_of (get n (offer_key o))) (sym trade_is) ∙ exists

    once_keyed : IsKeyed once
    once_keyed = subst IsKeyed (sym (changed_is (suc j)))
        (opt_keyed (changed_giver (suc j)) (changed_keyed (suc j)) s (changed_entry (taking_change o a (suc j)))
        (changed_keeps (taking_change o a (suc j))))

    pub rest_is : acquiring new (with_offer (map_after_trade o a (releasing o m)) o.seller_id o.offer_id (λ was. new))
        ≡ with_offer once o.seller_id o.offer_id (λ was. new)
    rest_is =
        ap (acquiring new) in_place_is ∙ acquiring_is ∙ bound_is ∙ ap (altered_opt at resized) twice_is
        ∙ ap (altered_opt at resized) (sym (changed_is (suc j)))
        ∙ sym (resized_altered once once_keyed (suc j) o once_exists)

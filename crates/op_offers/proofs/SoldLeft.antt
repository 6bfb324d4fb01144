-- What an offer that is sold leaves of the accounts.
use Rattle.op_offers.proofs.Prelude as prelude
use prelude.{◌≡◌, refl, sym, ap, subst, ◌∙◌, ℕ, ◌≤◌, zero, suc, None, Some, Ok, arith, ints, ℤ, pos, neg_ℤ, ◌+ℤ◌}
use prelude.{unsigned_abs, AccountEntry, get, OfferEntry, key_of_body, part, held_in, held_of, HoldsMore, LedgerEntry}
use prelude.{EntryMap, put, account_at, sponsor_of, adjusted, without_subentry, bound_of, binding, View, IsLegalOwing}
use prelude.{most_given, most_taken, paying, CrossEnd, Converted, Partial, BadPrice, CrossSelf, TooMany, most_crossings}
use prelude.{Crossing, converted, left_of_trade, Asked, source_gives_at, source_takes_at, trade_of, settled, left_of}
use prelude.{offer_left, map_after_keeping, Sold, kept, sold, Increase, none_more, both_more, more_at, one_more}
use prelude.{more_in, AreTraded, IsAskedRightly, discharged_kept, crossed_legal, owner, giving_left, taking_left}
use prelude.{selling_left, buying_left, one_more_is_right, IsKeyed, Leaves, leaves_both, leaves_as, keeps_both}
use prelude.{accounts_kept}
use Rattle.trade_cross.proofs.legal_rules_proofs.Holdings.{put_same}
use Rattle.ledger_types.specs.declared.key.LedgerKey.TheVariants as key
use Rattle.ledger_types.specs.declared.entry.LedgerEntryBody.TheVariants as body
use Rattle.op_offers.proofs.Sold.{capped_fits, account_same, legal_now, legal_bound, sells}
use Rattle.op_offers.proofs.Sold.{sells_fit, buys, done_so, gives, gives_fit}
use Rattle.op_offers.proofs.Sold.{takes, legal_given, legal_paid, right_then, sold_is}

-- an offer holds nothing
offer_put_holds : (m : EntryMap) (e : LedgerEntry) (o : OfferEntry) → e.body ≡ body.Offer o
    → get m (key.Offer o.seller_id o.offer_id) ≡ None → HoldsMore none_more m (put m e)
offer_put_holds m e o is free = put_same m e (λ x. ap (held_in x) is
    ∙ sym (ap (part (held_of x)) (ap (get m) (ap key_of_body is) ∙ free)))

module _ (v : View) (id_pool next base : ℕ) (sum : ℤ) (asked : Asked) (m : EntryMap)
    (legal : IsLegalOwing v id_pool (one_more asked.offer.seller_id (sponsor_of asked.entry)) sum m)
    (wide : id_pool ≤ next) (right : IsAskedRightly next asked m) where
  had_one : (a : AccountEntry) → account_at m asked.offer.seller_id ≡ Some a → 1 ≤ a.num_sub_entries
  had_one a exists =
      let own = owner v id_pool sum m asked.offer.seller_id (sponsor_of asked.entry) legal right.paid in
      let also = own.exists in
      let same : own.account ≡ a = cc in
      subst (λ (b : AccountEntry). 1 ≤ b.num_sub_entries) same own.enough

  none_left : Leaves base none_more m (map_after_keeping asked zero m)
  none_left = discharged_kept base 1 asked.offer.seller_id (sponsor_of asked.entry) m legal.keyed had_one
      (without_subentry 1 (sponsor_of asked.entry)) (λ a next. next)

  module _ (j send receive : ℕ) (send_fits : send ≤ most_given base m (source_gives_at asked))
      (receive_fits : receive ≤ most_taken m (source_takes_at asked))
      (is : adjusted (unsigned_abs asked.offer.price.n) (unsigned_abs asked.offer.price.d) send receive ≡ suc j) where
    abbrev e : LedgerEntry
    e = record asked.entry { body = body.Offer (offer_left asked (suc j)) }

    abbrev now : EntryMap
    now = put m e

    abbrev bound : EntryMap
    bound = binding (source_gives_at asked) (pos (bound_of (offer_left asked (suc j))).wheat) (pos 0) now

    now_keyed : IsKeyed now
    now_keyed = (legal_now v id_pool next base sum asked m legal wide right.n right.d right.id_low right j send
        receive send_fits
        receive_fits is).keyed

    bound_keyed : IsKeyed bound
    bound_keyed =
        (legal_bound v id_pool next base sum asked m legal wide right.n right.d right.id_low right j send receive
        send_fits
        receive_fits is).keyed

    some_left : Leaves base none_more m (map_after_keeping asked (suc j) m)
    some_left = keeps_both base m now _
        (accounts_kept base none_more m now now_keyed (account_same m e (offer_left asked (suc j)) refl)
        (offer_put_holds m e (offer_left asked (suc j)) refl (right.free asked.offer.seller_id)))
        (keeps_both base now bound _
        (selling_left base now now_keyed (source_gives_at asked) (bound_of (offer_left asked (suc j))).wheat
        (sells v id_pool next base sum asked m legal wide right.n right.d right.id_low right j send receive send_fits
        receive_fits is)
        (sells_fit v id_pool next base sum asked m legal wide right.n right.d right.id_low right j send receive
        send_fits
        receive_fits is))
        (buying_left base bound bound_keyed (source_takes_at asked) (pos (bound_of (offer_left asked (suc j))).sheep)
        (buys v id_pool next base sum asked m legal wide right.n right.d right.id_low right j send receive send_fits
        receive_fits is)))

  by_amount : (done : Crossing) (end : CrossEnd) (amount : ℕ) → left_of base asked done end m ≡ amount
      → Leaves base none_more m (map_after_keeping asked amount m)
  by_amount done end zero is = none_left
  by_amount done Converted (suc j) is = absurd (cc)
  by_amount done Partial (suc j) is = some_left j _ _ (capped_fits asked.sells done.sheep _)
      (capped_fits asked.buys done.wheat _) is
  by_amount done BadPrice (suc j) is = some_left j _ _ (capped_fits asked.sells done.sheep _)
      (capped_fits asked.buys done.wheat _) is
  by_amount done CrossSelf (suc j) is = some_left j _ _ (capped_fits asked.sells done.sheep _)
      (capped_fits asked.buys done.wheat _) is
  by_amount done TooMany (suc j) is = some_left j _ _ (capped_fits asked.sells done.sheep _)
      (capped_fits asked.buys done.wheat _) is

  kept_left : (done : Crossing) → Leaves base none_more m (kept base asked done m).entries
  kept_left done = by_amount done done.end (left_of base asked done done.end m) refl

nothing_after : (x y z : ℤ) → (((x +ℤ y) +ℤ z) +ℤ pos 0) ≡ (x +ℤ (y +ℤ z))
nothing_after x y z = omega (arith, ints)

module _ (v : View) (id_pool next base : ℕ) (sum : ℤ) (asked : Asked) (m : EntryMap)
    (legal : IsLegalOwing v id_pool (one_more asked.offer.seller_id (sponsor_of asked.entry)) sum m)
    (wide : id_pool ≤ next) (right : IsAskedRightly next asked m) where
  abbrev c : Crossing
  c = converted base (trade_of base asked m) m

  abbrev given_map : EntryMap
  given_map = paying (source_gives_at asked) (neg_ℤ (pos c.sheep)) c.entries

  abbrev more : Crossing → Increase
  more done = both_more (more_in done.atoms)
      (both_more (more_at (source_gives_at asked) asked.offer.selling (neg_ℤ (pos done.sheep)))
      (more_at (source_takes_at asked) asked.offer.buying (pos done.wheat)))

  crossed_left : Leaves base (more_in c.atoms) m c.entries
  crossed_left = (crossed_legal v id_pool base (one_more asked.offer.seller_id (sponsor_of asked.entry))
      (one_more_is_right asked.offer.seller_id (sponsor_of asked.entry)) (trade_of base asked m) most_crossings sum
      (left_of_trade (trade_of base asked m)) m legal).leaves

  its_given : Leaves base (more_at (source_gives_at asked) asked.offer.selling (neg_ℤ
      (pos c.sheep))) c.entries given_map
  its_given = giving_left base c.entries (done_so v id_pool next base sum asked m legal wide right).legal.keyed
      c.sheep asked.offer.seller_id asked.offer.selling (gives v id_pool next base sum asked m legal wide right)
      (gives_fit v id_pool next base sum asked m legal wide right)

  its_taken : Leaves base (more_at (source_takes_at asked) asked.offer.buying (pos c.wheat)) given_map (settled asked c)
  its_taken = taking_left base given_map (legal_given v id_pool next base sum asked m legal wide right).keyed
      c.wheat asked.offer.seller_id asked.offer.buying (takes v id_pool next base sum asked m legal wide right)

  its_kept : Leaves base none_more (settled asked c) (kept base asked c (settled asked c)).entries
  its_kept = kept_left v id_pool next base _ asked (settled asked c)
      (legal_paid v id_pool next base sum asked m legal wide right) wide
      (right_then v id_pool next base sum asked m legal wide right) c

  all_left : Leaves base (more c) m (kept base asked c (settled asked c)).entries
  all_left =
      let a = more_in c.atoms in
      let b = more_at (source_gives_at asked) asked.offer.selling (neg_ℤ (pos c.sheep)) in
      let t = more_at (source_takes_at asked) asked.offer.buying (pos c.wheat) in
      leaves_as base (both_more (both_more (both_more a b) t) none_more) (more c) m _
      (leaves_both base (both_more (both_more a b) t) none_more m (settled asked c) _
      (leaves_both base (both_more a b) t m given_map (settled asked c)
      (leaves_both base a b m c.entries given_map crossed_left its_given) its_taken) its_kept)
      (λ k x. nothing_after (a k x) (b k x) (t k x))

  -- Each account has what the sale moves, and no less available than before, unless it is at least nothing.
  pub selling_left_so : (done : Sold) → sold base asked m ≡ Ok done
      → Leaves base (more done.crossed) m done.entries
  selling_left_so done is = subst (λ (s : Sold). Leaves base (more s.crossed) m s.entries)
      (sold_is v id_pool next base sum asked m legal wide right done is) all_left

  pub selling_traded : (done : Sold) → sold base asked m ≡ Ok done → AreTraded (trade_of base asked m) done.crossed
  selling_traded done is = subst (λ (s : Sold). AreTraded (trade_of base asked m) s.crossed)
      (sold_is v id_pool next base sum asked m legal wide right done is)
      (done_so v id_pool next base sum asked m legal wide right).atoms

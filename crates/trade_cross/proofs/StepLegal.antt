-- One offer that is crossed keeps a state legal.
use Rattle.trade_cross.proofs.Prelude as prelude
use prelude.{◌≡◌, ◌≢◌, refl, sym, ap, subst, ◌∙◌, ℕ, ◌-◌, ◌≤◌, zero, suc, Bool, true, false, Option, Some, None, arith}
use prelude.{ints, ℤ, pos, neg_ℤ, ◌+ℤ◌, ◌≤ℤ◌, unsigned_abs, min, get, AccountId, TrustLineAsset, OfferEntry}
use prelude.{LedgerEntry, LedgerKey, key_of_body, EntryMap, account_of, account_at, line_of, line_at, offer_of}
use prelude.{offer_at, with_offer, map_after_removing, Rounding, Normal, Bounds, Amounts, unlimited, offered}
use prelude.{wheat_stays, exchanged, adjusted, liabilities, bound_of, is_key, binding, acquiring, releasing, CanBind}
use prelude.{CanBindBoth, Kind, Subentries, Sponsoring, Sponsored, View, AreReservesSettled, trade_aggregates, Owed}
use prelude.{plus, less, beside_reserves, weighed, IsEntryLegal, IsLegalOwing, IsOfferInRange, acquiring_legal}
use prelude.{binding_legal, unbound_if, offer_changed, offer_entry, with_offer_body, IsOfferEntry, releasing_legal}
use prelude.{can_release, legal_as, most_given, most_taken, paying, account_gives, account_takes, line_gives}
use prelude.{line_takes, Left, seller_gives_at, seller_takes_at, amount_at, meeting, map_after_trade, with_amount}
use prelude.{offer_key, map_after_rest, step_by, step, atom_of, IsOwedRightly, kept_at, kept_by, IsHeld, add_assoc}
use prelude.{add_neg_zero, natural_at_most_trans, sub_if_zeros, unsigned_abs_positive, with_beside, offers_exact}
use Rattle.std.proofs.Math.Nat.{min-le_right}
use Rattle.ledger_types.specs.declared.entry.LedgerEntryBody.TheVariants as body
use Rattle.ledger_types.specs.declared.key.LedgerKey.TheVariants as key
use Rattle.offer_exchange.specs.Laws.{AreWithin, IsBound}
use Rattle.offer_exchange.proofs.Within.{exchanged_within}
use Rattle.offer_exchange.proofs.Adjusting.{adjusted_bound}
use Rattle.legal_rules.proofs.Kept.{subentry_removed_so}
use Rattle.trade_cross.proofs.Paying.{CanPay, paying_legal, can_give, can_take}
use Rattle.trade_cross.proofs.Binding.{held_bound, held_paid, offer_beside, bindable_held, giving_takes, selling_takes}
use Rattle.trade_cross.proofs.Binding.{can_sell, can_buy, given_fits, taken_fits}

-- ---- what an entry of an offer counts beside its reserve

pub offer_aggregates : (v : View) (e : LedgerEntry) (o : OfferEntry) (kind : Kind) (k : LedgerKey)
    → beside_reserves (weighed v (with_offer_body e o)) kind k ≡ trade_aggregates o kind k
offer_aggregates v e o Subentries k = refl
offer_aggregates v e o Sponsoring k = refl
offer_aggregates v e o Sponsored k = refl
offer_aggregates v e o kind k = sub_if_zeros (is_key (key_of_body (body.Offer o)) k) _

-- ---- an offer that is changed in its place

module _ (m : EntryMap) (o new : OfferEntry) (exists : offer_at m o.seller_id o.offer_id ≡ Some o)
    (seller : new.seller_id ≡ o.seller_id) (id : new.offer_id ≡ o.offer_id) where
  abbrev changed : EntryMap
  changed = with_offer m o.seller_id o.offer_id (λ was. new)

  pub offer_keeps : (k : LedgerKey) → k ≢ offer_key o → get changed k ≡ get m k
  unfolding with_offer
  offer_keeps k apart =
      with_beside offers_exact m (offer_key o) (λ was. new) k
      (λ was there same. apart (same ∙ (λ i. key.Offer (seller i) (id i))))

  pub account_keeps : (x : AccountId) → account_at changed x ≡ account_at m x
  unfolding account_at
  account_keeps x = ap account_of (offer_keeps (key.Account x) (λ same. absurd (cc)))

  pub line_keeps : (x : AccountId) (held : TrustLineAsset) → line_at changed x held ≡ line_at m x held
  unfolding line_at
  line_keeps x held = ap line_of (offer_keeps (key.TrustLine x held) (λ same. absurd (cc)))

  pub same_given : (base : ℕ) (k : Option LedgerKey) → most_given base changed k ≡ most_given base m k
  same_given base None = refl
  same_given base (Some (key.Account x)) = ap (account_gives base) (account_keeps x)
  same_given base (Some (key.TrustLine x held)) = ap line_gives (line_keeps x held)
  same_given base (Some other) = refl

  pub same_taken : (k : Option LedgerKey) → most_taken changed k ≡ most_taken m k
  same_taken None = refl
  same_taken (Some (key.Account x)) = ap account_takes (account_keeps x)
  same_taken (Some (key.TrustLine x held)) = ap line_takes (line_keeps x held)
  same_taken (Some other) = refl

  pub same_held : (k : Option LedgerKey) → IsHeld m k → IsHeld changed k
  same_held None held = tt
  same_held (Some (key.Account x)) held = (held.0, account_keeps x ∙ held.1)
  same_held (Some (key.TrustLine x y)) held = (held.0, line_keeps x y ∙ held.1, held.2)
  same_held (Some other) held = absurd held

-- ---- the rest of an offer

plus_both : (x y : ℤ) → x ≤ℤ y → (x +ℤ pos 0) ≤ℤ (y +ℤ pos 0)
plus_both x y le = omega (arith, ints)

not_more : (x : ℤ) → x ≤ℤ pos 0 → (x +ℤ pos 0) ≤ℤ pos 0
not_more x le = omega (arith, ints)

taken_off : (x t b : ℤ) → b ≡ t → ((x +ℤ t) +ℤ neg_ℤ b) ≡ x
taken_off x t b is = omega (arith, ints)

in_place : (x t u : ℤ) → (((x +ℤ t) +ℤ (neg_ℤ t +ℤ u)) +ℤ neg_ℤ u) ≡ x
in_place x t u = omega (arith, ints)

-- an amount that is adjusted is within what is sent
adjusted_sent : (n d send receive : ℕ) → 1 ≤ n → 1 ≤ d → adjusted n d send receive ≤ send
unfolding adjusted
adjusted_sent n d send receive n_some d_some =
    (exchanged_within Normal n d (offered send receive) n_some d_some).wheat_send

-- what holds where the liabilities of an offer that exists are released
pub record IsOpen (v : View) (id_pool : ℕ) (owed : Owed) (sum : ℤ) (m : EntryMap) (o : OfferEntry) : Type 0 where
  pub legal : IsLegalOwing v id_pool (plus owed (trade_aggregates o)) sum m
  pub exists : offer_at m o.seller_id o.offer_id ≡ Some o
  pub gives : IsHeld m (seller_gives_at o)
  pub takes : IsHeld m (seller_takes_at o)

module _ (v : View) (id_pool base : ℕ) (owed : Owed) (right : IsOwedRightly owed) (o : OfferEntry) where
  abbrev pub owed_then : Owed
  owed_then = plus owed (trade_aggregates o)

  pub covered_then : (k : LedgerKey) → owed_then Subentries k ≤ℤ owed_then Sponsored k
  covered_then k = plus_both (owed Subentries k) (owed Sponsored k) (right.covered k)

  pub settled_then : AreReservesSettled owed_then
  settled_then = record {
    subentries = λ k. not_more (owed Subentries k) (right.reserves.subentries k);
    sponsored = λ k. not_more (owed Sponsored k) (right.reserves.sponsored k);
    sponsoring = λ k. not_more (owed Sponsoring k) (right.reserves.sponsoring k);
  }

  module _ (sum : ℤ) (m : EntryMap) (open_ : IsOpen v id_pool owed sum m o) where
    pub its_entry : (e : LedgerEntry) × IsOfferEntry m o.seller_id o.offer_id o e
    its_entry = offer_entry m o.seller_id o.offer_id o open_.exists

    abbrev pub e : LedgerEntry
    e = with_offer_body its_entry.0 o

    pub there : get m (offer_key o) ≡ Some e
    there = its_entry.1.there ∙ ap Some (λ i. record its_entry.0 { body = its_entry.1.is i })

    pub its_range : IsOfferInRange id_pool o
    its_range = (open_.legal.entries (offer_key o) e there).range.body

    -- an offer that goes leaves what was owed before
    pub offer_gone : IsLegalOwing v id_pool owed sum (map_after_removing (offer_key o) m)
    offer_gone = legal_as v (IsEntryLegal id_pool) _ owed _ sum _
        (subentry_removed_so v id_pool owed_then sum o.seller_id 1
        (offer_key o) e m open_.legal settled_then there refl)
        (λ kind k. taken_off (owed kind k) (trade_aggregates o kind k) _ (offer_aggregates v its_entry.0 o kind k))
        (add_neg_zero sum)

    module _ (j amount : ℕ) (is : amount_at base m o amount ≡ suc j) where
      abbrev pub new : OfferEntry
      new = with_amount (suc j) o

      abbrev pub n : ℕ
      n = unsigned_abs o.price.n

      abbrev pub d : ℕ
      d = unsigned_abs o.price.d

      abbrev pub send : ℕ
      send = min amount (most_given base m (seller_gives_at o))

      abbrev pub receive : ℕ
      receive = most_taken m (seller_takes_at o)

      one : 1 ≤ adjusted n d send receive
      one = subst (λ a. 1 ≤ a) (sym is) (omega arith)

      binds : IsBound n d send receive (adjusted n d send receive)
      binds = adjusted_bound n d send receive (unsigned_abs_positive o.price.n its_range.n)
          (unsigned_abs_positive o.price.d its_range.d)
          (natural_at_most_trans send (most_given base m (seller_gives_at o)) unlimited
          (min-le_right amount (most_given base m (seller_gives_at o)))
          (given_fits v id_pool base owed_then sum m open_.legal covered_then (seller_gives_at o) open_.gives))
          (taken_fits v id_pool base owed_then sum m open_.legal (seller_takes_at o) open_.takes)

      its_bound : bound_of new ≡ liabilities n d (adjusted n d send receive)
      its_bound = ap (liabilities n d) (sym is)

      wheat_is : (bound_of new).wheat ≡ adjusted n d send receive
      wheat_is = ap (λ (b : Amounts). b.wheat) its_bound ∙ binds.all_selling

      sheep_is : (bound_of new).sheep ≡ (liabilities n d (adjusted n d send receive)).sheep
      sheep_is = ap (λ (b : Amounts). b.sheep) its_bound

      pub new_range : IsOfferInRange id_pool new
      new_range = record {
        amount = omega (arith, ints);
        n = its_range.n;
        d = its_range.d;
        wheat = subst (λ x. 1 ≤ x) (sym wheat_is) one;
        sheep = subst (λ x. 1 ≤ x) (sym sheep_is) (binds.some_buying one);
        id_low = its_range.id_low;
        id_high = its_range.id_high;
        selling = its_range.selling;
        buying = its_range.buying;
        assets = its_range.assets;
        flags = its_range.flags;
      }

      abbrev pub now : EntryMap
      now = with_offer m o.seller_id o.offer_id (λ was. new)

      abbrev pub owed_now : Owed
      owed_now = plus owed_then (plus (less (trade_aggregates o)) (trade_aggregates new))

      pub legal_now : IsLegalOwing v id_pool owed_now sum now
      legal_now = offer_changed v id_pool owed_then sum o new m open_.legal open_.exists refl refl new_range

      pub sells_fit : (bound_of new).wheat ≤ most_given base now (seller_gives_at o)
      sells_fit = subst (λ x. x ≤ most_given base now (seller_gives_at o)) (sym wheat_is)
          (subst (λ x. adjusted n d send receive ≤ x) (sym (same_given m o new open_.exists refl refl base
          (seller_gives_at o)))
          (natural_at_most_trans (adjusted n d send receive) send _
          (subst (λ x. x ≤ send) binds.all_selling binds.selling)
          (min-le_right amount (most_given base m (seller_gives_at o)))))

      pub sells : CanBind now (seller_gives_at o) (pos (bound_of new).wheat) (pos 0)
      sells = can_sell v id_pool base owed_now sum now legal_now (bound_of new).wheat (seller_gives_at o)
          (same_held m o new open_.exists refl refl (seller_gives_at o) open_.gives) sells_fit

      abbrev pub bound_now : EntryMap
      bound_now = binding (seller_gives_at o) (pos (bound_of new).wheat) (pos 0) now

      pub legal_bound : IsLegalOwing v id_pool
          (plus owed_now (unbound_if (seller_gives_at o) (pos (bound_of new).wheat) (pos 0)))
          sum bound_now
      legal_bound = binding_legal v id_pool owed_now sum now (seller_gives_at o) (pos (bound_of new).wheat) (pos 0)
          legal_now sells

      pub buys : CanBind bound_now (seller_takes_at o) (pos 0) (pos (bound_of new).sheep)
      buys = can_buy v id_pool base _ sum bound_now legal_bound (bound_of new).sheep (seller_takes_at o)
          (held_bound now legal_now.keyed (seller_gives_at o) (pos (bound_of new).wheat) (pos 0) sells
          (seller_takes_at o)
          (same_held m o new open_.exists refl refl (seller_takes_at o) open_.takes))
          (natural_at_most_trans (bound_of new).sheep (most_taken now (seller_takes_at o)) _
          (subst (λ x. x ≤ most_taken now (seller_takes_at o)) (sym sheep_is)
          (subst (λ x. (liabilities n d (adjusted n d send receive)).sheep ≤ x)
          (sym (same_taken m o new open_.exists refl refl (seller_takes_at o))) binds.buying))
          (selling_takes now legal_now.keyed (seller_gives_at o) (pos (bound_of new).wheat) sells (seller_takes_at o)))

      -- an offer that stays binds what it is adjusted to
      pub offer_rests : IsLegalOwing v id_pool owed sum (acquiring new now)
      offer_rests = legal_as v (IsEntryLegal id_pool) _ owed _ sum _
          (acquiring_legal v id_pool owed_now sum new now legal_now (sells, buys))
          (λ kind k. in_place (owed kind k) (trade_aggregates o kind k) (trade_aggregates new kind k)) refl

    rest_by : (amount rest : ℕ) → amount_at base m o amount ≡ rest
        → IsLegalOwing v id_pool owed sum (map_after_rest o rest m)
    rest_by amount zero is = offer_gone
    rest_by amount (suc j) is = offer_rests j amount is

    -- whatever is left of the offer
    pub rest_legal : (b : Bounds) (a : Amounts) (stays : Bool)
        → IsLegalOwing v id_pool owed sum (step_by base o b a stays m).entries
    rest_legal b a true = rest_by (b.wheat_send - a.wheat) (amount_at base m o (b.wheat_send - a.wheat)) refl
    rest_legal b a false = offer_gone

  -- ---- the trade

  module _ (sum : ℤ) (m : EntryMap) (open_ : IsOpen v id_pool owed sum m o) (a : Amounts)
      (enough : a.wheat ≤ most_given base m (seller_gives_at o))
      (fits : a.sheep ≤ most_taken m (seller_takes_at o)) where
    pub gives : CanPay m (seller_gives_at o) (neg_ℤ (pos a.wheat))
    gives = can_give v id_pool base owed_then sum m open_.legal a.wheat covered_then
        (seller_gives_at o) open_.gives enough

    abbrev pub given : EntryMap
    given = paying (seller_gives_at o) (neg_ℤ (pos a.wheat)) m

    abbrev pub sum_given : ℤ
    sum_given = sum +ℤ kept_at v.asset (seller_gives_at o) o.selling (neg_ℤ (pos a.wheat))

    pub legal_given : IsLegalOwing v id_pool owed_then sum_given given
    legal_given = paying_legal v id_pool owed_then sum m open_.legal o.seller_id o.selling (neg_ℤ (pos a.wheat)) gives

    pub takes : CanPay given (seller_takes_at o) (pos a.sheep)
    takes = can_take v id_pool base owed_then sum_given given legal_given a.sheep (seller_takes_at o)
        (held_paid m open_.legal.keyed (seller_gives_at o) (neg_ℤ (pos a.wheat)) gives (seller_takes_at o) open_.takes)
        (natural_at_most_trans a.sheep (most_taken m (seller_takes_at o)) _ fits
        (giving_takes m open_.legal.keyed (seller_gives_at o) a.wheat gives (seller_takes_at o)))

    abbrev pub traded : EntryMap
    traded = map_after_trade o a m

    still : get traded (offer_key o) ≡ get m (offer_key o)
    still = offer_beside given legal_given.keyed (seller_takes_at o) (pos a.sheep) takes o.seller_id o.offer_id
        ∙ offer_beside m open_.legal.keyed (seller_gives_at o) (neg_ℤ (pos a.wheat)) gives o.seller_id o.offer_id

    still_exists : offer_at traded o.seller_id o.offer_id ≡ Some o
    unfolding offer_at
    still_exists = ap offer_of still ∙ open_.exists

    pub trade_open : IsOpen v id_pool owed (sum +ℤ kept_by v.asset (atom_of o a)) traded o
    trade_open = record {
      legal = legal_as v (IsEntryLegal id_pool) owed_then owed_then _ _ traded
          (paying_legal v id_pool owed_then sum_given given legal_given o.seller_id o.buying (pos a.sheep) takes)
          (λ kind k. refl)
          (add_assoc sum (kept_at v.asset (seller_gives_at o) o.selling (neg_ℤ (pos a.wheat)))
          (kept_at v.asset (seller_takes_at o) o.buying (pos a.sheep)));
      exists = still_exists;
      gives = held_paid given legal_given.keyed (seller_takes_at o) (pos a.sheep) takes (seller_gives_at o)
          (held_paid m open_.legal.keyed (seller_gives_at o) (neg_ℤ (pos a.wheat)) gives
          (seller_gives_at o) open_.gives);
      takes = held_paid given legal_given.keyed (seller_takes_at o) (pos a.sheep) takes (seller_takes_at o)
          (held_paid m open_.legal.keyed (seller_gives_at o) (neg_ℤ (pos a.wheat)) gives
          (seller_takes_at o) open_.takes);
    }

  -- ---- what is released

  module _ (sum : ℤ) (m : EntryMap) (legal : IsLegalOwing v id_pool owed sum m)
      (exists : offer_at m o.seller_id o.offer_id ≡ Some o) where
    found : (e : LedgerEntry) × IsOfferEntry m o.seller_id o.offer_id o e
    found = offer_entry m o.seller_id o.offer_id o exists

    pub released : IsLegalOwing v id_pool owed_then sum (releasing o m)
        × (offer_at (releasing o m) o.seller_id o.offer_id ≡ Some o)
    released = releasing_legal v id_pool owed sum o m legal right.trades exists

    pub lets : CanBindBoth o (neg_ℤ (pos (bound_of o).wheat)) (neg_ℤ (pos (bound_of o).sheep)) m
    lets = can_release v id_pool owed sum o m legal right.trades found.0
        (found.1.there ∙ ap Some (λ i. record found.0 { body = found.1.is i }))

    abbrev pub unsold : EntryMap
    unsold = binding (seller_gives_at o) (neg_ℤ (pos (bound_of o).wheat)) (pos 0) m

    pub legal_unsold : IsLegalOwing v id_pool
        (plus owed (unbound_if (seller_gives_at o) (neg_ℤ (pos (bound_of o).wheat)) (pos 0))) sum unsold
    legal_unsold = binding_legal v id_pool owed sum m (seller_gives_at o) (neg_ℤ (pos (bound_of o).wheat)) (pos 0) legal
        lets.0

    pub still_held : (q : Option LedgerKey) → IsHeld unsold q → IsHeld (releasing o m) q
    still_held q held = held_bound unsold legal_unsold.keyed (seller_takes_at o) (pos 0)
        (neg_ℤ (pos (bound_of o).sheep)) lets.1 q held

    pub release_open : IsOpen v id_pool owed sum (releasing o m) o
    release_open = record {
      legal = released.0;
      exists = released.1;
      gives = still_held (seller_gives_at o)
          (held_bound m legal.keyed (seller_gives_at o) (neg_ℤ (pos (bound_of o).wheat)) (pos 0) lets.0
          (seller_gives_at o)
          (bindable_held m (seller_gives_at o) (neg_ℤ (pos (bound_of o).wheat)) (pos 0) lets.0));
      takes = still_held (seller_takes_at o)
          (bindable_held unsold (seller_takes_at o) (pos 0) (neg_ℤ (pos (bound_of o).sheep)) lets.1);
    }

    -- ---- the step

    module _ (rounding : Rounding) (left : Left) where
      abbrev pub r : EntryMap
      r = releasing o m

      abbrev pub b : Bounds
      b = meeting base r o left

      abbrev pub price_n : ℕ
      price_n = unsigned_abs o.price.n

      abbrev pub price_d : ℕ
      price_d = unsigned_abs o.price.d

      abbrev pub a : Amounts
      a = exchanged rounding price_n price_d b

      offer_range : IsOfferInRange id_pool o
      offer_range = its_range sum r release_open

      pub in_bounds : AreWithin b a
      in_bounds = exchanged_within rounding price_n price_d b (unsigned_abs_positive o.price.n offer_range.n)
          (unsigned_abs_positive o.price.d offer_range.d)

      pub enough : a.wheat ≤ most_given base r (seller_gives_at o)
      enough = natural_at_most_trans a.wheat b.wheat_send _ in_bounds.wheat_send
          (natural_at_most_trans b.wheat_send (min (unsigned_abs o.amount) (most_given base r (seller_gives_at o))) _
          (adjusted_sent price_n price_d _ _ (unsigned_abs_positive o.price.n offer_range.n)
          (unsigned_abs_positive o.price.d offer_range.d))
          (min-le_right (unsigned_abs o.amount) (most_given base r (seller_gives_at o))))

      -- One offer that is crossed keeps the state legal, with what aggregates owe.
      pub step_legal : IsLegalOwing v id_pool owed
          (sum +ℤ kept_by v.asset (atom_of o (step base rounding left o m).amounts))
          (step base rounding left o m).entries
      unfolding step
      step_legal = by_stays (wheat_stays price_n price_d b)
        where
          by_stays : (t : Bool) → IsLegalOwing v id_pool owed
              (sum +ℤ kept_by v.asset (atom_of o (step_by base o b a t (map_after_trade o a r)).amounts))
              (step_by base o b a t (map_after_trade o a r)).entries
          by_stays true = rest_legal (sum +ℤ kept_by v.asset (atom_of o a)) (map_after_trade o a r)
              (trade_open sum r release_open a enough in_bounds.sheep_receive) b a true
          by_stays false = rest_legal (sum +ℤ kept_by v.asset (atom_of o a)) (map_after_trade o a r)
              (trade_open sum r release_open a enough in_bounds.sheep_receive) b a false

      pub step_sheep : (step base rounding left o m).amounts.sheep ≤ left.sheep_send
      unfolding step
      step_sheep = by_stays (wheat_stays price_n price_d b)
        where
          by_stays : (t : Bool) → (step_by base o b a t (map_after_trade o a r)).amounts.sheep ≤ left.sheep_send
          by_stays true = in_bounds.sheep_send
          by_stays false = in_bounds.sheep_send

      pub step_wheat : (step base rounding left o m).amounts.wheat ≤ left.wheat_receive
      unfolding step
      step_wheat = by_stays (wheat_stays price_n price_d b)
        where
          by_stays : (t : Bool) → (step_by base o b a t (map_after_trade o a r)).amounts.wheat ≤ left.wheat_receive
          by_stays true = in_bounds.wheat_receive
          by_stays false = in_bounds.wheat_receive

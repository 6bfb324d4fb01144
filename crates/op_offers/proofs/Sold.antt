-- An offer that is out of the book crosses, and what is left of it is kept.
use Rattle.op_offers.proofs.Prelude as prelude
use prelude.{◌≡◌, refl, sym, ap, subst, ◌∙◌, ℕ, ◌+◌, ◌-◌, ◌≤◌, zero, suc, Bool, true, false, Option, Some, None, Ok}
use prelude.{arith, ints, ℤ, pos, neg_ℤ, ◌+ℤ◌, ◌-ℤ◌, ◌≤ℤ◌, unsigned_abs, if◌then◌else◌, is_eq, int_cmp, get, AccountId}
use prelude.{TrustLineAsset, AccountEntry, OfferEntry, LedgerEntry, LedgerEntryBody, LedgerKey, key_of, key_of_body}
use prelude.{EntryMap, put, account_at, sponsor_of, line_of, line_at, total, total_none, is_there, Amounts, unlimited}
use prelude.{adjusted, liabilities, bound_of, is_key, for_account, binding, acquiring, CanBind, Kind, Subentries}
use prelude.{Sponsoring, Sponsored, View, offer_with, offer_with_in, trade_aggregates, Owed, nothing_owed, plus}
use prelude.{weighed, IsEntryLegal, IsLegalOwing, IsOfferInRange, acquiring_legal, binding_legal, unbound_if, put_legal}
use prelude.{legal_wider, legal_as, most_given, most_taken, account_gives, account_takes, line_gives, line_takes}
use prelude.{paying, CrossEnd, Converted, Partial, BadPrice, CrossSelf, TooMany, most_crossings, Crossing, converted}
use prelude.{left_of_trade, drawn, OfferFault, Asked, capped, source_gives_at, source_takes_at, wanted_tests, trade_of}
use prelude.{settled, left_of, offer_left, map_after_keeping, Sold, kept, by_end, after_tests, sold, unless_fault}
use prelude.{first_fault, IsHeld, IsEased, Related, Passes, IsOwedRightly, one_more, IsCrossed, kept_at, kept_in}
use prelude.{IsAskedRightly, SellingKeeps, can_sell, can_buy, given_fits, taken_fits, giving_takes, selling_takes}
use prelude.{held_paid, held_bound, offer_beside, no_less, put_beside, crossing_keeps, subentries_freed}
use prelude.{one_more_is_right, IsOwnKey, holder_own, IsKeyed, put_elsewhere, add_assoc, add_neg_self}
use prelude.{add_to_zero_at_most_one, add_zero, add_zero_at_most, int_cmp_equal, natural_at_most_trans}
use prelude.{unsigned_abs_positive, add-zero}
use Rattle.sponsor_rules.specs.reserve_rules.Reserve.{available, room, greatest_i64}
use Rattle.std.proofs.Math.Nat.{min-le_right}
use Rattle.ledger_types.specs.declared.entry.LedgerEntryBody.TheVariants as body
use Rattle.ledger_types.specs.declared.key.LedgerKey.TheVariants as key
use Rattle.offer_exchange.specs.Laws.{IsBound}
use Rattle.offer_exchange.proofs.Adjusting.{adjusted_bound}
use Rattle.trade_cross.proofs.Paying.{CanPay, paying_legal, can_give, can_take}

-- ---- what the taker still holds

rooms_same : (g b b' l l' : ℤ) → b' ≡ b → l' ≡ l → (g -ℤ b -ℤ l) ≤ℤ (g -ℤ b' -ℤ l')
rooms_same g b b' l l' one two = omega (arith, ints)

module _ (base : ℕ) (x : AccountId) (m new : EntryMap) (passes : Passes base x m new) where
  own_account : (o p : Option AccountEntry) → Related (IsEased base) o p → (a : AccountEntry) → o ≡ Some a
      → (b : AccountEntry) × (p ≡ Some b) × IsEased base a b
  own_account None p h a is = absurd (cc)
  own_account (Some c) None h a is = absurd h
  own_account (Some c) (Some b) h a is =
      let same : c ≡ a = cc in
      (b, refl, subst (λ y. IsEased base y b) same h)

  pub still_held : (k : Option LedgerKey) → IsOwnKey x k → IsHeld m k → IsHeld new k
  still_held None own held = tt
  still_held (Some (key.Account id)) own held =
      let found = own_account (account_at m x) (account_at new x) passes.account held.0
      (ap (account_at m) (sym own) ∙ held.1) in
      (found.0, ap (account_at new) own ∙ found.1)
  still_held (Some (key.TrustLine id y)) own held =
      (held.0, (λ i. line_at new (own i) y) ∙ passes.lines y ∙ (λ i. line_at m (sym own i) y) ∙ held.1, held.2)
  still_held (Some other) own held = absurd held

  pub no_less_given : (k : Option LedgerKey) → IsOwnKey x k → IsHeld m k → most_given base m k ≤ most_given base new k
  no_less_given None own held = omega arith
  no_less_given (Some (key.Account id)) own held =
      let found = own_account (account_at m x) (account_at new x) passes.account held.0
      (ap (account_at m) (sym own) ∙ held.1) in
      subst (λ o. account_gives base o ≤ account_gives base (account_at new id)) (sym held.1)
      (subst (λ o. account_gives base (Some held.0) ≤ account_gives base o)
      (sym (ap (account_at new) own ∙ found.1))
      (no_less (available held.0 base) (available found.0 base) found.2.more))
  no_less_given (Some (key.TrustLine id y)) own held =
      subst (λ o. line_gives (line_at m id y) ≤ line_gives o)
      (sym ((λ i. line_at new (own i) y) ∙ passes.lines y ∙ (λ i. line_at m (sym own i) y))) (omega arith)
  no_less_given (Some other) own held = absurd held

  pub no_less_taken : (k : Option LedgerKey) → IsOwnKey x k → IsHeld m k → most_taken m k ≤ most_taken new k
  no_less_taken None own held = omega arith
  no_less_taken (Some (key.Account id)) own held =
      let found = own_account (account_at m x) (account_at new x) passes.account held.0
      (ap (account_at m) (sym own) ∙ held.1) in
      subst (λ o. account_takes o ≤ account_takes (account_at new id)) (sym held.1)
      (subst (λ o. account_takes (Some held.0) ≤ account_takes o)
      (sym (ap (account_at new) own ∙ found.1))
      (no_less (room held.0) (room found.0) (rooms_same greatest_i64 held.0.balance found.0.balance _ _
      found.2.balance (ap (λ l. l.buying) found.2.liabilities))))
  no_less_taken (Some (key.TrustLine id y)) own held =
      subst (λ o. line_takes (line_at m id y) ≤ line_takes o)
      (sym ((λ i. line_at new (own i) y) ∙ passes.lines y ∙ (λ i. line_at m (sym own i) y))) (omega arith)
  no_less_taken (Some other) own held = absurd held

-- ---- ids

module _ (m : EntryMap) (keyed : IsKeyed m) (id : ℤ)
    (free : (seller : AccountId) → get m (key.Offer seller id) ≡ None) where
  not_with : (k : LedgerKey) (e : LedgerEntry) (b : LedgerEntryBody) → get m k ≡ Some e → e.body ≡ b
      → offer_with_in id b ≡ pos 0
  not_with k e (body.Offer o) there is = elim (is_eq (int_cmp o.offer_id id)) as
      (λ t. is_eq (int_cmp o.offer_id id) ≡ t → (if t then pos 1 else pos 0) ≡ pos 0) [
        | true ↦ λ h. absurd (
            let at : key.Offer o.seller_id id ≡ k = ap (key.Offer o.seller_id) (sym (int_cmp_equal _ _ h))
            ∙ sym (ap key_of_body is) ∙ keyed k e there in
            let none : get m k ≡ None = ap (get m) (sym at) ∙ free o.seller_id in
            cc)
        | false ↦ λ h. refl
      ] refl
  not_with k e other there is = refl

  none_with : total (offer_with id) m ≡ pos 0
  none_with = total_none (offer_with id) m (λ k e there. not_with k e e.body there refl)

-- ---- an offer's entry that is put

own_one : (x : ℤ) (t : Bool) → (neg_ℤ x +ℤ (x -ℤ (if t then pos 0 else pos 0))) ≡ pos 0
own_one x true = omega (arith, ints)
own_one x false = omega (arith, ints)

own_paid : (x y : ℤ) (t : Bool) → y ≡ x → (neg_ℤ x +ℤ (y -ℤ (if t then pos 0 else pos 0))) ≡ pos 0
own_paid x y true is = omega (arith, ints)
own_paid x y false is = omega (arith, ints)

own_payer : (x : ℤ) (t : Bool) → (neg_ℤ x +ℤ ((x +ℤ pos 0) -ℤ (if t then pos 0 else pos 0))) ≡ pos 0
own_payer x true = omega (arith, ints)
own_payer x false = omega (arith, ints)

beside_own : (x : ℤ) (t : Bool) → (pos 0 +ℤ (x -ℤ (if t then pos 0 else pos 0))) ≡ x
beside_own x true = omega (arith, ints)
beside_own x false = omega (arith, ints)

-- what was counted in excess exists, and what it binds is owed
now_exists : (v : View) (e : LedgerEntry) (o : OfferEntry) (kind : Kind) (k : LedgerKey)
    → plus (one_more o.seller_id (sponsor_of e)) (weighed v (record e { body = body.Offer o })) kind k
    ≡ trade_aggregates o kind k
now_exists v e o Subentries k = own_one (for_account k (Some o.seller_id) 1) (is_key (key_of_body (body.Offer o)) k)
now_exists v e o Sponsored k =
    own_paid (for_account k (Some o.seller_id) (if is_there (sponsor_of e) then 1 else 0))
    (for_account k (Some o.seller_id) ((if is_there (sponsor_of e) then 1 else 0) + 0))
    (is_key (key_of_body (body.Offer o)) k)
    (ap (λ n. for_account k (Some o.seller_id) n) (add-zero (if is_there (sponsor_of e) then 1 else 0)))
now_exists v e o Sponsoring k = own_payer (for_account k (sponsor_of e) 1) (is_key (key_of_body (body.Offer o)) k)
now_exists v e o kind k = beside_own _ (is_key (key_of_body (body.Offer o)) k)

module _ (m : EntryMap) (e : LedgerEntry) (o : OfferEntry) (is : e.body ≡ body.Offer o) where
  its_key : key_of e ≡ key.Offer o.seller_id o.offer_id
  its_key = ap key_of_body is

  pub account_same : (x : AccountId) → account_at (put m e) x ≡ account_at m x
  account_same x = put_beside m e (λ id same. no_account (same ∙ its_key)) x
    where
      no_account : {id : AccountId} → key.Account id ≡ key.Offer o.seller_id o.offer_id → ⊥
      no_account same = absurd (cc)

  line_same : (x : AccountId) (held : TrustLineAsset) → line_at (put m e) x held ≡ line_at m x held
  unfolding line_at
  line_same x held = ap line_of (put_elsewhere m e (key.TrustLine x held) (λ same. no_line (same ∙ its_key)))
    where
      no_line : key.TrustLine x held ≡ key.Offer o.seller_id o.offer_id → ⊥
      no_line same = absurd (cc)

  put_given : (base : ℕ) (k : Option LedgerKey) → most_given base (put m e) k ≡ most_given base m k
  put_given base None = refl
  put_given base (Some (key.Account x)) = ap (account_gives base) (account_same x)
  put_given base (Some (key.TrustLine x held)) = ap line_gives (line_same x held)
  put_given base (Some other) = refl

  put_taken : (k : Option LedgerKey) → most_taken (put m e) k ≡ most_taken m k
  put_taken None = refl
  put_taken (Some (key.Account x)) = ap account_takes (account_same x)
  put_taken (Some (key.TrustLine x held)) = ap line_takes (line_same x held)
  put_taken (Some other) = refl

  put_held : (k : Option LedgerKey) → IsHeld m k → IsHeld (put m e) k
  put_held None held = tt
  put_held (Some (key.Account x)) held = (held.0, account_same x ∙ held.1)
  put_held (Some (key.TrustLine x y)) held = (held.0, line_same x y ∙ held.1, held.2)
  put_held (Some other) held = absurd held

-- ---- what is left

pub capped_fits : (o : Option ℕ) (used there : ℕ) → capped o used there ≤ there
capped_fits None used there = omega arith
capped_fits (Some n) used there = min-le_right (n - used) there

module _ (v : View) (id_pool next base : ℕ) (sum : ℤ) (asked : Asked) (m : EntryMap)
    (legal : IsLegalOwing v id_pool (one_more asked.offer.seller_id (sponsor_of asked.entry)) sum m)
    (wide : id_pool ≤ next) (n_some : pos 1 ≤ℤ asked.offer.price.n) (d_some : pos 1 ≤ℤ asked.offer.price.d)
    (id_low : pos 1 ≤ℤ asked.offer.offer_id) (right : IsAskedRightly next asked m) where
  abbrev seller : AccountId
  seller = asked.offer.seller_id

  abbrev owed : Owed
  owed = one_more seller (sponsor_of asked.entry)

  owed_right : IsOwedRightly owed
  owed_right = one_more_is_right seller (sponsor_of asked.entry)

  none_kept : IsLegalOwing v id_pool nothing_owed sum (map_after_keeping asked zero m)
  none_kept = subentries_freed v id_pool sum seller (sponsor_of asked.entry) m legal right.paid

  module _ (j send receive : ℕ) (send_fits : send ≤ most_given base m (source_gives_at asked))
      (receive_fits : receive ≤ most_taken m (source_takes_at asked))
      (is : adjusted (unsigned_abs asked.offer.price.n) (unsigned_abs asked.offer.price.d) send receive ≡ suc j) where
    abbrev new : OfferEntry
    new = offer_left asked (suc j)

    abbrev e : LedgerEntry
    e = record asked.entry { body = body.Offer new }

    abbrev n : ℕ
    n = unsigned_abs asked.offer.price.n

    abbrev d : ℕ
    d = unsigned_abs asked.offer.price.d

    its_bound : bound_of new ≡ liabilities n d (adjusted n d send receive)
    its_bound = ap (liabilities n d) (sym is)

    one : 1 ≤ adjusted n d send receive
    one = subst (λ a. 1 ≤ a) (sym is) (omega arith)

    binds : IsBound n d send receive (adjusted n d send receive)
    binds = adjusted_bound n d send receive (unsigned_abs_positive asked.offer.price.n n_some)
        (unsigned_abs_positive asked.offer.price.d d_some)
        (natural_at_most_trans send (most_given base m (source_gives_at asked)) unlimited send_fits
        (given_fits v id_pool base owed sum m legal owed_right.covered (source_gives_at asked) right.gives))
        (natural_at_most_trans receive (most_taken m (source_takes_at asked)) unlimited receive_fits
        (taken_fits v id_pool base owed sum m legal (source_takes_at asked) right.takes))

    wheat_is : (bound_of new).wheat ≡ adjusted n d send receive
    wheat_is = ap (λ (b : Amounts). b.wheat) its_bound ∙ binds.all_selling

    sheep_is : (bound_of new).sheep ≡ (liabilities n d (adjusted n d send receive)).sheep
    sheep_is = ap (λ (b : Amounts). b.sheep) its_bound

    new_range : IsOfferInRange next new
    new_range = record {
      amount = omega (arith, ints);
      n = right.n;
      d = right.d;
      wheat = subst (λ x. 1 ≤ x) (sym wheat_is) one;
      sheep = subst (λ x. 1 ≤ x) (sym sheep_is) (binds.some_buying one);
      id_low = right.id_low;
      id_high = right.id_high;
      selling = right.selling;
      buying = right.buying;
      assets = right.assets;
      flags = right.flags;
    }

    entry_legal : IsEntryLegal next e
    entry_legal = record {
      range = record { body = new_range; paid = λ some same. right.paid seller same refl };
      bound = tt;
      few = tt;
      fits = tt;
      filled = tt;
    }

    ids_apart : (id : ℤ) → (total (offer_with id) m +ℤ offer_with id e) ≤ℤ pos 1
    ids_apart id = elim (is_eq (int_cmp new.offer_id id)) as
        (λ t. is_eq (int_cmp new.offer_id id) ≡ t → (total (offer_with id) m +ℤ
        (if t then pos 1 else pos 0)) ≤ℤ pos 1) [
          | true ↦ λ h. add_to_zero_at_most_one _ (pos 1)
              (ap (λ x. total (offer_with x) m) (sym (int_cmp_equal _ _ h))
              ∙ none_with m legal.keyed new.offer_id right.free)
              (omega (arith, ints))
          | false ↦ λ h. add_zero_at_most _ (pos 1) (legal.offers id)
        ] refl

    abbrev now : EntryMap
    now = put m e

    pub legal_now : IsLegalOwing v next (trade_aggregates new) sum now
    legal_now = legal_as v (IsEntryLegal next) _ (trade_aggregates new) _ sum now
        (put_legal v (IsEntryLegal next) owed sum m (legal_wider v id_pool next owed sum m wide legal) e
        (right.free seller) entry_legal (λ id same. absurd (cc)) ids_apart)
        (λ kind k. now_exists v asked.entry new kind k) (add_zero sum)

    pub sells_fit : (bound_of new).wheat ≤ most_given base now (source_gives_at asked)
    sells_fit = subst (λ x. x ≤ most_given base now (source_gives_at asked)) (sym wheat_is)
        (subst (λ x. adjusted n d send receive ≤ x) (sym (put_given m e new refl base (source_gives_at asked)))
        (natural_at_most_trans (adjusted n d send receive) send _
        (subst (λ x. x ≤ send) binds.all_selling binds.selling) send_fits))

    pub sells : CanBind now (source_gives_at asked) (pos (bound_of new).wheat) (pos 0)
    sells = can_sell v next base (trade_aggregates new) sum now legal_now (bound_of new).wheat (source_gives_at asked)
        (put_held m e new refl (source_gives_at asked) right.gives) sells_fit

    abbrev bound_now : EntryMap
    bound_now = binding (source_gives_at asked) (pos (bound_of new).wheat) (pos 0) now

    pub legal_bound : IsLegalOwing v next
        (plus (trade_aggregates new) (unbound_if (source_gives_at asked) (pos (bound_of new).wheat) (pos 0))) sum
        bound_now
    legal_bound = binding_legal v next (trade_aggregates new) sum now (source_gives_at asked) (pos (bound_of new).wheat)
        (pos 0)
        legal_now sells

    pub buys : CanBind bound_now (source_takes_at asked) (pos 0) (pos (bound_of new).sheep)
    buys = can_buy v next base _ sum bound_now legal_bound (bound_of new).sheep (source_takes_at asked)
        (held_bound now legal_now.keyed (source_gives_at asked) (pos (bound_of new).wheat) (pos 0) sells
        (source_takes_at asked) (put_held m e new refl (source_takes_at asked) right.takes))
        (natural_at_most_trans (bound_of new).sheep (most_taken now (source_takes_at asked)) _
        (subst (λ x. x ≤ most_taken now (source_takes_at asked)) (sym sheep_is)
        (subst (λ x. (liabilities n d (adjusted n d send receive)).sheep ≤ x)
        (sym (put_taken m e new refl (source_takes_at asked)))
        (natural_at_most_trans
        (liabilities n d (adjusted n d send receive)).sheep receive _ binds.buying receive_fits)))
        (selling_takes now legal_now.keyed (source_gives_at asked) (pos (bound_of new).wheat) sells
        (source_takes_at asked)))

    some_kept : IsLegalOwing v next nothing_owed sum (acquiring new now)
    some_kept = legal_as v (IsEntryLegal next) _ nothing_owed _ sum _
        (acquiring_legal v next (trade_aggregates new) sum new now legal_now (sells, buys))
        (λ kind k. add_neg_self (trade_aggregates new kind k)) refl

  by_amount : (done : Crossing) (end : CrossEnd) (amount : ℕ) → left_of base asked done end m ≡ amount
      → IsLegalOwing v (drawn id_pool next amount) nothing_owed sum (map_after_keeping asked amount m)
  by_amount done end zero is = none_kept
  by_amount done Converted (suc j) is = absurd (cc)
  by_amount done Partial (suc j) is = some_kept j _ _ (capped_fits asked.sells done.sheep _)
      (capped_fits asked.buys done.wheat _) is
  by_amount done BadPrice (suc j) is = some_kept j _ _ (capped_fits asked.sells done.sheep _)
      (capped_fits asked.buys done.wheat _) is
  by_amount done CrossSelf (suc j) is = some_kept j _ _ (capped_fits asked.sells done.sheep _)
      (capped_fits asked.buys done.wheat _) is
  by_amount done TooMany (suc j) is = some_kept j _ _ (capped_fits asked.sells done.sheep _)
      (capped_fits asked.buys done.wheat _) is

  pub keeping_legal : (done : Crossing)
      → IsLegalOwing v (drawn id_pool next (kept base asked done m).amount) nothing_owed sum
      (kept base asked done m).entries
  keeping_legal done = by_amount done done.end (left_of base asked done done.end m) refl

-- ---- the complete sale

unless_fault_same : {F : Type 0} (o : Option F) (m new : EntryMap) → unless_fault o m ≡ Ok new → m ≡ new
unless_fault_same None m new is = cc
unless_fault_same (Some fault) m new is = absurd (cc)

module _ (v : View) (id_pool next base : ℕ) (sum : ℤ) (asked : Asked) (m : EntryMap)
    (legal : IsLegalOwing v id_pool (one_more asked.offer.seller_id (sponsor_of asked.entry)) sum m)
    (wide : id_pool ≤ next) (right : IsAskedRightly next asked m) where
  abbrev its_owed : Owed
  its_owed = one_more asked.offer.seller_id (sponsor_of asked.entry)

  its_right : IsOwedRightly its_owed
  its_right = one_more_is_right asked.offer.seller_id (sponsor_of asked.entry)

  abbrev c : Crossing
  c = converted base (trade_of base asked m) m

  pub done_so : IsCrossed v id_pool base its_owed sum (trade_of base asked m) (left_of_trade
      (trade_of base asked m)) m c
  done_so = crossing_keeps v id_pool base its_owed sum (trade_of base asked m) most_crossings
      (left_of_trade (trade_of base asked m)) m legal
      its_right

  abbrev sum_crossed : ℤ
  sum_crossed = sum +ℤ kept_in v.asset c.atoms

  gives_own : IsOwnKey asked.offer.seller_id (source_gives_at asked)
  gives_own = holder_own asked.offer.seller_id asked.offer.selling

  takes_own : IsOwnKey asked.offer.seller_id (source_takes_at asked)
  takes_own = holder_own asked.offer.seller_id asked.offer.buying

  gives_still : IsHeld c.entries (source_gives_at asked)
  gives_still = still_held base asked.offer.seller_id m c.entries done_so.passes (source_gives_at asked) gives_own
      right.gives

  takes_still : IsHeld c.entries (source_takes_at asked)
  takes_still = still_held base asked.offer.seller_id m c.entries done_so.passes (source_takes_at asked) takes_own
      right.takes

  pub gives_fit : c.sheep ≤ most_given base c.entries (source_gives_at asked)
  gives_fit =
      (natural_at_most_trans c.sheep (capped asked.sells 0 (most_given base m (source_gives_at asked))) _ done_so.sheep
      (natural_at_most_trans _ (most_given base m (source_gives_at asked)) _
      (capped_fits asked.sells 0 (most_given base m (source_gives_at asked)))
      (no_less_given base asked.offer.seller_id m c.entries done_so.passes
      (source_gives_at asked) gives_own right.gives)))

  pub gives : CanPay c.entries (source_gives_at asked) (neg_ℤ (pos c.sheep))
  gives = can_give v id_pool base its_owed sum_crossed c.entries done_so.legal c.sheep its_right.covered
      (source_gives_at asked) gives_still gives_fit

  abbrev given : EntryMap
  given = paying (source_gives_at asked) (neg_ℤ (pos c.sheep)) c.entries

  abbrev sum_given : ℤ
  sum_given = sum_crossed +ℤ kept_at v.asset (source_gives_at asked) asked.offer.selling (neg_ℤ (pos c.sheep))

  pub legal_given : IsLegalOwing v id_pool its_owed sum_given given
  legal_given = paying_legal v id_pool its_owed sum_crossed c.entries done_so.legal asked.offer.seller_id
      asked.offer.selling (neg_ℤ (pos c.sheep)) gives

  pub takes : CanPay given (source_takes_at asked) (pos c.wheat)
  takes = can_take v id_pool base its_owed sum_given given legal_given c.wheat (source_takes_at asked)
      (held_paid c.entries done_so.legal.keyed (source_gives_at asked) (neg_ℤ (pos c.sheep)) gives
      (source_takes_at asked)
      takes_still)
      (natural_at_most_trans c.wheat (most_taken m (source_takes_at asked)) _
      (natural_at_most_trans c.wheat (capped asked.buys 0 (most_taken m (source_takes_at asked))) _ done_so.wheat
      (capped_fits asked.buys 0 (most_taken m (source_takes_at asked))))
      (natural_at_most_trans _ (most_taken c.entries (source_takes_at asked)) _
      (no_less_taken base asked.offer.seller_id m c.entries done_so.passes
      (source_takes_at asked) takes_own right.takes)
      (giving_takes c.entries done_so.legal.keyed (source_gives_at asked) c.sheep gives (source_takes_at asked))))

  abbrev paid_map : EntryMap
  paid_map = settled asked c

  abbrev sum_paid : ℤ
  sum_paid = sum_given +ℤ kept_at v.asset (source_takes_at asked) asked.offer.buying (pos c.wheat)

  pub legal_paid : IsLegalOwing v id_pool its_owed sum_paid paid_map
  legal_paid = paying_legal v id_pool its_owed sum_given given legal_given asked.offer.seller_id asked.offer.buying
      (pos c.wheat) takes

  still_free : (seller : AccountId) → get paid_map (key.Offer seller asked.offer.offer_id) ≡ None
  still_free seller =
      offer_beside given legal_given.keyed (source_takes_at asked) (pos c.wheat) takes seller asked.offer.offer_id
      ∙ offer_beside c.entries done_so.legal.keyed (source_gives_at asked) (neg_ℤ (pos c.sheep)) gives seller
      asked.offer.offer_id
      ∙ done_so.passes.offers seller asked.offer.offer_id (right.free seller)

  pub right_then : IsAskedRightly next asked paid_map
  right_then = record {
    gives = held_paid given legal_given.keyed (source_takes_at asked) (pos c.wheat) takes (source_gives_at asked)
        (held_paid c.entries done_so.legal.keyed (source_gives_at asked) (neg_ℤ (pos c.sheep)) gives
        (source_gives_at asked) gives_still);
    takes = held_paid given legal_given.keyed (source_takes_at asked) (pos c.wheat) takes (source_takes_at asked)
        (held_paid c.entries done_so.legal.keyed (source_gives_at asked) (neg_ℤ (pos c.sheep)) gives
        (source_takes_at asked) takes_still);
    free = still_free;
    paid = right.paid;
    n = right.n;
    d = right.d;
    id_low = right.id_low;
    id_high = right.id_high;
    selling = right.selling;
    buying = right.buying;
    assets = right.assets;
    flags = right.flags;
  }

  abbrev ids : ℕ
  ids = drawn id_pool next (kept base asked c paid_map).amount

  kept_legal : IsLegalOwing v ids nothing_owed sum_paid (kept base asked c paid_map).entries
  kept_legal = keeping_legal v id_pool next base sum_paid asked paid_map legal_paid wide right.n right.d right.id_low
      right_then c

  abbrev IsLeft : Sold → Type 0
  IsLeft done = IsLegalOwing v (drawn id_pool next done.amount) nothing_owed
      ((sum +ℤ kept_in v.asset done.crossed.atoms)
      +ℤ (kept_at v.asset (source_gives_at asked) asked.offer.selling (neg_ℤ (pos done.crossed.sheep))
      +ℤ kept_at v.asset (source_takes_at asked) asked.offer.buying (pos done.crossed.wheat))) done.entries

  its_left : IsLeft (kept base asked c paid_map)
  its_left = legal_as v (IsEntryLegal ids) nothing_owed nothing_owed sum_paid _ _ kept_legal (λ kind k. refl)
      (add_assoc sum_crossed _ _)

  by_its_end : (end : CrossEnd) (done : Sold) → by_end base asked c end ≡ Ok done → kept base asked c paid_map ≡ done
  by_its_end CrossSelf done is = absurd (cc)
  by_its_end TooMany done is = absurd (cc)
  by_its_end Converted done is = cc
  by_its_end Partial done is = cc
  by_its_end BadPrice done is = cc

  by_tests : (o : Option OfferFault) (done : Sold)
      → after_tests (unless_fault o m) (λ n. by_end base asked
      (converted base (trade_of base asked n) n)
      (converted base (trade_of base asked n) n).end) ≡ Ok done
      → kept base asked c paid_map ≡ done
  by_tests None done is = by_its_end c.end done is
  by_tests (Some fault) done is = absurd (cc)

  -- what a sale is
  pub sold_is : (done : Sold) → sold base asked m ≡ Ok done → kept base asked c paid_map ≡ done
  unfolding sold
  sold_is done is = by_tests (first_fault (wanted_tests base asked m)) done is

pub selling_keeps : SellingKeeps
selling_keeps v id_pool next base sum asked m done legal wide right is =
    subst (IsLeft v id_pool next base sum asked m legal wide right)
    (sold_is v id_pool next base sum asked m legal wide right done is)
    (its_left v id_pool next base sum asked m legal wide right)

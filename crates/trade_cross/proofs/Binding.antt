-- What payments and liabilities leave of what accounts hold.
use Rattle.trade_cross.proofs.Prelude as prelude
use prelude.{◌≡◌, inl, inr, refl, sym, subst, ℕ, ◌≤◌, Option, Some, None, arith, ints, ℤ, pos, neg_ℤ, ◌+ℤ◌, ◌-ℤ◌, ◌≤ℤ◌}
use prelude.{get, AccountId, Liabilities, AccountEntry, TrustLineEntry, LedgerKey, EntryMap, account_at}
use prelude.{account_liabilities, line_at, line_liabilities, available, room, line_available, line_room, greatest_i64}
use prelude.{unlimited, risen, binding, bound_account, bound_line, CanBind, Subentries, Sponsored, View, Owed}
use prelude.{IsLegalOwing, paid, account_legal, not_above_balance, stored, line_stored, kept_elsewhere, bound_in_range}
use prelude.{line_in_range, at_least_nothing, most_given, most_taken, account_gives, account_takes, line_gives}
use prelude.{line_takes, line_paid, paying, IsKeyed, Related, IsHeld, line_legal, add_natural_nonnegative}
use prelude.{add_zero_at_most, at_most_refl, fits_after_zero, room_after_zero}
use Rattle.ledger_types.specs.declared.key.LedgerKey.TheVariants as key
use Rattle.trade_cross.proofs.Held.{related_same, Relates, account_relates, line_relates, line_keeps}
use Rattle.trade_cross.proofs.Held.{AnyAccount, SameFlags, held_still}
use Rattle.trade_cross.proofs.Paying.{CanPay, within}

-- ---- before and after

module _ (R : AccountEntry → AccountEntry → Type 0) (S : TrustLineEntry → TrustLineEntry → Type 0)
    (same_a : (a : AccountEntry) → R a a) (same_t : (t : TrustLineEntry) → S t t) where
  pub relates_itself : (m : EntryMap) → Relates R S m m
  relates_itself m = record {
    accounts = λ id. related_same R same_a _ _ refl;
    lines = λ id held. related_same S same_t _ _ refl;
  }

  pub binding_relates : (m : EntryMap) → IsKeyed m → (k : Option LedgerKey) (selling buying : ℤ)
      → CanBind m k selling buying → ((a : AccountEntry) → R a (bound_account selling buying a))
      → ((t : TrustLineEntry) → S t (bound_line selling buying t)) → Relates R S m (binding k selling buying m)
  binding_relates m keyed None selling buying can r s = relates_itself m
  binding_relates m keyed (Some (key.Account id)) selling buying can r s = account_relates R S same_a same_t m keyed id
      (bound_account selling buying) can.0 can.1 refl (r can.0)
  binding_relates m keyed (Some (key.TrustLine id x)) selling buying can r s = line_relates R S same_a same_t m keyed id
      x (bound_line selling buying) can.0 can.1 refl refl (s can.0)
  binding_relates m keyed (Some other) selling buying can r s = absurd can

  pub paying_relates : (m : EntryMap) → IsKeyed m → (k : Option LedgerKey) (n : ℤ) → CanPay m k n
      → ((a : AccountEntry) → R a (paid n a)) → ((t : TrustLineEntry) → S t (line_paid n t))
      → Relates R S m (paying k n m)
  paying_relates m keyed None n can r s = relates_itself m
  paying_relates m keyed (Some (key.Account id)) n can r s = account_relates R S same_a same_t m keyed id
      (paid n) can.0 can.1 refl (r can.0)
  paying_relates m keyed (Some (key.TrustLine id x)) n can r s = line_relates R S same_a same_t m keyed id
      x (line_paid n) can.0 can.1 refl refl (s can.0)
  paying_relates m keyed (Some other) n can r s = absurd can

-- what an account holds it holds still
pub held_bound : (m : EntryMap) → IsKeyed m → (k : Option LedgerKey) (selling buying : ℤ) → CanBind m k selling buying
    → (q : Option LedgerKey) → IsHeld m q → IsHeld (binding k selling buying m) q
held_bound m keyed k selling buying can q held = held_still m (binding k selling buying m)
    (binding_relates AnyAccount SameFlags (λ a. tt) (λ t. refl) m keyed k selling buying can (λ a.
    tt) (λ t. refl)) q held

pub held_paid : (m : EntryMap) → IsKeyed m → (k : Option LedgerKey) (n : ℤ) → CanPay m k n → (q : Option LedgerKey)
    → IsHeld m q → IsHeld (paying k n m) q
held_paid m keyed k n can q held = held_still m (paying k n m)
    (paying_relates AnyAccount SameFlags (λ a. tt) (λ t. refl) m keyed k n can (λ a. tt) (λ t. refl)) q held

-- an offer stays as it is
pub offer_beside : (m : EntryMap) → IsKeyed m → (k : Option LedgerKey) (n : ℤ) → CanPay m k n → (seller : AccountId)
    (id : ℤ) → get (paying k n m) (key.Offer seller id) ≡ get m (key.Offer seller id)
offer_beside m keyed None n can seller id = refl
offer_beside m keyed (Some (key.Account x)) n can seller id =
    kept_elsewhere m x (paid n) can.0 keyed can.1 refl (key.Offer seller id) (λ same. absurd (cc))
offer_beside m keyed (Some (key.TrustLine x held)) n can seller id =
    line_keeps AnyAccount SameFlags (λ a. tt) (λ t. refl) m keyed x held (line_paid n) can.0 can.1 refl refl refl
    (key.Offer seller id) (λ same. absurd (cc))
offer_beside m keyed (Some other) n can seller id = absurd can

-- what can be bound is held
pub bindable_held : (m : EntryMap) (k : Option LedgerKey) (selling buying : ℤ) → CanBind m k selling buying
    → IsHeld m k
bindable_held m None selling buying can = tt
bindable_held m (Some (key.Account id)) selling buying can = (can.0, can.1)
bindable_held m (Some (key.TrustLine id x)) selling buying can = (can.0, can.1, can.3)
bindable_held m (Some other) selling buying can = absurd can

-- ---- rooms

abbrev RoomRises : AccountEntry → AccountEntry → Type 0
RoomRises a b = room a ≤ℤ room b

abbrev LineRoomRises : TrustLineEntry → TrustLineEntry → Type 0
LineRoomRises t u = line_room t ≤ℤ line_room u

pub no_less : (x y : ℤ) → x ≤ℤ y → at_least_nothing x ≤ at_least_nothing y
no_less (pos a) (pos b) le = omega (arith, ints)
no_less (pos a) below le = absurd (omega (arith, ints))
no_less other (pos b) le = omega arith
no_less other below le = omega arith

accounts_take : (o p : Option AccountEntry) → Related RoomRises o p → account_takes o ≤ account_takes p
accounts_take None None h = omega arith
accounts_take None (Some b) h = absurd h
accounts_take (Some a) None h = absurd h
accounts_take (Some a) (Some b) h = no_less (room a) (room b) h

lines_take : (o p : Option TrustLineEntry) → Related LineRoomRises o p → line_takes o ≤ line_takes p
lines_take None None h = omega arith
lines_take None (Some b) h = absurd h
lines_take (Some a) None h = absurd h
lines_take (Some a) (Some b) h = no_less (line_room a) (line_room b) h

same_nat : (n : ℕ) → n ≤ n
same_nat n = omega arith

takes_more : (m new : EntryMap) → Relates RoomRises LineRoomRises m new → (k : Option LedgerKey)
    → most_taken m k ≤ most_taken new k
takes_more m new rel None = same_nat unlimited
takes_more m new rel (Some (key.Account id)) = accounts_take (account_at m id) (account_at new id) (rel.accounts id)
takes_more m new rel (Some (key.TrustLine id x)) = lines_take (line_at m id x) (line_at new id x) (rel.lines id x)
takes_more m new rel (Some other) = omega arith

less_room : (g b buying : ℤ) (n : ℕ) → (g -ℤ b -ℤ buying) ≤ℤ (g -ℤ (b +ℤ neg_ℤ (pos n)) -ℤ buying)
less_room g b buying n = omega (arith, ints)

-- who gives has no less room
pub giving_takes : (m : EntryMap) → IsKeyed m → (k : Option LedgerKey) (n : ℕ) → CanPay m k (neg_ℤ (pos n))
    → (q : Option LedgerKey) → most_taken m q ≤ most_taken (paying k (neg_ℤ (pos n)) m) q
giving_takes m keyed k n can q = takes_more m (paying k (neg_ℤ (pos n)) m)
    (paying_relates RoomRises LineRoomRises (λ a. at_most_refl (room a)) (λ t. at_most_refl (line_room t)) m keyed k
    (neg_ℤ (pos n)) can (λ a. less_room greatest_i64 a.balance (account_liabilities a).buying n)
    (λ t. less_room t.limit t.balance (line_liabilities t).buying n)) q

-- who binds more for sale has no less room
pub selling_takes : (m : EntryMap) → IsKeyed m → (k : Option LedgerKey) (n : ℤ) → CanBind m k n (pos 0)
    → (q : Option LedgerKey) → most_taken m q ≤ most_taken (binding k n (pos 0) m) q
selling_takes m keyed k n can q = takes_more m (binding k n (pos 0) m)
    (binding_relates RoomRises LineRoomRises (λ a. at_most_refl (room a)) (λ t. at_most_refl (line_room t)) m keyed k n
    (pos 0) can
    (λ a. subst (λ (l : Liabilities). room a ≤ℤ (greatest_i64 -ℤ a.balance -ℤ l.buying))
    (sym (stored (risen n (pos 0) (account_liabilities a)) a.ext))
    (room_after_zero greatest_i64 a.balance (account_liabilities a).buying))
    (λ t. subst (λ (l : Liabilities). line_room t ≤ℤ (t.limit -ℤ t.balance -ℤ l.buying))
    (sym (line_stored (risen n (pos 0) (line_liabilities t)) t.ext))
    (room_after_zero t.limit t.balance (line_liabilities t).buying))) q

-- ---- what can be bound

sold_covered : (b s : ℤ) (n : ℕ) → pos n ≤ℤ (b -ℤ s) → (s +ℤ pos n) ≤ℤ b
sold_covered b s n le = omega (arith, ints)

none_sold : (b s : ℤ) (n : ℕ) → s ≤ℤ b → n ≡ 0 → (s +ℤ pos n) ≤ℤ b
none_sold b s n le none = omega (arith, ints)

bought_fits : (b x g : ℤ) (n : ℕ) → pos n ≤ℤ (g -ℤ b -ℤ x) → (b +ℤ (x +ℤ pos n)) ≤ℤ g
bought_fits b x g n le = omega (arith, ints)

none_bought : (b x g : ℤ) (n : ℕ) → (b +ℤ x) ≤ℤ g → n ≡ 0 → (b +ℤ (x +ℤ pos n)) ≤ℤ g
none_bought b x g n fits none = omega (arith, ints)

module _ (v : View) (id_pool base : ℕ) (owed : Owed) (sum : ℤ) (m : EntryMap)
    (legal : IsLegalOwing v id_pool owed sum m) where
  pub can_sell : (n : ℕ) (k : Option LedgerKey) → IsHeld m k → n ≤ most_given base m k → CanBind m k (pos n) (pos 0)
  can_sell n None held le = tt
  can_sell n (Some (key.Account id)) held le =
      let a = held.0 in
      let range = (account_legal v id_pool owed sum m id a legal held.1).range.range in (
        a,
        held.1,
        bound_in_range (pos n) (pos 0) a range (add_natural_nonnegative _ n range.selling)
            (add_natural_nonnegative _ 0 range.buying)
            (fits_after_zero a.balance _ greatest_i64 range.fits),
      )
  can_sell n (Some (key.TrustLine id x)) held le =
      let t = held.0 in
      let range = (line_legal v id_pool owed sum m id x t legal held.1).range.range in
      let enough : n ≤ at_least_nothing (line_available t) = subst (λ o. n ≤ line_gives o) held.1 le in (
        t,
        held.1,
        line_in_range (pos n) (pos 0) t range (add_natural_nonnegative _ n range.selling)
            (add_natural_nonnegative _ 0 range.buying)
            (elim (within (line_available t) n enough) [
              | inl none ↦ none_sold t.balance (line_liabilities t).selling n range.covered none
              | inr there ↦ sold_covered t.balance (line_liabilities t).selling n there
            ]) (fits_after_zero t.balance _ t.limit range.fits),
        held.2,
      )
  can_sell n (Some other) held le = held

  pub can_buy : (n : ℕ) (k : Option LedgerKey) → IsHeld m k → n ≤ most_taken m k → CanBind m k (pos 0) (pos n)
  can_buy n None held le = tt
  can_buy n (Some (key.Account id)) held le =
      let a = held.0 in
      let range = (account_legal v id_pool owed sum m id a legal held.1).range.range in
      let room_for : n ≤ at_least_nothing (room a) = subst (λ o. n ≤ account_takes o) held.1 le in (
        a,
        held.1,
        bound_in_range (pos 0) (pos n) a range (add_natural_nonnegative _ 0 range.selling)
            (add_natural_nonnegative _ n range.buying)
            (elim (within (room a) n room_for) [
              | inl none ↦ none_bought a.balance (account_liabilities a).buying greatest_i64 n range.fits none
              | inr there ↦ bought_fits a.balance (account_liabilities a).buying greatest_i64 n there
            ]),
      )
  can_buy n (Some (key.TrustLine id x)) held le =
      let t = held.0 in
      let range = (line_legal v id_pool owed sum m id x t legal held.1).range.range in
      let room_for : n ≤ at_least_nothing (line_room t) = subst (λ o. n ≤ line_takes o) held.1 le in (
        t,
        held.1,
        line_in_range (pos 0) (pos n) t range (add_natural_nonnegative _ 0 range.selling)
            (add_natural_nonnegative _ n range.buying)
            (add_zero_at_most _ t.balance range.covered)
            (elim (within (line_room t) n room_for) [
              | inl none ↦ none_bought t.balance (line_liabilities t).buying t.limit n range.fits none
              | inr there ↦ bought_fits t.balance (line_liabilities t).buying t.limit n there
            ]),
        held.2,
      )
  can_buy n (Some other) held le = held

  -- ---- no bound is above the greatest number

  fits_nat : (x : ℤ) → x ≤ℤ greatest_i64 → at_least_nothing x ≤ unlimited
  fits_nat x le = no_less x greatest_i64 le

  gives_fits : (b avail buying : ℤ) → avail ≤ℤ b → pos 0 ≤ℤ buying → (b +ℤ buying) ≤ℤ greatest_i64
      → avail ≤ℤ greatest_i64
  gives_fits b avail buying le low fits = omega (arith, ints)

  room_fits : (g b buying : ℤ) → pos 0 ≤ℤ b → pos 0 ≤ℤ buying → (g -ℤ b -ℤ buying) ≤ℤ g
  room_fits g b buying low also = omega (arith, ints)

  line_gives_fits : (b s buying limit : ℤ) → pos 0 ≤ℤ s → pos 0 ≤ℤ buying → (b +ℤ buying) ≤ℤ limit
      → limit ≤ℤ greatest_i64 → (b -ℤ s) ≤ℤ greatest_i64
  line_gives_fits b s buying limit low also fits most = omega (arith, ints)

  both : (x y g : ℤ) → x ≤ℤ y → y ≤ℤ g → x ≤ℤ g
  both x y g le also = omega (arith, ints)

  pub given_fits : ((k : LedgerKey) → owed Subentries k ≤ℤ owed Sponsored k) → (k : Option LedgerKey) → IsHeld m k
      → most_given base m k ≤ unlimited
  given_fits covered None held = same_nat unlimited
  given_fits covered (Some (key.Account id)) held =
      let a = held.0 in
      let range = (account_legal v id_pool owed sum m id a legal held.1).range.range in
      subst (λ o. account_gives base o ≤ unlimited) (sym held.1) (fits_nat (available a base)
      (gives_fits a.balance (available a base) (account_liabilities a).buying
      (not_above_balance v id_pool owed sum m id a base (available a base) legal (covered (key.Account id)) held.1
      (at_most_refl (available a base))) range.buying range.fits))
  given_fits covered (Some (key.TrustLine id x)) held =
      let t = held.0 in
      let its = line_legal v id_pool owed sum m id x t legal held.1 in
      subst (λ o. line_gives o ≤ unlimited) (sym held.1) (fits_nat (line_available t)
      (line_gives_fits t.balance (line_liabilities t).selling (line_liabilities t).buying t.limit
      its.range.range.selling its.range.range.buying its.range.range.fits its.range.greatest))
  given_fits covered (Some other) held = absurd held

  pub taken_fits : (k : Option LedgerKey) → IsHeld m k → most_taken m k ≤ unlimited
  taken_fits None held = same_nat unlimited
  taken_fits (Some (key.Account id)) held =
      let a = held.0 in
      let range = (account_legal v id_pool owed sum m id a legal held.1).range.range in
      subst (λ o. account_takes o ≤ unlimited) (sym held.1) (fits_nat (room a)
      (room_fits greatest_i64 a.balance (account_liabilities a).buying range.balance range.buying))
  taken_fits (Some (key.TrustLine id x)) held =
      let t = held.0 in
      let its = line_legal v id_pool owed sum m id x t legal held.1 in
      subst (λ o. line_takes o ≤ unlimited) (sym held.1) (fits_nat (line_room t)
      (both (line_room t) t.limit greatest_i64 (room_fits t.limit t.balance (line_liabilities t).buying
      its.range.range.balance its.range.range.buying) its.range.greatest))
  taken_fits (Some other) held = absurd held

-- What crossing leaves: what entries hold, and no less available of accounts than before, unless enough is.
use Rattle.trade_cross.proofs.Prelude as prelude
use prelude.{◌≡◌, ◌⊎◌, inl, inr, refl, sym, ap, subst, ◌∙◌, ℕ, ◌+◌, ◌≤◌, Bool, true, false, Option, Some, None, arith}
use prelude.{ints, ℤ, pos, neg_ℤ, ◌+ℤ◌, ◌-ℤ◌, ◌*ℤ◌, ◌≤ℤ◌, if◌then◌else◌, get, AccountId, Asset, TrustLineAsset}
use prelude.{AccountEntry, OfferEntry, LedgerEntry, LedgerKey, EntryMap, erase, account_at, account_liabilities}
use prelude.{sponsored_in, sponsoring_in, sponsor_of, with_line, offer_at, with_offer, part, available, min_balance}
use prelude.{is_same_account, without_subentry, map_after_removing, map_after_removing_entry, map_after_discounting}
use prelude.{risen, binding, bound_account, bound_line, CanBind, View, AreReservesSettled, Owed, IsLegalOwing, paid}
use prelude.{stored, second, offer_entry, with_offer_body, with_offer_is, put_same, still_holds, line_left, line_kept}
use prelude.{is_key, of_asset, of_line, held_in, held_of, holder, offer_key, at_least_nothing, most_given}
use prelude.{account_gives, line_paid, paying, discharged_kept, erased_kept, IsKeyed, none_more, under_key, more_at}
use prelude.{HoldsMore, Leaves, leaves_itself, leaves_as, keeps_both, accounts_kept, account_changed, account_kept}
use prelude.{add_sub_first, add_zero, room_after_zero}
use Rattle.ledger_types.specs.declared.asset.Asset.TheVariants as asset
use Rattle.ledger_types.specs.declared.asset.TrustLineAsset.TheVariants as line
use Rattle.ledger_types.specs.declared.entry.LedgerEntryBody.TheVariants as body
use Rattle.ledger_types.specs.declared.key.LedgerKey.TheVariants as key
use Rattle.legal_rules.proofs.Removing.{owns}
use Rattle.legal_rules.proofs.Subentries.{subentry_of}
use Rattle.trade_cross.proofs.Paying.{CanPay, within}
use Rattle.trade_cross.proofs.StepLegal.{account_keeps}

-- ---- payments

-- what is available after a payment is at least nothing, or at least what it was
abbrev IsCoveredPayment : ℕ → ℤ → AccountEntry → Type 0
IsCoveredPayment base n a = (pos 0 ≤ℤ available (paid n a) base) ⊎ (available a base ≤ℤ available (paid n a) base)

module _ (base : ℕ) (m : EntryMap) (keyed : IsKeyed m) (n : ℤ) where
  line_pays : (id : AccountId) (x : TrustLineAsset) → CanPay m (Some (key.TrustLine id x)) n
      → Leaves base (under_key (key.TrustLine id x) (λ y. of_line y x n)) m (with_line m id x (line_paid n))
  line_pays id x can = leaves_as base
      (under_key (key.TrustLine id x) (λ y. of_line y x ((can.0.balance +ℤ n) -ℤ can.0.balance)))
      (under_key (key.TrustLine id x) (λ y. of_line y x n)) m (with_line m id x (line_paid n))
      (line_left m id x (line_paid n) can.0 can.1 refl refl base keyed)
      (λ k y. ap (λ d. if is_key k (key.TrustLine id x) then of_line y x d else pos 0) (add_sub_first can.0.balance n))

  line_or_none : (b : Bool) (id : AccountId) (x : TrustLineAsset) (held : Asset)
      → ((y : Asset) (d : ℤ) → of_line y x d ≡ of_asset y held d)
      → CanPay m (if b then None else Some (key.TrustLine id x)) n
      → Leaves base (more_at (if b then None else Some (key.TrustLine id x)) held n) m
      (paying (if b then None else Some (key.TrustLine id x)) n m)
  line_or_none true id x held same can = leaves_itself base m keyed
  line_or_none false id x held same can = leaves_as base
      (under_key (key.TrustLine id x) (λ y. of_line y x n)) (under_key (key.TrustLine id x) (λ y. of_asset y held n)) m
      (with_line m id x (line_paid n)) (line_pays id x can)
      (λ k y. ap (λ d. if is_key k (key.TrustLine id x) then d else pos 0) (same y n))

  -- whoever holds an asset has so much more of it
  paying_left : (id : AccountId) (held : Asset) → CanPay m (holder id held) n
      → ((other : AccountId) → holder id held ≡ Some (key.Account other) → (a : AccountEntry)
      → account_at m other ≡ Some a → IsCoveredPayment base n a)
      → Leaves base (more_at (holder id held) held n) m (paying (holder id held) n m)
  paying_left id asset.Native can covered =
      account_changed base n m keyed id (paid n) can.0 can.1
      (record { id = refl; balance = refl; covered = covered id refl can.0 can.1 })
  paying_left id (asset.Alphanum4 code issuer) can covered =
      line_or_none (is_same_account issuer id) id (line.Alphanum4 code issuer) (asset.Alphanum4 code issuer)
      (λ y d. refl) can
  paying_left id (asset.Alphanum12 code issuer) can covered =
      line_or_none (is_same_account issuer id) id (line.Alphanum12 code issuer) (asset.Alphanum12 code issuer)
      (λ y d. refl) can

given_covered : (b p s : ℤ) (n : ℕ) → pos n ≤ℤ (b -ℤ p -ℤ s) → pos 0 ≤ℤ ((b +ℤ neg_ℤ (pos n)) -ℤ p -ℤ s)
given_covered b p s n le = omega (arith, ints)

none_given : (b p s : ℤ) (n : ℕ) → n ≡ 0 → (b -ℤ p -ℤ s) ≤ℤ ((b +ℤ neg_ℤ (pos n)) -ℤ p -ℤ s)
none_given b p s n none = omega (arith, ints)

taken_covered : (b p s : ℤ) (n : ℕ) → (b -ℤ p -ℤ s) ≤ℤ ((b +ℤ pos n) -ℤ p -ℤ s)
taken_covered b p s n = omega (arith, ints)

some_is : (id other : AccountId) → Some (key.Account id) ≡ Some (key.Account other) → id ≡ other
some_is id other same = cc

module _ (base : ℕ) (m : EntryMap) (keyed : IsKeyed m) (n : ℕ) where
  covers : (k : Option LedgerKey) → n ≤ most_given base m k → (id : AccountId) → k ≡ Some (key.Account id)
      → (a : AccountEntry) → account_at m id ≡ Some a → IsCoveredPayment base (neg_ℤ (pos n)) a
  covers k le id is a exists =
      let enough : n ≤ at_least_nothing (available a base) =
      subst (λ o. n ≤ account_gives base o) exists (subst (λ q. n ≤ most_given base m q) is le) in
      elim (within (available a base) n enough) [
        | inl none ↦ inr (none_given a.balance (min_balance a base) (account_liabilities a).selling n none)
        | inr there ↦ inl (given_covered a.balance (min_balance a base) (account_liabilities a).selling n there)
      ]

  pub giving_left : (id : AccountId) (held : Asset) → CanPay m (holder id held) (neg_ℤ (pos n))
      → n ≤ most_given base m (holder id held)
      → Leaves base (more_at (holder id held) held (neg_ℤ (pos n))) m (paying (holder id held) (neg_ℤ (pos n)) m)
  giving_left id held can le = paying_left base m keyed (neg_ℤ (pos n)) id held can (covers (holder id held) le)

  pub taking_left : (id : AccountId) (held : Asset) → CanPay m (holder id held) (pos n)
      → Leaves base (more_at (holder id held) held (pos n)) m (paying (holder id held) (pos n) m)
  taking_left id held can = paying_left base m keyed (pos n) id held can
      (λ other is a exists. inr (taken_covered a.balance (min_balance a base) (account_liabilities a).selling n))

-- ---- liabilities

pub same_minimum : (base : ℕ) (selling buying : ℤ) (a : AccountEntry)
    → min_balance (bound_account selling buying a) base ≡ min_balance a base
same_minimum base selling buying a =
    ap (λ o. (pos (2 + a.num_sub_entries + sponsoring_in o) -ℤ pos (sponsored_in o)) *ℤ pos base)
    (second selling buying a)

-- what is available once so much more is bound for sale
pub bound_available : (base : ℕ) (selling buying : ℤ) (a : AccountEntry)
    → available (bound_account selling buying a) base
    ≡ (a.balance -ℤ min_balance a base -ℤ ((account_liabilities a).selling +ℤ selling))
bound_available base selling buying a =
    (λ i. a.balance -ℤ same_minimum base selling buying a i
    -ℤ (stored (risen selling buying (account_liabilities a)) a.ext i).selling)

abbrev IsCoveredBound : ℕ → (selling buying : ℤ) → AccountEntry → Type 0
IsCoveredBound base selling buying a =
    (pos 0 ≤ℤ available (bound_account selling buying a) base)
    ⊎ (available a base ≤ℤ available (bound_account selling buying a) base)

binding_left : (base : ℕ) (m : EntryMap) → IsKeyed m → (k : Option LedgerKey) (selling buying : ℤ)
    → CanBind m k selling buying
    → ((id : AccountId) → k ≡ Some (key.Account id) → (a : AccountEntry) → account_at m id ≡ Some a
    → IsCoveredBound base selling buying a) → Leaves base none_more m (binding k selling buying m)
binding_left base m keyed None selling buying can covered = leaves_itself base m keyed
binding_left base m keyed (Some (key.Account id)) selling buying can covered =
    account_kept base m keyed id (bound_account selling buying)
    (λ a exists. record { id = refl; balance = sym (add_zero a.balance); covered = covered id refl a exists })
binding_left base m keyed (Some (key.TrustLine id x)) selling buying can covered =
    line_kept m id x (bound_line selling buying) can.0 can.1 refl refl base keyed refl
binding_left base m keyed (Some other) selling buying can covered = absurd can

less_bound : (b p s : ℤ) (n : ℕ) → (b -ℤ p -ℤ s) ≤ℤ (b -ℤ p -ℤ (s +ℤ neg_ℤ (pos n)))
less_bound b p s n = omega (arith, ints)

none_bound : (b p s : ℤ) (n : ℕ) → n ≡ 0 → (b -ℤ p -ℤ s) ≤ℤ (b -ℤ p -ℤ (s +ℤ pos n))
none_bound b p s n none = omega (arith, ints)

bound_covered : (b p s : ℤ) (n : ℕ) → pos n ≤ℤ (b -ℤ p -ℤ s) → pos 0 ≤ℤ (b -ℤ p -ℤ (s +ℤ pos n))
bound_covered b p s n le = omega (arith, ints)

module _ (base : ℕ) (m : EntryMap) (keyed : IsKeyed m) (k : Option LedgerKey) (n : ℕ) where
  -- less is bound for sale
  pub releasing_left : CanBind m k (neg_ℤ (pos n)) (pos 0)
      → Leaves base none_more m (binding k (neg_ℤ (pos n)) (pos 0) m)
  releasing_left can = binding_left base m keyed k (neg_ℤ (pos n)) (pos 0) can (λ id is a exists.
      inr (subst (λ x. available a base ≤ℤ x) (sym (bound_available base (neg_ℤ (pos n)) (pos 0) a))
      (less_bound a.balance (min_balance a base) (account_liabilities a).selling n)))

  by_sale : (a : AccountEntry) → n ≤ at_least_nothing (available a base) → IsCoveredBound base (pos n) (pos 0) a
  by_sale a le = elim (within (available a base) n le) [
    | inl none ↦ inr (subst (λ x. available a base ≤ℤ x) (sym (bound_available base (pos n) (pos 0) a))
        (none_bound a.balance (min_balance a base) (account_liabilities a).selling n none))
    | inr there ↦ inl (subst (λ x. pos 0 ≤ℤ x) (sym (bound_available base (pos n) (pos 0) a))
        (bound_covered a.balance (min_balance a base) (account_liabilities a).selling n there))
  ]

  -- more is, of what is available
  pub selling_left : CanBind m k (pos n) (pos 0) → n ≤ most_given base m k
      → Leaves base none_more m (binding k (pos n) (pos 0) m)
  selling_left can le = binding_left base m keyed k (pos n) (pos 0) can (λ id is a exists.
      by_sale a (subst (λ o. n ≤ account_gives base o) exists (subst (λ q. n ≤ most_given base m q) is le)))

-- more or less is bound for purchase
pub buying_left : (base : ℕ) (m : EntryMap) → IsKeyed m → (k : Option LedgerKey) (n : ℤ) → CanBind m k (pos 0) n
    → Leaves base none_more m (binding k (pos 0) n m)
buying_left base m keyed k n can = binding_left base m keyed k (pos 0) n can (λ id is a exists.
    inr (subst (λ x. available a base ≤ℤ x) (sym (bound_available base (pos 0) n a))
    (room_after_zero a.balance (min_balance a base) (account_liabilities a).selling)))

-- ---- an offer that is removed

module _ (v : View) (id_pool base : ℕ) (owed : Owed) (sum : ℤ) (m : EntryMap)
    (legal : IsLegalOwing v id_pool owed sum m) (settled : AreReservesSettled owed) (o : OfferEntry) (e : LedgerEntry)
    (there : get m (offer_key o) ≡ Some (with_offer_body e o)) where
  abbrev e1 : LedgerEntry
  e1 = with_offer_body e o

  pub had_one : (a : AccountEntry) → account_at m o.seller_id ≡ Some a → 1 ≤ a.num_sub_entries
  had_one a exists =
      let own = owns v id_pool owed sum m legal settled o.seller_id 1 (offer_key o) e1 there
      (subentry_of (body.Offer o) o.seller_id 1 refl) in
      let also = own.exists in
      let same : own.account ≡ a = cc in
      subst (λ (b : AccountEntry). 1 ≤ b.num_sub_entries) same own.enough

  pub removing_left : Leaves base none_more m (map_after_removing (offer_key o) m)
  removing_left =
      let s = sponsor_of e1 in
      let now = map_after_discounting o.seller_id 1 s m in
      let first = discharged_kept base 1 o.seller_id s m legal.keyed had_one (without_subentry 1 s) (λ a next. next) in
      subst (Leaves base none_more m) (sym (ap (map_after_removing_entry (offer_key o) m) there))
      (keeps_both base m now (erase now (offer_key o)) first
      (erased_kept base now (offer_key o) first.keyed (λ other same. absurd (cc))
      (λ x. still_holds m now first.holds (offer_key o) x ∙ ap (part (held_of x)) there)))

-- ---- an offer that is changed in its place

-- what an offer holds: nothing
changing_holds : (m : EntryMap) (o new : OfferEntry) → offer_at m o.seller_id o.offer_id ≡ Some o
    → new.seller_id ≡ o.seller_id → new.offer_id ≡ o.offer_id
    → HoldsMore none_more m (with_offer m o.seller_id o.offer_id (λ was. new))
changing_holds m o new exists seller id =
    let found = offer_entry m o.seller_id o.offer_id o exists in
    let e = with_offer_body found.0 new in
    subst (HoldsMore none_more m) (sym (with_offer_is m o.seller_id o.offer_id (λ was. new) o found.0 found.1))
    (put_same m e (λ x. sym (ap (part (held_of x))
    (ap (get m) (λ i. key.Offer (seller i) (id i)) ∙ found.1.there) ∙ ap (held_in x) found.1.is)))

pub changing_left : (base : ℕ) (m : EntryMap) (o new : OfferEntry) → offer_at m o.seller_id o.offer_id ≡ Some o
    → new.seller_id ≡ o.seller_id → new.offer_id ≡ o.offer_id
    → IsKeyed (with_offer m o.seller_id o.offer_id (λ was. new))
    → Leaves base none_more m (with_offer m o.seller_id o.offer_id (λ was. new))
changing_left base m o new exists seller id keyed = accounts_kept base none_more m _ keyed
    (account_keeps m o new exists seller id) (changing_holds m o new exists seller id)

-- What an offer that exists binds can always be released.
use Rattle.legal_rules.proofs.Prelude as prelude
use prelude.{◌≡◌, ◌⊎◌, inl, inr, refl, sym, ap, subst, ◌∙◌, ℕ, Bool, true, false, Option, Some, None, arith, ints, ℤ}
use prelude.{pos, neg_ℤ, ◌+ℤ◌, ◌-ℤ◌, ◌≤ℤ◌, if◌then◌else◌, get, AccountId, Asset, TrustLineAsset, Liabilities}
use prelude.{AccountEntry, TrustLineEntry, OfferEntry, LedgerEntry, LedgerKey, key_of, EntryMap, same_itself}
use prelude.{account_of, account_at, account_liabilities, line_liabilities, line_of, line_at, offer_of, offer_at}
use prelude.{with_offer, greatest_i64, IsInRange, IsLineInRange, is_same_account, EachEntry, bound_of, is_key, for_key}
use prelude.{holder, Kind, Selling, Buying, View, stated, stated_at, IsOfferInRange, risen, binding, releasing}
use prelude.{bound_account, bound_line, CanBind, CanBindBoth, trade_aggregates, AreTradesSettled, LiabilitiesReleased}
use prelude.{ChangedOffersKeep, view, pools_in, Owed, nothing_owed, plus, IsEntryLegal, IsLegalOwing}
use prelude.{add_natural_nonnegative, add_zero_at_most, fits_after_zero, natural_positive, nonnegative_from_positive}
use prelude.{sub_nonnegative, account_under, line_under, with_beside, lines_exact, with_line}
use Rattle.hash_ids.specs.ledger_types.declared.asset.Asset.TheVariants as asset
use Rattle.hash_ids.specs.ledger_types.declared.asset.TrustLineAsset.TheVariants as line
use Rattle.hash_ids.specs.ledger_types.declared.entry.LedgerEntryBody.TheVariants as body
use Rattle.hash_ids.specs.ledger_types.declared.key.LedgerKey.TheVariants as key
use Rattle.legal_rules.proofs.Legality.{owing_nothing, legal_of}
use Rattle.legal_rules.proofs.Liable.{stored, line_stored}
use Rattle.legal_rules.proofs.OffersKept.{trading_legal, binding_legal, unbound_if, nothing_bought, offer_entry}
use Rattle.legal_rules.proofs.OffersKept.{with_offer_body, IsOfferEntry, traded, offer_changed, acquiring_legal}
use Rattle.legal_rules.proofs.Indices.{kept_elsewhere}
use Rattle.legal_rules.proofs.Existing.{counted_stated}
use Rattle.legal_rules.proofs.Steps.{legal_as}

-- ---- ranges

module _ (selling buying : ℤ) where
  pub bound_in_range : (a : AccountEntry) → IsInRange a → pos 0 ≤ℤ ((account_liabilities a).selling +ℤ selling)
      → pos 0 ≤ℤ ((account_liabilities a).buying +ℤ buying)
      → (a.balance +ℤ ((account_liabilities a).buying +ℤ buying)) ≤ℤ greatest_i64
      → IsInRange (bound_account selling buying a)
  bound_in_range a r sells buys fits =
      let now = sym (stored (risen selling buying (account_liabilities a)) a.ext) in
      record {
        balance = r.balance;
        buying = subst (λ (l : Liabilities). pos 0 ≤ℤ l.buying) now buys;
        selling = subst (λ (l : Liabilities). pos 0 ≤ℤ l.selling) now sells;
        fits = subst (λ (l : Liabilities). (a.balance +ℤ l.buying) ≤ℤ greatest_i64) now fits;
      }

  pub line_in_range : (t : TrustLineEntry) → IsLineInRange t → pos 0 ≤ℤ ((line_liabilities t).selling +ℤ selling)
      → pos 0 ≤ℤ ((line_liabilities t).buying +ℤ buying)
      → ((line_liabilities t).selling +ℤ selling) ≤ℤ t.balance
      → (t.balance +ℤ ((line_liabilities t).buying +ℤ buying)) ≤ℤ t.limit → IsLineInRange (bound_line selling buying t)
  line_in_range t r sells buys covered fits =
      let now = sym (line_stored (risen selling buying (line_liabilities t)) t.ext) in
      record {
        balance = r.balance;
        buying = subst (λ (l : Liabilities). pos 0 ≤ℤ l.buying) now buys;
        selling = subst (λ (l : Liabilities). pos 0 ≤ℤ l.selling) now sells;
        covered = subst (λ (l : Liabilities). l.selling ≤ℤ t.balance) now covered;
        fits = subst (λ (l : Liabilities). (t.balance +ℤ l.buying) ≤ℤ t.limit) now fits;
      }

still_covered : (x n b : ℤ) → pos 0 ≤ℤ n → x ≤ℤ b → (x +ℤ neg_ℤ n) ≤ℤ b
still_covered x n b low le = omega (arith, ints)

still_fits : (b x n l : ℤ) → pos 0 ≤ℤ n → (b +ℤ x) ≤ℤ l → (b +ℤ (x +ℤ neg_ℤ n)) ≤ℤ l
still_fits b x n l low le = omega (arith, ints)

too_few : (n s : ℤ) → pos 1 ≤ℤ n → n ≤ℤ s → s ≡ pos 0 → ⊥
too_few n s some le none = omega (arith, ints)

-- ---- where an offer's owner holds its assets

one_if : (t : Bool) (n : ℤ) → t ≡ true → n ≤ℤ (if t then n else pos 0)
one_if true n is = omega (arith, ints)
one_if false n is = absurd (cc)

for_named : (k : LedgerKey) (o : Option LedgerKey) (n : ℤ) → o ≡ Some k → n ≤ℤ for_key k o n
for_named k None n is = absurd (cc)
for_named k (Some named) n is = one_if (is_key named k) n
    (ap (λ q. is_key q k) (let same : named ≡ k = cc in same) ∙ same_itself k)

abbrev IsHolder : LedgerKey → Type 0
IsHolder k = ((id : AccountId) × (k ≡ key.Account id)) ⊎
    ((id : AccountId) × ((x : TrustLineAsset) × (k ≡ key.TrustLine id x)))

line_or_none : (b : Bool) (id : AccountId) (x : TrustLineAsset) (k : LedgerKey)
    → (if b then None else Some (key.TrustLine id x)) ≡ Some k → IsHolder k
line_or_none true id x k is = absurd (cc)
line_or_none false id x k is = inr (id, (x, let same : key.TrustLine id x ≡ k = cc in sym same))

holder_is : (id : AccountId) (a : Asset) (k : LedgerKey) → holder id a ≡ Some k → IsHolder k
holder_is id asset.Native k is = inl (id, let same : key.Account id ≡ k = cc in sym same)
holder_is id (asset.Alphanum4 code issuer) k is =
    line_or_none (is_same_account issuer id) id (line.Alphanum4 code issuer) k is
holder_is id (asset.Alphanum12 code issuer) k is =
    line_or_none (is_same_account issuer id) id (line.Alphanum12 code issuer) k is

module _ (v : View) (id_pool : ℕ) (owed : Owed) (sum : ℤ) (m : EntryMap)
    (legal : IsLegalOwing v id_pool owed sum m) (n : ℤ) (some : pos 1 ≤ℤ n) where
  -- an account that states n can let go of it
  sells_account : (id : AccountId) (o : Option LedgerEntry) → get m (key.Account id) ≡ o → n ≤ℤ stated_at Selling o
      → CanBind m (Some (key.Account id)) (neg_ℤ n) (pos 0)
  unfolding account_at
  sells_account id None there le = absurd (too_few n _ some le refl)
  sells_account id (Some e) there le =
      let found = account_under id e.body (legal.keyed (key.Account id) e there) in
      let e0 : LedgerEntry = record e { body = body.Account found.0 } in
      let was : e ≡ e0 = λ i. record e { body = found.1 i } in
      let r = (subst (IsEntryLegal id_pool) was (legal.entries (key.Account id) e there)).range.body.range in
      let at : n ≤ℤ (account_liabilities found.0).selling = subst (λ b. n ≤ℤ stated Selling b) found.1 le in (
        found.0,
        ap account_of (there ∙ ap Some was),
        bound_in_range (neg_ℤ n) (pos 0) found.0 r (sub_nonnegative _ n at) (add_natural_nonnegative _ 0 r.buying)
            (fits_after_zero found.0.balance _ greatest_i64 r.fits),
      )

  buys_account : (id : AccountId) (o : Option LedgerEntry) → get m (key.Account id) ≡ o → n ≤ℤ stated_at Buying o
      → CanBind m (Some (key.Account id)) (pos 0) (neg_ℤ n)
  unfolding account_at
  buys_account id None there le = absurd (too_few n _ some le refl)
  buys_account id (Some e) there le =
      let found = account_under id e.body (legal.keyed (key.Account id) e there) in
      let e0 : LedgerEntry = record e { body = body.Account found.0 } in
      let was : e ≡ e0 = λ i. record e { body = found.1 i } in
      let r = (subst (IsEntryLegal id_pool) was (legal.entries (key.Account id) e there)).range.body.range in
      let at : n ≤ℤ (account_liabilities found.0).buying = subst (λ b. n ≤ℤ stated Buying b) found.1 le in (
        found.0,
        ap account_of (there ∙ ap Some was),
        bound_in_range (pos 0) (neg_ℤ n) found.0 r (add_natural_nonnegative _ 0 r.selling) (sub_nonnegative _ n at)
            (still_fits found.0.balance _ n greatest_i64 (nonnegative_from_positive n some) r.fits),
      )

  sells_line : (id : AccountId) (x : TrustLineAsset) (o : Option LedgerEntry) → get m (key.TrustLine id x) ≡ o
      → n ≤ℤ stated_at Selling o → CanBind m (Some (key.TrustLine id x)) (neg_ℤ n) (pos 0)
  unfolding line_at
  sells_line id x None there le = absurd (too_few n _ some le refl)
  sells_line id x (Some e) there le =
      let found = line_under id x e.body (legal.keyed (key.TrustLine id x) e there) in
      let e0 : LedgerEntry = record e { body = body.TrustLine found.0 } in
      let was : e ≡ e0 = λ i. record e { body = found.1 i } in
      let entire = subst (IsEntryLegal id_pool) was (legal.entries (key.TrustLine id x) e there) in
      let r = entire.range.body.range in
      let at : n ≤ℤ (line_liabilities found.0).selling = subst (λ b. n ≤ℤ stated Selling b) found.1 le in (
        found.0,
        ap line_of (there ∙ ap Some was),
        line_in_range (neg_ℤ n) (pos 0) found.0 r (sub_nonnegative _ n at) (add_natural_nonnegative _ 0 r.buying)
            (still_covered _ n found.0.balance (nonnegative_from_positive n some) r.covered)
            (fits_after_zero found.0.balance _ found.0.limit r.fits),
        λ none. too_few n _ some at (entire.bound none).0,
      )

  buys_line : (id : AccountId) (x : TrustLineAsset) (o : Option LedgerEntry) → get m (key.TrustLine id x) ≡ o
      → n ≤ℤ stated_at Buying o → CanBind m (Some (key.TrustLine id x)) (pos 0) (neg_ℤ n)
  unfolding line_at
  buys_line id x None there le = absurd (too_few n _ some le refl)
  buys_line id x (Some e) there le =
      let found = line_under id x e.body (legal.keyed (key.TrustLine id x) e there) in
      let e0 : LedgerEntry = record e { body = body.TrustLine found.0 } in
      let was : e ≡ e0 = λ i. record e { body = found.1 i } in
      let entire = subst (IsEntryLegal id_pool) was (legal.entries (key.TrustLine id x) e there) in
      let r = entire.range.body.range in
      let at : n ≤ℤ (line_liabilities found.0).buying = subst (λ b. n ≤ℤ stated Buying b) found.1 le in (
        found.0,
        ap line_of (there ∙ ap Some was),
        line_in_range (pos 0) (neg_ℤ n) found.0 r (add_natural_nonnegative _ 0 r.selling) (sub_nonnegative _ n at)
            (add_zero_at_most _ found.0.balance r.covered)
            (still_fits found.0.balance _ n found.0.limit (nonnegative_from_positive n some) r.fits),
        λ none. too_few n _ some at (entire.bound none).1,
      )

  sells_at : (k : LedgerKey) → IsHolder k → n ≤ℤ stated_at Selling (get m k) → CanBind m (Some k) (neg_ℤ n) (pos 0)
  sells_at k (inl found) le = subst (λ q. CanBind m (Some q) (neg_ℤ n) (pos 0)) (sym found.1)
      (sells_account found.0 (get m (key.Account found.0)) refl
      (subst (λ q. n ≤ℤ stated_at Selling (get m q)) found.1 le))
  sells_at k (inr found) le = subst (λ q. CanBind m (Some q) (neg_ℤ n) (pos 0)) (sym found.1.1)
      (sells_line found.0 found.1.0 (get m (key.TrustLine found.0 found.1.0)) refl
      (subst (λ q. n ≤ℤ stated_at Selling (get m q)) found.1.1 le))

  buys_at : (k : LedgerKey) → IsHolder k → n ≤ℤ stated_at Buying (get m k) → CanBind m (Some k) (pos 0) (neg_ℤ n)
  buys_at k (inl found) le = subst (λ q. CanBind m (Some q) (pos 0) (neg_ℤ n)) (sym found.1)
      (buys_account found.0 (get m (key.Account found.0)) refl
      (subst (λ q. n ≤ℤ stated_at Buying (get m q)) found.1 le))
  buys_at k (inr found) le = subst (λ q. CanBind m (Some q) (pos 0) (neg_ℤ n)) (sym found.1.1)
      (buys_line found.0 found.1.0 (get m (key.TrustLine found.0 found.1.0)) refl
      (subst (λ q. n ≤ℤ stated_at Buying (get m q)) found.1.1 le))

-- an offer still exists after its owner's liabilities changed
bound_elsewhere : (m : EntryMap) (o : Option LedgerKey) (selling buying : ℤ) (seller : AccountId) (id : ℤ)
    → EachEntry (λ k e. key_of e ≡ k) m → CanBind m o selling buying
    → get (binding o selling buying m) (key.Offer seller id) ≡ get m (key.Offer seller id)
unfolding with_line
bound_elsewhere m None selling buying seller id keyed can = refl
bound_elsewhere m (Some (key.Account x)) selling buying seller id keyed can =
    kept_elsewhere m x (bound_account selling buying) can.0 keyed can.1 refl (key.Offer seller id) (λ same. absurd (cc))
bound_elsewhere m (Some (key.TrustLine x asset)) selling buying seller id keyed can =
    with_beside lines_exact m (key.TrustLine x asset) (bound_line selling buying) (key.Offer seller id)
    (λ t there same. absurd (cc))
bound_elsewhere m (Some other) selling buying seller id keyed can = absurd can

-- ---- releasing

back_again : (k : LedgerKey) (o : Option LedgerKey) (n : ℤ) → neg_ℤ (for_key k o (neg_ℤ n)) ≡ for_key k o n
back_again k None n = refl
back_again k (Some q) n = elim (is_key q k) as (λ t. neg_ℤ (if t then neg_ℤ n else pos 0) ≡ (if t then n else pos 0))
    [ true ↦ omega (arith, ints) | false ↦ refl ]

released : (o : OfferEntry) (kind : Kind) (k : LedgerKey)
    → traded o (neg_ℤ (pos (bound_of o).wheat)) (neg_ℤ (pos (bound_of o).sheep)) kind k ≡ trade_aggregates o kind k
released o Selling k = back_again k (holder o.seller_id o.selling) _
released o Buying k = back_again k (holder o.seller_id o.buying) _
released o kind k = refl

not_more : (x y : ℤ) → y ≡ pos 0 → x ≤ℤ pos 0 → (x +ℤ y) ≤ℤ pos 0
not_more x y none le = omega (arith, ints)

module _ (v : View) (id_pool : ℕ) (owed : Owed) (sum : ℤ) (o : OfferEntry) (m : EntryMap)
    (legal : IsLegalOwing v id_pool owed sum m) (settled : AreTradesSettled owed) (e : LedgerEntry)
    (there : get m (key.Offer o.seller_id o.offer_id) ≡ Some (with_offer_body e o)) where
  abbrev its_key : LedgerKey
  its_key = key.Offer o.seller_id o.offer_id

  range : IsOfferInRange id_pool o
  range = (legal.entries its_key (with_offer_body e o) there).range.body

  abbrev wheat : ℤ
  wheat = pos (bound_of o).wheat

  abbrev sheep : ℤ
  sheep = pos (bound_of o).sheep

  can_sell : (h : Option LedgerKey) → holder o.seller_id o.selling ≡ h → CanBind m h (neg_ℤ wheat) (pos 0)
  can_sell None is = tt
  can_sell (Some k) is = sells_at v id_pool owed sum m legal wheat (natural_positive _ range.wheat) k
      (holder_is o.seller_id o.selling k is)
      (counted_stated v id_pool owed sum m legal Selling k its_key (with_offer_body e o) wheat (settled.selling k) there
      (for_named k (holder o.seller_id o.selling) wheat is))

  abbrev sold : EntryMap
  sold = binding (holder o.seller_id o.selling) (neg_ℤ wheat) (pos 0) m

  abbrev owed_then : Owed
  owed_then = plus owed (unbound_if (holder o.seller_id o.selling) (neg_ℤ wheat) (pos 0))

  legal_then : IsLegalOwing v id_pool owed_then sum sold
  legal_then = binding_legal v id_pool owed sum m (holder o.seller_id o.selling) (neg_ℤ wheat) (pos 0) legal
      (can_sell (holder o.seller_id o.selling) refl)

  there_then : get sold its_key ≡ Some (with_offer_body e o)
  there_then = bound_elsewhere m (holder o.seller_id o.selling) (neg_ℤ wheat) (pos 0) o.seller_id o.offer_id legal.keyed
      (can_sell (holder o.seller_id o.selling) refl) ∙ there

  can_buy : (h : Option LedgerKey) → holder o.seller_id o.buying ≡ h → CanBind sold h (pos 0) (neg_ℤ sheep)
  can_buy None is = tt
  can_buy (Some k) is = buys_at v id_pool owed_then sum sold legal_then sheep (natural_positive _ range.sheep) k
      (holder_is o.seller_id o.buying k is)
      (counted_stated v id_pool owed_then sum sold legal_then Buying k its_key (with_offer_body e o) sheep
      (not_more (owed Buying k) _ (nothing_bought (holder o.seller_id o.selling) k (neg_ℤ wheat)) (settled.buying k))
      there_then (for_named k (holder o.seller_id o.buying) sheep is))

  pub can_release : CanBindBoth o (neg_ℤ wheat) (neg_ℤ sheep) m
  can_release = (can_sell (holder o.seller_id o.selling) refl, can_buy (holder o.seller_id o.buying) refl)

  pub still_there : get (releasing o m) its_key ≡ Some (with_offer_body e o)
  still_there = bound_elsewhere sold (holder o.seller_id o.buying) (pos 0) (neg_ℤ sheep) o.seller_id o.offer_id
      legal_then.keyed (can_buy (holder o.seller_id o.buying) refl) ∙ there_then

there_of : (m : EntryMap) (o : OfferEntry) → (found : (e : LedgerEntry) × IsOfferEntry m o.seller_id o.offer_id o e)
    → get m (key.Offer o.seller_id o.offer_id) ≡ Some (with_offer_body found.0 o)
there_of m o found = found.1.there ∙ ap Some (λ i. record found.0 { body = found.1.is i })

pub releasing_legal : LiabilitiesReleased
unfolding offer_at
releasing_legal v id_pool owed sum o m legal settled exists =
    let found = offer_entry m o.seller_id o.offer_id o exists in
    let there = there_of m o found in (
      legal_as v (IsEntryLegal id_pool) _ _ _ _ _
          (trading_legal v id_pool owed sum m o _ _ legal
          (can_release v id_pool owed sum o m legal settled found.0 there))
          (λ kind k. ap (λ n. owed kind k +ℤ n) (released o kind k)) refl,
      ap offer_of (still_there v id_pool owed sum o m legal settled found.0 there),
    )

nothing_traded : AreTradesSettled nothing_owed
nothing_traded = record { selling = λ k. omega (arith, ints); buying = λ k. omega (arith, ints) }

all_in_all : (a b : ℤ) → (((pos 0 +ℤ a) +ℤ (neg_ℤ a +ℤ b)) +ℤ neg_ℤ b) ≡ pos 0
all_in_all a b = omega (arith, ints)

pub changed_offers_keep : ChangedOffersKeep
changed_offers_keep h old new m legal exists seller id range acquire =
    let v = view m in
    let coins = h.total_coins -ℤ h.fee_pool in
    let first = releasing_legal v h.id_pool nothing_owed coins old m (owing_nothing h m legal) nothing_traded exists in
    let second = offer_changed v h.id_pool _ coins old new (releasing old m) first.0 first.1 seller id range in
    let now = with_offer (releasing old m) old.seller_id old.offer_id (λ was. new) in
    let third = acquiring_legal v h.id_pool _ coins new now second acquire in
    legal_of h (pools_in m) _ legal.header (legal_as v (IsEntryLegal h.id_pool) _ nothing_owed coins coins _ third
    (λ kind k. all_in_all (trade_aggregates old kind k) (trade_aggregates new kind k)) refl)

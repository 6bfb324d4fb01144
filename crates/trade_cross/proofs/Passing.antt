-- What crossing leaves of an account that isn't crossed, and of offers: none comes.
use Rattle.trade_cross.proofs.Prelude as prelude
use prelude.{◌≡◌, ◌≢◌, refl, sym, ap, subst, ◌∙◌, ℕ, ◌≤◌, Bool, true, false, Option, Some, None, ℤ, pos, if◌then◌else◌}
use prelude.{get, AccountId, Asset, TrustLineAsset, AccountEntry, TrustLineEntry, OfferEntry, LedgerEntry, LedgerKey}
use prelude.{EntryMap, erase, account_at, with_account, sponsor_of, line_of, line_at, with_line, offer_of, offer_at}
use prelude.{with_offer, available, is_same_account, binding, bound_account, bound_line, CanBind, paid, holder}
use prelude.{with_offer_body, account_elsewhere, kept_elsewhere, with_less, map_after_releasing, without_subentry}
use prelude.{map_after_removing, map_after_removing_entry, eq_by_cmp, key_cmp, cond, offer_key, line_paid, paying}
use prelude.{Related, IsEased, Passes, releasing_kept, erase_beside, discharged_kept, IsCharged, pays_less}
use prelude.{available_still, no_subentry_core, IsKeyed, no_account_changed, erase_elsewhere, erase_get, at_most_refl}
use prelude.{at_most_trans}
use Rattle.ledger_types.specs.declared.asset.Asset.TheVariants as asset
use Rattle.ledger_types.specs.declared.asset.TrustLineAsset.TheVariants as line
use Rattle.ledger_types.specs.declared.key.LedgerKey.TheVariants as key
use Rattle.sponsor_rules.specs.declared.count.Count.TheVariants as count
use Rattle.trade_cross.proofs.Held.{related_same, account_relates, AnyAccount, SameFlags, account_beside, line_beside}
use Rattle.trade_cross.proofs.Held.{line_elsewhere, line_keeps}
use Rattle.trade_cross.proofs.Paying.{CanPay}
use Rattle.trade_cross.proofs.StepLegal.{account_keeps, offer_keeps}
use Rattle.trade_cross.proofs.StepLegal.{line_keeps as offer_keeps_line}

eased_itself : (base : ℕ) (a : AccountEntry) → IsEased base a a
eased_itself base a = record { balance = refl; liabilities = refl; more = at_most_refl (available a base) }

eased_on : (base : ℕ) (a b c : AccountEntry) → IsEased base a b → IsEased base b c → IsEased base a c
eased_on base a b c first second = record {
  balance = second.balance ∙ first.balance;
  liabilities = second.liabilities ∙ first.liabilities;
  more = at_most_trans (available a base) (available b base) (available c base) first.more second.more;
}

related_on : (base : ℕ) (o p q : Option AccountEntry) → Related (IsEased base) o p → Related (IsEased base) p q
    → Related (IsEased base) o q
related_on base None None None first second = tt
related_on base None None (Some c) first second = absurd second
related_on base None (Some b) q first second = absurd first
related_on base (Some a) None q first second = absurd first
related_on base (Some a) (Some b) None first second = absurd second
related_on base (Some a) (Some b) (Some c) first second = eased_on base a b c first second

pub passes_on : (base : ℕ) (x : AccountId) (m now new : EntryMap) → Passes base x m now → Passes base x now new
    → Passes base x m new
passes_on base x m now new first second = record {
  account = related_on base (account_at m x) (account_at now x) (account_at new x) first.account second.account;
  lines = λ held. second.lines held ∙ first.lines held;
  offers = λ seller id none. second.offers seller id (first.offers seller id none);
}

pub passes_itself : (base : ℕ) (x : AccountId) (m : EntryMap) → Passes base x m m
passes_itself base x m = record {
  account = related_same (IsEased base) (eased_itself base) _ _ refl;
  lines = λ held. refl;
  offers = λ seller id none. none;
}

-- ---- whose a key is

abbrev pub IsOwnKey : AccountId → Option LedgerKey → Type 0
IsOwnKey seller None = Unit {0}
IsOwnKey seller (Some (key.Account id)) = id ≡ seller
IsOwnKey seller (Some (key.TrustLine id held)) = id ≡ seller
IsOwnKey seller (Some other) = ⊥

own_or_none : (b : Bool) (seller : AccountId) (x : TrustLineAsset)
    → IsOwnKey seller (if b then None else Some (key.TrustLine seller x))
own_or_none true seller x = tt
own_or_none false seller x = refl

pub holder_own : (seller : AccountId) (held : Asset) → IsOwnKey seller (holder seller held)
holder_own seller asset.Native = refl
holder_own seller (asset.Alphanum4 code issuer) =
    own_or_none (is_same_account issuer seller) seller (line.Alphanum4 code issuer)
holder_own seller (asset.Alphanum12 code issuer) =
    own_or_none (is_same_account issuer seller) seller (line.Alphanum12 code issuer)

-- ---- changes of another account

module _ (base : ℕ) (x seller : AccountId) (apart : x ≢ seller) (m : EntryMap) (keyed : IsKeyed m) where
  pub account_passes : (id : AccountId) (f : AccountEntry → AccountEntry) (a : AccountEntry) → id ≡ seller
      → account_at m id ≡ Some a → (f a).account_id ≡ a.account_id → Passes base x m (with_account m id f)
  account_passes id f a own exists named = record {
    account = related_same (IsEased base) (eased_itself base) _ _
        (sym (account_elsewhere m id f a keyed exists named x (λ same. apart (same ∙ own))));
    lines = λ held. line_beside AnyAccount SameFlags (λ b. tt) (λ t. refl) m keyed id f a exists named tt x held;
    offers = λ s i none. kept_elsewhere m id f a keyed exists named (key.Offer s i) (λ same. absurd (cc)) ∙ none;
  }

  line_apart : (id : AccountId) (y z : TrustLineAsset) → id ≡ seller → key.TrustLine x y ≢ key.TrustLine id z
  line_apart id y z own same = apart (first same ∙ own)
    where
      first : {i j : AccountId} {p q : TrustLineAsset} → key.TrustLine i p ≡ key.TrustLine j q → i ≡ j
      first same = cc

  pub line_passes : (id : AccountId) (z : TrustLineAsset) (g : TrustLineEntry → TrustLineEntry) (t : TrustLineEntry)
      → id ≡ seller → line_at m id z ≡ Some t → (g t).account_id ≡ t.account_id → (g t).asset ≡ t.asset
      → (g t).flags ≡ t.flags → Passes base x m (with_line m id z g)
  line_passes id z g t own exists owned its flags = record {
    account = related_same (IsEased base) (eased_itself base) _ _
        (sym (account_beside AnyAccount SameFlags (λ b. tt) (λ t. refl) m keyed id z g t exists owned its flags x));
    lines = λ y. line_elsewhere AnyAccount SameFlags (λ b. tt) (λ t. refl) m keyed id z g t exists owned its flags x y
        (line_apart id y z own);
    offers = λ s i none. line_keeps AnyAccount SameFlags (λ b. tt) (λ t. refl) m keyed id z g t exists owned its flags
        (key.Offer s i) (λ same. absurd (cc)) ∙ none;
  }

  pub paying_passes : (k : Option LedgerKey) (n : ℤ) → IsOwnKey seller k → CanPay m k n
      → Passes base x m (paying k n m)
  paying_passes None n own can = passes_itself base x m
  paying_passes (Some (key.Account id)) n own can = account_passes id (paid n) can.0 own can.1 refl
  paying_passes (Some (key.TrustLine id z)) n own can = line_passes id z (line_paid n) can.0 own can.1 refl refl refl
  paying_passes (Some other) n own can = absurd can

  pub binding_passes : (k : Option LedgerKey) (selling buying : ℤ) → IsOwnKey seller k → CanBind m k selling buying
      → Passes base x m (binding k selling buying m)
  binding_passes None selling buying own can = passes_itself base x m
  binding_passes (Some (key.Account id)) selling buying own can =
      account_passes id (bound_account selling buying) can.0 own can.1 refl
  binding_passes (Some (key.TrustLine id z)) selling buying own can =
      line_passes id z (bound_line selling buying) can.0 own can.1 refl refl refl
  binding_passes (Some other) selling buying own can = absurd can

-- ---- an offer that is changed

pub offer_passes : (base : ℕ) (x : AccountId) (m : EntryMap) (o new : OfferEntry)
    → offer_at m o.seller_id o.offer_id ≡ Some o → new.seller_id ≡ o.seller_id → new.offer_id ≡ o.offer_id
    → Passes base x m (with_offer m o.seller_id o.offer_id (λ was. new))
unfolding offer_at
offer_passes base x m o new exists seller id = record {
  account = related_same (IsEased base) (eased_itself base) _ _ (sym (account_keeps m o new exists seller id x));
  lines = λ held. offer_keeps_line m o new exists seller id x held;
  offers = λ s i none. offer_keeps m o new exists seller id (key.Offer s i) (λ same.
      let at : get m (key.Offer o.seller_id o.offer_id) ≡ None = ap (get m) (sym same) ∙ none in
      let also : offer_of (get m (key.Offer o.seller_id o.offer_id)) ≡ None = ap offer_of at in
      absurd (cc)) ∙ none;
}

-- ---- an offer that is removed

eased_by : (base : ℕ) (a b : AccountEntry) → IsCharged (pos 0) a b → IsEased base a b
eased_by base a b h = record {
  balance = h.core.balance;
  liabilities = h.core.liabilities;
  more = available_still base a b h;
}

module _ (base : ℕ) (x : AccountId) (m : EntryMap) (keyed : IsKeyed m) where
  -- whoever pays less can spend no less
  released_by : (y : AccountId) (o : Option AccountEntry) → account_at m y ≡ o
      → Passes base x m (with_account m y (with_less count.Sponsoring 1))
  released_by y None none = subst (Passes base x m)
      (sym (no_account_changed m y (with_less count.Sponsoring 1) none)) (passes_itself base x m)
  released_by y (Some a) exists =
      let f = with_less count.Sponsoring 1 in
      let charged = pays_less 1 a in
      let rel = account_relates (IsEased base) SameFlags (eased_itself base) (λ t. refl) m keyed y f a exists
      charged.core.id (eased_by base a (f a) charged) in
      record {
        account = rel.accounts x;
        lines = λ held. line_beside (IsEased base) SameFlags (eased_itself base) (λ t. refl) m keyed y f a exists
            charged.core.id (eased_by base a (f a) charged) x held;
        offers = λ s i none. kept_elsewhere m y f a keyed exists charged.core.id (key.Offer s i) (λ same. absurd (cc))
            ∙ none;
      }

  releasing_passes : (s : Option AccountId) → Passes base x m (map_after_releasing 1 s m)
  releasing_passes None = passes_itself base x m
  releasing_passes (Some y) = released_by y (account_at m y) refl

  -- the account of another one is changed, if it exists
  other_passes : (seller : AccountId) (f : AccountEntry → AccountEntry) → x ≢ seller
      → ((a : AccountEntry) → (f a).account_id ≡ a.account_id) → (o : Option AccountEntry) → account_at m seller ≡ o
      → Passes base x m (with_account m seller f)
  other_passes seller f apart named None none = subst (Passes base x m)
      (sym (no_account_changed m seller f none)) (passes_itself base x m)
  other_passes seller f apart named (Some a) exists =
      account_passes base x seller apart m keyed seller f a refl exists (named a)

  erased_offer : (k : LedgerKey) (s : AccountId) (i : ℤ) → get m (key.Offer s i) ≡ None
      → get (erase m k) (key.Offer s i) ≡ None
  erased_offer k s i none = erase_get m k (key.Offer s i)
      ∙ by_test (eq_by_cmp key_cmp (key.Offer s i) k)
    where
      by_test : (t : Bool) → cond t None (get m (key.Offer s i)) ≡ None
      by_test true = refl
      by_test false = none

  erasing_passes : (o : OfferEntry) → Passes base x m (erase m (offer_key o))
  unfolding line_at
  erasing_passes o = record {
    account = related_same (IsEased base) (eased_itself base) _ _
        (sym (erase_beside m (offer_key o) x (λ same. absurd (cc))));
    lines = λ held. line_kept held;
    offers = erased_offer (offer_key o);
  }
    where
      line_kept : (held : TrustLineAsset) → line_at (erase m (offer_key o)) x held ≡ line_at m x held
      line_kept held = ap line_of (erase_elsewhere m (offer_key o) (key.TrustLine x held) (λ same. absurd (cc)))

pub removing_passes : (base : ℕ) (x : AccountId) (m : EntryMap) → IsKeyed m → (o : OfferEntry) (e : LedgerEntry)
    → get m (offer_key o) ≡ Some (with_offer_body e o)
    → ((a : AccountEntry) → account_at m o.seller_id ≡ Some a → 1 ≤ a.num_sub_entries) → x ≢ o.seller_id
    → Passes base x m (map_after_removing (offer_key o) m)
removing_passes base x m keyed o e there had apart =
    let s = sponsor_of (with_offer_body e o) in
    let f = without_subentry 1 s in
    let now = map_after_releasing 1 s m in
    let now_keyed = (releasing_kept base 1 s m keyed).keyed in
    let last = with_account now o.seller_id f in
    let last_keyed = (discharged_kept base 1 o.seller_id s m keyed had f (λ a next. next)).keyed in
    subst (Passes base x m) (sym (ap (map_after_removing_entry (offer_key o) m) there))
    (passes_on base x m now (erase last (offer_key o)) (releasing_passes base x m keyed s)
    (passes_on base x now last (erase last (offer_key o))
    (other_passes base x now now_keyed o.seller_id f apart (λ a. (no_subentry_core 1 s a).id)
    (account_at now o.seller_id) refl)
    (erasing_passes base x last last_keyed o)))

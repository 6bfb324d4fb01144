-- What is bound and paid where an account has an asset, and an offer that is changed, as changes of one entry.
use Rattle.trade_cross.proofs.Prelude as prelude
use prelude.{◌≡◌, refl, sym, ap, ℕ, Option, Some, None, get, ℤ, AccountId, TrustLineAsset, AccountEntry, TrustLineEntry}
use prelude.{OfferEntry, LedgerEntry, LedgerEntryBody, LedgerKey, key_of_body, EntryMap, put, with_account, with_line}
use prelude.{offer_at, with_offer, binding, bound_account, bound_line, IsKeyed, paid, Change, with_amount, offer_key}
use prelude.{line_paid, paying, changed_account, changed_line, changing, offer_entry, with_offer_is, IsExact}
use prelude.{accounts_exact, lines_exact, account_under, line_under, ◌∙◌}
use Rattle.ledger_types.specs.declared.entry.LedgerEntryBody.TheVariants as body
use Rattle.ledger_types.specs.declared.key.LedgerKey.TheVariants as key
use Rattle.trade_cross.proofs.Altering.{altered, altered_by, altered_opt, KeepsKeys}
use Rattle.trade_cross.proofs.Passing.{IsOwnKey}
use Rattle.entry_slots.specs.EntryKinds.{EntryKind, with_entry, with_value, with_value_of}

abbrev pub over : (LedgerEntryBody → LedgerEntryBody) → LedgerEntry → LedgerEntry
over h e = record e { body = h e.body }

-- an account or a line, changed
abbrev pub holding_body : (AccountEntry → AccountEntry) → (TrustLineEntry → TrustLineEntry) → LedgerEntryBody
    → LedgerEntryBody
holding_body f g (body.Account a) = body.Account (f a)
holding_body f g (body.TrustLine t) = body.TrustLine (g t)
holding_body f g other = other

-- an offer, of another amount
abbrev pub resized_body : ℕ → LedgerEntryBody → LedgerEntryBody
resized_body n (body.Offer o) = body.Offer (with_amount n o)
resized_body n other = other

abbrev pub bound_entry : (selling buying : ℤ) → LedgerEntry → LedgerEntry
bound_entry selling buying = over (holding_body (bound_account selling buying) (bound_line selling buying))

abbrev pub paid_entry : ℤ → LedgerEntry → LedgerEntry
paid_entry n = over (holding_body (paid n) (line_paid n))

abbrev pub changed_entry : Change → LedgerEntry → LedgerEntry
changed_entry change = over (holding_body (changed_account change) (changed_line change))

-- ---- keys

keeps_holding : (f : AccountEntry → AccountEntry) (g : TrustLineEntry → TrustLineEntry)
    → ((a : AccountEntry) → (f a).account_id ≡ a.account_id)
    → ((t : TrustLineEntry) → key.TrustLine (g t).account_id (g t).asset ≡ key.TrustLine t.account_id t.asset)
    → (b : LedgerEntryBody) → key_of_body (holding_body f g b) ≡ key_of_body b
keeps_holding f g account line (body.Account a) = ap key.Account (account a)
keeps_holding f g account line (body.TrustLine t) = line t
keeps_holding f g account line other = refl

pub bound_keeps : (selling buying : ℤ) → KeepsKeys (bound_entry selling buying)
bound_keeps selling buying e =
    keeps_holding (bound_account selling buying) (bound_line selling buying) (λ a. refl) (λ t. refl) e.body

pub paid_keeps : (n : ℤ) → KeepsKeys (paid_entry n)
paid_keeps n e = keeps_holding (paid n) (line_paid n) (λ a. refl) (λ t. refl) e.body

pub changed_keeps : (change : Change) → KeepsKeys (changed_entry change)
changed_keeps change e =
    keeps_holding (changed_account change) (changed_line change) (λ a. refl) (λ t. refl) e.body

pub resized_keeps : (n : ℕ) → KeepsKeys (over (resized_body n))
resized_keeps n e = by_body e.body
  where
    by_body : (b : LedgerEntryBody) → key_of_body (resized_body n b) ≡ key_of_body b
    by_body (body.Offer o) = refl
    by_body other = refl

-- ---- one entry

module _ (m : EntryMap) (keyed : IsKeyed m) where
  -- what is under the key of a kind is of that kind
  module _ {V : Type 0} {kind : EntryKind V} (exact : IsExact kind) (k : LedgerKey)
      (under : (b : LedgerEntryBody) → key_of_body b ≡ k → (v : V) × (b ≡ kind.body_of v)) (f : V → V)
      (h : LedgerEntryBody → LedgerEntryBody) (same : (v : V) → h (kind.body_of v) ≡ kind.body_of (f v)) where
    value_altered : (o : Option LedgerEntry) → get m k ≡ o → with_value_of kind m f o ≡ altered_by (over h) m o
    value_altered None there = refl
    value_altered (Some e) there =
        let found = under e.body (keyed k e there) in
        ap (λ b. with_value kind m f e (kind.value_in b)) found.1 ∙ ap (with_value kind m f e) (exact.value found.0)
        ∙ ap (λ b. put m (record e { body = b })) (sym (same found.0))
        ∙ ap (λ b. put m (record e { body = h b })) (sym found.1)

    entry_altered : with_entry kind m k f ≡ altered k (over h) m
    entry_altered = value_altered (get m k) refl

  module _ (f : AccountEntry → AccountEntry) (g : TrustLineEntry → TrustLineEntry) where
    account_altered : (id : AccountId) → with_account m id f ≡ altered (key.Account id) (over (holding_body f g)) m
    unfolding with_account
    account_altered id =
        entry_altered accounts_exact (key.Account id) (account_under id) f (holding_body f g) (λ a. refl)

    line_altered : (id : AccountId) (x : TrustLineAsset)
        → with_line m id x g ≡ altered (key.TrustLine id x) (over (holding_body f g)) m
    unfolding with_line
    line_altered id x =
        entry_altered lines_exact (key.TrustLine id x) (line_under id x) g (holding_body f g) (λ t. refl)

  pub bound_altered : (owner : AccountId) (k : Option LedgerKey) → IsOwnKey owner k → (selling buying : ℤ)
      → binding k selling buying m ≡ altered_opt k (bound_entry selling buying) m
  bound_altered owner None own selling buying = refl
  bound_altered owner (Some (key.Account id)) own selling buying =
      account_altered (bound_account selling buying) (bound_line selling buying) id
  bound_altered owner (Some (key.TrustLine id x)) own selling buying =
      line_altered (bound_account selling buying) (bound_line selling buying) id x
  bound_altered owner (Some other) own selling buying = absurd own

  pub paid_altered : (owner : AccountId) (k : Option LedgerKey) → IsOwnKey owner k → (n : ℤ)
      → paying k n m ≡ altered_opt k (paid_entry n) m
  paid_altered owner None own n = refl
  paid_altered owner (Some (key.Account id)) own n = account_altered (paid n) (line_paid n) id
  paid_altered owner (Some (key.TrustLine id x)) own n = line_altered (paid n) (line_paid n) id x
  paid_altered owner (Some other) own n = absurd own

  pub changed_altered : (owner : AccountId) (k : Option LedgerKey) → IsOwnKey owner k → (change : Change)
      → changing k change m ≡ altered_opt k (changed_entry change) m
  changed_altered owner None own change = refl
  changed_altered owner (Some (key.Account id)) own change =
      account_altered (changed_account change) (changed_line change) id
  changed_altered owner (Some (key.TrustLine id x)) own change =
      line_altered (changed_account change) (changed_line change) id x
  changed_altered owner (Some other) own change = absurd own

  -- an offer that exists gets another amount
  pub resized_altered : (n : ℕ) (o : OfferEntry) → offer_at m o.seller_id o.offer_id ≡ Some o
      → with_offer m o.seller_id o.offer_id (λ was. with_amount n o)
      ≡ altered_opt (Some (offer_key o)) (over (resized_body n)) m
  resized_altered n o exists =
      let found = offer_entry m o.seller_id o.offer_id o exists in
      with_offer_is m o.seller_id o.offer_id (λ was. with_amount n o) o found.0 found.1
      ∙ sym (ap (altered_by (over (resized_body n)) m) found.1.there
      ∙ ap (λ b. put m (record found.0 { body = resized_body n b })) found.1.is)

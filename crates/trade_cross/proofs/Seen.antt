-- What an offer's owner can give and take, as it is seen in the entries that exist before the offer's liabilities are
-- released, and after the trade.
use Rattle.trade_cross.proofs.Prelude.{◌≡◌, ◌≢◌, ap, ◌∙◌, Option, Some, AccountId, TrustLineAsset, AccountEntry}
use Rattle.trade_cross.proofs.Prelude.{TrustLineEntry, LedgerEntry, LedgerKey, EntryMap, account_in, account_of}
use Rattle.trade_cross.proofs.Prelude.{account_at, line_in, line_of, line_at, IsKeyed, account_entry, line_entry}
use Rattle.ledger_types.specs.declared.key.LedgerKey.TheVariants as key
use Rattle.trade_cross.proofs.Altering.{mapped, altered_opt, AreApart, KeepsKeys, altered_at, opt_keyed, opt_elsewhere}
use Rattle.trade_cross.proofs.Changing.{over, holding_body}

-- ---- under the key that is changed

module _ (f : AccountEntry → AccountEntry) (g : TrustLineEntry → TrustLineEntry) where
  module _ (m : EntryMap) (keyed : IsKeyed m) (keeps : KeepsKeys (over (holding_body f g))) where
    pub account_then : (id : AccountId) (a : AccountEntry) → account_at m id ≡ Some a
        → account_at (altered_opt (Some (key.Account id)) (over (holding_body f g)) m) id ≡ Some (f a)
    unfolding account_at
    account_then id a exists =
        let found = account_entry m id a exists in
        ap account_of (altered_at m keyed (key.Account id) (over (holding_body f g)) keeps)
        ∙ ap (λ o. account_of (mapped (over (holding_body f g)) o)) found.1.there
        ∙ ap (λ b. account_in (holding_body f g b)) found.1.is

    pub line_then : (id : AccountId) (x : TrustLineAsset) (t : TrustLineEntry) → line_at m id x ≡ Some t
        → line_at (altered_opt (Some (key.TrustLine id x)) (over (holding_body f g)) m) id x ≡ Some (g t)
    unfolding line_at
    line_then id x t exists =
        let found = line_entry m id x t exists in
        ap line_of (altered_at m keyed (key.TrustLine id x) (over (holding_body f g)) keeps)
        ∙ ap (λ o. line_of (mapped (over (holding_body f g)) o)) found.1.there
        ∙ ap (λ b. line_in (holding_body f g b)) found.1.is

-- ---- under another key

module _ (m : EntryMap) (keyed : IsKeyed m) (k : Option LedgerKey) (h : LedgerEntry → LedgerEntry) (keeps : KeepsKeys h)
  where
    pub account_elsewhere : (id : AccountId) → k ≢ Some (key.Account id)
        → account_at (altered_opt k h m) id ≡ account_at m id
    unfolding account_at
    account_elsewhere id apart = ap account_of (opt_elsewhere m keyed k h keeps (key.Account id) apart)

    pub line_elsewhere : (id : AccountId) (x : TrustLineAsset) → k ≢ Some (key.TrustLine id x)
        → line_at (altered_opt k h m) id x ≡ line_at m id x
    unfolding line_at
    line_elsewhere id x apart = ap line_of (opt_elsewhere m keyed k h keeps (key.TrustLine id x) apart)

-- ---- two changes, under keys that are apart

module _ (m : EntryMap) (keyed : IsKeyed m) (w s : Option LedgerKey) (apart : AreApart w s)
    (f p : AccountEntry → AccountEntry) (g q : TrustLineEntry → TrustLineEntry)
    (keeps : KeepsKeys (over (holding_body f g))) (also : KeepsKeys (over (holding_body p q))) where
  abbrev first : EntryMap
  first = altered_opt w (over (holding_body f g)) m

  first_keyed : IsKeyed first
  first_keyed = opt_keyed m keyed w (over (holding_body f g)) keeps

  abbrev both : EntryMap
  both = altered_opt s (over (holding_body p q)) first

  pub account_first : (id : AccountId) (a : AccountEntry) → w ≡ Some (key.Account id) → account_at m id ≡ Some a
      → account_at both id ≡ Some (f a)
  account_first id a is exists =
      account_elsewhere first first_keyed s (over (holding_body p q)) also id (apart (key.Account id) is)
      ∙ ap (λ k. account_at (altered_opt k (over (holding_body f g)) m) id) is
      ∙ account_then f g m keyed keeps id a exists

  pub line_first : (id : AccountId) (x : TrustLineAsset) (t : TrustLineEntry) → w ≡ Some (key.TrustLine id x)
      → line_at m id x ≡ Some t → line_at both id x ≡ Some (g t)
  line_first id x t is exists =
      line_elsewhere first first_keyed s (over (holding_body p q)) also id x (apart (key.TrustLine id x) is)
      ∙ ap (λ k. line_at (altered_opt k (over (holding_body f g)) m) id x) is
      ∙ line_then f g m keyed keeps id x t exists

  pub account_second : (id : AccountId) (a : AccountEntry) → s ≡ Some (key.Account id) → account_at m id ≡ Some a
      → account_at both id ≡ Some (p a)
  account_second id a is exists =
      ap (λ k. account_at (altered_opt k (over (holding_body p q)) first) id) is
      ∙ account_then p q first first_keyed also id a
      (account_elsewhere m keyed w (over (holding_body f g)) keeps id (λ same. apart (key.Account id) same is) ∙ exists)

  pub line_second : (id : AccountId) (x : TrustLineAsset) (t : TrustLineEntry) → s ≡ Some (key.TrustLine id x)
      → line_at m id x ≡ Some t → line_at both id x ≡ Some (q t)
  line_second id x t is exists =
      ap (λ k. line_at (altered_opt k (over (holding_body p q)) first) id x) is
      ∙ line_then p q first first_keyed also id x t
      (line_elsewhere m keyed w (over (holding_body f g)) keeps id x (λ same. apart (key.TrustLine id x) same is)
      ∙ exists)

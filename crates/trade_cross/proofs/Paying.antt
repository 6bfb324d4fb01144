-- Amounts that are paid from and to what an account holds.
use Rattle.trade_cross.proofs.Prelude as prelude
use prelude.{◌≡◌, ◌⊎◌, inl, inr, refl, sym, ap, subst, ◌∙◌, ℕ, ◌≤◌, zero, suc, Bool, true, false, Option, Some, None}
use prelude.{arith, ints, ℤ, pos, neg_ℤ, ◌+ℤ◌, ◌-ℤ◌, ◌≤ℤ◌, if◌then◌else◌, is_eq, AccountId, Asset, TrustLineAsset}
use prelude.{AccountEntry, TrustLineEntry, LedgerKey, asset_cmp, EntryMap, account_at, with_account}
use prelude.{account_liabilities, line_at, with_line, line_liabilities, available, room, line_available, line_room}
use prelude.{greatest_i64, is_same_account, Kind, Subentries, Sponsored, Shares, View, in_shares, Owed, IsEntryLegal}
use prelude.{IsLegalOwing, paid, of_asset, of_line, holder, account_legal, line_changed, not_above_balance, legal_as}
use prelude.{at_least_nothing, most_given, most_taken, account_gives, account_takes, line_gives, line_takes, line_paid}
use prelude.{paying, line_legal, kept_at, IsHeld, add_change_if, add_natural_nonnegative, at_most_add_natural}
use prelude.{at_most_rest, fits_after_no_natural, fits_after_sub_natural, fits_within_room}
use Rattle.ledger_types.specs.declared.asset.Asset.TheVariants as asset
use Rattle.ledger_types.specs.declared.asset.TrustLineAsset.TheVariants as line
use Rattle.ledger_types.specs.declared.key.LedgerKey.TheVariants as key
use Rattle.legal_rules.proofs.Paid.{paid_legal}

-- ---- what can be paid

-- so much more, or less, leaves an account or a line in its range
abbrev pub CanPay : EntryMap → Option LedgerKey → ℤ → Type 0
CanPay m None n = Unit {0}
CanPay m (Some (key.Account id)) n =
    (a : AccountEntry) × (account_at m id ≡ Some a) × (pos 0 ≤ℤ (a.balance +ℤ n)) × (n ≤ℤ room a)
CanPay m (Some (key.TrustLine id held)) n =
    (t : TrustLineEntry) × (line_at m id held ≡ Some t) × ((line_liabilities t).selling ≤ℤ (t.balance +ℤ n))
    × (((t.balance +ℤ n) +ℤ (line_liabilities t).buying) ≤ℤ t.limit)
CanPay m (Some other) n = ⊥

no_less : (x y : ℤ) → pos 0 ≤ℤ x → x ≤ℤ y → pos 0 ≤ℤ y
no_less x y low le = omega (arith, ints)

no_shares : (x : TrustLineAsset) (n : ℤ) → ((k : LedgerKey) → in_shares x n Shares k ≡ pos 0) → (kind : Kind)
    (k : LedgerKey) (o : ℤ) → (o +ℤ in_shares x n kind k) ≡ o
no_shares x n none Shares k o = subst (λ s. (o +ℤ s) ≡ o) (sym (none k)) (plus_nothing o)
  where
    plus_nothing : (o : ℤ) → (o +ℤ pos 0) ≡ o
    plus_nothing o = omega (arith, ints)
no_shares x n none kind k o = plus_nothing o
  where
    plus_nothing : (o : ℤ) → (o +ℤ pos 0) ≡ o
    plus_nothing o = omega (arith, ints)

module _ (v : View) (id_pool : ℕ) (owed : Owed) (sum : ℤ) (m : EntryMap) (legal : IsLegalOwing v id_pool owed sum m)
  where
    -- a line in a credit asset
    line_pays : (id : AccountId) (x : TrustLineAsset) (held : Asset)
        → ((n : ℤ) (k : LedgerKey) → in_shares x n Shares k ≡ pos 0)
        → ((n : ℤ) → of_line v.asset x n ≡ of_asset v.asset held n) → (n : ℤ) → CanPay m (Some (key.TrustLine id x)) n
        → IsLegalOwing v id_pool owed (sum +ℤ of_asset v.asset held n) (with_line m id x (line_paid n))
    line_pays id x held none its n can =
        let t = can.0 in
        let was = line_legal v id_pool owed sum m id x t legal can.1 in
        legal_as v (IsEntryLegal id_pool) _ owed _ _ (with_line m id x (line_paid n))
        (line_changed v id_pool owed sum m id x (line_paid n) t legal can.1
        (record { id = refl; asset = refl; liabilities = refl; uses = refl })
        (record {
          range = record {
            balance = no_less _ _ was.range.range.selling can.2;
            buying = was.range.range.buying;
            selling = was.range.range.selling;
            covered = can.2;
            fits = can.3;
          };
          limit = was.range.limit;
          greatest = was.range.greatest;
          held = was.range.held;
          flags = was.range.flags;
          uses = was.range.uses;
        }) was.bound)
        (λ kind k. no_shares t.asset _ (λ q. ap (λ a. in_shares a ((t.balance +ℤ n) -ℤ t.balance) Shares q) was.asset
        ∙ none ((t.balance +ℤ n) -ℤ t.balance) q) kind k (owed kind k))
        ((λ i. sum +ℤ (of_line v.asset (was.asset i) (t.balance +ℤ n) -ℤ of_line v.asset (was.asset i) t.balance))
        ∙ (λ i. sum +ℤ (its (t.balance +ℤ n) i -ℤ its t.balance i))
        ∙ add_change_if (is_eq (asset_cmp v.asset held)) sum t.balance n)

    account_pays : (id : AccountId) (n : ℤ) → CanPay m (Some (key.Account id)) n
        → IsLegalOwing v id_pool owed (sum +ℤ of_asset v.asset asset.Native n) (with_account m id (paid n))
    account_pays id n can = paid_legal v id_pool owed sum m id n can.0 legal can.1 can.2 can.3

    plus_none : (x : ℤ) → x ≡ (x +ℤ pos 0)
    plus_none x = omega (arith, ints)

    line_or_none : (b : Bool) (id : AccountId) (x : TrustLineAsset) (held : Asset)
        → ((n : ℤ) (k : LedgerKey) → in_shares x n Shares k ≡ pos 0)
        → ((n : ℤ) → of_line v.asset x n ≡ of_asset v.asset held n) → (n : ℤ)
        → CanPay m (if b then None else Some (key.TrustLine id x)) n
        → IsLegalOwing v id_pool owed
        (sum +ℤ kept_at v.asset (if b then None else Some (key.TrustLine id x)) held n)
        (paying (if b then None else Some (key.TrustLine id x)) n m)
    line_or_none true id x held none its n can = subst (λ s. IsLegalOwing v id_pool owed s m) (plus_none sum) legal
    line_or_none false id x held none its n can = line_pays id x held none its n can

    -- Whoever holds an asset has so much more of it.
    pub paying_legal : (id : AccountId) (held : Asset) (n : ℤ) → CanPay m (holder id held) n
        → IsLegalOwing v id_pool owed (sum +ℤ kept_at v.asset (holder id held) held n) (paying (holder id held) n m)
    paying_legal id asset.Native n can = account_pays id n can
    paying_legal id (asset.Alphanum4 code issuer) n can = line_or_none (is_same_account issuer id) id
        (line.Alphanum4 code issuer) (asset.Alphanum4 code issuer) (λ n k. refl) (λ n. refl) n can
    paying_legal id (asset.Alphanum12 code issuer) n can = line_or_none (is_same_account issuer id) id
        (line.Alphanum12 code issuer) (asset.Alphanum12 code issuer) (λ n k. refl) (λ n. refl) n can

-- ---- what is given and taken

-- n is at most what is there, or nothing
pub within : (x : ℤ) (n : ℕ) → n ≤ at_least_nothing x → (n ≡ 0) ⊎ (pos n ≤ℤ x)
within (pos k) n le = inr (omega (arith, ints))
within other zero le = inl refl
within other (suc n) le = absurd (omega arith)

gives_low : (b : ℤ) (n : ℕ) → pos n ≤ℤ b → pos 0 ≤ℤ (b +ℤ neg_ℤ (pos n))
gives_low b n le = omega (arith, ints)

gives_nothing : (b : ℤ) (n : ℕ) → pos 0 ≤ℤ b → n ≡ 0 → pos 0 ≤ℤ (b +ℤ neg_ℤ (pos n))
gives_nothing b n low none = omega (arith, ints)

gives_room : (b buying g : ℤ) (n : ℕ) → (b +ℤ buying) ≤ℤ g → neg_ℤ (pos n) ≤ℤ (g -ℤ b -ℤ buying)
gives_room b buying g n fits = omega (arith, ints)

none_covered : (b s : ℤ) (n : ℕ) → s ≤ℤ b → n ≡ 0 → s ≤ℤ (b +ℤ neg_ℤ (pos n))
none_covered b s n le none = omega (arith, ints)

takes_none : (b buying g : ℤ) (n : ℕ) → (b +ℤ buying) ≤ℤ g → n ≡ 0 → pos n ≤ℤ (g -ℤ b -ℤ buying)
takes_none b buying g n fits none = omega (arith, ints)

module _ (v : View) (id_pool base : ℕ) (owed : Owed) (sum : ℤ) (m : EntryMap)
    (legal : IsLegalOwing v id_pool owed sum m) (n : ℕ) where
  account_can_give : (id : AccountId) → owed Subentries (key.Account id) ≤ℤ owed Sponsored (key.Account id)
      → (a : AccountEntry) → account_at m id ≡ Some a → n ≤ at_least_nothing (available a base)
      → CanPay m (Some (key.Account id)) (neg_ℤ (pos n))
  account_can_give id covered a exists le =
      let range = (account_legal v id_pool owed sum m id a legal exists).range.range in (
        a,
        exists,
        elim (within (available a base) n le) [
          | inl none ↦ gives_nothing a.balance n range.balance none
          | inr enough ↦ gives_low a.balance n
              (not_above_balance v id_pool owed sum m id a base (pos n) legal covered exists enough)
        ],
        gives_room a.balance (account_liabilities a).buying greatest_i64 n range.fits,
      )

  line_can_give : (id : AccountId) (x : TrustLineAsset) (t : TrustLineEntry) → line_at m id x ≡ Some t
      → n ≤ at_least_nothing (line_available t) → CanPay m (Some (key.TrustLine id x)) (neg_ℤ (pos n))
  line_can_give id x t exists le =
      let range = (line_legal v id_pool owed sum m id x t legal exists).range.range in (
        t,
        exists,
        elim (within (line_available t) n le) [
          | inl none ↦ none_covered t.balance (line_liabilities t).selling n range.covered none
          | inr enough ↦ at_most_rest t.balance (line_liabilities t).selling n enough
        ],
        fits_after_sub_natural t.balance (line_liabilities t).buying t.limit n range.fits,
      )

  -- What is held gives what is available.
  pub can_give : ((k : LedgerKey) → owed Subentries k ≤ℤ owed Sponsored k) → (k : Option LedgerKey) → IsHeld m k
      → n ≤ most_given base m k → CanPay m k (neg_ℤ (pos n))
  can_give covered None held le = tt
  can_give covered (Some (key.Account id)) held le = account_can_give id (covered (key.Account id)) held.0 held.1
      (subst (λ o. n ≤ account_gives base o) held.1 le)
  can_give covered (Some (key.TrustLine id x)) held le = line_can_give id x held.0 held.1
      (subst (λ o. n ≤ line_gives o) held.1 le)
  can_give covered (Some other) held le = held

  account_can_take : (id : AccountId) (a : AccountEntry) → account_at m id ≡ Some a → n ≤ at_least_nothing (room a)
      → CanPay m (Some (key.Account id)) (pos n)
  account_can_take id a exists le =
      let range = (account_legal v id_pool owed sum m id a legal exists).range.range in (
        a,
        exists,
        add_natural_nonnegative a.balance n range.balance,
        elim (within (room a) n le) [
          | inl none ↦ takes_none a.balance (account_liabilities a).buying greatest_i64 n range.fits none
          | inr fits ↦ fits
        ],
      )

  line_can_take : (id : AccountId) (x : TrustLineAsset) (t : TrustLineEntry) → line_at m id x ≡ Some t
      → n ≤ at_least_nothing (line_room t) → CanPay m (Some (key.TrustLine id x)) (pos n)
  line_can_take id x t exists le =
      let range = (line_legal v id_pool owed sum m id x t legal exists).range.range in (
        t,
        exists,
        at_most_add_natural t.balance (line_liabilities t).selling n range.covered,
        elim (within (line_room t) n le) [
          | inl none ↦ fits_after_no_natural t.balance (line_liabilities t).buying t.limit n range.fits none
          | inr fits ↦ fits_within_room t.balance (line_liabilities t).buying t.limit n fits
        ],
      )

  -- and takes what it has room for
  pub can_take : (k : Option LedgerKey) → IsHeld m k → n ≤ most_taken m k → CanPay m k (pos n)
  can_take None held le = tt
  can_take (Some (key.Account id)) held le = account_can_take id held.0 held.1
      (subst (λ o. n ≤ account_takes o) held.1 le)
  can_take (Some (key.TrustLine id x)) held le = line_can_take id x held.0 held.1
      (subst (λ o. n ≤ line_takes o) held.1 le)
  can_take (Some other) held le = held

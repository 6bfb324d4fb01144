-- What a change of a line leaves: legal entries, the supply of its asset, and the accounts.
use Rattle.op_payment.proofs.Prelude.{◌≡◌, refl, ap, ◌∙◌, ℕ, Bool, true, false, Some, ℤ, pos, ◌+ℤ◌, ◌-ℤ◌, if◌then◌else◌}
use Rattle.op_payment.proofs.Prelude.{is_eq, AccountId, Asset, TrustLineEntry, EntryMap, line_at, with_line, Kind}
use Rattle.op_payment.proofs.Prelude.{Shares, nothing_owed, IsBoundRightly, IsEntryLegal, of_asset, of_line, is_native}
use Rattle.op_payment.proofs.Prelude.{line_asset_of, IsKeyed, none_more, under_key, Leaves, leaves_as, line_legal}
use Rattle.op_payment.proofs.Prelude.{line_of_any_left, line_of_any_kept}
use Rattle.ledger_types.specs.KeyOrder.{asset_cmp}
use Rattle.trade_cross.proofs.legal_rules_proofs.Changed.{line_changed}
use Rattle.trade_cross.proofs.legal_rules_proofs.Steps.{legal_as}
use Rattle.trade_cross.specs.legal_rules.EntryKeys.{is_key}
use Rattle.ledger_types.specs.declared.asset.Asset.TheVariants as asset
use Rattle.ledger_types.specs.declared.asset.TrustLineAsset.{TrustLineAsset}
use Rattle.ledger_types.specs.declared.entry.LedgerEntryBody.TheVariants as body
use Rattle.ledger_types.specs.declared.key.LedgerKey.{LedgerKey}
use Rattle.ledger_types.specs.declared.key.LedgerKey.TheVariants as key
use Rattle.trade_cross.specs.legal_rules.ChangeLaws.{KeepsLineAggregates, in_shares}
use Rattle.trade_cross.specs.legal_rules.Ranges.{IsTrustLineInRange}
use Rattle.op_payment.proofs.Shifts.{ShiftsLegal}

-- ---- a line that is changed

no_shares : (held : Asset) (n : ℤ) (kind : Kind) (k : LedgerKey)
    → (pos 0 +ℤ in_shares (line_asset_of held) n kind k) ≡ pos 0
no_shares asset.Native n Shares k = refl
no_shares asset.Native n kind k = refl
no_shares (asset.Alphanum4 code issuer) n Shares k = refl
no_shares (asset.Alphanum4 code issuer) n kind k = refl
no_shares (asset.Alphanum12 code issuer) n Shares k = refl
no_shares (asset.Alphanum12 code issuer) n kind k = refl

of_its_asset : (x held : Asset) → is_native held ≡ false → (n : ℤ)
    → of_line x (line_asset_of held) n ≡ of_asset x held n
of_its_asset x asset.Native issued n = absurd (cc)
of_its_asset x (asset.Alphanum4 code issuer) issued n = refl
of_its_asset x (asset.Alphanum12 code issuer) issued n = refl

difference : (b : Bool) (new old : ℤ) → ((if b then new else pos 0) -ℤ (if b then old else pos 0))
    ≡ (if b then new -ℤ old else pos 0)
difference true new old = refl
difference false new old = refl

difference_of : (x held : Asset) → is_native held ≡ false → (a : TrustLineAsset) → a ≡ line_asset_of held
    → (new old : ℤ)
    → (of_line x a new -ℤ of_line x a old) ≡ of_asset x held (new -ℤ old)
difference_of x held issued a is new old =
    (λ i. of_line x (is i) new -ℤ of_line x (is i) old)
    ∙ (λ i. of_its_asset x held issued new i -ℤ of_its_asset x held issued old i)
    ∙ difference (is_eq (asset_cmp x held)) new old

module _ (id_pool : ℕ) (m : EntryMap) (id : AccountId) (held : Asset) (issued : is_native held ≡ false)
    (f : TrustLineEntry → TrustLineEntry) (t : TrustLineEntry) (exists : line_at m id (line_asset_of held) ≡ Some t)
  where
    abbrev new : EntryMap
    new = with_line m id (line_asset_of held) f

    -- A line keeps what books say of it, and its own rules.
    pub line_shifted : KeepsLineAggregates t (f t) → IsTrustLineInRange (f t) → IsBoundRightly (body.TrustLine (f t))
        → ShiftsLegal id_pool (λ x. of_asset x held ((f t).balance -ℤ t.balance)) m new
    line_shifted keeps range bound v sum legal =
        let its = (line_legal v id_pool nothing_owed sum m id (line_asset_of held) t legal exists).asset in
        legal_as v (IsEntryLegal id_pool) _ nothing_owed _ (sum +ℤ of_asset v.asset held ((f t).balance -ℤ t.balance))
        new
        (line_changed v id_pool nothing_owed sum m id (line_asset_of held) f t legal exists keeps range bound)
        (λ kind k. ap (λ (a : TrustLineAsset). pos 0 +ℤ in_shares a ((f t).balance -ℤ t.balance) kind k) its
        ∙ no_shares held ((f t).balance -ℤ t.balance) kind k)
        (ap (λ n. sum +ℤ n) (difference_of v.asset held issued t.asset its (f t).balance t.balance))

    -- No account changes, and the line holds so much more.
    module _ (keeps : KeepsLineAggregates t (f t)) (base : ℕ) (keyed : IsKeyed m) where
      abbrev at : LedgerKey
      at = key.TrustLine id (line_asset_of held)

      pub line_left : Leaves base (under_key at (λ x. of_asset x held ((f t).balance -ℤ t.balance))) m new
      line_left = leaves_as base (under_key at (λ x. of_line x (line_asset_of held) ((f t).balance -ℤ t.balance)))
          (under_key at (λ x. of_asset x held ((f t).balance -ℤ t.balance))) m new
          (line_of_any_left m id (line_asset_of held) f t exists keeps.id keeps.asset base keyed)
          (λ k x. ap (λ n. if is_key k at then n else pos 0)
          (of_its_asset x held issued ((f t).balance -ℤ t.balance)))

      -- the same of a line with the balance that it had
      pub line_kept : (f t).balance ≡ t.balance → Leaves base none_more m new
      line_kept = line_of_any_kept m id (line_asset_of held) f t exists keeps.id keeps.asset base keyed

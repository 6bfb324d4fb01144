-- What is known of the assets of a seller.
use Rattle.image_rules.proofs.Prelude.{◌≡◌, sym, ap, subst, ◌∙◌, Bool, true, false, cond, Option, Some, None, IfSome}
use Rattle.image_rules.proofs.Prelude.{refl, is_eq, Asset, AccountId, EntryMap, keys_in, holder, asset_cmp}
use Rattle.std.specs.declared.cmp.Ordering.{Ordering}
use Rattle.std.specs.Map.{lookup}
use Rattle.std.specs.BTreeMap as tree
use Rattle.std.specs.BTreeMap.{BTreeMap}
use Rattle.ledger_types.specs.contracts.asset.AssetOrd.TheImpl as assets
use Rattle.ledger_types.proofs.KeyOrdering.{assets_compared, same_assets}
use Rattle.image_rules.specs.Holdings.{AreHeld, AreKnown}
use Rattle.image_rules.specs.declared.holdings.Holdings.{Holdings}
use Rattle.image_rules.specs.declared.holdings.SellerHoldings.{SellerHoldings}

-- the derived order
abbrev pub derived : Asset → Asset → Ordering
derived = (assets.cmp-value).it

derived_is : derived ≡ asset_cmp
derived_is = λ i a b. assets_compared a b i

module _ (m : EntryMap) where
  abbrev IsHeldOf : AccountId → Asset → Option Holdings → Type 0
  IsHeldOf seller x o = IfSome o (AreHeld m (keys_in (holder seller x)))

  pub known_none : (seller : AccountId) (found : BTreeMap Asset Holdings) → tree.IsEmpty found
      → AreKnown m (record { seller = seller; found = found })
  known_none seller found none x =
      subst (λ es. IsHeldOf seller x (lookup (tree.is_at (asset_cmp x)) es)) (sym none) tt

  pub known_at : (known : SellerHoldings) (x : Asset) (held : Holdings) → AreKnown m known
      → tree.get derived known.found x ≡ Some held → AreHeld m (keys_in (holder known.seller x)) held
  known_at known x held h at =
      subst (IsHeldOf known.seller x) (ap (λ c. tree.get c known.found x) (sym derived_is) ∙ at) (h x)

  known_by : (old new : SellerHoldings) (x q : Asset) (held : Holdings) → AreKnown m old → new.seller ≡ old.seller
      → AreHeld m (keys_in (holder old.seller x)) held → (b : Bool) → is_eq (asset_cmp x q) ≡ b
      → IsHeldOf new.seller q (cond b (Some held) (tree.get asset_cmp old.found q))
  known_by old new x q held h same found true tied =
      subst (λ (seller : AccountId). IsHeldOf seller q (Some held)) (sym same)
      (subst (λ (y : Asset). IsHeldOf old.seller y (Some held)) (same_assets x q tied) found)
  known_by old new x q held h same found false apart =
      subst (λ (seller : AccountId). IsHeldOf seller q (tree.get asset_cmp old.found q)) (sym same) (h q)

  pub known_more : (old new : SellerHoldings) (x : Asset) (held : Holdings) → AreKnown m old
      → new.seller ≡ old.seller → tree.Updates derived old.found new.found x (Some held)
      → AreHeld m (keys_in (holder old.seller x)) held → AreKnown m new
  known_more old new x held h same u found q =
      let stated = subst (λ c. tree.Updates c old.found new.found x (Some held)) derived_is u in
      subst (IsHeldOf new.seller q) (sym (stated.0 q))
      (known_by old new x q held h same found (is_eq (asset_cmp x q)) refl)

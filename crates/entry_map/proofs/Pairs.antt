-- Where the next position is of another pair, the book of the pair has ended.
use Rattle.entry_map.proofs.Prelude.{◌≡◌, ◌≢◌, refl, sym, ap, subst, ◌∙◌, true, false, Ordering, Less, Equal, Greater}
use Rattle.entry_map.proofs.Prelude.{ordering_then, ordering_reverse, is_eq, tied_itself, Asset, asset_cmp}
use Rattle.entry_map.proofs.Prelude.{assets_compared, assets_total, assets_exact, BookPosition, PositionMap, has}
use Rattle.entry_map.proofs.Prelude.{IsLeastPosition, IsLastOfPair, OfferTerms, order, then_of_Equal}

not_greater_first : (x y : Ordering) → ordering_then x y ≢ Greater → x ≢ Greater
not_greater_first Less y h = λ e. absurd (cc)
not_greater_first Equal y h = λ e. absurd (cc)
not_greater_first Greater y h = λ e. h refl

less_first : (x y : Ordering) → ordering_then x y ≡ Less → x ≢ Greater
less_first x y e = not_greater_first x y (λ g. absurd (cc (sym e ∙ g)))

tied_of_both : (a b : Asset) → asset_cmp a b ≢ Greater → asset_cmp b a ≢ Greater → a ≡ b
tied_of_both a b up down =
    elim (asset_cmp a b) as (λ o. asset_cmp a b ≡ o → a ≡ b) [
      | Less ↦ λ e. absurd (down (assets_total.antisymm b a ∙ ap ordering_reverse e))
      | Equal ↦ λ e. assets_exact a b e
      | Greater ↦ λ e. absurd (up e)
    ] refl

pub tied : (a b : Asset) → a ≡ b → asset_cmp a b ≡ Equal
tied a b e = subst (λ x. asset_cmp a x ≡ Equal) e (tied_itself assets_total a)

module _ (k next q : BookPosition) (selling : q.selling ≡ k.selling) (buying : q.buying ≡ k.buying)
    (ahead : order k next ≡ Less) (upto : order next q ≢ Greater) where
  first_up : asset_cmp k.selling next.selling ≢ Greater
  unfolding order
  first_up = subst (λ o. o ≢ Greater) (assets_compared k.selling next.selling) (less_first _ _ ahead)

  first_down : asset_cmp next.selling k.selling ≢ Greater
  unfolding order
  first_down = subst (λ x. asset_cmp next.selling x ≢ Greater) selling
      (subst (λ o. o ≢ Greater) (assets_compared next.selling q.selling) (not_greater_first _ _ upto))

  pub same_selling : k.selling ≡ next.selling
  same_selling = tied_of_both k.selling next.selling first_up first_down

  second_up : asset_cmp k.buying next.buying ≢ Greater
  unfolding order
  second_up = subst (λ o. o ≢ Greater) (assets_compared k.buying next.buying)
      (less_first _ _ (sym (then_of_Equal _ _ (assets_compared k.selling next.selling ∙ tied _ _ same_selling))
      ∙ ahead))

  second_down : asset_cmp next.buying k.buying ≢ Greater
  unfolding order
  second_down = subst (λ x. asset_cmp next.buying x ≢ Greater) buying
      (subst (λ o. o ≢ Greater) (assets_compared next.buying q.buying)
      (not_greater_first _ _ (λ g. upto (then_of_Equal _ _ (assets_compared next.selling q.selling
      ∙ tied _ _ (sym same_selling ∙ sym selling)) ∙ g))))

  -- so a next position that is of another pair ends the book of k's pair
  pub same_buying : k.buying ≡ next.buying
  same_buying = tied_of_both k.buying next.buying second_up second_down

pub same_assets_tied : (a b : Asset) → a ≡ b → is_eq (asset_cmp a b) ≡ true
same_assets_tied a b e = ap is_eq (tied a b e)

-- no position of the pair is above, where the least one above is of another pair
pub other_pair : (positions : PositionMap) (start next : BookPosition) (terms : OfferTerms)
    → IsLeastPosition positions start next terms
    → (is_eq (asset_cmp next.selling start.selling) ≡ true → is_eq (asset_cmp next.buying start.buying) ≡ true → ⊥)
    → IsLastOfPair positions start
other_pair positions start next terms least other q selling buying lt =
    elim (has positions q) as (λ b. has positions q ≡ b → b ≡ false) [
      | true ↦ λ here. let upto = least.least q lt here in absurd (other
          (same_assets_tied next.selling start.selling
          (sym (same_selling start next q selling buying least.above upto)))
          (same_assets_tied next.buying start.buying (sym (same_buying start next q selling buying least.above upto))))
      | false ↦ λ apart. refl
    ] refl

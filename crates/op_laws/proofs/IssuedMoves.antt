-- What one move issues of each asset.
use Rattle.op_laws.proofs.Prelude.{◌≡◌, refl, sym, ap, subst, Bool, true, false, [], ◌∷◌, arith, ints, ℤ, pos, ◌+ℤ◌}
use Rattle.op_laws.proofs.Prelude.{◌-ℤ◌, if◌then◌else◌, is_eq, AccountId, Asset, asset_cmp, is_same_account}
use Rattle.op_laws.proofs.Prelude.{same_account, is_itself, of_asset, is_issued_by, Holder, OfAccount, is_issuer}
use Rattle.op_laws.proofs.Prelude.{issued, same_assets}
use Rattle.std.specs.Prelude.{◌&&◌}
use Rattle.op_flags.specs.ledger_types.declared.asset.Asset.TheVariants as asset

-- ---- issuers

pub same_both_ways : (a b : AccountId) → is_same_account a b ≡ is_same_account b a
same_both_ways a b = by (is_same_account a b) (is_same_account b a) refl refl
  where
    by : (s t : Bool) → is_same_account a b ≡ s → is_same_account b a ≡ t → s ≡ t
    by true true is also = refl
    by false false is also = refl
    by true false is also =
        let same = ap (is_same_account b) (same_account a b is) in let own = is_itself b in absurd (cc)
    by false true is also =
        let same = ap (is_same_account a) (same_account b a also) in let own = is_itself a in absurd (cc)

-- the issuer of an asset, as operations and as moves see it
pub same_issuer : (x : Asset) (id : AccountId) → is_issued_by x id ≡ is_issuer x (OfAccount id)
same_issuer asset.Native id = refl
same_issuer (asset.Alphanum4 code issuer) id = same_both_ways issuer id
same_issuer (asset.Alphanum12 code issuer) id = same_both_ways issuer id

-- ---- moves

-- what a move of an asset issues of it
abbrev pub issued_so : (from to : Bool) → ℤ → ℤ
issued_so from to n = (if from then n else pos 0) -ℤ (if to then n else pos 0)

alone : (f t : Bool) (n : ℤ) → (issued_so f t n +ℤ pos 0) ≡ issued_so f t n
alone f t n = omega (arith, ints)

zeros_cancel : ((pos 0 -ℤ pos 0) +ℤ pos 0) ≡ pos 0
zeros_cancel = refl

pub issued_by_move : (x held : Asset) (from to : Holder) (n : ℤ)
    → of_asset x held (issued_so (is_issuer held from) (is_issuer held to) n)
    ≡ issued x (record { from = from; to = to; asset = held; amount = n } ∷ [])
unfolding issued
issued_by_move x held from to n = elim (is_eq (asset_cmp x held)) as (λ b. is_eq (asset_cmp x held) ≡ b
    → (if b then issued_so (is_issuer held from) (is_issuer held to) n else pos 0)
    ≡ (((if b && is_issuer x from then n else pos 0) -ℤ (if b && is_issuer x to then n else pos 0)) +ℤ pos 0)) [
      | true ↦ λ is.
          let same = same_assets x held is in
          subst (λ (y : Asset). issued_so (is_issuer held from) (is_issuer held to) n
          ≡ (issued_so (is_issuer y from) (is_issuer y to) n +ℤ pos 0)) (sym same)
          (sym (alone (is_issuer held from) (is_issuer held to) n))
      | false ↦ λ is. refl
    ] refl

-- Lumens that move from one account to another: what each gains, and that none are issued.
use Rattle.op_laws.proofs.Prelude.{◌≡◌, refl, ap, ◌∙◌, Bool, true, false, ◌&&◌, [], ◌∷◌, arith, ints, ℤ, pos, neg_ℤ}
use Rattle.op_laws.proofs.Prelude.{◌+ℤ◌, ◌-ℤ◌, if◌then◌else◌, is_eq, AccountId, Asset, asset_cmp, OfAccount, Move}
use Rattle.op_laws.proofs.Prelude.{is_holder, gained, issued, location_of, none_more, both_more, for_one}
use Rattle.op_flags.specs.ledger_types.declared.asset.Asset.TheVariants as asset
use Rattle.op_laws.proofs.Described.{Describes, none_at, account_location, move_describes}

-- an account gives another one lumens
abbrev pub lumens_move : (from to : AccountId) → ℤ → Move
lumens_move from to amount =
    record { from = OfAccount from; to = OfAccount to; asset = asset.Native; amount = amount }

pub lumens_described : (from to : AccountId) (amount : ℤ)
    → Describes (both_more (for_one to amount) (for_one from (neg_ℤ amount))) (lumens_move from to amount ∷ [])
lumens_described from to amount = move_describes asset.Native (OfAccount from) (OfAccount to) amount
    (account_location asset.Native from) (account_location asset.Native to)

-- the same account gives itself
pub itself_described : (from to : AccountId) (amount : ℤ) → to ≡ from
    → Describes none_more (lumens_move from to amount ∷ [])
unfolding gained
itself_described from to amount same x holder other =
    let of = is_eq (asset_cmp x asset.Native) in
    none_at x (location_of x holder)
    ∙ back (of && is_holder holder (OfAccount to)) (of && is_holder holder (OfAccount from)) amount
    (ap (λ id. of && is_holder holder (OfAccount id)) same)
  where
    back : (t f : Bool) (n : ℤ) → t ≡ f
        → pos 0 ≡ (((if t then n else pos 0) -ℤ (if f then n else pos 0)) +ℤ pos 0)
    back true true n is = omega (arith, ints)
    back true false n is = absurd (cc)
    back false true n is = absurd (cc)
    back false false n is = omega (arith, ints)

-- lumens have no issuer
pub none_issued : (from to : AccountId) (amount : ℤ) (x : Asset)
    → issued x (lumens_move from to amount ∷ []) ≡ pos 0
unfolding issued
none_issued from to amount asset.Native = refl
none_issued from to amount (asset.Alphanum4 code issuer) = refl
none_issued from to amount (asset.Alphanum12 code issuer) = refl

pub nothing_issued : (x : Asset) → issued x [] ≡ pos 0
unfolding issued
nothing_issued x = refl

-- What is issued where an account gives something to a holder that issues nothing, or takes it from there: a claimable
-- balance or a pool.
use Rattle.op_laws.proofs.Prelude.{◌≡◌, refl, ◌∙◌, Bool, true, false, [], ◌∷◌, arith, ints, ℤ, pos, neg_ℤ, ◌+ℤ◌}
use Rattle.op_laws.proofs.Prelude.{if◌then◌else◌, is_eq, AccountId, ClaimableBalanceId, Hash, Asset, asset_cmp}
use Rattle.op_laws.proofs.Prelude.{of_asset, is_issued_by, Holder, OfAccount, OfBalance, OfPool, Move, issued}
use Rattle.op_laws.proofs.Prelude.{is_issuer, unless_issuer}
use Rattle.op_flags.specs.ledger_types.declared.asset.Asset.TheVariants as asset
use Rattle.op_laws.proofs.IssuedMoves.{same_issuer, issued_so, issued_by_move}

pub balance_issues_none : (held : Asset) (id : ClaimableBalanceId) → false ≡ is_issuer held (OfBalance id)
balance_issues_none asset.Native id = refl
balance_issues_none (asset.Alphanum4 code issuer) id = refl
balance_issues_none (asset.Alphanum12 code issuer) id = refl

pub pool_issues_none : (held : Asset) (id : Hash) → false ≡ is_issuer held (OfPool id)
pool_issues_none asset.Native id = refl
pool_issues_none (asset.Alphanum4 code issuer) id = refl
pool_issues_none (asset.Alphanum12 code issuer) id = refl

-- ---- given

aside_of : (b t : Bool) (n : ℤ)
    → ((if t then pos 0 else (if b then neg_ℤ n else pos 0)) +ℤ (if b then n else pos 0))
    ≡ (if b then issued_so t false n else pos 0)
aside_of true true n = omega (arith, ints)
aside_of true false n = omega (arith, ints)
aside_of false true n = refl
aside_of false false n = refl

abbrev pub put_aside : AccountId → Holder → Asset → ℤ → Move
put_aside from to held n = record { from = OfAccount from; to = to; asset = held; amount = n }

pub put_aside_issued : (x held : Asset) (from : AccountId) (to : Holder) (n : ℤ) → false ≡ is_issuer held to
    → (unless_issuer x held from (neg_ℤ n) +ℤ of_asset x held n) ≡ issued x (put_aside from to held n ∷ [])
put_aside_issued x held from to n other =
    aside_of (is_eq (asset_cmp x held)) (is_issued_by held from) n
    ∙ (λ i. of_asset x held (issued_so (same_issuer held from i) (other i) n))
    ∙ issued_by_move x held (OfAccount from) to n

-- ---- taken

less_of_it : (b : Bool) (n : ℤ) → neg_ℤ (if b then n else pos 0) ≡ (if b then neg_ℤ n else pos 0)
less_of_it true n = refl
less_of_it false n = refl

pub less_of : (x held : Asset) (n : ℤ) → neg_ℤ (of_asset x held n) ≡ of_asset x held (neg_ℤ n)
less_of x held n = less_of_it (is_eq (asset_cmp x held)) n

taken_of : (b t : Bool) (n : ℤ)
    → ((if b then neg_ℤ n else pos 0) +ℤ (if t then pos 0 else (if b then n else pos 0)))
    ≡ (if b then issued_so false t n else pos 0)
taken_of true true n = omega (arith, ints)
taken_of true false n = omega (arith, ints)
taken_of false true n = refl
taken_of false false n = refl

abbrev pub taken_back : Holder → AccountId → Asset → ℤ → Move
taken_back from to held n = record { from = from; to = OfAccount to; asset = held; amount = n }

pub taken_back_issued : (x held : Asset) (from : Holder) (to : AccountId) (n : ℤ) → false ≡ is_issuer held from
    → (of_asset x held (neg_ℤ n) +ℤ unless_issuer x held to n) ≡ issued x (taken_back from to held n ∷ [])
taken_back_issued x held from to n other =
    taken_of (is_eq (asset_cmp x held)) (is_issued_by held to) n
    ∙ (λ i. of_asset x held (issued_so (other i) (same_issuer held to i) n))
    ∙ issued_by_move x held from (OfAccount to) n

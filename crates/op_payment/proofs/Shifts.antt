-- Changes that shift the supply of an asset, and keep a state legal.
use Rattle.op_payment.proofs.Prelude.{◌≡◌, ap, subst, ℕ, ℤ, pos, ◌+ℤ◌, if◌then◌else◌, AccountId, Asset, EntryMap, View}
use Rattle.op_payment.proofs.Prelude.{nothing_owed, IsLegalOwing, of_asset, is_issued_by, add_assoc, add_zero, sym}

-- A change keeps a state legal, and shifts the supply of the asset at hand, by whatever it is viewed.
abbrev pub ShiftsLegal : ℕ → (Asset → ℤ) → (old new : EntryMap) → Type 0
ShiftsLegal id_pool shift old new = (v : View) (sum : ℤ) → IsLegalOwing v id_pool nothing_owed sum old
    → IsLegalOwing v id_pool nothing_owed (sum +ℤ shift v.asset) new

-- n of an asset, unless an account issues it
abbrev pub unless_issuer : Asset → Asset → AccountId → ℤ → ℤ
unless_issuer x held id n = if is_issued_by held id then pos 0 else of_asset x held n

pub shifts_as : (id_pool : ℕ) (shift other : Asset → ℤ) (old new : EntryMap) → ((x : Asset) → shift x ≡ other x)
    → ShiftsLegal id_pool shift old new → ShiftsLegal id_pool other old new
shifts_as id_pool shift other old new same shifts v sum legal =
    subst (λ n. IsLegalOwing v id_pool nothing_owed n new) (ap (λ n. sum +ℤ n) (same v.asset)) (shifts v sum legal)

pub shifts_both : (id_pool : ℕ) (d e : Asset → ℤ) (old now new : EntryMap) → ShiftsLegal id_pool d old now
    → ShiftsLegal id_pool e now new → ShiftsLegal id_pool (λ x. d x +ℤ e x) old new
shifts_both id_pool d e old now new first second v sum legal =
    subst (λ n. IsLegalOwing v id_pool nothing_owed n new) (add_assoc sum (d v.asset) (e v.asset))
    (second v (sum +ℤ d v.asset) (first v sum legal))

pub shifts_nothing : (id_pool : ℕ) (m : EntryMap) → ShiftsLegal id_pool (λ x. pos 0) m m
shifts_nothing id_pool m v sum legal = subst (λ n. IsLegalOwing v id_pool nothing_owed n m) (sym (add_zero sum)) legal

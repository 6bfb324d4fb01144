-- Flags that a line gets: what is known of their numbers.
use Rattle.op_flags.proofs.Prelude.{◌≡◌, ◌≢◌, refl, ℕ, zero, suc, ◌%◌, ◌^◌, ◌<◌, ◌≤◌, false, nat_eq, bit_and, bit_or}
use Rattle.op_flags.proofs.Prelude.{bit_xor, arith, Asset, AreLineFlags, is_native, line_asset_of, has_any}
use Rattle.std.proofs.lemmas.Nat.{or_lt, xor_lt, and_le_l}
use Rattle.ledger_types.specs.declared.asset.Asset.TheVariants as asset

-- ---- numbers up to 7

by_cases : (P : ℕ → Type 0) → P 0 → P 1 → P 2 → P 3 → P 4 → P 5 → P 6 → P 7 → (n : ℕ) → n ≤ 7 → P n
by_cases P a b c d e f g h zero le = a
by_cases P a b c d e f g h (suc zero) le = b
by_cases P a b c d e f g h (suc (suc zero)) le = c
by_cases P a b c d e f g h (suc (suc (suc zero))) le = d
by_cases P a b c d e f g h (suc (suc (suc (suc zero)))) le = e
by_cases P a b c d e f g h (suc (suc (suc (suc (suc zero))))) le = f
by_cases P a b c d e f g h (suc (suc (suc (suc (suc (suc zero)))))) le = g
by_cases P a b c d e f g h (suc (suc (suc (suc (suc (suc (suc zero))))))) le = h
by_cases P a b c d e f g h (suc (suc (suc (suc (suc (suc (suc (suc n)))))))) le = absurd (omega arith)

-- the two flags that authorise are those of the remainder by 4
abbrev pub IsMasked : ℕ → Type 0
IsMasked n = (has_any n 3 ≡ false → n % 4 ≡ 0) × (n % 4 ≡ 0 → has_any n 3 ≡ false)
    × (nat_eq (bit_and n 3) 3 ≡ false → n % 4 ≢ 3)

pub masked : (n : ℕ) → n ≤ 7 → IsMasked n
masked = by_cases IsMasked (λ h. refl, λ h. refl, λ h is. absurd (cc))
    (λ h. absurd (cc), λ h. absurd (cc), λ h is. absurd (cc)) (λ h. absurd (cc), λ h. absurd (cc), λ h is. absurd (cc))
    (λ h. absurd (cc), λ h. absurd (cc), λ h is. absurd (cc)) (λ h. refl, λ h. refl, λ h is. absurd (cc))
    (λ h. absurd (cc), λ h. absurd (cc), λ h is. absurd (cc)) (λ h. absurd (cc), λ h. absurd (cc), λ h is. absurd (cc))
    (λ h. absurd (cc), λ h. absurd (cc), λ h is. absurd (cc))

pub changed_below : (f m a : ℕ) → f ≤ 7 → a ≤ 7 → bit_or (bit_xor f (bit_and f m)) a ≤ 7
changed_below f m a le also =
    let less = and_le_l f m in
    let cleared : bit_xor f (bit_and f m) < 2 ^ 3 = xor_lt 3 f (bit_and f m) (omega arith) (omega arith) in
    let all : bit_or (bit_xor f (bit_and f m)) a < 2 ^ 3 = or_lt 3 (bit_xor f (bit_and f m)) a cleared (omega arith) in
    omega arith

-- with one authorisation in place of those that were set
abbrev pub AuthorizesOnce : ℕ → Type 0
AuthorizesOnce f = (a : ℕ) → a ≤ 2 → bit_or (bit_xor f (bit_and f 3)) a % 4 ≢ 3

once_of : (f : ℕ) → bit_or (bit_xor f (bit_and f 3)) 0 % 4 ≢ 3 → bit_or (bit_xor f (bit_and f 3)) 1 % 4 ≢ 3
    → bit_or (bit_xor f (bit_and f 3)) 2 % 4 ≢ 3 → AuthorizesOnce f
once_of f none entire half zero le = none
once_of f none entire half (suc zero) le = entire
once_of f none entire half (suc (suc zero)) le = half
once_of f none entire half (suc (suc (suc n))) le = absurd (omega arith)

pub authorizes_once : (f : ℕ) → f ≤ 7 → AuthorizesOnce f
authorizes_once = by_cases AuthorizesOnce
    (once_of 0 (λ is. absurd (cc)) (λ is. absurd (cc)) (λ is. absurd (cc)))
    (once_of 1 (λ is. absurd (cc)) (λ is. absurd (cc)) (λ is. absurd (cc)))
    (once_of 2 (λ is. absurd (cc)) (λ is. absurd (cc)) (λ is. absurd (cc)))
    (once_of 3 (λ is. absurd (cc)) (λ is. absurd (cc)) (λ is. absurd (cc)))
    (once_of 4 (λ is. absurd (cc)) (λ is. absurd (cc)) (λ is. absurd (cc)))
    (once_of 5 (λ is. absurd (cc)) (λ is. absurd (cc)) (λ is. absurd (cc)))
    (once_of 6 (λ is. absurd (cc)) (λ is. absurd (cc)) (λ is. absurd (cc)))
    (once_of 7 (λ is. absurd (cc)) (λ is. absurd (cc)) (λ is. absurd (cc)))

-- ---- flags of lines in issued assets

pub flags_in : (held : Asset) → is_native held ≡ false → (f : ℕ) → AreLineFlags (line_asset_of held) f
    → (f ≤ 7) × (f % 4 ≢ 3)
flags_in asset.Native issued f are = absurd (cc)
flags_in (asset.Alphanum4 code issuer) issued f are = are
flags_in (asset.Alphanum12 code issuer) issued f are = are

pub are_flags : (held : Asset) → is_native held ≡ false → (f : ℕ) → (f ≤ 7) × (f % 4 ≢ 3)
    → AreLineFlags (line_asset_of held) f
are_flags asset.Native issued f both = absurd (cc)
are_flags (asset.Alphanum4 code issuer) issued f both = both
are_flags (asset.Alphanum12 code issuer) issued f both = both

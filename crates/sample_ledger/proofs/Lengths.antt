-- How long keys, hints and secrets are.
use Rattle.sample_ledger.proofs.Prelude.{◌≡◌, ℕ, ◌<◌, ◌≤◌, ◌^◌, List, [], ◌∷◌, ◌++◌, length, take, drop, arith}
use Rattle.sample_ledger.proofs.Prelude.{length-append, length-drop, codes, decimal, length-take-le, length-decimal-le}
use Rattle.sample_ledger.proofs.Prelude.{sha256, length-sha256, sample_text, key_bytes, secret}

pub key_len : (seed account : ℕ) → length (key_bytes seed account) ≡ 32
key_len seed account =
    let digest = sha256 (sample_text (codes "account") (seed ∷ account ∷ [])) in
    let long : length digest ≡ 32 = length-sha256 _ in
    omega (arith, length-append (take 31 digest) (account ∷ []), length-take-le 31 digest (omega arith))

pub hint_len : (text : List ℕ) → length (drop 28 (sha256 text)) ≡ 4
hint_len text = omega (arith, length-drop 28 (sha256 text), length-sha256 text)

pub secret_len : (seed account : ℕ) → seed < 2 ^ 32 → account < 9 → length (secret seed account) ≤ 64
secret_len seed account fits below =
    let seed_len : length (decimal seed) ≤ 10 = length-decimal-le 10 seed (omega arith) (omega arith) (omega arith) in
    let account_len : length (decimal account) ≤ 10 =
    length-decimal-le 10 account (omega arith) (omega arith) (omega arith) in
    let after : length (decimal account ++ []) ≤ 10 = omega (arith, length-append (decimal account) []) in
    omega (arith, length-append (decimal seed) (32 ∷ (decimal account ++ [])))

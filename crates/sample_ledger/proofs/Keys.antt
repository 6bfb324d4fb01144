-- A digest whose last byte is replaced.
use Rattle.sample_ledger.proofs.Prelude.{◌≡◌, ℕ, ◌<◌, List, [], ◌∷◌, ◌++◌, length, take, set, sym, ◌∙◌, arith}
use Rattle.sample_ledger.proofs.Prelude.{length-set, take_all, take_more_set, sha256, length-sha256}

pub last_replaced : (message : List ℕ) (byte : ℕ)
    → set (sha256 message) 31 byte ≡ take 31 (sha256 message) ++ byte ∷ []
last_replaced message byte =
    let long : length (sha256 message) ≡ 32 = length-sha256 message in
    let there : 31 < length (sha256 message) = omega arith in
    sym (take_all 32 (set (sha256 message) 31 byte) (omega (arith, length-set (sha256 message) 31 byte)))
    ∙ take_more_set (sha256 message) 31 byte there

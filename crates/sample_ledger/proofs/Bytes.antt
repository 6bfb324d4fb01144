-- Keys, hashes and secrets are bytes.
use Rattle.sample_ledger.proofs.Prelude as prelude
use prelude.{ℕ, zero, suc, ◌<◌, ◌^◌, List, [], ◌∷◌, ◌++◌, take, drop, All, arith, All-nil, All-cons, All-append}
use prelude.{All-head, All-tail, All-take, All-drop, All-from_recursion, All-from_get_or, IsAscii-decimal, codes}
use prelude.{slice_index, AllByRecursion, flat_map, decimal, w32, byte_at, bytes_high_first, to_be_bytes, sha256}
use prelude.{digest_bytes, final_hash, initial_hash_256, IsBytes, u32, sample_text, key_bytes, secret, account_count}

abbrev IsByte : ℕ → Type 0
IsByte byte = byte < 256

bytes_of_all : (bytes : List ℕ) → All IsByte bytes → IsBytes bytes
bytes_of_all [] all i = omega arith
bytes_of_all (byte ∷ bytes) all zero = All-head IsByte byte bytes all
bytes_of_all (byte ∷ bytes) all (suc i) = bytes_of_all bytes (All-tail IsByte byte bytes all) i

-- those of a list that is written out
pub bytes_listed : (bytes : List ℕ) → AllByRecursion IsByte bytes → IsBytes bytes
bytes_listed bytes each = bytes_of_all bytes (All-from_recursion IsByte bytes each)

-- ---- words and hashes

byte_below : (n x : ℕ) → byte_at n x < 256
byte_below zero x = omega arith
byte_below (suc n) x = omega arith

word_bytes : (n x : ℕ) → All IsByte (bytes_high_first n x)
word_bytes zero x = All-nil IsByte
word_bytes (suc n) x = All-cons IsByte (byte_at n x) (bytes_high_first n x) (byte_below n x) (word_bytes n x)

pub word_fits : (n : ℕ) → IsBytes (u32.encoding n)
unfolding u32
word_fits n = bytes_of_all (bytes_high_first 4 n) (word_bytes 4 n)

digest_all : (words : List ℕ) (n : ℕ) → All IsByte (digest_bytes words n)
unfolding digest_bytes
digest_all words zero = All-nil IsByte
digest_all words (suc n) =
    All-append IsByte (digest_bytes words n) (to_be_bytes w32 (slice_index words n)) (digest_all words n)
    (word_bytes 4 (slice_index words n))

hash_all : (text : List ℕ) → All IsByte (sha256 text)
unfolding sha256
hash_all text = digest_all (final_hash initial_hash_256 text) 8

pub hash_fits : (text : List ℕ) → IsBytes (sha256 text)
hash_fits text = bytes_of_all (sha256 text) (hash_all text)

pub hint_fits : (text : List ℕ) → IsBytes (drop 28 (sha256 text))
hint_fits text = bytes_of_all (drop 28 (sha256 text)) (All-drop IsByte 28 (sha256 text) (hash_all text))

-- ---- keys and secrets

pub key_fits : (seed account : ℕ) → account < account_count → IsBytes (key_bytes seed account)
key_fits seed account below =
    let digest = sha256 (sample_text (codes "account") (seed ∷ account ∷ [])) in
    bytes_of_all _ (All-append IsByte (take 31 digest) (account ∷ []) (All-take IsByte 31 digest (hash_all _))
    (All-cons IsByte account [] (omega arith) (All-nil IsByte)))

decimal_all : (n : ℕ) → n < 2 ^ 64 → All IsByte (decimal n)
decimal_all n fits = All-from_get_or IsByte (decimal n) 0 (λ i within. omega (arith, IsAscii-decimal n fits i))

-- a number with a space before it, and bytes after it
number_all : (n : ℕ) (rest : List ℕ) → n < 2 ^ 64 → All IsByte rest → All IsByte (32 ∷ (decimal n ++ rest))
number_all n rest fits all =
    All-cons IsByte 32 (decimal n ++ rest) (omega arith)
    (All-append IsByte (decimal n) rest (decimal_all n fits) all)

pub secret_fits : (seed account : ℕ) → seed < 2 ^ 32 → account < account_count → IsBytes (secret seed account)
secret_fits seed account fits below =
    let prefix = codes "sample " ++ codes "secret" in
    let numbers = flat_map (λ (number : ℕ). 32 ∷ decimal number) (seed ∷ account ∷ []) in
    bytes_of_all (prefix ++ numbers) (All-append IsByte prefix numbers
    (All-from_recursion IsByte prefix (omega arith))
    (number_all seed _ (omega arith) (number_all account [] (omega arith) (All-nil IsByte))))

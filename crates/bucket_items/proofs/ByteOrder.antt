-- Where the order of big-endian numbers is that of their bytes, and that of texts goes part by part.
use Rattle.bucket_items.proofs.Prelude.{◌≡◌, ℕ, zero, suc, ◌+◌, ◌*◌, ◌/◌, ◌%◌, ◌^◌, ◌<◌, ◌≤◌, List, [], ◌∷◌, ◌++◌}
use Rattle.bucket_items.proofs.Prelude.{length, refl, sym, ap, ◌∙◌, arith, Ordering, nat_cmp, ordering_then}
use Rattle.bucket_items.proofs.Prelude.{MatchOrdering, byte_at, bytes_high_first, bytes_cmp}
use Rattle.byteorder.specs.Endian.{big_bytes}
use Rattle.std.proofs.Math.Nat.{add-mul, add_assoc, div-add-mod', mod-eq_of_lt, mod-lt, mul-add-mod_self_right}
use Rattle.std.proofs.Math.Nat.{mul-le-mul_right, mul_assoc, one-le-pow, pow-succ', div-one}
use Rattle.std.specs.declared.cmp.Ordering.TheVariants.{Less, Equal, Greater}
use Rattle.std.specs.Cmp.{nat_cmp_is, ranks}

-- ---- orderings

pub then_assoc : (a b c : Ordering)
    → ordering_then (ordering_then a b) c ≡ ordering_then a (ordering_then b c)
then_assoc Less b c = refl
then_assoc Equal b c = refl
then_assoc Greater b c = refl

nat_same : (x : ℕ) → nat_cmp x x ≡ Equal
nat_same x = sym (nat_cmp_is x x Equal refl)

-- ---- texts

pub bytes_same : (x : List ℕ) → bytes_cmp x x ≡ Equal
bytes_same [] = refl
bytes_same (a ∷ x) = ap (λ (o : Ordering). ordering_then o (bytes_cmp x x)) (nat_same a) ∙ bytes_same x

-- texts that begin with pieces of one length
pub same_long : (v w x y : List ℕ) → length v ≡ length w
    → bytes_cmp (v ++ x) (w ++ y) ≡ ordering_then (bytes_cmp v w) (bytes_cmp x y)
same_long [] [] x y e = refl
same_long [] (b ∷ w) x y e = absurd (omega arith)
same_long (a ∷ v) [] x y e = absurd (omega arith)
same_long (a ∷ v) (b ∷ w) x y e =
    let others = same_long v w x y (omega arith) in
    ap (ordering_then (nat_cmp a b)) others ∙ sym (then_assoc (nat_cmp a b) (bytes_cmp v w) (bytes_cmp x y))

-- texts that begin alike
pub same_prefix : (v x y : List ℕ) → bytes_cmp (v ++ x) (v ++ y) ≡ bytes_cmp x y
same_prefix v x y =
    same_long v v x y refl ∙ ap (λ (o : Ordering). ordering_then o (bytes_cmp x y)) (bytes_same v)

-- ---- numbers

digits_rank : (a b r s c : ℕ) (o p : Ordering) → r < c → s < c → MatchOrdering o (a < b) (a ≡ b) (b < a)
    → MatchOrdering p (r < s) (r ≡ s) (s < r)
    → MatchOrdering (ordering_then o p) (a * c + r < b * c + s) (a * c + r ≡ b * c + s) (b * c + s < a * c + r)
digits_rank a b r s c Less p hr hs h g =
    let m : suc a * c ≤ b * c = mul-le-mul_right c h in omega (arith, add-mul a 1 c)
digits_rank a b r s c Greater p hr hs h g =
    let m : suc b * c ≤ a * c = mul-le-mul_right c h in omega (arith, add-mul b 1 c)
digits_rank a b r s c Equal Less hr hs h g = let m : a * c ≡ b * c = ap (λ (x : ℕ). x * c) h in omega arith
digits_rank a b r s c Equal Equal hr hs h g = let m : a * c ≡ b * c = ap (λ (x : ℕ). x * c) h in omega arith
digits_rank a b r s c Equal Greater hr hs h g = let m : a * c ≡ b * c = ap (λ (x : ℕ). x * c) h in omega arith

digits_cmp : (a b r s c : ℕ) → r < c → s < c
    → ordering_then (nat_cmp a b) (nat_cmp r s) ≡ nat_cmp (a * c + r) (b * c + s)
digits_cmp a b r s c hr hs =
    nat_cmp_is (a * c + r) (b * c + s) (ordering_then (nat_cmp a b) (nat_cmp r s))
    (digits_rank a b r s c (nat_cmp a b) (nat_cmp r s) hr hs (ranks a b) (ranks r s))

-- the highest digit of n to the base c, below 256 * c
top_digit : (n c : ℕ) → 0 < c → n % (256 * c) ≡ (n / c % 256) * c + n % c
top_digit n c hc =
    let nonzero : 0 < 256 = omega arith in
    let a = mod-lt (n / c) nonzero in
    let b = mod-lt n hc in
    let top : (n / c % 256 + 1) * c ≤ 256 * c = mul-le-mul_right c (omega arith) in
    let expand : (n / c % 256 + 1) * c ≡ n / c % 256 * c + 1 * c = add-mul (n / c % 256) 1 c in
    let split : n ≡ n / c / 256 * (256 * c) + (n / c % 256 * c + n % c) =
    sym (div-add-mod' n c)
    ∙ ap (λ (x : ℕ). x * c + n % c) (sym (div-add-mod' (n / c) 256))
    ∙ ap (λ (x : ℕ). x + n % c)
    (add-mul (n / c / 256 * 256) (n / c % 256) c
    ∙ ap (λ (x : ℕ). x + n / c % 256 * c) (mul_assoc (n / c / 256) 256 c))
    ∙ add_assoc (n / c / 256 * (256 * c)) (n / c % 256 * c) (n % c) in
    ap (λ (x : ℕ). x % (256 * c)) split
    ∙ mul-add-mod_self_right (n / c / 256) (256 * c) (n / c % 256 * c + n % c)
    ∙ mod-eq_of_lt (omega arith)

byte_is : (k x : ℕ) → byte_at k x ≡ x / 256 ^ k % 256
byte_is zero x = ap (λ (y : ℕ). y % 256) (sym (div-one x))
byte_is (suc k) x = refl

power_above : (n : ℕ) → 0 < 256 ^ n
power_above n = let h = one-le-pow n 256 (omega arith) in omega arith

-- a number below 256 ^ (n + 1) by its first byte and the rest
first_byte : (n v : ℕ) → (v / 256 ^ n % 256) * 256 ^ n + v % 256 ^ n ≡ v % 256 ^ suc n
first_byte n v = sym (ap (λ (m : ℕ). v % m) (pow-succ' 256 n) ∙ top_digit v (256 ^ n) (power_above n))

low_bytes_cmp : (n v w : ℕ)
    → bytes_cmp (bytes_high_first n v) (bytes_high_first n w) ≡ nat_cmp (v % 256 ^ n) (w % 256 ^ n)
low_bytes_cmp zero v w =
    let e : v % 256 ^ 0 ≡ w % 256 ^ 0 = omega arith in
    nat_cmp_is (v % 256 ^ 0) (w % 256 ^ 0) Equal e
low_bytes_cmp (suc n) v w =
    (λ i. ordering_then (nat_cmp (byte_is n v i) (byte_is n w i)) (low_bytes_cmp n v w i))
    ∙ digits_cmp (v / 256 ^ n % 256) (w / 256 ^ n % 256) (v % 256 ^ n) (w % 256 ^ n) (256 ^ n)
    (mod-lt v (power_above n)) (mod-lt w (power_above n))
    ∙ (λ i. nat_cmp (first_byte n v i) (first_byte n w i))

-- the order of big-endian numbers of one length is that of the numbers
pub big_bytes_cmp : (n v w : ℕ) → v < 256 ^ n → w < 256 ^ n
    → bytes_cmp (big_bytes n v) (big_bytes n w) ≡ nat_cmp v w
big_bytes_cmp n v w hv hw = low_bytes_cmp n v w ∙ (λ i. nat_cmp (mod-eq_of_lt hv i) (mod-eq_of_lt hw i))

-- Keys whose encodings are in their order.
use Rattle.bucket_items.proofs.Prelude.{◌≡◌, ℕ, pos, List, [], ◌∷◌, ◌++◌, slice_index, refl, sym, ap, ◌∙◌, append-nil}
use Rattle.bucket_items.proofs.Prelude.{length, take, drop, drop_at, nat_cmp, Ordering, ordering_then, i32, ◌⨾◌}
use Rattle.bucket_items.proofs.Prelude.{AccountId, TrustLineAsset, LedgerKey, BeginsWithKey, i64, number, fixed, tag}
use Rattle.bucket_items.proofs.Prelude.{account_id_fields, padding_len, replicate, negsuc, subst, arith, append_assoc}
use Rattle.bucket_items.proofs.Prelude.{length-append, MatchOrdering, ◌<◌, ◌≤◌, ◌^◌}
use Rattle.std.specs.declared.cmp.Ordering.TheVariants.{Less, Equal, Greater}
use Rattle.bucket_items.proofs.Prelude.{bytes_cmp, account_cmp, hash_cmp, line_cmp, key_cmp, key_kind, account_id, hash}
use Rattle.bucket_items.proofs.Prelude.{claimable_balance_id, trust_line_asset, ledger_key, IsKeyText, AreByBytes}
use Rattle.ledger_types.specs.declared.key.LedgerKey.TheVariants as key
use Rattle.bucket_items.proofs.OrderLaws.{both_ordered, account_ordered, hash_ordered, balance_ordered, line_ordered}
use Rattle.bucket_items.proofs.OrderLaws.{same_arm, number_ordered}
use Rattle.std.specs.Prelude.{FitsSigned, ◌<ℤ◌}
use Rattle.std.specs.Ordering.{int_cmp}
use Rattle.std.specs.Cmp.{int_cmp_is, ranks}
use Rattle.xdr_core.specs.Combinators.{constant}
use Rattle.std.specs.Int.{w64}
use Rattle.std.proofs.lemmas.Int.{ints}
use Rattle.xdr_core.proofs.Numbers.{wide8}
use Rattle.bucket_items.proofs.ByteOrder.{bytes_same}
use Rattle.ledger_types.proofs.Booleans.{then_Equal}
use Rattle.ledger_types.proofs.KeyOrdering.{keys_exact}

-- how two lines' keys compare
abbrev line_key_cmp : AccountId × TrustLineAsset → AccountId × TrustLineAsset → Ordering
line_key_cmp v w = ordering_then (account_cmp v.0 w.0) (line_cmp v.1 w.1)

-- how two offers' keys compare whose ids aren't negative
abbrev id_key_cmp : AccountId × ℕ → AccountId × ℕ → Ordering
id_key_cmp v w = ordering_then (account_cmp v.0 w.0) (nat_cmp v.1 w.1)

as_ints : (n m : ℕ) (o : Ordering) → MatchOrdering o (n < m) (n ≡ m) (m < n)
    → MatchOrdering o (pos n <ℤ pos m) (pos n ≡ pos m) (pos m <ℤ pos n)
as_ints n m Less h = omega (arith, ints)
as_ints n m Equal h = ap pos h
as_ints n m Greater h = omega (arith, ints)

ids_compared : (n m : ℕ) → nat_cmp n m ≡ int_cmp (pos n) (pos m)
ids_compared n m = int_cmp_is (pos n) (pos m) (nat_cmp n m) (as_ints n m (nat_cmp n m) (ranks n m))

small : (n : ℕ) → FitsSigned w64 (pos n) → n < 256 ^ 8
small n fits = omega (arith, ints)

key_decides : (v w : LedgerKey) (x y : List ℕ) → AreByBytes v w → ledger_key.within v → ledger_key.within w
    → ledger_key.sized v → ledger_key.sized w
    → bytes_cmp (ledger_key.encoding v ++ x) (ledger_key.encoding w ++ y) ≡ ordering_then (key_cmp v w) (bytes_cmp x y)
unfolding ledger_key i32 i64
key_decides (key.Account a) (key.Account b) x y d wv ww sv sw =
    same_arm (pos 0) account_id account_cmp account_ordered a b x y wv ww sv sw
key_decides (key.TrustLine a l) (key.TrustLine b m) x y d wv ww sv sw =
    same_arm (pos 1) (account_id ⨾ trust_line_asset) line_key_cmp (both_ordered account_ordered line_ordered)
    (a, l) (b, m) x y wv ww sv sw
key_decides (key.Offer a (pos n)) (key.Offer b (pos m)) x y d wv ww sv sw =
    same_arm (pos 2) (account_id ⨾ number 8) id_key_cmp (both_ordered account_ordered (number_ordered 8 wide8)) (a, n)
    (b, m) x y (wv.0, tt) (ww.0, tt) (sv.0, small n sv.1) (sw.0, small m sw.1)
    ∙ ap (λ (o : Ordering). ordering_then (ordering_then (account_cmp a b) o) (bytes_cmp x y)) (ids_compared n m)
key_decides (key.Offer a n) (key.Offer b m) x y d wv ww sv sw = absurd d
key_decides (key.Data a n) (key.Data b m) x y d wv ww sv sw = absurd d
key_decides (key.ClaimableBalance a) (key.ClaimableBalance b) x y d wv ww sv sw =
    same_arm (pos 4) claimable_balance_id (λ v w. hash_cmp v.0 w.0) balance_ordered a b x y wv ww sv sw
key_decides (key.LiquidityPool a) (key.LiquidityPool b) x y d wv ww sv sw =
    same_arm (pos 5) hash hash_cmp hash_ordered a b x y wv ww sv sw
key_decides v w x y d wv ww sv sw = refl

pub bytes_are_ordered : (a b : List ℕ) (k m : LedgerKey) → AreByBytes k m → IsKeyText a k → IsKeyText b m
    → bytes_cmp a b ≡ key_cmp k m
bytes_are_ordered a b k m d h g =
    let entire_a : a ≡ ledger_key.encoding k ++ [] = h.encoded ∙ sym (append-nil (ledger_key.encoding k)) in
    let entire_b : b ≡ ledger_key.encoding m ++ [] = g.encoded ∙ sym (append-nil (ledger_key.encoding m)) in
    (λ i. bytes_cmp (entire_a i) (entire_b i))
    ∙ key_decides k m [] [] d h.within g.within h.sized g.sized
    ∙ then_Equal (key_cmp k m)

decided : (k m : LedgerKey) (o : Ordering) (x y : List ℕ) → key_cmp k m ≡ o → (k ≡ m → x ≡ y)
    → ordering_then o (bytes_cmp x y) ≡ o
decided k m Less x y e same = refl
decided k m Equal x y e same = ap (bytes_cmp x) (sym (same (keys_exact k m e))) ∙ bytes_same x
decided k m Greater x y e same = refl

-- as much of a text as another has compares to the other as all of it does to both their ends
cut : (a b : List ℕ) → bytes_cmp (take (length b) a) b ≡ bytes_cmp a (b ++ drop (length b) a)
cut a [] = sym (bytes_same a)
cut [] (y ∷ b) = refl
cut (x ∷ a) (y ∷ b) = ap (ordering_then (nat_cmp x y)) (cut a b)

-- the same where the first text goes on after its key
pub prefixes_are_ordered : (a b : List ℕ) (k m : LedgerKey) → AreByBytes k m → BeginsWithKey a k → IsKeyText b m
    → bytes_cmp (take (length b) a) b ≡ key_cmp k m
prefixes_are_ordered a b k m d h g =
    let rest : List ℕ = drop (length b) a in
    cut a b
    ∙ (λ i. bytes_cmp (h.parts i) (g.encoded i ++ rest))
    ∙ key_decides k m h.tail rest d h.within g.within h.sized g.sized
    ∙ decided k m (key_cmp k m) h.tail rest refl (λ same.
    sym ((λ i. drop (length (g.encoded i)) (h.parts i))
    ∙ ap (λ (j : LedgerKey). drop (length (ledger_key.encoding m)) (ledger_key.encoding j ++ h.tail)) same
    ∙ drop_at (ledger_key.encoding m) h.tail (length (ledger_key.encoding m)) refl))

kind_of_encoding : (k : LedgerKey) (tail : List ℕ) → slice_index (ledger_key.encoding k ++ tail) 3 ≡ key_kind k
unfolding ledger_key i32
kind_of_encoding (key.Account a) tail = refl
kind_of_encoding (key.TrustLine a l) tail = refl
kind_of_encoding (key.Offer a n) tail = refl
kind_of_encoding (key.Data a n) tail = refl
kind_of_encoding (key.ClaimableBalance b) tail = refl
kind_of_encoding (key.LiquidityPool p) tail = refl

-- the kind of a key is in the fourth byte
pub kind_is_there : (text : List ℕ) (k : LedgerKey) → BeginsWithKey text k → slice_index text 3 ≡ key_kind k
kind_is_there text k h = ap (λ (t : List ℕ). slice_index t 3) h.parts ∙ kind_of_encoding k h.tail

-- keys that aren't of one kind, or of one that has neither ids nor names
pub by_kinds : (k m : LedgerKey) → ((key_kind k ≡ 2) × (key_kind m ≡ 2) → ⊥)
    → ((key_kind k ≡ 3) × (key_kind m ≡ 3) → ⊥) → AreByBytes k m
by_kinds (key.Offer a n) (key.Offer b m) h g = absurd (h (refl, refl))
by_kinds (key.Data a n) (key.Data b m) h g = g (refl, refl)
by_kinds a b h g = tt

-- ---- ids of offers

abbrev pub HasNoSign : LedgerKey → Type 0
HasNoSign (key.Offer a (negsuc n)) = ⊥
HasNoSign other = Unit {0}

-- keys without a negative id
pub by_ids : (k m : LedgerKey) → HasNoSign k → HasNoSign m → ((key_kind k ≡ 3) × (key_kind m ≡ 3) → ⊥) → AreByBytes k m
by_ids (key.Offer a (pos n)) (key.Offer b (pos m)) p q g = tt
by_ids (key.Offer a (negsuc n)) (key.Offer b m) p q g = absurd p
by_ids (key.Offer a (pos n)) (key.Offer b (negsuc m)) p q g = absurd q
by_ids (key.Data a n) (key.Data b m) p q g = g (refl, refl)
by_ids a b p q g = tt

at_end : (first others : List ℕ) → slice_index (first ++ others) (length first) ≡ slice_index others 0
at_end [] others = refl
at_end (x ∷ first) others = at_end first others

account_len : (a : AccountId) → account_id.within a → length (account_id.encoding a) ≡ 36
unfolding account_id fixed i32 constant
account_len a within =
    let bytes : List ℕ = account_id_fields.from a in
    let zeros : List ℕ = replicate (padding_len (length bytes)) 0 in
    let padded : length zeros ≡ 0 = ap (λ (n : ℕ). length (replicate {A = ℕ} (padding_len n) 0)) within.1 in
    let tagged : length ((tag (pos 0)).encoding tt) ≡ 4 = refl in
    omega (
      arith,
      length-append ((tag (pos 0)).encoding tt) (bytes ++ zeros),
      length-append bytes zeros,
      within.1,
      tagged,
      padded,
    )

-- the first byte of a negative id
sign_byte : (n : ℕ) (rest : List ℕ) → FitsSigned w64 (negsuc n) → 128 ≤ slice_index (i64.encoding (negsuc n) ++ rest) 0
unfolding i64
sign_byte n rest fits = omega (arith, ints)

sign_is_there : (k : LedgerKey) (tail : List ℕ) → ledger_key.within k → ledger_key.sized k
    → slice_index (ledger_key.encoding k ++ tail) 40 < 128 → HasNoSign k
unfolding ledger_key i32 i64
sign_is_there (key.Offer a (negsuc n)) tail within sized low =
    let first : List ℕ = i32.encoding (pos 2) ++ account_id.encoding a in
    let long : length first ≡ 40 = omega (
      arith,
      length-append (i32.encoding (pos 2)) (account_id.encoding a),
      account_len a within.0,
    ) in
    let parts : ledger_key.encoding (key.Offer a (negsuc n)) ++ tail ≡ first ++ (i64.encoding (negsuc n) ++ tail) =
    append_assoc (i32.encoding (pos 2)) (account_id.encoding a ++ i64.encoding (negsuc n)) tail
    ∙ ap (λ (t : List ℕ). i32.encoding (pos 2) ++ t)
    (append_assoc (account_id.encoding a) (i64.encoding (negsuc n)) tail)
    ∙ sym (append_assoc (i32.encoding (pos 2)) (account_id.encoding a) (i64.encoding (negsuc n) ++ tail)) in
    let there : slice_index (ledger_key.encoding (key.Offer a (negsuc n)) ++ tail) 40
    ≡ slice_index (i64.encoding (negsuc n) ++ tail) 0 =
    (λ i. slice_index (parts i) (sym long i)) ∙ at_end first (i64.encoding (negsuc n) ++ tail) in
    let high = sign_byte n tail sized.1 in
    omega (arith, there, high)
sign_is_there (key.Offer a (pos n)) tail within sized low = tt
sign_is_there (key.Account a) tail within sized low = tt
sign_is_there (key.TrustLine a l) tail within sized low = tt
sign_is_there (key.Data a n) tail within sized low = tt
sign_is_there (key.ClaimableBalance b) tail within sized low = tt
sign_is_there (key.LiquidityPool p) tail within sized low = tt

-- an id isn't negative whose first byte is below 128
pub no_sign : (text : List ℕ) (k : LedgerKey) → BeginsWithKey text k → slice_index text 40 < 128 → HasNoSign k
no_sign text k h low = sign_is_there k h.tail h.within h.sized
    (subst (λ (t : List ℕ). slice_index t 40 < 128) h.parts low)

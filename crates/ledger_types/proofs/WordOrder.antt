-- Bytes compare as the numbers that they encode do, and 32 bytes as their four words do.
use Rattle.std.proofs.Common.{◌≡◌, refl, sym, ap, subst, ◌∙◌, arith, nat_cmp}
use Rattle.std.proofs.Common.{ℕ, zero, suc, ◌+◌, ◌*◌, ◌≤◌, ◌<◌, List, [], ◌∷◌, length, get_or, take, drop}
use Rattle.std.proofs.Common.{length-drop, drop-drop, drop_of_length-le, get_or-drop, length-take-le}
use Rattle.std.specs.declared.cmp.Ordering.{Ordering}
use Rattle.std.specs.declared.cmp.Ordering.TheVariants.{Less, Equal, Greater}
use Rattle.std.specs.Ordering.{ordering_then, MatchOrdering}
use Rattle.std.specs.Cmp.{ranks, nat_cmp_is}
use Rattle.std.specs.Simd.Lanes.{chunk}
use Rattle.std.specs.Slice.Scan.{big_endian}
use Rattle.ledger_types.specs.Bytes.{bytes_cmp}
use Rattle.ledger_types.proofs.Booleans.{then_Equal, then_of_Equal}

abbrev Bytes : List ℕ → Type 0
Bytes xs = (k : ℕ) → get_or xs k 0 < 256

-- ---- bytes as numbers

rises : (xs ys : List ℕ) (a b : ℕ) → length xs ≡ length ys → Bytes xs → a < b → big_endian a xs < big_endian b ys
rises [] [] a b e small l = l
rises [] (y ∷ ys) a b e small l = absurd (omega arith)
rises (x ∷ xs) [] a b e small l = absurd (omega arith)
rises (x ∷ xs) (y ∷ ys) a b e small l =
    let first : x < 256 = small 0 in
    rises xs ys (a * 256 + x) (b * 256 + y) (omega arith) (λ k. small (suc k)) (omega arith)

spelt : (xs ys : List ℕ) (a : ℕ) → length xs ≡ length ys → Bytes xs → Bytes ys
    → nat_cmp (big_endian a xs) (big_endian a ys) ≡ bytes_cmp xs ys
spelt [] [] a e f g = sym (nat_cmp_is a a Equal refl)
spelt [] (y ∷ ys) a e f g = absurd (omega arith)
spelt (x ∷ xs) [] a e f g = absurd (omega arith)
spelt (x ∷ xs) (y ∷ ys) a e f g =
    by (spelt xs ys (a * 256 + x) (omega arith) (λ k. f (suc k)) (λ k. g (suc k))) (nat_cmp x y) refl (ranks x y)
  where
    by : nat_cmp (big_endian (a * 256 + x) xs) (big_endian (a * 256 + x) ys) ≡ bytes_cmp xs ys
        → (r : Ordering) → nat_cmp x y ≡ r → MatchOrdering r (x < y) (x ≡ y) (y < x)
        → nat_cmp (big_endian (a * 256 + x) xs) (big_endian (a * 256 + y) ys)
        ≡ ordering_then (nat_cmp x y) (bytes_cmp xs ys)
    by rest Less is l = rw is
        (sym (nat_cmp_is _ _ Less
        (rises xs ys (a * 256 + x) (a * 256 + y) (omega arith) (λ k. f (suc k)) (omega arith))))
    by rest Greater is l = rw is
        (sym (nat_cmp_is _ _ Greater
        (rises ys xs (a * 256 + y) (a * 256 + x) (omega arith) (λ k. g (suc k)) (omega arith))))
    by rest Equal is l = rw is
        (subst (λ z. nat_cmp (big_endian (a * 256 + x) xs) (big_endian (a * 256 + z) ys) ≡ bytes_cmp xs ys) l rest)

bytes_taken : (n : ℕ) (xs : List ℕ) → Bytes xs → Bytes (take n xs)
bytes_taken zero xs small k = omega arith
bytes_taken (suc n) [] small k = omega arith
bytes_taken (suc n) (x ∷ xs) small zero = small 0
bytes_taken (suc n) (x ∷ xs) small (suc k) = bytes_taken n xs (λ j. small (suc j)) k

bytes_of_chunk : (i n : ℕ) (xs : List ℕ) → Bytes xs → Bytes (chunk i n xs)
bytes_of_chunk i n xs small = bytes_taken n (drop i xs) (λ k. rw (get_or-drop i xs k 0) (small (i + k)))

length_of_chunk : (i n : ℕ) (xs : List ℕ) → i + n ≤ length xs → length (chunk i n xs) ≡ n
length_of_chunk i n xs h = length-take-le n (drop i xs) (omega (arith, length-drop i xs))

pub word_spelt : (xs ys : List ℕ) (i n : ℕ) → i + n ≤ length xs → i + n ≤ length ys → Bytes xs → Bytes ys
    → nat_cmp (big_endian 0 (chunk i n xs)) (big_endian 0 (chunk i n ys)) ≡ bytes_cmp (chunk i n xs) (chunk i n ys)
word_spelt xs ys i n p q f g =
    spelt (chunk i n xs) (chunk i n ys) 0 (length_of_chunk i n xs p ∙ sym (length_of_chunk i n ys q))
    (bytes_of_chunk i n xs f) (bytes_of_chunk i n ys g)

-- ---- lists by their parts

split : (n : ℕ) (xs ys : List ℕ) → n ≤ length xs → n ≤ length ys
    → bytes_cmp xs ys ≡ ordering_then (bytes_cmp (take n xs) (take n ys)) (bytes_cmp (drop n xs) (drop n ys))
split zero xs ys p q = refl
split (suc n) [] ys p q = absurd (omega arith)
split (suc n) (x ∷ xs) [] p q = absurd (omega arith)
split (suc n) (x ∷ xs) (y ∷ ys) p q = by (split n xs ys (omega arith) (omega arith)) (nat_cmp x y)
  where
    by : bytes_cmp xs ys ≡ ordering_then (bytes_cmp (take n xs) (take n ys)) (bytes_cmp (drop n xs) (drop n ys))
        → (r : Ordering) → ordering_then r (bytes_cmp xs ys)
        ≡ ordering_then (ordering_then r (bytes_cmp (take n xs) (take n ys))) (bytes_cmp (drop n xs) (drop n ys))
    by rest Less = refl
    by rest Equal = rest
    by rest Greater = refl

-- ---- a word that decides, and one that is tied

decides : (r s : Ordering) → (r ≡ Equal → ⊥) → ordering_then r s ≡ r
decides Less s other = refl
decides Equal s other = absurd (other refl)
decides Greater s other = refl

-- ---- 32 bytes

module _ (xs ys : List ℕ) where
  abbrev pub word_cmp : ℕ → Ordering
  word_cmp i = bytes_cmp (chunk i 8 xs) (chunk i 8 ys)

  from : (i : ℕ) → i + 8 ≤ length xs → i + 8 ≤ length ys
      → bytes_cmp (drop i xs) (drop i ys) ≡ ordering_then (word_cmp i) (bytes_cmp (drop (i + 8) xs) (drop (i + 8) ys))
  from i p q =
      split 8 (drop i xs) (drop i ys) (omega (arith, length-drop i xs)) (omega (arith, length-drop i ys))
      ∙ (λ k. ordering_then (word_cmp i) (bytes_cmp (drop-drop 8 i xs k) (drop-drop 8 i ys k)))

  last : length xs ≡ 32 → length ys ≡ 32 → bytes_cmp (drop 24 xs) (drop 24 ys) ≡ word_cmp 24
  last p q =
      from 24 (omega arith) (omega arith)
      ∙ (λ k. ordering_then (word_cmp 24)
      (bytes_cmp (drop_of_length-le xs {i = 32} (omega arith) k) (drop_of_length-le ys {i = 32} (omega arith) k)))
      ∙ then_Equal (word_cmp 24)

  pub four_words : length xs ≡ 32 → length ys ≡ 32
      → bytes_cmp xs ys
      ≡ ordering_then (word_cmp 0) (ordering_then (word_cmp 8) (ordering_then (word_cmp 16) (word_cmp 24)))
  four_words p q =
      from 0 (omega arith) (omega arith) ∙ ap (ordering_then (word_cmp 0))
      (from 8 (omega arith) (omega arith) ∙ ap (ordering_then (word_cmp 8))
      (from 16 (omega arith) (omega arith) ∙ ap (ordering_then (word_cmp 16)) (last p q)))

  -- ---- the word that decides

  module _ (p : length xs ≡ 32) (q : length ys ≡ 32) where
    abbrev pub Tied : ℕ → Type 0
    Tied i = word_cmp i ≡ Equal

    pub by_second : Tied 0 → (Tied 8 → ⊥) → bytes_cmp xs ys ≡ word_cmp 8
    by_second e other = four_words p q ∙ then_of_Equal _ _ e ∙ decides _ _ other

    pub by_third : Tied 0 → Tied 8 → (Tied 16 → ⊥) → bytes_cmp xs ys ≡ word_cmp 16
    by_third e h other = four_words p q ∙ then_of_Equal _ _ e ∙ then_of_Equal _ _ h ∙ decides _ _ other

    pub by_last : Tied 0 → Tied 8 → Tied 16 → bytes_cmp xs ys ≡ word_cmp 24
    by_last e h k = four_words p q ∙ then_of_Equal _ _ e ∙ then_of_Equal _ _ h ∙ then_of_Equal _ _ k

-- Values that have an encoding of at most so many bytes, by those that they are made of.
use Rattle.close_laws.proofs.Prelude as prelude
use prelude.{◌≡◌, ℕ, suc, ◌+◌, ◌*◌, ◌<◌, ◌≤◌, refl, subst, List, [], ◌∷◌, ◌++◌, length, replicate, All, Option, Some}
use prelude.{None, Bool, arith, length-append, mul-le-mul_right, length-replicate, All-head, All-tail, FitsSigned, w32}
use prelude.{w64, cast_unsigned, flat_map, AllByRecursion, length-bytes_high_first, u32, u64, i32, i64, flag, flag_code}
use prelude.{count, fixed, var, padded, padding_len, ◌⨾◌, Fields, struct_of, entire, closed, marked, constant, option}
use prelude.{list, extension, times, Xdr, tag, optional, list_of, extension_of, IsEncoded}
use Rattle.std.proofs.Common.{ℤ, pos}
use Rattle.byteorder.specs.Endian.{big_bytes}

pub record IsShort {V : Type 0} (f : Xdr V) (most : ℕ) (v : V) : Type 0 where
  pub within : f.within v
  pub sized : f.sized v
  pub short : length (f.encoding v) ≤ most

-- ---- leaves

bytes_len : (n v : ℕ) → length (big_bytes n v) ≤ n
bytes_len n v = omega (arith, length-bytes_high_first n v)

pub short_u32 : (n : ℕ) → n < 4294967296 → IsShort u32 4 n
unfolding u32
short_u32 n lt = record { within = tt; sized = omega arith; short = bytes_len 4 n }

pub short_u64 : (n : ℕ) → n < 18446744073709551616 → IsShort u64 8 n
unfolding u64
short_u64 n lt = record { within = tt; sized = omega arith; short = bytes_len 8 n }

pub short_i64 : (n : ℤ) → FitsSigned w64 n → IsShort i64 8 n
unfolding i64
short_i64 n fits = record { within = tt; sized = fits; short = bytes_len 8 (cast_unsigned w64 n) }

pub short_i32 : (n : ℤ) → FitsSigned w32 n → IsShort i32 4 n
unfolding i32
short_i32 n fits = record { within = tt; sized = fits; short = bytes_len 4 (cast_unsigned w32 n) }

word_len : (mark : ℤ) → length (i32.encoding mark) ≤ 4
unfolding i32
word_len mark = bytes_len 4 (cast_unsigned w32 mark)

count_len : (max n : ℕ) → length ((count max).encoding n) ≤ 4
unfolding count
count_len max n = bytes_len 4 n

padding_small : (n : ℕ) → padding_len n ≤ 3
padding_small n = omega arith

padded_len : (bytes : List ℕ) → length (padded bytes) ≤ length bytes + 3
padded_len bytes = omega (
  arith,
  length-append bytes (replicate (padding_len (length bytes)) 0),
  length-replicate {A = ℕ} (padding_len (length bytes)) 0,
  padding_small (length bytes),
)

pub short_fixed : (n : ℕ) (bytes : List ℕ) → IsEncoded (fixed n) bytes → IsShort (fixed n) (n + 3) bytes
unfolding fixed
short_fixed n bytes encoded = record {
  within = encoded.within;
  sized = encoded.sized;
  short = at_most (padded_len bytes) encoded.within;
}
  where
    at_most : length (padded bytes) ≤ length bytes + 3 → length bytes ≡ n → length (padded bytes) ≤ n + 3
    at_most le is = omega (arith, le, is)

sum_most : (a b c d : ℕ) → a ≤ c → b ≤ d → a + b ≤ c + d
sum_most a b c d low high = omega arith

both_len : (xs ys : List ℕ) (a b : ℕ) → length xs ≤ a → length ys ≤ b → length (xs ++ ys) ≤ a + b
both_len xs ys a b low high = omega (arith, length-append xs ys, low, high)

pub short_var : (max : ℕ) (bytes : List ℕ) → IsEncoded (var max) bytes → IsShort (var max) (4 + (max + 3)) bytes
unfolding var
short_var max bytes encoded = record {
  within = encoded.within;
  sized = encoded.sized;
  short = both_len _ (padded bytes) 4 (max + 3) (count_len max (length bytes))
      (at_most (padded_len bytes) encoded.within);
}
  where
    at_most : length (padded bytes) ≤ length bytes + 3 → length bytes ≤ max → length (padded bytes) ≤ max + 3
    at_most le is = omega (arith, le, is)

-- ---- one after another

pub short_both : {A B : Type 0} {f : Xdr A} {g : Xdr B} {m n : ℕ} {a : A} {b : B} → IsShort f m a → IsShort g n b
    → IsShort (f ⨾ g) (m + n) (a, b)
short_both {f = f} {g = g} {m = m} {n = n} {a = a} {b = b} first then = record {
  within = (first.within, then.within);
  sized = (first.sized, then.sized);
  short = both_len (f.encoding a) (g.encoding b) m n first.short then.short;
}

pub short_struct : {A V : Type 0} (fields : Fields A V) {f : Xdr A} {n : ℕ} {v : V} → IsShort f n (fields.from v)
    → IsShort (struct_of fields f) n v
short_struct fields short = record { within = short.within; sized = short.sized; short = short.short }

pub short_entire : {V : Type 0} {f : Xdr V} {n : ℕ} {v : V} → IsShort f n v → IsShort (entire f) n v
short_entire short = record { within = short.within; sized = short.sized; short = short.short }

-- ---- constants

pub short_tag : (mark : ℤ) → IsShort (tag mark) 4 tt
unfolding constant
short_tag mark = record { within = tt; sized = tt; short = word_len mark }

pub short_closed : {A : Type 0} {f : Xdr A} {n : ℕ} {a : A} (mark : ℤ) → IsShort f n a
    → IsShort (closed f (tag mark)) (n + 4) a
short_closed {f = f} {n = n} {a = a} mark short =
    let end = short_tag mark in
    record {
      within = (short.within, end.within);
      sized = (short.sized, end.sized);
      short = both_len (f.encoding a) ((tag mark).encoding tt) n 4 short.short end.short;
    }

pub short_marked : {A : Type 0} {f : Xdr A} {n : ℕ} {a : A} (mark : ℤ) → IsShort f n a
    → IsShort (marked (tag mark) f) (4 + n) a
short_marked {f = f} {n = n} {a = a} mark short =
    let start = short_tag mark in
    record {
      within = (start.within, short.within);
      sized = (start.sized, short.sized);
      short = both_len ((tag mark).encoding tt) (f.encoding a) 4 n start.short short.short;
    }

-- ---- options, lists and unions

flag_len : (b : Bool) → length (flag.encoding b) ≤ 4
unfolding flag
flag_len b = bytes_len 4 (flag_code b)

-- the length of an arm of a union
pub marked_len : (mark : ℤ) (bytes : List ℕ) (n : ℕ) → length bytes ≤ n → length (i32.encoding mark ++ bytes) ≤ 4 + n
marked_len mark bytes n le = both_len (i32.encoding mark) bytes 4 n (word_len mark) le

-- at most so many bytes are at most more
pub longer : {k : ℕ} (a b : ℕ) → a ≤ b → k ≤ a → k ≤ b
longer a b le few = omega arith

at_most_four_more : (a b : ℕ) → a ≤ 4 → a ≤ 4 + b
at_most_four_more a b le = omega arith

pub short_option : {A : Type 0} (f : Xdr A) (n : ℕ) (found : Option A) → ((a : A) → found ≡ Some a → IsShort f n a)
    → IsShort (optional f) (4 + n) found
unfolding option
short_option f n None each = record { within = tt; sized = tt; short = at_most_four_more _ n (flag_len _) }
short_option f n (Some a) each =
    let short = each a refl in
    record {
      within = short.within;
      sized = short.sized;
      short = both_len (flag.encoding _) (f.encoding a) 4 n (flag_len _) short.short;
    }

pub no_extension : {A : Type 0} (mark : ℤ) (f : Xdr A) (n : ℕ) → IsShort (extension_of mark f) (4 + n) None
unfolding extension
no_extension mark f n = record { within = tt; sized = tt; short = marked_len (pos 0) [] n (omega arith) }

pub some_extension : {A : Type 0} (mark : ℤ) (f : Xdr A) (n : ℕ) (a : A) → IsShort f n a
    → IsShort (extension_of mark f) (4 + n) (Some a)
unfolding extension
some_extension mark f n a short = record {
  within = short.within;
  sized = short.sized;
  short = marked_len mark (f.encoding a) n short.short;
}

all_len : {A : Type 0} (f : Xdr A) (n : ℕ) (vs : List A) → All (IsShort f n) vs
    → length (flat_map f.encoding vs) ≤ length vs * n
all_len f n [] each = omega arith
all_len f n (v ∷ vs) each =
    let rest = all_len f n vs (All-tail (IsShort f n) v vs each) in
    let first = both_len (f.encoding v) (flat_map f.encoding vs) n (length vs * n)
    (All-head (IsShort f n) v vs each).short
    rest in
    one_more (length vs) n first
  where
    one_more : (k n : ℕ) → length (f.encoding v ++ flat_map f.encoding vs) ≤ n + k * n
        → length (f.encoding v ++ flat_map f.encoding vs) ≤ suc k * n
    one_more k n le = omega (arith, le)

all_within : {A : Type 0} (f : Xdr A) (n : ℕ) (vs : List A) → All (IsShort f n) vs → AllByRecursion f.within vs
all_within f n [] each = tt
all_within f n (v ∷ vs) each =
    ((All-head (IsShort f n) v vs each).within, all_within f n vs (All-tail (IsShort f n) v vs each))

all_sized : {A : Type 0} (f : Xdr A) (n : ℕ) (vs : List A) → All (IsShort f n) vs → AllByRecursion f.sized vs
all_sized f n [] each = tt
all_sized f n (v ∷ vs) each =
    ((All-head (IsShort f n) v vs each).sized, all_sized f n vs (All-tail (IsShort f n) v vs each))

pub short_list : {A : Type 0} (max : ℕ) (f : Xdr A) (n : ℕ) (vs : List A) → length vs ≤ max → All (IsShort f n) vs
    → IsShort (list_of max f) (4 + max * n) vs
unfolding list
short_list max f n vs few each = record {
  within = (few, all_within f n vs each);
  sized = all_sized f n vs each;
  short = both_len _ (flat_map f.encoding vs) 4 (max * n) (count_len max (length vs))
      (times_most (length vs) max n few (all_len f n vs each));
}
  where
    times_most : (k max n : ℕ) → k ≤ max → length (flat_map f.encoding vs) ≤ k * n
        → length (flat_map f.encoding vs) ≤ max * n
    times_most k max n few le = omega (arith, le, mul-le-mul_right n few)

pub short_times : {A : Type 0} (m : ℕ) (f : Xdr A) (n : ℕ) (vs : List A) → length vs ≡ m → All (IsShort f n) vs
    → IsShort (times m f) (m * n) vs
unfolding times
short_times m f n vs is each = record {
  within = (is, all_within f n vs each);
  sized = all_sized f n vs each;
  short = subst (λ (k : ℕ). length (flat_map f.encoding vs) ≤ k * n) is (all_len f n vs each);
}

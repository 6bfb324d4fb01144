-- Values that have an encoding of at most so many bytes, by those that they are made of.
use Rattle.sample_ledger.proofs.Prelude as prelude
use prelude.{◌≡◌, ℕ, suc, ◌+◌, ◌*◌, ◌<◌, ◌≤◌, ◌^◌, List, [], ◌∷◌, ◌++◌, length, replicate, None, Some, ℤ, pos, arith}
use prelude.{length-append, length-replicate, FitsSigned, w32, w64, cast_unsigned, flat_map, AllByRecursion, big_bytes}
use prelude.{IsBytes, u32, u64, i32, i64, flag, count, fixed, var, padded, padding_len, ◌⨾◌, Fields, struct_of, entire}
use prelude.{empty, constant, marked, closed, option, list, Arm, Part, part, encode_part, part_within, part_sized}
use prelude.{extension, Xdr, tag, optional, list_of, union_of, extension_of}
use Rattle.std.proofs.Math.Nat.{mul-le-mul_right}
use Rattle.byteorder.specs.Numbers.{length-bytes_high_first}
use Rattle.xdr_core.specs.Dependent.{◌⨾>◌, known, PartialFields, partial_of}
use Rattle.xdr_core.specs.declared.fault.XdrFault.{XdrFault}
use Rattle.std.proofs.Common.{refl}

pub record IsShort {V : Type 0} (f : Xdr V) (most : ℕ) (v : V) : Type 0 where
  pub within : f.within v
  pub sized : f.sized v
  pub short : length (f.encoding v) ≤ most

-- the same under a higher bound
pub longer : {V : Type 0} {f : Xdr V} {few : ℕ} {v : V} (most : ℕ) → IsShort f few v → few ≤ most → IsShort f most v
longer most short le = record { within = short.within; sized = short.sized; short = omega (arith, short.short) }

-- ---- leaves

pub bytes_len : (n v : ℕ) → length (big_bytes n v) ≤ n
bytes_len n v = omega (arith, length-bytes_high_first n v)

pub both_len : (xs ys : List ℕ) (a b : ℕ) → length xs ≤ a → length ys ≤ b → length (xs ++ ys) ≤ a + b
both_len xs ys a b low high = omega (arith, length-append xs ys)

pub short_u32 : (n : ℕ) → n < 2 ^ 32 → IsShort u32 4 n
unfolding u32
short_u32 n below = record { within = tt; sized = below; short = bytes_len 4 n }

pub short_u64 : (n : ℕ) → n < 2 ^ 64 → IsShort u64 8 n
unfolding u64
short_u64 n below = record { within = tt; sized = below; short = bytes_len 8 n }

pub short_i32 : (n : ℤ) → FitsSigned w32 n → IsShort i32 4 n
unfolding i32
short_i32 n fits = record { within = tt; sized = fits; short = bytes_len 4 (cast_unsigned w32 n) }

pub short_i64 : (n : ℤ) → FitsSigned w64 n → IsShort i64 8 n
unfolding i64
short_i64 n fits = record { within = tt; sized = fits; short = bytes_len 8 (cast_unsigned w64 n) }

padded_len : (bytes : List ℕ) → length (padded bytes) ≤ length bytes + 3
padded_len bytes =
    let filled : padding_len (length bytes) ≤ 3 = omega arith in
    omega (
      arith,
      length-append bytes (replicate (padding_len (length bytes)) 0),
      length-replicate {A = ℕ} (padding_len (length bytes)) 0,
    )

pub short_fixed : (n : ℕ) (bytes : List ℕ) → length bytes ≡ n → IsBytes bytes → IsShort (fixed n) (n + 3) bytes
unfolding fixed
short_fixed n bytes long fits =
    record { within = long; sized = fits; short = omega (arith, padded_len bytes) }

pub short_var : (max few : ℕ) (bytes : List ℕ) → length bytes ≤ few → few ≤ max → IsBytes bytes
    → IsShort (var max) (4 + (few + 3)) bytes
unfolding var count
short_var max few bytes long most fits =
    let filled : length (padded bytes) ≤ few + 3 = omega (arith, padded_len bytes) in
    record {
      within = omega arith;
      sized = fits;
      short = both_len (big_bytes 4 (length bytes)) (padded bytes) 4 (few + 3) (bytes_len 4 (length bytes)) filled;
    }

-- ---- one after another

pub short_empty : IsShort empty 0 tt
short_empty = record { within = tt; sized = tt; short = omega arith }

pub short_both : {A B : Type 0} {f : Xdr A} {g : Xdr B} {m n : ℕ} {a : A} {b : B} → IsShort f m a → IsShort g n b
    → IsShort (f ⨾ g) (m + n) (a, b)
short_both {f = f} {g = g} {m = m} {n = n} {a = a} {b = b} first then = record {
  within = (first.within, then.within);
  sized = (first.sized, then.sized);
  short = both_len (f.encoding a) (g.encoding b) m n first.short then.short;
}

pub short_struct : {A V : Type 0} (fields : Fields A V) {f : Xdr A} {n : ℕ} {v : V} → IsShort f n (fields.from v)
    → IsShort (struct_of fields f) n v
short_struct fields short = record { within = short.within; sized = short.sized; short = short.short }

pub short_entire : {V : Type 0} {f : Xdr V} {n : ℕ} {v : V} → IsShort f n v → IsShort (entire f) n v
short_entire short = record { within = short.within; sized = short.sized; short = short.short }

-- ---- one after another that depends on it

pub short_dependent : {A B : Type 0} {f : Xdr A} (g : A → Xdr B) {m n : ℕ} {a : A} {b : B} → IsShort f m a
    → IsShort (g a) n b → IsShort (f ⨾> g) (m + n) (a, b)
short_dependent {f = f} g {m = m} {n = n} {a = a} {b = b} first then = record {
  within = (first.within, then.within);
  sized = (first.sized, then.sized);
  short = both_len (f.encoding a) ((g a).encoding b) m n first.short then.short;
}

pub short_known : {V : Type 0} (value : V) → IsShort (known value) 0 value
short_known value = record { within = refl; sized = tt; short = omega arith }

pub short_partial : {A V : Type 0} {f : Xdr A} (fields : PartialFields f V) {n : ℕ} {v : V} → fields.Has v
    → IsShort f n (fields.from v) → IsShort (partial_of f fields) n v
short_partial fields has short =
    record { within = (has, short.within); sized = short.sized; short = short.short }

-- ---- after a discriminant, or before one

word_len : (mark : ℤ) → length (i32.encoding mark) ≤ 4
unfolding i32
word_len mark = bytes_len 4 (cast_unsigned w32 mark)

marked_len : (mark : ℤ) (bytes : List ℕ) (n : ℕ) → length bytes ≤ n → length (i32.encoding mark ++ bytes) ≤ 4 + n
marked_len mark bytes n most = both_len (i32.encoding mark) bytes 4 n (word_len mark) most

pub short_marked : {A : Type 0} {f : Xdr A} {n : ℕ} {a : A} (mark : ℤ) → IsShort f n a
    → IsShort (marked (tag mark) f) (4 + n) a
unfolding constant
short_marked {f = f} {n = n} {a = a} mark short = record {
  within = (tt, short.within);
  sized = (tt, short.sized);
  short = marked_len mark (f.encoding a) n short.short;
}

pub short_closed : {A : Type 0} {f : Xdr A} {n : ℕ} {a : A} (mark : ℤ) → IsShort f n a
    → IsShort (closed f (tag mark)) (n + 4) a
unfolding constant
short_closed {f = f} {n = n} {a = a} mark short = record {
  within = (short.within, tt);
  sized = (short.sized, tt);
  short = both_len (f.encoding a) (i32.encoding mark) n 4 short.short (word_len mark);
}

-- ---- unions: an arm of one, and all of it

pub record IsShortPart {V : Type 0} (x : Part XdrFault V) (most : ℕ) : Type 0 where
  pub within : part_within x
  pub sized : part_sized x
  pub short : length (encode_part x) ≤ most

pub short_arm : {V : Type 0} (arm : Arm XdrFault V) {n : ℕ} {x : arm.Body} → IsShort arm.body n x
    → IsShortPart (part arm x) (4 + n)
short_arm arm {n = n} {x = x} short = record {
  within = short.within;
  sized = short.sized;
  short = marked_len arm.mark (arm.body.encoding x) n short.short;
}

pub short_union : {V : Type 0} (part_of : V → Part XdrFault V) (arms : List (Arm XdrFault V)) {n : ℕ} {v : V}
    → IsShortPart (part_of v) n → IsShort (union_of part_of arms) n v
short_union part_of arms short = record { within = short.within; sized = short.sized; short = short.short }

pub no_extension : {A : Type 0} (mark : ℤ) (f : Xdr A) → IsShort (extension_of mark f) 4 None
unfolding extension
no_extension mark f = record { within = tt; sized = tt; short = marked_len (pos 0) [] 0 (omega arith) }

-- ---- options and lists

pub short_none : {A : Type 0} (f : Xdr A) → IsShort (optional f) 4 None
unfolding option flag
short_none f = record { within = tt; sized = tt; short = bytes_len 4 0 }

pub short_some : {A : Type 0} {f : Xdr A} {n : ℕ} {a : A} → IsShort f n a → IsShort (optional f) (4 + n) (Some a)
unfolding option flag
short_some {f = f} {n = n} {a = a} short = record {
  within = short.within;
  sized = short.sized;
  short = both_len (big_bytes 4 1) (f.encoding a) 4 n (bytes_len 4 1) short.short;
}

abbrev pub AreShort : {A : Type 0} → Xdr A → ℕ → List A → Type 0
AreShort f n vs = AllByRecursion (IsShort f n) vs

all_within : {A : Type 0} (f : Xdr A) (n : ℕ) (vs : List A) → AreShort f n vs → AllByRecursion f.within vs
all_within f n [] each = tt
all_within f n (v ∷ vs) each = (each.0.within, all_within f n vs each.1)

all_sized : {A : Type 0} (f : Xdr A) (n : ℕ) (vs : List A) → AreShort f n vs → AllByRecursion f.sized vs
all_sized f n [] each = tt
all_sized f n (v ∷ vs) each = (each.0.sized, all_sized f n vs each.1)

one_more : (k n len : ℕ) → len ≤ n + k * n → len ≤ suc k * n
one_more k n len le = omega arith

all_len : {A : Type 0} (f : Xdr A) (n : ℕ) (vs : List A) → AreShort f n vs
    → length (flat_map f.encoding vs) ≤ length vs * n
all_len f n [] each = omega arith
all_len f n (v ∷ vs) each =
    one_more (length vs) n (length (f.encoding v ++ flat_map f.encoding vs))
    (both_len (f.encoding v) (flat_map f.encoding vs) n (length vs * n) each.0.short (all_len f n vs each.1))

pub short_list : {A : Type 0} (max few : ℕ) (f : Xdr A) (n : ℕ) (vs : List A) → length vs ≤ few → few ≤ max
    → AreShort f n vs → IsShort (list_of max f) (4 + few * n) vs
unfolding list count
short_list max few f n vs some most each =
    let items : length (flat_map f.encoding vs) ≤ few * n =
    omega (arith, all_len f n vs each, mul-le-mul_right n some) in
    record {
      within = (omega arith, all_within f n vs each);
      sized = all_sized f n vs each;
      short = both_len (big_bytes 4 (length vs)) (flat_map f.encoding vs) 4 (few * n) (bytes_len 4 (length vs)) items;
    }

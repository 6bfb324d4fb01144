-- Predicates of few levels are short.
use Rattle.close_laws.proofs.Prelude.{◌≡◌, ℕ, zero, suc, ◌+◌, ◌*◌, ◌≤◌, List, [], ◌∷◌, Some, None, true, false, subst}
use Rattle.close_laws.proofs.Prelude.{◌++◌, length, arith, All-nil, All-cons, All-head, All-tail, FitsSigned, w64}
use Rattle.close_laws.proofs.Prelude.{ClaimPredicate, out-ClaimPredicate, ClaimPredicate-F, i32, i64, option, refused}
use Rattle.close_laws.proofs.Prelude.{optional, list_of, level, predicate_below, both, is_valid_level, is_valid_below}
use Rattle.close_laws.proofs.Prelude.{IsEncoded, and_parts}
use Rattle.std.proofs.Common.{ℤ, pos}
use Rattle.close_laws.proofs.Encoded.{each_encoded}
use Rattle.close_laws.proofs.Short as short
use Rattle.close_laws.proofs.Short.{IsShort}

-- the most bytes of a predicate of so many levels
unfoldable pub predicate_most : ℕ → ℕ
predicate_most zero = 0
predicate_most (suc levels) = 12 + (predicate_most levels + predicate_most levels)

pub encoded_i64_fits : (time : ℤ) → IsEncoded i64 time → FitsSigned w64 time
unfolding i64
encoded_i64_fits time encoded = encoded.sized

part_encoded : (f : ℕ) (p : ClaimPredicate) → IsEncoded (optional (predicate_below f)) (Some p)
    → IsEncoded (predicate_below f) p
unfolding option
part_encoded f p encoded = record { within = encoded.within; sized = encoded.sized }

some_is : (a b : ClaimPredicate) → Some a ≡ Some b → a ≡ b
some_is a b e = cc

list_most : (n : ℕ) → 4 + 2 * n ≤ 8 + (n + n)
list_most n = omega arith

part_most : (n : ℕ) → 4 + n ≤ 8 + (n + n)
part_most n = omega arith

time_most : (n : ℕ) → 8 ≤ 8 + (n + n)
time_most n = omega arith

nothing_most : (n : ℕ) → 0 ≤ 8 + (n + n)
nothing_most n = omega arith

module _ (levels f : ℕ) (below : (p : ClaimPredicate) → is_valid_below false levels p ≡ true
    → IsEncoded (predicate_below f) p → IsShort (predicate_below f) (predicate_most levels) p) where
  abbrev IsLevelShort : ClaimPredicate-F ClaimPredicate → Type 0
  IsLevelShort x = IsShort (level (predicate_below f)) (12 + (predicate_most levels + predicate_most levels)) x

  -- an arm of at most so many bytes
  arm_most : (mark : ℤ) (bytes : List ℕ) (n : ℕ) → n ≤ 8 + (predicate_most levels + predicate_most levels)
      → length bytes ≤ n → length (i32.encoding mark ++ bytes) ≤ 12 + (predicate_most levels + predicate_most levels)
  arm_most mark bytes n le few =
      let most = 8 + (predicate_most levels + predicate_most levels) in
      short.longer (4 + most) (12 + (predicate_most levels + predicate_most levels)) (omega arith)
      (short.marked_len mark bytes most (short.longer n most le few))

  two_short : (parts : List ClaimPredicate) → both (is_valid_below false levels) parts ≡ true
      → IsEncoded (list_of 2 (predicate_below f)) parts
      → IsShort (list_of 2 (predicate_below f)) (4 + 2 * predicate_most levels) parts
  two_short [] h encoded = absurd (cc)
  two_short (a ∷ []) h encoded = absurd (cc)
  two_short (a ∷ b ∷ []) h encoded =
      let valid = and_parts (is_valid_below false levels a) (is_valid_below false levels b) h in
      let each = each_encoded 2 (predicate_below f) (a ∷ b ∷ []) encoded in
      let later = All-tail (IsEncoded (predicate_below f)) a (b ∷ []) each in
      short.short_list 2 (predicate_below f) (predicate_most levels) (a ∷ b ∷ []) (omega arith)
      (All-cons (IsShort (predicate_below f) (predicate_most levels)) a (b ∷ [])
      (below a valid.0 (All-head (IsEncoded (predicate_below f)) a (b ∷ []) each))
      (All-cons (IsShort (predicate_below f) (predicate_most levels)) b []
      (below b valid.1 (All-head (IsEncoded (predicate_below f)) b [] later))
      (All-nil (IsShort (predicate_below f) (predicate_most levels)))))
  two_short (a ∷ b ∷ c ∷ parts) h encoded = absurd (cc)

  level_short : (x : ClaimPredicate-F ClaimPredicate) → is_valid_level false (is_valid_below false levels) x ≡ true
      → IsEncoded (level (predicate_below f)) x → IsLevelShort x
  level_short ClaimPredicate-F.Unconditional h encoded = record {
    within = tt;
    sized = tt;
    short = arm_most (pos 0) [] 0 (nothing_most (predicate_most levels)) (omega arith);
  }
  level_short (ClaimPredicate-F.And parts) h encoded =
      let two = two_short parts h (record { within = encoded.within; sized = encoded.sized }) in
      record {
        within = two.within;
        sized = two.sized;
        short = arm_most (pos 1) _ (4 + 2 * predicate_most levels) (list_most (predicate_most levels)) two.short;
      }
  level_short (ClaimPredicate-F.Or parts) h encoded =
      let two = two_short parts h (record { within = encoded.within; sized = encoded.sized }) in
      record {
        within = two.within;
        sized = two.sized;
        short = arm_most (pos 2) _ (4 + 2 * predicate_most levels) (list_most (predicate_most levels)) two.short;
      }
  level_short (ClaimPredicate-F.Not None) h encoded = absurd (cc)
  level_short (ClaimPredicate-F.Not (Some p)) h encoded =
      let part = below p h (part_encoded f p (record { within = encoded.within; sized = encoded.sized })) in
      let one = short.short_option (predicate_below f) (predicate_most levels) (Some p)
      (λ q is. subst (IsShort (predicate_below f) (predicate_most levels)) (some_is p q is) part) in
      record {
        within = one.within;
        sized = one.sized;
        short = arm_most (pos 3) _ (4 + predicate_most levels) (part_most (predicate_most levels)) one.short;
      }
  level_short (ClaimPredicate-F.BeforeAbsoluteTime time) h encoded =
      let at = short.short_i64 time
      (encoded_i64_fits time (record { within = encoded.within; sized = encoded.sized })) in
      record {
        within = at.within;
        sized = at.sized;
        short = arm_most (pos 4) _ 8 (time_most (predicate_most levels)) at.short;
      }
  level_short (ClaimPredicate-F.BeforeRelativeTime seconds) h encoded = absurd (cc)

pub predicate_short : (levels f : ℕ) (p : ClaimPredicate) → is_valid_below false levels p ≡ true
    → IsEncoded (predicate_below f) p → IsShort (predicate_below f) (predicate_most levels) p
unfolding is_valid_below predicate_below predicate_most refused
predicate_short zero f p h encoded = absurd (cc)
predicate_short (suc levels) zero p h encoded = absurd encoded.within
predicate_short (suc levels) (suc f) p h encoded =
    let one = level_short levels f (predicate_short levels f) (out-ClaimPredicate p) h
    (record { within = encoded.within; sized = encoded.sized }) in
    record { within = one.within; sized = one.sized; short = one.short }

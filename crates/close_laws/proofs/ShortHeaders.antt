-- A header that can be written is short.
use Rattle.close_laws.proofs.Prelude.{ℕ, ◌+◌, ◌*◌, ◌<◌, Some, None, arith, LedgerHeader, u32, u64, i64, var, ◌⨾◌}
use Rattle.close_laws.proofs.Prelude.{Fields, struct_of, entire, times, extension, constant, Xdr, list_of, extension_of}
use Rattle.close_laws.proofs.Prelude.{hash, ledger_close_value_signature, value_signature_fields, stellar_value}
use Rattle.close_laws.proofs.Prelude.{value_fields, ledger_header_extension_v1, header_v1_fields, limits, limits_fields}
use Rattle.close_laws.proofs.Prelude.{counts, counts_fields, ledger_header, header_fields, IsEncoded}
use Rattle.std.proofs.Common.{ℤ, pos}
use Rattle.close_laws.proofs.Short as short
use Rattle.close_laws.proofs.Short.{IsShort}
use Rattle.close_laws.proofs.ShortIds.{id_short, hash_short}
use Rattle.close_laws.proofs.Encoded.{all_encoded, each_encoded, few_encoded}

-- whatever has an encoding is short
abbrev AreShort : {V : Type 0} → Xdr V → ℕ → Type 0
AreShort {V} f most = (v : V) → IsEncoded f v → IsShort f most v

-- ---- formats of which others are made

both_short : {A B : Type 0} {f : Xdr A} {g : Xdr B} {m n : ℕ} → AreShort f m → AreShort g n → AreShort (f ⨾ g) (m + n)
both_short first then (a, b) encoded =
    short.short_both (first a (record { within = encoded.within.0; sized = encoded.sized.0 }))
    (then b (record { within = encoded.within.1; sized = encoded.sized.1 }))

struct : {A V : Type 0} (fields : Fields A V) {f : Xdr A} {n : ℕ} → AreShort f n → AreShort (struct_of fields f) n
struct fields each v encoded =
    short.short_struct fields (each (fields.from v) (record { within = encoded.within; sized = encoded.sized }))

extended : {A : Type 0} (mark : ℤ) (f : Xdr A) (n : ℕ) → AreShort f n → AreShort (extension_of mark f) (4 + n)
unfolding extension
extended mark f n each None encoded = short.no_extension mark f n
extended mark f n each (Some a) encoded =
    short.some_extension mark f n a (each a (record { within = encoded.within; sized = encoded.sized }))

listed : {A : Type 0} (max : ℕ) (f : Xdr A) (n : ℕ) → AreShort f n → AreShort (list_of max f) (4 + max * n)
listed max f n each vs encoded =
    short.short_list max f n vs (few_encoded max f vs encoded)
    (λ k d within. each _ (each_encoded max f vs encoded k d within))

repeated : {A : Type 0} (count : ℕ) (f : Xdr A) (n : ℕ) → AreShort f n → AreShort (times count f) (count * n)
unfolding times
repeated count f n each vs encoded =
    short.short_times count f n vs encoded.within.0
    (λ k d within. each _ (all_encoded f vs encoded.within.1 encoded.sized k d within))

-- ---- leaves

u32_short : AreShort u32 4
unfolding u32
u32_short n encoded = short.short_u32 n (fits encoded.sized)
  where
    fits : u32.sized n → n < 4294967296
    fits sized = omega arith

u64_short : AreShort u64 8
unfolding u64
u64_short n encoded = short.short_u64 n (fits encoded.sized)
  where
    fits : u64.sized n → n < 18446744073709551616
    fits sized = omega arith

i64_short : AreShort i64 8
unfolding i64
i64_short n encoded = short.short_i64 n encoded.sized

-- ---- headers

signature_short : AreShort ledger_close_value_signature 110
unfolding ledger_close_value_signature
signature_short = struct value_signature_fields (both_short id_short (short.short_var 64))

value_short : AreShort stellar_value 971
unfolding stellar_value
value_short =
    struct value_fields (both_short hash_short (both_short u64_short
    (both_short (listed 6 (var 128) 135 (short.short_var 128))
    (extended (pos 1) ledger_close_value_signature 110 signature_short))))

extension_short : AreShort ledger_header_extension_v1 8
unfolding ledger_header_extension_v1 constant
extension_short =
    struct header_v1_fields (λ flags encoded. short.short_closed (pos 0) (u32_short flags
    (record { within = encoded.within.0; sized = encoded.sized.0 })))

limits_short : AreShort limits 164
unfolding limits
limits_short =
    struct limits_fields (both_short u32_short (both_short u32_short (both_short u32_short
    (both_short (repeated 4 hash 35 hash_short)
    (extended (pos 1) ledger_header_extension_v1 8 extension_short)))))

counts_short : AreShort counts 196
unfolding counts
counts_short =
    struct counts_fields
    (both_short u32_short (both_short i64_short (both_short i64_short (both_short u32_short
    (both_short u64_short limits_short)))))

pub header_short : (h : LedgerHeader) → IsEncoded ledger_header h → IsShort ledger_header 1276 h
unfolding ledger_header
header_short =
    struct header_fields
    (both_short u32_short (both_short hash_short (both_short entire_value (both_short hash_short
    (both_short hash_short counts_short)))))
  where
    entire_value : AreShort (entire stellar_value) 971
    entire_value v encoded =
        short.short_entire (value_short v (record { within = encoded.within; sized = encoded.sized }))

-- Trust lines and claimable balances are short.
use Rattle.close_laws.proofs.Prelude as prelude
use prelude.{◌≡◌, ℕ, ◌<◌, ◌≤◌, List, [], ◌++◌, length, All, Option, Some, None, true, arith, ints, ◌≤ℤ◌, FitsSigned}
use prelude.{w32, Asset, TrustLineAsset, TrustLineEntry, Claimant, ClaimableBalanceEntry, i32, constant, extension_of}
use prelude.{line_v2_fields, trust_line_extension_v2, line_v1_fields, trust_line_extension_v1, line_fields}
use prelude.{trust_line_entry, claimant_fields, claimant, balance_v1_fields, claimable_balance_extension_v1}
use prelude.{balance_fields, claimable_balance_entry, is_valid_stored_predicate, line_liabilities, line_liabilities_in}
use prelude.{line_second_in, use_count, use_count_in, greatest_i64, balance_flags, IsEncoded}
use Rattle.std.proofs.Common.{ℤ, pos}
use Rattle.close_rules.specs.ledger_types.declared.ids.ClaimableBalanceId.{ClaimableBalanceId}
use Rattle.close_rules.specs.ledger_types.declared.asset.Asset.TheVariants as asset
use Rattle.close_rules.specs.ledger_types.declared.asset.TrustLineAsset.TheVariants as line
use Rattle.close_rules.specs.ledger_types.declared.trust_line.TrustLineEntryExtensionV1.{TrustLineEntryExtensionV1}
use Rattle.close_rules.specs.ledger_types.declared.trust_line.TrustLineEntryExtensionV2.{TrustLineEntryExtensionV2}
use Rattle.close_rules.specs.ledger_types.declared.claimable_balance.ClaimableBalanceEntryExtensionV1.{
  ClaimableBalanceEntryExtensionV1,
}
use Rattle.close_rules.specs.xdr_entries.Basic as basic
use Rattle.close_laws.proofs.Bytes.{IsClaimant, AreLineBytes, AreBalanceBytes}
use Rattle.close_laws.proofs.Short as short
use Rattle.close_laws.proofs.Short.{IsShort}
use Rattle.close_laws.proofs.ShortIds.{id_short, hash_short, fits_i64, liabilities_short}
use Rattle.close_laws.proofs.ShortPredicates.{predicate_most, predicate_short}
use Rattle.close_laws.proofs.ShortPredicates.{encoded_i64_fits}

-- ---- assets

arm_most : (mark : ℤ) (bytes : List ℕ) (n : ℕ) → n ≤ 54 → length bytes ≤ n → length (i32.encoding mark ++ bytes) ≤ 58
arm_most mark bytes n le few = short.marked_len mark bytes 54 (short.longer n 54 le few)

line_asset_short : (held : TrustLineAsset) → IsEncoded basic.trust_line_asset held
    → IsShort basic.trust_line_asset 58 held
unfolding basic.trust_line_asset
line_asset_short line.Native encoded =
    record { within = tt; sized = tt; short = arm_most (pos 0) [] 0 (omega arith) (omega arith) }
line_asset_short (line.Alphanum4 code issuer) encoded =
    let rest = short.short_both
    (short.short_fixed 4 code (record { within = encoded.within.0; sized = encoded.sized.0 }))
    (id_short issuer (record { within = encoded.within.1; sized = encoded.sized.1 })) in
    record { within = rest.within; sized = rest.sized; short = arm_most (pos 1) _ 46 (omega arith) rest.short }
line_asset_short (line.Alphanum12 code issuer) encoded =
    let rest = short.short_both
    (short.short_fixed 12 code (record { within = encoded.within.0; sized = encoded.sized.0 }))
    (id_short issuer (record { within = encoded.within.1; sized = encoded.sized.1 })) in
    record { within = rest.within; sized = rest.sized; short = arm_most (pos 2) _ 54 (omega arith) rest.short }
line_asset_short (line.PoolShare pool) encoded =
    let rest = hash_short pool (record { within = encoded.within; sized = encoded.sized }) in
    record { within = rest.within; sized = rest.sized; short = arm_most (pos 3) _ 35 (omega arith) rest.short }

pub asset_short : (held : Asset) → IsEncoded basic.asset held → IsShort basic.asset 58 held
unfolding basic.asset
asset_short asset.Native encoded =
    record { within = tt; sized = tt; short = arm_most (pos 0) [] 0 (omega arith) (omega arith) }
asset_short (asset.Alphanum4 code issuer) encoded =
    let rest = short.short_both
    (short.short_fixed 4 code (record { within = encoded.within.0; sized = encoded.sized.0 }))
    (id_short issuer (record { within = encoded.within.1; sized = encoded.sized.1 })) in
    record { within = rest.within; sized = rest.sized; short = arm_most (pos 1) _ 46 (omega arith) rest.short }
asset_short (asset.Alphanum12 code issuer) encoded =
    let rest = short.short_both
    (short.short_fixed 12 code (record { within = encoded.within.0; sized = encoded.sized.0 }))
    (id_short issuer (record { within = encoded.within.1; sized = encoded.sized.1 })) in
    record { within = rest.within; sized = rest.sized; short = arm_most (pos 2) _ 54 (omega arith) rest.short }

-- ---- trust lines

-- what holds of the numbers of a line
pub record AreLineNumbers (held : TrustLineEntry) : Type 0 where
  pub balance_low : pos 0 ≤ℤ held.balance
  pub balance_high : held.balance ≤ℤ greatest_i64
  pub limit_low : pos 0 ≤ℤ held.limit
  pub limit_high : held.limit ≤ℤ greatest_i64
  pub flags : held.flags ≤ 7
  pub buying_low : pos 0 ≤ℤ (line_liabilities held).buying
  pub buying_high : (line_liabilities held).buying ≤ℤ greatest_i64
  pub selling_low : pos 0 ≤ℤ (line_liabilities held).selling
  pub selling_high : (line_liabilities held).selling ≤ℤ greatest_i64
  pub uses_low : pos 0 ≤ℤ use_count held
  pub uses_few : use_count held ≤ℤ pos 1000

few_fit : (n : ℤ) → pos 0 ≤ℤ n → n ≤ℤ pos 1000 → FitsSigned w32 n
few_fit n low few = grind (arith, ints)

line_v2_short : (ext : TrustLineEntryExtensionV2) → FitsSigned w32 ext.liquidity_pool_use_count
    → IsShort trust_line_extension_v2 8 ext
unfolding trust_line_extension_v2
line_v2_short ext uses =
    short.short_struct line_v2_fields (short.short_closed (pos 0)
    (short.short_i32 ext.liquidity_pool_use_count uses))

line_second_short : (second : Option TrustLineEntryExtensionV2) → FitsSigned w32 (use_count_in second)
    → IsShort (extension_of (pos 2) trust_line_extension_v2) 12 second
line_second_short None uses = short.no_extension (pos 2) trust_line_extension_v2 8
line_second_short (Some ext) uses =
    short.some_extension (pos 2) trust_line_extension_v2 8 ext (line_v2_short ext uses)

line_v1_short : (ext : TrustLineEntryExtensionV1) → pos 0 ≤ℤ ext.liabilities.buying
    → ext.liabilities.buying ≤ℤ greatest_i64 → pos 0 ≤ℤ ext.liabilities.selling
    → ext.liabilities.selling ≤ℤ greatest_i64 → FitsSigned w32 (use_count_in ext.ext)
    → IsShort trust_line_extension_v1 28 ext
unfolding trust_line_extension_v1
line_v1_short ext low high least most uses =
    short.short_struct line_v1_fields (short.short_both (liabilities_short ext.liabilities low high least most)
    (line_second_short ext.ext uses))

line_ext_short : (ext : Option TrustLineEntryExtensionV1) → pos 0 ≤ℤ (line_liabilities_in ext).buying
    → (line_liabilities_in ext).buying ≤ℤ greatest_i64 → pos 0 ≤ℤ (line_liabilities_in ext).selling
    → (line_liabilities_in ext).selling ≤ℤ greatest_i64 → FitsSigned w32 (use_count_in (line_second_in ext))
    → IsShort (extension_of (pos 1) trust_line_extension_v1) 32 ext
line_ext_short None low high least most uses = short.no_extension (pos 1) trust_line_extension_v1 28
line_ext_short (Some ext) low high least most uses =
    short.some_extension (pos 1) trust_line_extension_v1 28 ext (line_v1_short ext low high least most uses)

few_flags : (flags : ℕ) → flags ≤ 7 → flags < 4294967296
few_flags flags le = omega arith

pub line_short : (held : TrustLineEntry) → AreLineBytes held → AreLineNumbers held → IsShort trust_line_entry 149 held
unfolding trust_line_entry
line_short held bytes numbers =
    short.short_struct line_fields (short.short_both (id_short held.account_id bytes.id)
    (short.short_both (line_asset_short held.asset bytes.asset)
    (short.short_both (short.short_i64 held.balance (fits_i64 _ numbers.balance_low numbers.balance_high))
    (short.short_both (short.short_i64 held.limit (fits_i64 _ numbers.limit_low numbers.limit_high))
    (short.short_both (short.short_u32 held.flags (few_flags held.flags numbers.flags))
    (line_ext_short held.ext numbers.buying_low numbers.buying_high numbers.selling_low numbers.selling_high
    (few_fit (use_count held) numbers.uses_low numbers.uses_few)))))))

-- ---- claimable balances

-- what holds of a claimable balance beside its bytes
pub record AreBalanceNumbers (balance : ClaimableBalanceEntry) : Type 0 where
  pub few : length balance.claimants ≤ 10
  pub predicates : All (λ c. is_valid_stored_predicate c.predicate ≡ true) balance.claimants
  pub flags : balance_flags balance.ext ≤ 1

claimant_short : (one : Claimant) → IsClaimant one → is_valid_stored_predicate one.predicate ≡ true
    → IsShort claimant 223 one
unfolding claimant predicate_most
claimant_short one encoded valid =
    short.short_struct claimant_fields (short.short_marked (pos 0)
    (short.short_both (id_short one.destination (record { within = encoded.within.1.0; sized = encoded.sized.1.0 }))
    (short.short_entire (predicate_short 4 32 one.predicate valid
    (record { within = encoded.within.1.1; sized = encoded.sized.1.1 })))))

claimants_short : (claimants : List Claimant) → All IsClaimant claimants
    → All (λ c. is_valid_stored_predicate c.predicate ≡ true) claimants → All (IsShort claimant 223) claimants
claimants_short claimants bytes valid = λ k d within. claimant_short _ (bytes k d within) (valid k d within)

id_of_balance_short : (id : ClaimableBalanceId) → IsEncoded basic.claimable_balance_id id
    → IsShort basic.claimable_balance_id 39 id
unfolding basic.claimable_balance_id constant
id_of_balance_short id encoded =
    short.short_struct basic.balance_id_fields (short.short_marked (pos 0)
    (hash_short id.0 (record { within = encoded.within.1; sized = encoded.sized.1 })))

balance_v1_short : (ext : ClaimableBalanceEntryExtensionV1) → ext.flags ≤ 1
    → IsShort claimable_balance_extension_v1 8 ext
unfolding claimable_balance_extension_v1
balance_v1_short ext few =
    short.short_struct balance_v1_fields (short.short_marked (pos 0) (short.short_u32 ext.flags (small few)))
  where
    small : {n : ℕ} → n ≤ 1 → n < 4294967296
    small le = omega arith

balance_ext_short : (ext : Option ClaimableBalanceEntryExtensionV1) → balance_flags ext ≤ 1
    → IsShort (extension_of (pos 1) claimable_balance_extension_v1) 12 ext
balance_ext_short None few = short.no_extension (pos 1) claimable_balance_extension_v1 8
balance_ext_short (Some ext) few =
    short.some_extension (pos 1) claimable_balance_extension_v1 8 ext (balance_v1_short ext few)

pub balance_short : (balance : ClaimableBalanceEntry) → AreBalanceBytes balance → AreBalanceNumbers balance
    → IsShort claimable_balance_entry 2351 balance
unfolding claimable_balance_entry
balance_short balance bytes numbers =
    short.short_struct balance_fields (short.short_both (id_of_balance_short balance.balance_id bytes.id)
    (short.short_both (short.short_list 10 claimant 223 balance.claimants numbers.few
    (claimants_short balance.claimants bytes.claimants numbers.predicates))
    (short.short_both (asset_short balance.asset bytes.asset)
    (short.short_both (short.short_i64 balance.amount (encoded_i64_fits balance.amount bytes.amount))
    (balance_ext_short balance.ext numbers.flags)))))

-- Entries are short enough for a bucket's file.
use Rattle.close_laws.proofs.Prelude as prelude
use prelude.{ℕ, ◌<◌, ◌≤◌, List, ◌++◌, length, All, Option, Some, None, arith, ◌≤ℤ◌, AccountId, Signer, AccountEntry}
use prelude.{AccountEntryExtensionV1, AccountEntryExtensionV2, AccountEntryExtensionV3, DataEntry, LedgerEntry}
use prelude.{LedgerEntryBody}
use prelude.{LedgerEntryExtensionV1, i32, optional, extension_of, account_id, signer_key, signer, account_extension_v2}
use prelude.{account_extension_v1, account_head, account_tail, account_entry, account_v2_fields, account_v1_fields}
use prelude.{account_fields, data_fields, entry_v1_fields, entry_fields, data_entry, ledger_entry_body}
use prelude.{ledger_entry_extension_v1, ledger_entry, liabilities_in, second_in, sponsored_in, sponsoring_in}
use prelude.{sponsor_in, greatest_i64, IsEntryEncodable, IsEncoded}
use prelude.{third_in, account_v3_fields, account_extension_v3, u32, u64, extension}
use Rattle.std.proofs.Common.{ℤ, pos}
use Rattle.close_rules.specs.ledger_types.declared.entry.LedgerEntryBody.TheVariants as body
use Rattle.close_laws.proofs.Bytes.{IsIdIf, IsThird, sponsors_in, AreAccountBytes, AreDataBytes, AreBodyBytes}
use Rattle.close_laws.proofs.Bytes.{AreEntryBytes}
use Rattle.close_laws.proofs.Short as short
use Rattle.close_laws.proofs.Short.{IsShort}
use Rattle.close_laws.proofs.ShortIds.{id_short, id_if_short, signer_short, fits_i64, liabilities_short}
use Rattle.close_laws.proofs.ShortBalances.{AreLineNumbers, AreBalanceNumbers, line_short, balance_short}
use Rattle.close_laws.proofs.ShortOffers.{offer_short}
use Rattle.close_laws.proofs.ShortPools.{ArePoolNumbers, pool_short}

-- ---- what accounts say beside their bytes

-- the numbers of an account's extensions, each in its range
pub record AreNumbers (ext : Option AccountEntryExtensionV1) : Type 0 where
  pub buying_low : pos 0 ≤ℤ (liabilities_in ext).buying
  pub buying_high : (liabilities_in ext).buying ≤ℤ greatest_i64
  pub selling_low : pos 0 ≤ℤ (liabilities_in ext).selling
  pub selling_high : (liabilities_in ext).selling ≤ℤ greatest_i64
  pub sponsored : sponsored_in (second_in ext) < 4294967296
  pub sponsoring : sponsoring_in (second_in ext) < 4294967296
  pub few : length (sponsors_in (second_in ext)) ≤ 20

ids_short : (ids : List (Option AccountId)) → All IsIdIf ids → All (IsShort (optional account_id) 43) ids
ids_short ids all = λ k d within. id_if_short _ (all k d within)

u32_of : (n : ℕ) → u32.sized n → n < 4294967296
unfolding u32
u32_of n sized = omega (arith, sized)

pub u64_of : (n : ℕ) → u64.sized n → n < 18446744073709551616
unfolding u64
u64_of n sized = omega (arith, sized)

v3_short : (ext : AccountEntryExtensionV3) → IsEncoded account_extension_v3 ext → IsShort account_extension_v3 16 ext
unfolding account_extension_v3
v3_short ext encoded =
    short.short_struct account_v3_fields (short.short_marked (pos 0)
    (short.short_both (short.short_u32 ext.seq_ledger (u32_of ext.seq_ledger encoded.sized.1.0))
    (short.short_u64 ext.seq_time (u64_of ext.seq_time encoded.sized.1.1))))

third_short : (third : Option AccountEntryExtensionV3) → IsThird third
    → IsShort (extension_of (pos 3) account_extension_v3) 20 third
unfolding extension
third_short None encoded = short.no_extension (pos 3) account_extension_v3 16
third_short (Some ext) encoded =
    short.some_extension (pos 3) account_extension_v3 16 ext
    (v3_short ext (record { within = encoded.within; sized = encoded.sized }))

v2_short : (ext : AccountEntryExtensionV2) → ext.num_sponsored < 4294967296 → ext.num_sponsoring < 4294967296
    → length ext.signer_sponsoring_ids ≤ 20 → All IsIdIf ext.signer_sponsoring_ids → IsThird ext.ext
    → IsShort account_extension_v2 892 ext
unfolding account_extension_v2
v2_short ext sponsored sponsoring few all third =
    short.short_struct account_v2_fields (short.short_both (short.short_u32 ext.num_sponsored sponsored)
    (short.short_both (short.short_u32 ext.num_sponsoring sponsoring)
    (short.short_both (short.short_list 20 (optional account_id) 43 ext.signer_sponsoring_ids few
    (ids_short ext.signer_sponsoring_ids all)) (third_short ext.ext third))))

second_short : (second : Option AccountEntryExtensionV2) → sponsored_in second < 4294967296
    → sponsoring_in second < 4294967296 → length (sponsors_in second) ≤ 20 → All IsIdIf (sponsors_in second)
    → IsThird (third_in second) → IsShort (extension_of (pos 2) account_extension_v2) 896 second
second_short None sponsored sponsoring few all third = short.no_extension (pos 2) account_extension_v2 892
second_short (Some ext) sponsored sponsoring few all third =
    short.some_extension (pos 2) account_extension_v2 892 ext (v2_short ext sponsored sponsoring few all third)

v1_short : (ext : AccountEntryExtensionV1) → AreNumbers (Some ext) → All IsIdIf (sponsors_in (second_in (Some ext)))
    → IsThird (third_in (second_in (Some ext))) → IsShort account_extension_v1 912 ext
unfolding account_extension_v1
v1_short ext numbers all third =
    short.short_struct account_v1_fields (short.short_both
    (liabilities_short ext.liabilities numbers.buying_low numbers.buying_high numbers.selling_low numbers.selling_high)
    (second_short ext.ext numbers.sponsored numbers.sponsoring numbers.few all third))

ext_short : (ext : Option AccountEntryExtensionV1) → AreNumbers ext → All IsIdIf (sponsors_in (second_in ext))
    → IsThird (third_in (second_in ext)) → IsShort (extension_of (pos 1) account_extension_v1) 916 ext
ext_short None numbers all third = short.no_extension (pos 1) account_extension_v1 912
ext_short (Some ext) numbers all third =
    short.some_extension (pos 1) account_extension_v1 912 ext (v1_short ext numbers all third)

-- ---- accounts

-- what holds of the numbers of an account
pub record AreAccountNumbers (account : AccountEntry) : Type 0 where
  pub balance_low : pos 0 ≤ℤ account.balance
  pub balance_high : account.balance ≤ℤ greatest_i64
  pub seq_low : pos 0 ≤ℤ account.seq_num
  pub seq_high : account.seq_num ≤ℤ greatest_i64
  pub subentries : account.num_sub_entries ≤ 1000
  pub flags : account.flags ≤ 15
  pub signers : length account.signers ≤ 20
  pub weights : All (λ one. one.weight ≤ 255) account.signers
  pub ext : AreNumbers account.ext

all_signers : (signers : List Signer) → All (λ one. IsEncoded signer_key one.key) signers
    → All (λ one. one.weight ≤ 255) signers → All (IsShort signer 114) signers
all_signers signers keys weights = λ k d within. signer_short _ (keys k d within) (weights k d within)

head_short : (account : AccountEntry) → AreAccountBytes account → AreAccountNumbers account → IsShort account_head 106 (
  account.account_id,
  (account.balance, (account.seq_num, (account.num_sub_entries, (account.inflation_dest, account.flags)))),
)
unfolding account_head
head_short account bytes numbers =
    short.short_both (id_short account.account_id bytes.id)
    (short.short_both (short.short_i64 account.balance (fits_i64 _ numbers.balance_low numbers.balance_high))
    (short.short_both (short.short_i64 account.seq_num (fits_i64 _ numbers.seq_low numbers.seq_high))
    (short.short_both (short.short_u32 account.num_sub_entries (small numbers.subentries))
    (short.short_both (id_if_short account.inflation_dest bytes.inflation_dest)
    (short.short_u32 account.flags (smaller numbers.flags))))))
  where
    small : {n : ℕ} → n ≤ 1000 → n < 4294967296
    small le = omega arith

    smaller : {n : ℕ} → n ≤ 15 → n < 4294967296
    smaller le = omega arith

tail_short : (account : AccountEntry) → AreAccountBytes account → AreAccountNumbers account
    → IsShort account_tail 3246 (account.home_domain, (account.thresholds, (account.signers, account.ext)))
unfolding account_tail
tail_short account bytes numbers =
    short.short_both (short.short_var 32 account.home_domain bytes.home_domain)
    (short.short_both (short.short_fixed 4 account.thresholds bytes.thresholds)
    (short.short_both (short.short_list 20 signer 114 account.signers numbers.signers
    (all_signers account.signers bytes.signers numbers.weights))
    (ext_short account.ext numbers.ext bytes.sponsors bytes.third)))

account_short : (account : AccountEntry) → AreAccountBytes account → AreAccountNumbers account
    → IsShort account_entry 3352 account
unfolding account_entry
account_short account bytes numbers =
    short.short_struct account_fields (short.short_both (head_short account bytes numbers)
    (tail_short account bytes numbers))

-- ---- data

data_short : (entry : DataEntry) → AreDataBytes entry → IsShort data_entry 185 entry
unfolding data_entry
data_short entry bytes =
    short.short_struct data_fields (short.short_both (id_short entry.account_id bytes.id)
    (short.short_both (short.short_var 64 entry.data_name bytes.name)
    (short.short_closed (pos 0) (short.short_var 64 entry.data_value bytes.value))))

-- ---- entries

abbrev pub AreBodyNumbers : LedgerEntryBody → Type 0
AreBodyNumbers (body.Account account) = AreAccountNumbers account
AreBodyNumbers (body.TrustLine held) = AreLineNumbers held
AreBodyNumbers (body.ClaimableBalance balance) = AreBalanceNumbers balance
AreBodyNumbers (body.Offer offer) = offer.flags ≤ 1
AreBodyNumbers (body.LiquidityPool pool) = ArePoolNumbers pool
AreBodyNumbers other = Unit {0}

-- an arm of at most 3352 bytes, the most that an account has
body_arm : (mark : ℤ) (bytes : List ℕ) (n : ℕ) → n ≤ 3352 → length bytes ≤ n
    → length (i32.encoding mark ++ bytes) ≤ 3356
body_arm mark bytes n le few = short.marked_len mark bytes 3352 (short.longer n 3352 le few)

body_short : (of : LedgerEntryBody) → AreBodyBytes of → AreBodyNumbers of → IsShort ledger_entry_body 3356 of
unfolding ledger_entry_body
body_short (body.Account account) bytes numbers =
    let rest = account_short account bytes numbers in
    record { within = rest.within; sized = rest.sized; short = body_arm (pos 0) _ 3352 (omega arith) rest.short }
body_short (body.TrustLine held) bytes numbers =
    let rest = line_short held bytes numbers in
    record { within = rest.within; sized = rest.sized; short = body_arm (pos 1) _ 149 (omega arith) rest.short }
body_short (body.Data entry) bytes numbers =
    let rest = data_short entry bytes in
    record { within = rest.within; sized = rest.sized; short = body_arm (pos 3) _ 185 (omega arith) rest.short }
body_short (body.ClaimableBalance balance) bytes numbers =
    let rest = balance_short balance bytes numbers in
    record { within = rest.within; sized = rest.sized; short = body_arm (pos 4) _ 2351 (omega arith) rest.short }
body_short (body.Offer offer) bytes numbers =
    let rest = offer_short offer bytes numbers in
    record { within = rest.within; sized = rest.sized; short = body_arm (pos 2) _ 187 (omega arith) rest.short }
body_short (body.LiquidityPool pool) bytes numbers =
    let rest = pool_short pool bytes numbers in
    record { within = rest.within; sized = rest.sized; short = body_arm (pos 5) _ 191 (omega arith) rest.short }

sponsor_short : (ext : LedgerEntryExtensionV1) → IsIdIf ext.sponsoring_id → IsShort ledger_entry_extension_v1 47 ext
unfolding ledger_entry_extension_v1
sponsor_short ext named =
    short.short_struct entry_v1_fields (short.short_closed (pos 0) (id_if_short ext.sponsoring_id named))

extension_short : (ext : Option LedgerEntryExtensionV1) → IsIdIf (sponsor_in ext)
    → IsShort (extension_of (pos 1) ledger_entry_extension_v1) 51 ext
extension_short None named = short.no_extension (pos 1) ledger_entry_extension_v1 47
extension_short (Some ext) named =
    short.some_extension (pos 1) ledger_entry_extension_v1 47 ext (sponsor_short ext named)

entry_short : (e : LedgerEntry) → e.last_modified_ledger_seq < 4294967296 → AreEntryBytes e → AreBodyNumbers e.body
    → IsShort ledger_entry 3411 e
unfolding ledger_entry
entry_short e seq bytes numbers =
    short.short_struct entry_fields (short.short_both (short.short_u32 e.last_modified_ledger_seq seq)
    (short.short_both (body_short e.body bytes.body numbers) (extension_short e.ext bytes.sponsor)))

-- such an entry can be in a bucket's file
pub entry_encodable : (e : LedgerEntry) → e.last_modified_ledger_seq < 4294967296 → AreEntryBytes e
    → AreBodyNumbers e.body → IsEntryEncodable e
entry_encodable e seq bytes numbers =
    let found = entry_short e seq bytes numbers in
    record {
      within = found.within;
      sized = found.sized;
      short = short.longer 3411 2147483643 (omega arith) found.short;
    }

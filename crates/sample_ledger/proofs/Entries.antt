-- The entry of an account can be an item of a bucket's file.
use Rattle.sample_ledger.proofs.Prelude.{ℕ, ◌<◌, ◌≤◌, ◌^◌, length, List, [], ◌∷◌, pos, None, refl, arith, ◌==◌, true}
use Rattle.sample_ledger.proofs.Prelude.{false, ints, if◌then◌else◌, big_bytes, u32, i32, mark, mark_word, constant}
use Rattle.sample_ledger.proofs.Prelude.{signer, signer_fields, signer_key, signer_key_part, signer_key_arms}
use Rattle.sample_ledger.proofs.Prelude.{signer_hash_x, account_head, account_tail, account_fields, ledger_entry_body}
use Rattle.sample_ledger.proofs.Prelude.{entry_fields, record_of, IsEncodable, account_id, secret, signer_of, flags_of}
use Rattle.sample_ledger.proofs.Prelude.{account_entry, ledger_entry, account_count}
use Rattle.ledger_types.specs.declared.bucket.BucketEntry.TheVariants as item
use Rattle.xdr_entries.specs.Basic as basic
use Rattle.xdr_entries.specs.Entries as entries
use Rattle.xdr_entries.specs.Keys.{bucket_entry, bucket_part, bucket_arms, init_arm}
use Rattle.sample_ledger.proofs.Bytes.{bytes_listed}
use Rattle.sample_ledger.proofs.Parts.{id_short, hash_short}
use Rattle.sample_ledger.proofs.Short as short
use Rattle.sample_ledger.proofs.Short.{IsShort}

-- ---- parts of an account

signer_short : (seed account : ℕ) → IsShort signer 43 (signer_of seed account)
unfolding signer signer_key
signer_short seed account =
    short.short_struct signer_fields (short.short_both
    (short.short_union signer_key_part signer_key_arms
    (short.short_arm signer_hash_x (hash_short (secret seed account))))
    (short.short_u32 1 (omega arith)))

few_flags : (account : ℕ) → flags_of account < 2 ^ 32
few_flags account = elim (account == 0) as (λ b. (if b then 10 else 0) < 2 ^ 32) [
  | true ↦ omega arith
  | false ↦ omega arith
]

head_short : (seed account : ℕ) → account < account_count → IsShort account_head 67
    (account_id seed account, (pos 1000000000000, (pos 0, (1, (None, flags_of account)))))
unfolding account_head
head_short seed account below =
    short.short_both (id_short seed account below)
    (short.short_both (short.short_i64 (pos 1000000000000) (grind (arith, ints)))
    (short.short_both (short.short_i64 (pos 0) (grind (arith, ints)))
    (short.short_both (short.short_u32 1 (omega arith))
    (short.short_both (short.short_none basic.account_id)
    (short.short_u32 (flags_of account) (few_flags account))))))

tail_short : (seed account : ℕ)
    → IsShort account_tail 65 ([], (0 ∷ 1 ∷ 1 ∷ 1 ∷ [], (signer_of seed account ∷ [], None)))
unfolding account_tail
tail_short seed account =
    let levels : List ℕ = 0 ∷ 1 ∷ 1 ∷ 1 ∷ [] in
    short.short_both (short.short_var 32 0 [] (omega arith) (omega arith) (bytes_listed [] tt))
    (short.short_both (short.short_fixed 4 levels refl (bytes_listed levels (omega arith)))
    (short.short_both
    (short.short_list 20 1 signer 43 (signer_of seed account ∷ []) (omega arith) (omega arith)
    (signer_short seed account, tt))
    (short.no_extension (pos 1) entries.account_extension_v1)))

account_short : (seed account : ℕ) → account < account_count
    → IsShort entries.account_entry 132 (account_entry seed account)
unfolding entries.account_entry
account_short seed account below =
    short.short_struct account_fields (short.short_both (head_short seed account below) (tail_short seed account))

pub entry_short : (seed account : ℕ) → account < account_count
    → IsShort entries.ledger_entry 144 (ledger_entry seed account)
unfolding entries.ledger_entry ledger_entry_body
entry_short seed account below =
    short.short_struct entry_fields (short.short_both (short.short_u32 1 (omega arith))
    (short.short_both
    (short.short_union entries.body_part entries.body_arms (short.short_arm entries.account_arm
    (account_short seed account below)))
    (short.no_extension (pos 1) entries.ledger_entry_extension_v1)))

-- ---- items

item_short : (seed account : ℕ) → account < account_count
    → IsShort bucket_entry 148 (item.Init (ledger_entry seed account))
unfolding bucket_entry
item_short seed account below =
    short.short_union bucket_part bucket_arms
    (short.short_arm init_arm (short.short_entire (entry_short seed account below)))

-- after its mark
pub item_record_short : (seed account : ℕ) → account < account_count
    → length (record_of (item.Init (ledger_entry seed account))) ≤ 152
unfolding mark
item_record_short seed account below =
    let text = bucket_entry.encoding (item.Init (ledger_entry seed account)) in
    let word = mark_word (length text) in
    short.both_len (big_bytes 4 word) text 4 148 (short.bytes_len 4 word) (item_short seed account below).short

pub meta_record_short : length (record_of (item.Meta 18)) ≤ 16
unfolding mark bucket_entry u32 i32 constant
meta_record_short = omega arith

pub item_encodable : (seed account : ℕ) → account < account_count → IsEncodable (item.Init (ledger_entry seed account))
item_encodable seed account below =
    let entire = item_short seed account below in
    record { within = entire.within; sized = entire.sized; short = omega (arith, entire.short) }

pub meta_encodable : IsEncodable (item.Meta 18)
unfolding bucket_entry u32 i32 constant
meta_encodable = record { within = (tt, tt); sized = (omega arith, tt); short = omega arith }

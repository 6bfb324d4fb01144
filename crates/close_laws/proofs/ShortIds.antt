-- Ids, keys of signers, assets and liabilities are short.
use Rattle.close_laws.proofs.Prelude.{ℕ, List, ◌++◌, length, i32, ◌≤◌, subst, Option, arith, ints, ◌≤ℤ◌, FitsSigned}
use Rattle.close_laws.proofs.Prelude.{w64, AccountId, Hash, Signer}
use Rattle.close_laws.proofs.Prelude.{SignerKey, Liabilities, constant, optional, hash, hash_fields, account_id}
use Rattle.close_laws.proofs.Prelude.{account_id_fields, signer_key, signer, signer_fields, liabilities}
use Rattle.close_laws.proofs.Prelude.{liabilities_fields, greatest_i64, IsEncoded}
use Rattle.std.proofs.Common.{ℤ, pos}
use Rattle.close_rules.specs.ledger_types.declared.signer.SignerKey.TheVariants as signing
use Rattle.close_laws.proofs.Bytes.{IsId, IsIdIf, id_of_some}
use Rattle.close_laws.proofs.Short as short
use Rattle.close_laws.proofs.Short.{IsShort}

-- ---- ids and signers

pub id_short : (id : AccountId) → IsId id → IsShort account_id 39 id
unfolding account_id constant
id_short id encoded =
    short.short_struct account_id_fields (short.short_marked (pos 0) (short.short_fixed 32 id.0
    (record { within = encoded.within.1; sized = encoded.sized.1 })))

pub id_if_short : (found : Option AccountId) → IsIdIf found → IsShort (optional account_id) 43 found
id_if_short found named =
    short.short_option account_id 39 found (λ id is. id_short id (id_of_some id (subst IsIdIf is named)))

pub hash_short : (digest : Hash) → IsEncoded hash digest → IsShort hash 35 digest
unfolding hash
hash_short digest encoded =
    short.short_struct hash_fields (short.short_fixed 32 digest.0
    (record { within = encoded.within; sized = encoded.sized }))

-- an arm of 32 bytes; the longest arm, a signed payload, has 106
key_arm : (mark : ℤ) (bytes : List ℕ) → length bytes ≤ 35 → length (i32.encoding mark ++ bytes) ≤ 110
key_arm mark bytes few = short.marked_len mark bytes 106 (short.longer 35 106 (omega arith) few)

key_short : (key : SignerKey) → IsEncoded signer_key key → IsShort signer_key 110 key
unfolding signer_key
key_short (signing.Ed25519 key) encoded =
    let rest = short.short_fixed 32 key (record { within = encoded.within; sized = encoded.sized }) in
    record { within = rest.within; sized = rest.sized; short = key_arm (pos 0) _ rest.short }
key_short (signing.PreAuthTx digest) encoded =
    let rest = hash_short digest (record { within = encoded.within; sized = encoded.sized }) in
    record { within = rest.within; sized = rest.sized; short = key_arm (pos 1) _ rest.short }
key_short (signing.HashX digest) encoded =
    let rest = hash_short digest (record { within = encoded.within; sized = encoded.sized }) in
    record { within = rest.within; sized = rest.sized; short = key_arm (pos 2) _ rest.short }
key_short (signing.SignedPayload key payload) encoded =
    let rest = short.short_both
    (short.short_fixed 32 key (record { within = encoded.within.0; sized = encoded.sized.0 }))
    (short.short_var 64 payload (record { within = encoded.within.1; sized = encoded.sized.1 })) in
    record { within = rest.within; sized = rest.sized; short = short.marked_len (pos 3) _ 106 rest.short }

pub signer_short : (one : Signer) → IsEncoded signer_key one.key → one.weight ≤ 255 → IsShort signer 114 one
unfolding signer
signer_short one encoded le =
    short.short_struct signer_fields (short.short_both (key_short one.key encoded)
    (short.short_u32 one.weight (omega arith)))

-- ---- numbers

pub fits_i64 : (n : ℤ) → pos 0 ≤ℤ n → n ≤ℤ greatest_i64 → FitsSigned w64 n
fits_i64 n low high = grind (arith, ints)

pub liabilities_short : (owed : Liabilities) → pos 0 ≤ℤ owed.buying → owed.buying ≤ℤ greatest_i64
    → pos 0 ≤ℤ owed.selling
    → owed.selling ≤ℤ greatest_i64 → IsShort liabilities 16 owed
unfolding liabilities
liabilities_short owed low high least most =
    short.short_struct liabilities_fields (short.short_both (short.short_i64 owed.buying
    (fits_i64 owed.buying low high))
    (short.short_i64 owed.selling (fits_i64 owed.selling least most)))

-- The weight of signatures: which signers of an account count, in which order, and which signatures are used for them.
-- Source: SignatureChecker::checkSignature and SignatureUtils in stellar-core; CAP-0040 for signed payloads. That an
-- outside verifier says which Ed25519 signatures are valid is this ledger's own.
use Rattle.std.specs.Prelude.{ℕ, ◌+◌, ◌-◌, ◌&&◌, ◌||◌, nat_eq, nat_le, min, zero, suc, List, [], ◌∷◌, ◌++◌, map, drop}
use Rattle.std.specs.Prelude.{slice_index, length, replicate, filter_map, Bool, true, false, Option, Some, None}
use Rattle.std.specs.Prelude.{if◌then◌else◌}
use Rattle.std.specs.Int.Bits.{bit_xor}
use Rattle.std.specs.List.{filter, list_any}
use Rattle.std.specs.Ordering.{eq_by_cmp}
use Rattle.std.specs.Str.{bytes_eq}
use Rattle.ledger_types.specs.KeyOrder.{signer_key_cmp}
use Rattle.ledger_types.specs.declared.ids.AccountId.{AccountId}
use Rattle.ledger_types.specs.declared.ids.Hash.{Hash}
use Rattle.ledger_types.specs.declared.account.AccountEntry.{AccountEntry}
use Rattle.ledger_types.specs.declared.signer.Signer.{Signer}
use Rattle.ledger_types.specs.declared.signer.SignerKey.{SignerKey}
use Rattle.ledger_types.specs.declared.signer.SignerKey.TheVariants.{Ed25519, PreAuthTx, HashX, SignedPayload}
use Rattle.op_types.specs.declared.transaction.DecoratedSignature.{DecoratedSignature}
use Rattle.op_types.specs.declared.vouch.Vouch.{Vouch}
use Rattle.op_types.specs.declared.vouch.Vouch.TheVariants as vouching
use Rattle.hash_ids.specs.Ids.{hash_of}
use Rattle.signer_check.specs.declared.held.HeldSignature.{HeldSignature}
use Rattle.signer_check.specs.declared.kind.SignerKind.{SignerKind}
use Rattle.signer_check.specs.declared.kind.SignerKind.TheVariants as kinds

-- ---- vouches

-- whose signature a vouch says that these bytes are: a key's over the hash that is checked, or a key's over a payload
abbrev pub vouched_key : Hash → (signature : List ℕ) → Vouch → Option SignerKey
vouched_key hash signature (vouching.Hash key over bytes) =
    if bytes_eq bytes signature && bytes_eq over.0 hash.0 then Some (Ed25519 key) else None
vouched_key hash signature (vouching.Payload key payload bytes) =
    if bytes_eq bytes signature then Some (SignedPayload key payload) else None

abbrev pub vouched_keys : Hash → List Vouch → (signature : List ℕ) → List SignerKey
vouched_keys hash vouches signature = filter_map (vouched_key hash signature) vouches

-- ---- signatures and signers

-- a signature before any check: what it shows, whose it is by the vouches, and that no check used it
abbrev pub held : Hash → List Vouch → DecoratedSignature → HeldSignature
held hash vouches signature = record {
  hint = signature.hint;
  digest = hash_of signature.signature;
  vouched = vouched_keys hash vouches signature.signature;
  is_used = false;
}

-- an account's own key as a signer
abbrev pub own_signer : AccountEntry → Signer
own_signer account = record { key = Ed25519 account.account_id.0; weight = slice_index account.thresholds 0 }

-- it is a signer of the account, unless its weight is 0
abbrev pub own_signers : AccountEntry → List Signer
own_signers account = if nat_eq (slice_index account.thresholds 0) 0 then [] else own_signer account ∷ []

abbrev pub signers_of : AccountEntry → List Signer
signers_of account = account.signers ++ own_signers account

-- what a signer weighs is cut to 255
abbrev pub weight_of : Signer → ℕ
weight_of signer = min signer.weight 255

-- a pre-authorised transaction is the one with this hash
abbrev pub is_authorised : Hash → SignerKey → Bool
is_authorised hash (PreAuthTx wanted) = bytes_eq wanted.0 hash.0
is_authorised hash (Ed25519 key) = false
is_authorised hash (HashX wanted) = false
is_authorised hash (SignedPayload key payload) = false

-- the last four bytes, after which zeros stand in for missing ones
abbrev pub last_four : List ℕ → List ℕ
last_four bytes =
    let last = drop (length bytes - 4) bytes in
    last ++ replicate (4 - length last) 0

abbrev pub xor_at : List ℕ → List ℕ → ℕ → ℕ
xor_at a b index = bit_xor (slice_index a index) (slice_index b index)

-- the hint of a signed payload: that of its key, with the payload's last four bytes (CAP-0040)
abbrev pub payload_hint : (key payload : List ℕ) → List ℕ
payload_hint key payload =
    let a = drop 28 key in
    let b = last_four payload in
    xor_at a b 0 ∷ xor_at a b 1 ∷ xor_at a b 2 ∷ xor_at a b 3 ∷ []

abbrev pub is_vouched : HeldSignature → SignerKey → Bool
is_vouched signature key = list_any (eq_by_cmp signer_key_cmp key) signature.vouched

-- Whether a signature matches a signer of a kind: a hash-x signer where the key's last four bytes are its hint and the
-- key is its hash; an Ed25519 signer or a signed payload where its hint is theirs and a vouch says that it is theirs.
abbrev pub matches_key : SignerKind → HeldSignature → SignerKey → Bool
matches_key kinds.HashX signature (HashX wanted) =
    bytes_eq signature.hint (drop 28 wanted.0) && bytes_eq signature.digest.0 wanted.0
matches_key kinds.Ed25519 signature (Ed25519 key) =
    bytes_eq signature.hint (drop 28 key) && is_vouched signature (Ed25519 key)
matches_key kinds.SignedPayload signature (SignedPayload key payload) =
    bytes_eq signature.hint (payload_hint key payload) && is_vouched signature (SignedPayload key payload)
matches_key kind signature other = false

-- ---- which signers count

-- a signer that counts: what it weighs, and the index of the signature that made it count, if one did
pub record Counted : Type 0 where
  pub weight : ℕ
  pub signature : Option ℕ

-- the pre-authorised signers of this transaction
abbrev pub counted_by_hash : Hash → List Signer → List Counted
counted_by_hash hash signers =
    map (λ signer. record { weight = weight_of signer; signature = None })
    (filter (λ signer. is_authorised hash signer.key) signers)

-- the first signer of a kind that a signature matches, and the others
pub record Match : Type 0 where
  pub signer : Signer
  pub others : List Signer

abbrev pub after : Signer → Option Match → Option Match
after signer None = None
after signer (Some match_of) = Some (record { signer = match_of.signer; others = signer ∷ match_of.others })

unfoldable pub first_match : SignerKind → HeldSignature → List Signer → Option Match
first_match kind signature [] = None
first_match kind signature (signer ∷ others) =
    if matches_key kind signature signer.key then Some (record { signer = signer; others = others })
    else after signer (first_match kind signature others)

-- Each signature in turn, from an index on: it counts the first signer left of the kind that it matches, if there is
-- one. So each signer counts once.
unfoldable pub counted_by_signatures : SignerKind → ℕ → List HeldSignature → List Signer → List Counted
counted_by_signatures kind index [] left = []
counted_by_signatures kind index (signature ∷ signatures) left =
    elim (first_match kind signature left) [
      | None ↦ counted_by_signatures kind (suc index) signatures left
      | Some found ↦
          record { weight = weight_of found.signer; signature = Some index }
          ∷ counted_by_signatures kind (suc index) signatures found.others
    ]

-- All signers that count, in their order: the pre-authorised ones, and then those of each kind. A signature may count a
-- signer of each kind.
abbrev pub counted : Hash → List HeldSignature → List Signer → List Counted
counted hash signatures signers =
    counted_by_hash hash signers
    ++ (counted_by_signatures kinds.HashX 0 signatures signers
    ++ (counted_by_signatures kinds.Ed25519 0 signatures signers
    ++ counted_by_signatures kinds.SignedPayload 0 signatures signers))

-- ---- whether they reach the threshold

-- after some signer that counts, the sum of the weights so far is the threshold or more
unfoldable pub reaches : (need sum : ℕ) → List Counted → Bool
reaches need sum [] = false
reaches need sum (c ∷ cs) = nat_le need (sum + c.weight) || reaches need (sum + c.weight) cs

-- the signers that count up to the first one with which the sum reaches the threshold, or all where it never does
unfoldable pub until_reached : (need sum : ℕ) → List Counted → List Counted
until_reached need sum [] = []
until_reached need sum (c ∷ cs) =
    c ∷ (if nat_le need (sum + c.weight) then [] else until_reached need (sum + c.weight) cs)

-- ---- which signatures are used

unfoldable pub used_at : ℕ → List HeldSignature → List HeldSignature
used_at index [] = []
used_at zero (signature ∷ signatures) = record signature { is_used = true } ∷ signatures
used_at (suc index) (signature ∷ signatures) = signature ∷ used_at index signatures

abbrev pub used_by : Option ℕ → List HeldSignature → List HeldSignature
used_by None signatures = signatures
used_by (Some index) signatures = used_at index signatures

-- the signatures, of which those are used that made one of these signers count
unfoldable pub used_for : List Counted → List HeldSignature → List HeldSignature
used_for [] signatures = signatures
used_for (c ∷ cs) signatures = used_for cs (used_by c.signature signatures)

-- ---- a check of an account

-- The signers of the account that count reach the threshold.
abbrev pub succeeds : Hash → List HeldSignature → AccountEntry → ℕ → Bool
succeeds hash signatures account need = reaches need 0 (counted hash signatures (signers_of account))

-- The signatures after the check. A signature is used if it was before, or if it made a signer count up to the one that
-- reached the threshold.
abbrev pub after_check : Hash → List HeldSignature → AccountEntry → ℕ → List HeldSignature
after_check hash signatures account need =
    used_for (until_reached need 0 (counted hash signatures (signers_of account))) signatures

-- ---- a check of extra signers (CAP-0021)

-- keys as signers of weight 1 each
abbrev pub extra_signers : List SignerKey → List Signer
extra_signers keys = map (λ key. record { key = key; weight = 1 }) keys

-- all of the extra signers count; where there are none, there is no check
abbrev pub extra_succeeds : Hash → List HeldSignature → List SignerKey → Bool
extra_succeeds hash signatures [] = true
extra_succeeds hash signatures (key ∷ keys) =
    reaches (length (key ∷ keys)) 0 (counted hash signatures (extra_signers (key ∷ keys)))

abbrev pub after_extra : Hash → List HeldSignature → List SignerKey → List HeldSignature
after_extra hash signatures [] = signatures
after_extra hash signatures (key ∷ keys) =
    used_for (until_reached (length (key ∷ keys)) 0 (counted hash signatures (extra_signers (key ∷ keys)))) signatures

-- ---- a check of an account that doesn't exist

-- its own key is its one signer
abbrev pub lone_signers : AccountId → List Signer
lone_signers id = record { key = Ed25519 id.0; weight = 1 } ∷ []

-- any signer that counts is enough
abbrev pub lone_succeeds : Hash → List HeldSignature → AccountId → Bool
lone_succeeds hash signatures id = reaches 0 0 (counted hash signatures (lone_signers id))

abbrev pub after_lone : Hash → List HeldSignature → AccountId → List HeldSignature
after_lone hash signatures id = used_for (until_reached 0 0 (counted hash signatures (lone_signers id))) signatures

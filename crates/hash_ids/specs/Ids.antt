-- Ids and hashes: SHA-256 (FIPS 180-4) of the bytes that the protocol names.
use Rattle.std.specs.Prelude.{ℕ, ℤ, pos, List, ◌++◌}
use Rattle.std.specs.List.{flat_map}
use Rattle.sha2.specs.Sha256.{sha256}
use Rattle.xdr_core.specs.Leaves.{u32, i32, i64}
use Rattle.ledger_types.specs.declared.envelope_type.TheConstants.{ENVELOPE_TYPE_OP_ID, ENVELOPE_TYPE_POOL_REVOKE_OP_ID}
use Rattle.ledger_types.specs.declared.ids.AccountId.{AccountId}
use Rattle.ledger_types.specs.declared.ids.Hash.{Hash}
use Rattle.ledger_types.specs.declared.asset.Asset.{Asset}
use Rattle.xdr_entries.specs.Basic.{account_id, hash, asset, pool_params}

abbrev pub hash_of : List ℕ → Hash
hash_of text = record { 0 = sha256 text }

-- the id of the network with this passphrase
abbrev pub network_id_of : List ℕ → Hash
network_id_of passphrase = hash_of passphrase

-- the hash of a transaction from its envelope type and its encoding (TransactionSignaturePayload)
abbrev pub tx_hash_of : Hash → ℕ → List ℕ → Hash
tx_hash_of network kind tx = hash_of (network.0 ++ u32.encoding kind ++ tx)

-- the hash of a transaction set: of the hash of the ledger before it, and the encodings of its envelopes in a row
abbrev pub set_hash_of : Hash → List (List ℕ) → Hash
set_hash_of previous envelopes = hash_of (previous.0 ++ flat_map (λ envelope. envelope) envelopes)

-- the id of the claimable balance that an operation makes (OperationID)
abbrev pub balance_id_of : AccountId → ℤ → ℕ → Hash
balance_id_of source seq op =
    hash_of (i32.encoding ENVELOPE_TYPE_OP_ID ++ account_id.encoding source ++ i64.encoding seq ++ u32.encoding op)

-- the id of the claimable balance that an operation makes as it revokes an authorisation, of a pool's asset
-- (OperationID)
abbrev pub revoke_id_of : AccountId → ℤ → ℕ → Hash → Asset → Hash
revoke_id_of source seq op pool held =
    hash_of (i32.encoding ENVELOPE_TYPE_POOL_REVOKE_OP_ID ++ account_id.encoding source ++ i64.encoding seq
    ++ u32.encoding op
    ++ hash.encoding pool ++ asset.encoding held)

-- the id of the pool of two assets, whose fee is 30
abbrev pub pool_id_of : Asset → Asset → Hash
pool_id_of a b = hash_of (pool_params.encoding (record { asset_a = a; asset_b = b; fee = pos 30 }))

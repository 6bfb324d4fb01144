-- The formats of keys (LedgerKey in Stellar-ledger-entries.x) and of the items of buckets (BucketEntry in
-- Stellar-ledger.x;
-- CAP-0020).
use Rattle.std.specs.Prelude.{pos, List, [], ◌∷◌}
use Rattle.xdr_core.specs.declared.fault.XdrFault.{XdrFault}
use Rattle.xdr_core.specs.Leaves.{u32, i64, var}
use Rattle.xdr_core.specs.Combinators.{◌⨾◌, closed, entire, Arm, Part, part}
use Rattle.xdr_core.specs.Xdr.{Xdr, tag, union_of}
use Rattle.xdr_entries.specs.declared.bucket.TheConstants.{METAENTRY}
use Rattle.ledger_types.specs.declared.key.LedgerKey.{LedgerKey}
use Rattle.ledger_types.specs.declared.key.LedgerKey.TheVariants as key
use Rattle.ledger_types.specs.declared.bucket.BucketEntry.{BucketEntry}
use Rattle.ledger_types.specs.declared.bucket.BucketEntry.TheVariants as bucket
use Rattle.xdr_entries.specs.Basic.{arm, hash, account_id, claimable_balance_id, trust_line_asset}
use Rattle.xdr_entries.specs.Entries.{ledger_entry}

-- ---- keys

abbrev pub account_key : Arm XdrFault LedgerKey
account_key = arm (pos 0) account_id key.Account

abbrev pub trust_line_key : Arm XdrFault LedgerKey
trust_line_key = arm (pos 1) (account_id ⨾ trust_line_asset) (λ v. key.TrustLine v.0 v.1)

abbrev pub offer_key : Arm XdrFault LedgerKey
offer_key = arm (pos 2) (account_id ⨾ i64) (λ v. key.Offer v.0 v.1)

abbrev pub data_key : Arm XdrFault LedgerKey
data_key = arm (pos 3) (account_id ⨾ var 64) (λ v. key.Data v.0 v.1)

abbrev pub claimable_balance_key : Arm XdrFault LedgerKey
claimable_balance_key = arm (pos 4) claimable_balance_id key.ClaimableBalance

abbrev pub liquidity_pool_key : Arm XdrFault LedgerKey
liquidity_pool_key = arm (pos 5) hash key.LiquidityPool

abbrev pub key_arms : List (Arm XdrFault LedgerKey)
key_arms = account_key ∷ trust_line_key ∷ offer_key ∷ data_key ∷ claimable_balance_key ∷ liquidity_pool_key ∷ []

abbrev pub key_part : LedgerKey → Part XdrFault LedgerKey
key_part (key.Account id) = part account_key id
key_part (key.TrustLine id asset) = part trust_line_key (id, asset)
key_part (key.Offer seller offer) = part offer_key (seller, offer)
key_part (key.Data id name) = part data_key (id, name)
key_part (key.ClaimableBalance id) = part claimable_balance_key id
key_part (key.LiquidityPool id) = part liquidity_pool_key id

unfoldable pub ledger_key : Xdr LedgerKey
ledger_key = union_of key_part key_arms

-- ---- items of buckets

abbrev pub meta_arm : Arm XdrFault BucketEntry
meta_arm = arm METAENTRY (closed u32 (tag (pos 0))) bucket.Meta

abbrev pub live_arm : Arm XdrFault BucketEntry
live_arm = arm (pos 0) (entire ledger_entry) bucket.Live

abbrev pub dead_arm : Arm XdrFault BucketEntry
dead_arm = arm (pos 1) (entire ledger_key) bucket.Dead

abbrev pub init_arm : Arm XdrFault BucketEntry
init_arm = arm (pos 2) (entire ledger_entry) bucket.Init

abbrev pub bucket_arms : List (Arm XdrFault BucketEntry)
bucket_arms = meta_arm ∷ live_arm ∷ dead_arm ∷ init_arm ∷ []

abbrev pub bucket_part : BucketEntry → Part XdrFault BucketEntry
bucket_part (bucket.Meta version) = part meta_arm version
bucket_part (bucket.Live entry) = part live_arm entry
bucket_part (bucket.Dead gone) = part dead_arm gone
bucket_part (bucket.Init entry) = part init_arm entry

unfoldable pub bucket_entry : Xdr BucketEntry
bucket_entry = union_of bucket_part bucket_arms

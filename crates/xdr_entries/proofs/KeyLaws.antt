-- The laws of keys and items of buckets.
use Rattle.xdr_entries.proofs.Prelude.{pos, refl, arith, Laws, u32_laws, i64_laws, var_laws, ◌&◌, entire_laws}
use Rattle.xdr_entries.proofs.Prelude.{closed_laws, tag_laws, arm_laws, found, union_laws, IsFound}
use Rattle.ledger_types.specs.declared.key.LedgerKey.{LedgerKey}
use Rattle.ledger_types.specs.declared.key.LedgerKey.TheVariants as key
use Rattle.ledger_types.specs.declared.bucket.BucketEntry.{BucketEntry}
use Rattle.ledger_types.specs.declared.bucket.BucketEntry.TheVariants as bucket
use Rattle.xdr_entries.specs.Keys.{account_key, trust_line_key, offer_key, data_key, claimable_balance_key}
use Rattle.xdr_entries.specs.Keys.{liquidity_pool_key, key_arms, key_part, ledger_key, meta_arm, live_arm, dead_arm}
use Rattle.xdr_entries.specs.Keys.{init_arm, bucket_arms, bucket_part, bucket_entry}
use Rattle.xdr_entries.proofs.BasicLaws.{hash_laws, account_id_laws, claimable_balance_id_laws, trust_line_asset_laws}
use Rattle.xdr_entries.proofs.EntryLaws.{ledger_entry_laws}

ledger_key_found : (v : LedgerKey) → IsFound key_part key_arms v
ledger_key_found (key.Account id) = found account_key id account_id_laws tt refl refl (λ _ _ _. refl)
ledger_key_found (key.TrustLine id asset) =
    found trust_line_key (id, asset) (account_id_laws & trust_line_asset_laws) tt refl refl (λ _ _ _. refl)
ledger_key_found (key.Offer seller offer) =
    found offer_key (seller, offer) (account_id_laws & i64_laws) tt refl refl (λ _ _ _. refl)
ledger_key_found (key.Data id name) =
    found data_key (id, name) (account_id_laws & var_laws 64 (omega arith)) tt refl refl (λ _ _ _. refl)
ledger_key_found (key.ClaimableBalance id) =
    found claimable_balance_key id claimable_balance_id_laws tt refl refl (λ _ _ _. refl)
ledger_key_found (key.LiquidityPool id) = found liquidity_pool_key id hash_laws tt refl refl (λ _ _ _. refl)

pub ledger_key_laws : Laws ledger_key
unfolding ledger_key
ledger_key_laws = union_laws (
  arm_laws account_id_laws (λ x. refl),
  (
    arm_laws (account_id_laws & trust_line_asset_laws) (λ x. refl),
    (
      arm_laws (account_id_laws & i64_laws) (λ x. refl),
      (
        arm_laws (account_id_laws & var_laws 64 (omega arith)) (λ x. refl),
        (
          arm_laws claimable_balance_id_laws (λ x. refl),
          (arm_laws hash_laws (λ x. refl), tt),
        ),
      ),
    ),
  ),
)
    ledger_key_found

bucket_entry_found : (v : BucketEntry) → IsFound bucket_part bucket_arms v
bucket_entry_found (bucket.Meta version) =
    found meta_arm version (closed_laws u32_laws (tag_laws (pos 0) tt)) tt refl refl (λ _ _ _. refl)
bucket_entry_found (bucket.Live entry) =
    found live_arm entry (entire_laws ledger_entry_laws) tt refl refl (λ _ _ _. refl)
bucket_entry_found (bucket.Dead gone) = found dead_arm gone (entire_laws ledger_key_laws) tt refl refl (λ _ _ _. refl)
bucket_entry_found (bucket.Init entry) =
    found init_arm entry (entire_laws ledger_entry_laws) tt refl refl (λ _ _ _. refl)

pub bucket_entry_laws : Laws bucket_entry
unfolding bucket_entry
bucket_entry_laws = union_laws (
  arm_laws (closed_laws u32_laws (tag_laws (pos 0) tt)) (λ x. refl),
  (
    arm_laws (entire_laws ledger_entry_laws) (λ x. refl),
    (
      arm_laws (entire_laws ledger_key_laws) (λ x. refl),
      (arm_laws (entire_laws ledger_entry_laws) (λ x. refl), tt),
    ),
  ),
)
    bucket_entry_found

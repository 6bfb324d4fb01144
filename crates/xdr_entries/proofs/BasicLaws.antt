-- The laws of ids, signers, assets and prices.
use Rattle.xdr_entries.proofs.Prelude.{pos, refl, arith, Laws, u32_laws, u64_laws, i32_laws, i64_laws, fixed_laws}
use Rattle.xdr_entries.proofs.Prelude.{var_laws, empty_laws}
use Rattle.xdr_entries.proofs.Prelude.{◌&◌, struct_laws, marked_laws, tag_laws, arm_laws, found, union_laws, IsFound}
use Rattle.ledger_types.specs.declared.ids.MuxedAccount.{MuxedAccount}
use Rattle.ledger_types.specs.declared.ids.MuxedAccount.TheVariants as muxed
use Rattle.ledger_types.specs.declared.signer.SignerKey.{SignerKey}
use Rattle.ledger_types.specs.declared.signer.SignerKey.TheVariants as signing
use Rattle.ledger_types.specs.declared.asset.Asset.{Asset}
use Rattle.ledger_types.specs.declared.asset.Asset.TheVariants as held
use Rattle.ledger_types.specs.declared.asset.TrustLineAsset.{TrustLineAsset}
use Rattle.ledger_types.specs.declared.asset.TrustLineAsset.TheVariants as line
use Rattle.ledger_types.specs.declared.asset.ChangeTrustAsset.{ChangeTrustAsset}
use Rattle.ledger_types.specs.declared.asset.ChangeTrustAsset.TheVariants as change
use Rattle.xdr_entries.specs.Basic.{hash_fields, hash, account_id_fields, account_id, balance_id_fields}
use Rattle.xdr_entries.specs.Basic.{claimable_balance_id, muxed_ed25519, muxed_with_id, muxed_arms, muxed_part}
use Rattle.xdr_entries.specs.Basic.{muxed_account, signer_ed25519, signer_pre_auth, signer_hash_x, bytes64}
use Rattle.xdr_entries.specs.Basic.{signer_signed_payload, signer_key_arms}
use Rattle.xdr_entries.specs.Basic.{signer_key_part, signer_key, signer_fields, signer, native, alphanum4, alphanum12}
use Rattle.xdr_entries.specs.Basic.{asset_arms, asset_part, asset, line_native, line_alphanum4, line_alphanum12}
use Rattle.xdr_entries.specs.Basic.{line_pool, trust_line_asset_arms, trust_line_asset_part, trust_line_asset}
use Rattle.xdr_entries.specs.Basic.{pool_params_fields, pool_params, change_native, change_alphanum4, change_alphanum12}
use Rattle.xdr_entries.specs.Basic.{change_pool, change_trust_asset_arms, change_trust_asset_part, change_trust_asset}
use Rattle.xdr_entries.specs.Basic.{price_fields, price, liabilities_fields, liabilities}

-- ---- ids

pub hash_laws : Laws hash
unfolding hash
hash_laws = struct_laws hash_fields (fixed_laws 32)

pub account_id_laws : Laws account_id
unfolding account_id
account_id_laws = struct_laws account_id_fields (marked_laws (tag_laws (pos 0) tt) (fixed_laws 32))

pub claimable_balance_id_laws : Laws claimable_balance_id
unfolding claimable_balance_id
claimable_balance_id_laws = struct_laws balance_id_fields (marked_laws (tag_laws (pos 0) tt) hash_laws)

muxed_account_found : (v : MuxedAccount) → IsFound muxed_part muxed_arms v
muxed_account_found (muxed.Ed25519 key) = found muxed_ed25519 key (fixed_laws 32) tt refl refl (λ _ _ _. refl)
muxed_account_found (muxed.MuxedEd25519 id key) =
    found muxed_with_id (id, key) (u64_laws & fixed_laws 32) tt refl refl (λ _ _ _. refl)

pub muxed_account_laws : Laws muxed_account
unfolding muxed_account
muxed_account_laws = union_laws (
  arm_laws (fixed_laws 32) (λ x. refl),
  (arm_laws (u64_laws & fixed_laws 32) (λ x. refl), tt),
)
    muxed_account_found

-- ---- signers

pub bytes64_laws : Laws bytes64
bytes64_laws = var_laws 64 (omega arith)

signer_key_found : (v : SignerKey) → IsFound signer_key_part signer_key_arms v
signer_key_found (signing.Ed25519 key) = found signer_ed25519 key (fixed_laws 32) tt refl refl (λ _ _ _. refl)
signer_key_found (signing.PreAuthTx digest) = found signer_pre_auth digest hash_laws tt refl refl (λ _ _ _. refl)
signer_key_found (signing.HashX digest) = found signer_hash_x digest hash_laws tt refl refl (λ _ _ _. refl)
signer_key_found (signing.SignedPayload key payload) =
    found signer_signed_payload (key, payload) (fixed_laws 32 & bytes64_laws) tt refl refl (λ _ _ _. refl)

pub signer_key_laws : Laws signer_key
unfolding signer_key
signer_key_laws = union_laws (
  arm_laws (fixed_laws 32) (λ x. refl),
  (
    arm_laws hash_laws (λ x. refl),
    (
      arm_laws hash_laws (λ x. refl),
      (arm_laws (fixed_laws 32 & bytes64_laws) (λ x. refl), tt),
    ),
  ),
)
    signer_key_found

pub signer_laws : Laws signer
unfolding signer
signer_laws = struct_laws signer_fields (signer_key_laws & u32_laws)

-- ---- assets

asset_found : (v : Asset) → IsFound asset_part asset_arms v
asset_found held.Native = found native tt empty_laws tt refl refl (λ _ _ _. refl)
asset_found (held.Alphanum4 code issuer) =
    found alphanum4 (code, issuer) (fixed_laws 4 & account_id_laws) tt refl refl (λ _ _ _. refl)
asset_found (held.Alphanum12 code issuer) =
    found alphanum12 (code, issuer) (fixed_laws 12 & account_id_laws) tt refl refl (λ _ _ _. refl)

pub asset_laws : Laws asset
unfolding asset
asset_laws = union_laws (
  arm_laws empty_laws (λ x. refl),
  (
    arm_laws (fixed_laws 4 & account_id_laws) (λ x. refl),
    (arm_laws (fixed_laws 12 & account_id_laws) (λ x. refl), tt),
  ),
)
    asset_found

trust_line_asset_found : (v : TrustLineAsset) → IsFound trust_line_asset_part trust_line_asset_arms v
trust_line_asset_found line.Native = found line_native tt empty_laws tt refl refl (λ _ _ _. refl)
trust_line_asset_found (line.Alphanum4 code issuer) =
    found line_alphanum4 (code, issuer) (fixed_laws 4 & account_id_laws) tt refl refl (λ _ _ _. refl)
trust_line_asset_found (line.Alphanum12 code issuer) =
    found line_alphanum12 (code, issuer) (fixed_laws 12 & account_id_laws) tt refl refl (λ _ _ _. refl)
trust_line_asset_found (line.PoolShare pool) = found line_pool pool hash_laws tt refl refl (λ _ _ _. refl)

pub trust_line_asset_laws : Laws trust_line_asset
unfolding trust_line_asset
trust_line_asset_laws = union_laws (
  arm_laws empty_laws (λ x. refl),
  (
    arm_laws (fixed_laws 4 & account_id_laws) (λ x. refl),
    (
      arm_laws (fixed_laws 12 & account_id_laws) (λ x. refl),
      (arm_laws hash_laws (λ x. refl), tt),
    ),
  ),
)
    trust_line_asset_found

pub pool_params_laws : Laws pool_params
unfolding pool_params
pool_params_laws = struct_laws pool_params_fields
    (marked_laws (tag_laws (pos 0) tt) (asset_laws & asset_laws & i32_laws))

change_trust_asset_found : (v : ChangeTrustAsset) → IsFound change_trust_asset_part change_trust_asset_arms v
change_trust_asset_found change.Native = found change_native tt empty_laws tt refl refl (λ _ _ _. refl)
change_trust_asset_found (change.Alphanum4 code issuer) =
    found change_alphanum4 (code, issuer) (fixed_laws 4 & account_id_laws) tt refl refl (λ _ _ _. refl)
change_trust_asset_found (change.Alphanum12 code issuer) =
    found change_alphanum12 (code, issuer) (fixed_laws 12 & account_id_laws) tt refl refl (λ _ _ _. refl)
change_trust_asset_found (change.PoolShare params) =
    found change_pool params pool_params_laws tt refl refl (λ _ _ _. refl)

pub change_trust_asset_laws : Laws change_trust_asset
unfolding change_trust_asset
change_trust_asset_laws = union_laws (
  arm_laws empty_laws (λ x. refl),
  (
    arm_laws (fixed_laws 4 & account_id_laws) (λ x. refl),
    (
      arm_laws (fixed_laws 12 & account_id_laws) (λ x. refl),
      (arm_laws pool_params_laws (λ x. refl), tt),
    ),
  ),
)
    change_trust_asset_found

-- ---- prices

pub price_laws : Laws price
unfolding price
price_laws = struct_laws price_fields (i32_laws & i32_laws)

pub liabilities_laws : Laws liabilities
unfolding liabilities
liabilities_laws = struct_laws liabilities_fields (i64_laws & i64_laws)

-- The laws of the formats of headers and values.
use Rattle.xdr_header.proofs.Prelude.{pos, refl, arith, Laws, written, u32_laws, u64_laws, i64_laws, var_laws, ◌&◌}
use Rattle.xdr_header.proofs.Prelude.{struct_laws, entire_laws, closed_laws, tag_laws, list_laws, times_laws, arm_laws}
use Rattle.xdr_header.proofs.Prelude.{found, union_laws, extension_laws, var}
use Rattle.xdr_core.proofs.Unions.{IsFound}
use Rattle.xdr_entries.proofs.BasicLaws.{hash_laws, account_id_laws}
use Rattle.ledger_types.specs.declared.header.LedgerUpgrade.{LedgerUpgrade}
use Rattle.ledger_types.specs.declared.header.LedgerUpgrade.TheVariants as upgrade
use Rattle.xdr_header.specs.Header.{value_signature_fields, ledger_close_value_signature, value_fields, stellar_value}
use Rattle.xdr_header.specs.Header.{upgrade_version, upgrade_base_fee, upgrade_max_tx_set_size, upgrade_base_reserve}
use Rattle.xdr_header.specs.Header.{upgrade_flags, upgrade_arms, upgrade_part, ledger_upgrade, header_v1_fields}
use Rattle.xdr_header.specs.Header.{ledger_header_extension_v1, limits_fields, limits, counts_fields, counts}
use Rattle.xdr_header.specs.Header.{header_fields, ledger_header}

pub ledger_close_value_signature_laws : Laws ledger_close_value_signature
unfolding ledger_close_value_signature
ledger_close_value_signature_laws =
    struct_laws value_signature_fields (account_id_laws & var_laws 64 (omega arith))

pub upgrade_bytes_laws : Laws (var 128)
upgrade_bytes_laws = var_laws 128 (omega arith)

pub stellar_value_laws : Laws stellar_value
unfolding stellar_value
stellar_value_laws = struct_laws value_fields (
    hash_laws & u64_laws & list_laws 6 (omega arith) upgrade_bytes_laws
    & extension_laws (pos 1) refl tt ledger_close_value_signature_laws)

upgrade_found : (v : LedgerUpgrade) → IsFound upgrade_part upgrade_arms v
upgrade_found (upgrade.Version n) = found upgrade_version n u32_laws tt refl refl (λ _ _ _. refl)
upgrade_found (upgrade.BaseFee n) = found upgrade_base_fee n u32_laws tt refl refl (λ _ _ _. refl)
upgrade_found (upgrade.MaxTxSetSize n) = found upgrade_max_tx_set_size n u32_laws tt refl refl (λ _ _ _. refl)
upgrade_found (upgrade.BaseReserve n) = found upgrade_base_reserve n u32_laws tt refl refl (λ _ _ _. refl)
upgrade_found (upgrade.Flags n) = found upgrade_flags n u32_laws tt refl refl (λ _ _ _. refl)

pub ledger_upgrade_laws : Laws ledger_upgrade
unfolding ledger_upgrade
ledger_upgrade_laws = union_laws (
  arm_laws u32_laws (λ x. refl),
  (
    arm_laws u32_laws (λ x. refl),
    (
      arm_laws u32_laws (λ x. refl),
      (
        arm_laws u32_laws (λ x. refl),
        (arm_laws u32_laws (λ x. refl), tt),
      ),
    ),
  ),
)
    upgrade_found

pub ledger_header_extension_v1_laws : Laws ledger_header_extension_v1
unfolding ledger_header_extension_v1
ledger_header_extension_v1_laws = struct_laws header_v1_fields (closed_laws u32_laws (tag_laws (pos 0) tt))

limits_laws : Laws limits
unfolding limits
limits_laws = struct_laws limits_fields
    (u32_laws & u32_laws & u32_laws & times_laws 4 hash_laws
    & extension_laws (pos 1) refl tt ledger_header_extension_v1_laws)

counts_laws : Laws counts
unfolding counts
counts_laws = struct_laws counts_fields (u32_laws & i64_laws & i64_laws & u32_laws & u64_laws & limits_laws)

pub ledger_header_laws : Laws ledger_header
unfolding ledger_header
ledger_header_laws = struct_laws header_fields
    (u32_laws & hash_laws & entire_laws stellar_value_laws & hash_laws & hash_laws & counts_laws)

-- what its writer goes by
pub ruleset extension_written = (written, ledger_header_extension_v1_laws)

-- what its writer goes by
pub ruleset signature_written = (written, ledger_close_value_signature_laws)

-- The laws of ledger entries.
use Rattle.xdr_entries.proofs.Prelude.{pos, refl, arith, Laws, u32_laws, u64_laws, i32_laws, i64_laws, fixed_laws}
use Rattle.xdr_entries.proofs.Prelude.{var_laws, ◌&◌}
use Rattle.xdr_entries.proofs.Prelude.{struct_laws, entire_laws, marked_laws, closed_laws, tag_laws, option_laws}
use Rattle.xdr_entries.proofs.Prelude.{list_laws, arm_laws, found, union_laws, extension_laws, IsFound}
use Rattle.ledger_types.specs.declared.bounds.TheConstants.{MAX_SIGNERS, MAX_HOME_DOMAIN_LEN}
use Rattle.ledger_types.specs.declared.entry.LedgerEntryBody.{LedgerEntryBody}
use Rattle.ledger_types.specs.declared.entry.LedgerEntryBody.TheVariants as body
use Rattle.xdr_entries.specs.Entries.{account_v3_fields, account_extension_v3}
use Rattle.xdr_entries.specs.Entries.{account_v2_fields, account_extension_v2, account_v1_fields, account_extension_v1}
use Rattle.xdr_entries.specs.Entries.{account_head, account_tail, account_fields, account_entry, line_v2_fields}
use Rattle.xdr_entries.specs.Entries.{trust_line_extension_v2, line_v1_fields, trust_line_extension_v1, line_fields}
use Rattle.xdr_entries.specs.Entries.{trust_line_entry, offer_fields, offer_entry, data_fields, data_entry}
use Rattle.xdr_entries.specs.Entries.{claimant_fields, claimant, balance_v1_fields, claimable_balance_extension_v1}
use Rattle.xdr_entries.specs.Entries.{balance_fields, claimable_balance_entry, pool_fields, liquidity_pool_entry}
use Rattle.xdr_entries.specs.Entries.{account_arm, trust_line_arm, offer_arm, data_arm, claimable_balance_arm}
use Rattle.xdr_entries.specs.Entries.{liquidity_pool_arm, body_arms, body_part, ledger_entry_body, entry_v1_fields}
use Rattle.xdr_entries.specs.Entries.{ledger_entry_extension_v1, entry_fields, ledger_entry}
use Rattle.xdr_entries.proofs.BasicLaws.{hash_laws, account_id_laws, claimable_balance_id_laws, signer_laws, asset_laws}
use Rattle.xdr_entries.proofs.BasicLaws.{trust_line_asset_laws, pool_params_laws, price_laws, liabilities_laws}
use Rattle.xdr_entries.proofs.PredicateLaws.{claim_predicate_laws}

pub account_extension_v3_laws : Laws account_extension_v3
unfolding account_extension_v3
account_extension_v3_laws = struct_laws account_v3_fields (marked_laws (tag_laws (pos 0) tt) (u32_laws & u64_laws))

pub account_extension_v2_laws : Laws account_extension_v2
unfolding account_extension_v2
account_extension_v2_laws = struct_laws account_v2_fields
    (u32_laws & u32_laws & list_laws MAX_SIGNERS (omega arith) (option_laws account_id_laws)
    & extension_laws (pos 3) refl tt account_extension_v3_laws)

pub account_extension_v1_laws : Laws account_extension_v1
unfolding account_extension_v1
account_extension_v1_laws = struct_laws account_v1_fields
    (liabilities_laws & extension_laws (pos 2) refl tt account_extension_v2_laws)

account_head_laws : Laws account_head
unfolding account_head
account_head_laws = account_id_laws & i64_laws & i64_laws & u32_laws & option_laws account_id_laws & u32_laws

account_tail_laws : Laws account_tail
unfolding account_tail
account_tail_laws =
    var_laws MAX_HOME_DOMAIN_LEN (omega arith) & fixed_laws 4 & list_laws MAX_SIGNERS (omega arith) signer_laws
    & extension_laws (pos 1) refl tt account_extension_v1_laws

pub account_entry_laws : Laws account_entry
unfolding account_entry
account_entry_laws = struct_laws account_fields (account_head_laws & account_tail_laws)

pub trust_line_extension_v2_laws : Laws trust_line_extension_v2
unfolding trust_line_extension_v2
trust_line_extension_v2_laws = struct_laws line_v2_fields (closed_laws i32_laws (tag_laws (pos 0) tt))

pub trust_line_extension_v1_laws : Laws trust_line_extension_v1
unfolding trust_line_extension_v1
trust_line_extension_v1_laws = struct_laws line_v1_fields
    (liabilities_laws & extension_laws (pos 2) refl tt trust_line_extension_v2_laws)

pub trust_line_entry_laws : Laws trust_line_entry
unfolding trust_line_entry
trust_line_entry_laws = struct_laws line_fields
    (account_id_laws & trust_line_asset_laws & i64_laws & i64_laws & u32_laws
    & extension_laws (pos 1) refl tt trust_line_extension_v1_laws)

pub offer_entry_laws : Laws offer_entry
unfolding offer_entry
offer_entry_laws = struct_laws offer_fields
    (account_id_laws & i64_laws & asset_laws & asset_laws & i64_laws & price_laws
    & closed_laws u32_laws (tag_laws (pos 0) tt))

pub data_entry_laws : Laws data_entry
unfolding data_entry
data_entry_laws = struct_laws data_fields
    (account_id_laws & var_laws 64 (omega arith) & closed_laws (var_laws 64 (omega arith)) (tag_laws (pos 0) tt))

pub claimant_laws : Laws claimant
unfolding claimant
claimant_laws = struct_laws claimant_fields
    (marked_laws (tag_laws (pos 0) tt) (account_id_laws & entire_laws claim_predicate_laws))

pub claimable_balance_extension_v1_laws : Laws claimable_balance_extension_v1
unfolding claimable_balance_extension_v1
claimable_balance_extension_v1_laws = struct_laws balance_v1_fields (marked_laws (tag_laws (pos 0) tt) u32_laws)

pub claimable_balance_entry_laws : Laws claimable_balance_entry
unfolding claimable_balance_entry
claimable_balance_entry_laws = struct_laws balance_fields
    (claimable_balance_id_laws & list_laws 10 (omega arith) claimant_laws & asset_laws & i64_laws
    & extension_laws (pos 1) refl tt claimable_balance_extension_v1_laws)

pub liquidity_pool_entry_laws : Laws liquidity_pool_entry
unfolding liquidity_pool_entry
liquidity_pool_entry_laws = struct_laws pool_fields
    (hash_laws & pool_params_laws & i64_laws & i64_laws & i64_laws & i64_laws)

ledger_entry_body_found : (v : LedgerEntryBody) → IsFound body_part body_arms v
ledger_entry_body_found (body.Account entry) = found account_arm entry account_entry_laws tt refl refl (λ _ _ _. refl)
ledger_entry_body_found (body.TrustLine entry) =
    found trust_line_arm entry trust_line_entry_laws tt refl refl (λ _ _ _. refl)
ledger_entry_body_found (body.Offer entry) = found offer_arm entry offer_entry_laws tt refl refl (λ _ _ _. refl)
ledger_entry_body_found (body.Data entry) = found data_arm entry data_entry_laws tt refl refl (λ _ _ _. refl)
ledger_entry_body_found (body.ClaimableBalance entry) =
    found claimable_balance_arm entry claimable_balance_entry_laws tt refl refl (λ _ _ _. refl)
ledger_entry_body_found (body.LiquidityPool entry) =
    found liquidity_pool_arm entry liquidity_pool_entry_laws tt refl refl (λ _ _ _. refl)

pub ledger_entry_body_laws : Laws ledger_entry_body
unfolding ledger_entry_body
ledger_entry_body_laws = union_laws (
  arm_laws account_entry_laws (λ x. refl),
  (
    arm_laws trust_line_entry_laws (λ x. refl),
    (
      arm_laws offer_entry_laws (λ x. refl),
      (
        arm_laws data_entry_laws (λ x. refl),
        (
          arm_laws claimable_balance_entry_laws (λ x. refl),
          (arm_laws liquidity_pool_entry_laws (λ x. refl), tt),
        ),
      ),
    ),
  ),
)
    ledger_entry_body_found

pub ledger_entry_extension_v1_laws : Laws ledger_entry_extension_v1
unfolding ledger_entry_extension_v1
ledger_entry_extension_v1_laws = struct_laws entry_v1_fields
    (closed_laws (option_laws account_id_laws) (tag_laws (pos 0) tt))

pub ledger_entry_laws : Laws ledger_entry
unfolding ledger_entry
ledger_entry_laws = struct_laws entry_fields
    (u32_laws & ledger_entry_body_laws & extension_laws (pos 1) refl tt ledger_entry_extension_v1_laws)

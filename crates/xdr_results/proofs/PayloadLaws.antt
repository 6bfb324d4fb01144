-- The laws of the formats of what follows codes.
use Rattle.std.proofs.Common.{pos, refl, arith}
use Rattle.xdr_core.proofs.FormatLaws.{Laws, i64_laws, fixed_laws, empty_laws, ◌&◌, struct_laws, list_laws, arm_laws}
use Rattle.xdr_core.proofs.FormatLaws.{found, union_laws}
use Rattle.xdr_core.proofs.Unions.{IsFound}
use Rattle.xdr_entries.proofs.BasicLaws.{hash_laws, account_id_laws, asset_laws}
use Rattle.xdr_entries.proofs.EntryLaws.{offer_entry_laws}
use Rattle.ledger_types.specs.declared.claim_atom.ClaimAtom.{ClaimAtom}
use Rattle.ledger_types.specs.declared.claim_atom.ClaimAtom.TheVariants as atoms
use Rattle.op_types.specs.declared.offer_results.ManageOfferEffect.{ManageOfferEffect}
use Rattle.op_types.specs.declared.offer_results.ManageOfferEffect.TheVariants as effects
use Rattle.xdr_results.specs.Answers.{asset_amount, atom_v0, atom_order_book, atom_liquidity_pool, atom_arms, atom_part}
use Rattle.xdr_results.specs.Answers.{claim_atom, simple_fields, simple_payment_result, path_fields}
use Rattle.xdr_results.specs.Answers.{path_payment_success, effect_created, effect_updated, effect_deleted, effect_arms}
use Rattle.xdr_results.specs.Answers.{effect_part, manage_offer_effect, offer_success_fields, manage_offer_success}
use Rattle.xdr_results.specs.Answers.{payout_fields, inflation_payout}

asset_amount_laws : Laws asset_amount
asset_amount_laws = asset_laws & i64_laws

claim_atom_found : (v : ClaimAtom) → IsFound atom_part atom_arms v
claim_atom_found (atoms.V0 seller offer sold amount_sold bought amount_bought) =
    found atom_v0 (seller, (offer, ((sold, amount_sold), (bought, amount_bought))))
    (fixed_laws 32 & i64_laws & asset_amount_laws & asset_amount_laws) tt refl refl (λ _ _ _. refl)
claim_atom_found (atoms.OrderBook seller offer sold amount_sold bought amount_bought) =
    found atom_order_book (seller, (offer, ((sold, amount_sold), (bought, amount_bought))))
    (account_id_laws & i64_laws & asset_amount_laws & asset_amount_laws) tt refl refl (λ _ _ _. refl)
claim_atom_found (atoms.LiquidityPool pool sold amount_sold bought amount_bought) =
    found atom_liquidity_pool (pool, ((sold, amount_sold), (bought, amount_bought)))
    (hash_laws & asset_amount_laws & asset_amount_laws) tt refl refl (λ _ _ _. refl)

pub claim_atom_laws : Laws claim_atom
unfolding claim_atom
claim_atom_laws = union_laws (
  arm_laws (fixed_laws 32 & i64_laws & asset_amount_laws & asset_amount_laws) (λ x. refl),
  (
    arm_laws (account_id_laws & i64_laws & asset_amount_laws & asset_amount_laws) (λ x. refl),
    (arm_laws (hash_laws & asset_amount_laws & asset_amount_laws) (λ x. refl), tt),
  ),
)
    claim_atom_found

pub simple_payment_result_laws : Laws simple_payment_result
unfolding simple_payment_result
simple_payment_result_laws = struct_laws simple_fields (account_id_laws & asset_laws & i64_laws)

pub path_payment_success_laws : Laws path_payment_success
unfolding path_payment_success
path_payment_success_laws = struct_laws path_fields
    (list_laws 4294967295 (omega arith) claim_atom_laws & simple_payment_result_laws)

manage_offer_effect_found : (v : ManageOfferEffect) → IsFound effect_part effect_arms v
manage_offer_effect_found (effects.Created offer) =
    found effect_created offer offer_entry_laws tt refl refl (λ _ _ _. refl)
manage_offer_effect_found (effects.Updated offer) =
    found effect_updated offer offer_entry_laws tt refl refl (λ _ _ _. refl)
manage_offer_effect_found effects.Deleted = found effect_deleted tt empty_laws tt refl refl (λ _ _ _. refl)

pub manage_offer_effect_laws : Laws manage_offer_effect
unfolding manage_offer_effect
manage_offer_effect_laws = union_laws (
  arm_laws offer_entry_laws (λ x. refl),
  (
    arm_laws offer_entry_laws (λ x. refl),
    (arm_laws empty_laws (λ x. refl), tt),
  ),
)
    manage_offer_effect_found

pub manage_offer_success_laws : Laws manage_offer_success
unfolding manage_offer_success
manage_offer_success_laws = struct_laws offer_success_fields
    (list_laws 4294967295 (omega arith) claim_atom_laws & manage_offer_effect_laws)

pub inflation_payout_laws : Laws inflation_payout
unfolding inflation_payout
inflation_payout_laws = struct_laws payout_fields (account_id_laws & i64_laws)

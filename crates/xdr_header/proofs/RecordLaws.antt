-- The laws of the formats of vouches and records.
use Rattle.xdr_header.proofs.Prelude.{ℕ, Bool, refl, arith, Laws, written, u32_laws, ◌&◌}
use Rattle.xdr_header.proofs.Prelude.{entire_laws, list_laws, arm_laws, found, union_laws}
use Rattle.xdr_core.proofs.DependentLaws.{choice_laws, dependent_laws, known_laws, partial_laws}
use Rattle.xdr_core.proofs.FormatLaws.{fixed_laws}
use Rattle.xdr_core.proofs.Unions.{IsFound}
use Rattle.xdr_entries.proofs.BasicLaws.{bytes64_laws, hash_laws}
use Rattle.xdr_tx.proofs.TransactionLaws.{transaction_set_laws}
use Rattle.op_types.specs.declared.vouch.Vouch.{Vouch}
use Rattle.op_types.specs.declared.vouch.Vouch.TheVariants as vouching
use Rattle.xdr_header.specs.Records.{close_record, form_2, head_fields, number_after, record_fields, record_head}
use Rattle.xdr_header.specs.Records.{vouches_fields, vouches_if}
use Rattle.xdr_header.specs.Vouches.{vouch, vouch_arms, vouch_hash, vouch_part, vouch_payload}
use Rattle.xdr_header.proofs.HeaderLaws.{stellar_value_laws}
use Rattle.std.specs.Prelude.{nat_eq}

vouch_found : (v : Vouch) → IsFound vouch_part vouch_arms v
vouch_found (vouching.Hash key digest signature) =
    found vouch_hash (key, (digest, signature)) (fixed_laws 32 & hash_laws & bytes64_laws) tt refl refl (λ _ _ _. refl)
vouch_found (vouching.Payload key payload signature) =
    found vouch_payload (key, (payload, signature)) (fixed_laws 32 & bytes64_laws & bytes64_laws) tt refl refl
    (λ _ _ _. refl)

pub vouch_laws : Laws vouch
unfolding vouch
vouch_laws = union_laws (
  arm_laws (fixed_laws 32 & hash_laws & bytes64_laws) (λ x. refl),
  (arm_laws (fixed_laws 32 & bytes64_laws & bytes64_laws) (λ x. refl), tt),
)
    vouch_found

-- what its writer goes by
pub ruleset vouch_written = (written, vouch_laws)

number_laws : (word : ℕ) → Laws (number_after word)
number_laws word = choice_laws (nat_eq word form_2) u32_laws (known_laws word)

record_head_laws : Laws record_head
record_head_laws = partial_laws head_fields (dependent_laws u32_laws number_laws)

vouches_laws : (is_form_2 : Bool) → Laws (vouches_if is_form_2)
vouches_laws is_form_2 =
    choice_laws is_form_2 (partial_laws vouches_fields (list_laws 20000 (omega arith) vouch_laws)) (known_laws _)

pub close_record_laws : Laws close_record
unfolding close_record
close_record_laws =
    partial_laws record_fields
    (dependent_laws record_head_laws
    (λ head. entire_laws transaction_set_laws & entire_laws stellar_value_laws & vouches_laws head.1))

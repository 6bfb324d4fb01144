-- Payments along paths answer what can be written.
use Rattle.close_laws.proofs.Bytes.{IsId, muxed_id}
use Rattle.close_laws.proofs.Encoded.{all_encoded}
use Rattle.close_laws.proofs.Written.{IsAnswer, IsReported, all_reported, of_bytes}
use Rattle.close_rules.specs.State.{IsEncoded}
use Rattle.close_rules.specs.ledger_types.Ids.{account_of}
use Rattle.close_rules.specs.ledger_types.declared.asset.Asset.{Asset}
use Rattle.close_rules.specs.ledger_types.declared.claim_atom.ClaimAtom.{ClaimAtom}
use Rattle.close_rules.specs.ledger_types.declared.ids.AccountId.{AccountId}
use Rattle.close_rules.specs.ledger_types.declared.ids.MuxedAccount.{MuxedAccount}
use Rattle.close_rules.specs.op_payment.PathPayment.{arrived}
use Rattle.close_rules.specs.op_types.declared.payment_ops.PathPaymentStrictReceiveOp.{PathPaymentStrictReceiveOp}
use Rattle.close_rules.specs.op_types.declared.payment_ops.PathPaymentStrictSendOp.{PathPaymentStrictSendOp}
use Rattle.close_rules.specs.xdr_core.Combinators.{list}
use Rattle.close_rules.specs.xdr_core.Leaves.{i64}
use Rattle.close_rules.specs.xdr_results.Answers.{path_payment_strict_receive_result, path_payment_strict_send_result}
use Rattle.close_rules.specs.xdr_results.Answers.{path_payment_success, simple_payment_result}
use Rattle.close_rules.specs.xdr_results.Results.{operation_result, operation_result_tr}
use Rattle.close_rules.specs.xdr_tx.Operations.{operation_body, path_payment_strict_receive_op}
use Rattle.close_rules.specs.xdr_tx.Operations.{path_payment_strict_send_op}
use Rattle.std.proofs.Common.{arith}
use Rattle.std.specs.Prelude.{All, List, length, ℕ, ℤ, ◌≤◌}
use Rattle.op_payment.proofs.PathSteps.{IsPathNamed}
use Rattle.op_payment.proofs.PathsHold.{most_in_paths}
use Rattle.close_rules.specs.op_payment.PathReceive as receiving
use Rattle.close_rules.specs.op_payment.PathSend as sending
use Rattle.close_rules.specs.op_types.declared.operation.OperationBody.TheVariants as body
use Rattle.close_rules.specs.op_types.declared.payment_results.PathPaymentStrictReceiveResult.TheVariants as got_code
use Rattle.close_rules.specs.op_types.declared.payment_results.PathPaymentStrictSendResult.TheVariants as sent_code
use Rattle.close_rules.specs.xdr_entries.Basic as basic

-- ---- what is asked for

-- what a payment along a path names, and where it goes, can be written
pub record IsPathAsked (first : Asset) (path : List Asset) (last : Asset) (destination : MuxedAccount) : Type 0 where
  pub named : IsPathNamed of_bytes first path last
  pub id : IsId (account_of destination)

pub received_named : (op : PathPaymentStrictReceiveOp) → IsEncoded operation_body (body.PathPaymentStrictReceive op)
    → IsPathAsked op.send_asset op.path op.dest_asset op.destination
unfolding operation_body path_payment_strict_receive_op list
received_named op encoded =
    let rest = encoded.within.1.1 in
    let sizes = encoded.sized.1.1 in
    record {
      named = record {
        from = record { within = encoded.within.0; sized = encoded.sized.0 };
        between = all_encoded basic.asset op.path rest.1.1.1.1 sizes.1.1.1;
        few = λ asks. rest.1.1.1.0;
        to = record { within = rest.1.0; sized = sizes.1.0 };
      };
      id = muxed_id op.destination (record { within = rest.0; sized = sizes.0 });
    }

pub sent_named : (op : PathPaymentStrictSendOp) → IsEncoded operation_body (body.PathPaymentStrictSend op)
    → IsPathAsked op.send_asset op.path op.dest_asset op.destination
unfolding operation_body path_payment_strict_send_op list
sent_named op encoded =
    let rest = encoded.within.1.1 in
    let sizes = encoded.sized.1.1 in
    record {
      named = record {
        from = record { within = encoded.within.0; sized = encoded.sized.0 };
        between = all_encoded basic.asset op.path rest.1.1.1.1 sizes.1.1.1;
        few = λ asks. rest.1.1.1.0;
        to = record { within = rest.1.0; sized = sizes.1.0 };
      };
      id = muxed_id op.destination (record { within = rest.0; sized = sizes.0 });
    }

-- ---- what arrived

listed : (n : ℕ) → n ≤ most_in_paths → n ≤ 4294967295
listed n le = omega arith

arrived_within : (atoms : List ClaimAtom) (destination : AccountId) (last : Asset) (amount : ℤ)
    → length atoms ≤ most_in_paths → All IsReported atoms → IsId destination → basic.asset.within last
    → path_payment_success.within (arrived atoms destination last amount)
unfolding path_payment_success simple_payment_result list i64
arrived_within atoms destination last amount few reported id named =
    ((listed (length atoms) few, all_reported atoms reported), (id.within, (named, tt)))

pub received_arrived : (atoms : List ClaimAtom) (destination : AccountId) (last : Asset) (amount : ℤ)
    → length atoms ≤ most_in_paths → All IsReported atoms → IsId destination → basic.asset.within last
    → IsAnswer (receiving.answer (got_code.Success (arrived atoms destination last amount)))
unfolding operation_result operation_result_tr path_payment_strict_receive_result
received_arrived atoms destination last amount few reported id named =
    record { within = arrived_within atoms destination last amount few reported id named }

pub sent_arrived : (atoms : List ClaimAtom) (destination : AccountId) (last : Asset) (amount : ℤ)
    → length atoms ≤ most_in_paths → All IsReported atoms → IsId destination → basic.asset.within last
    → IsAnswer (sending.answer (sent_code.Success (arrived atoms destination last amount)))
unfolding operation_result operation_result_tr path_payment_strict_send_result
sent_arrived atoms destination last amount few reported id named =
    record { within = arrived_within atoms destination last amount few reported id named }

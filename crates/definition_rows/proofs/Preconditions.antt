-- Preconditions, signed payloads, the third extension of accounts and the codes that protocol 19 brought, laid out by
-- hand from the protocol's XDR (CAP-0021, CAP-0040).
use Rattle.definition_rows.proofs.Prelude.{◌≡◌, refl, pos, true, ◌&&◌, ◌++◌, List, [], ◌∷◌, replicate, Short, Padding}
use Rattle.definition_rows.proofs.Prelude.{BadEnum, BadFlag, TooLong, Hash, signer_key, account_extension_v3}
use Rattle.definition_rows.proofs.Prelude.{preconditions, transaction, transaction_v0, transaction_outcome}
use Rattle.definition_rows.proofs.Prelude.{inner_transaction_outcome}
use Rattle.std.specs.Prelude.{Some, None}
use Rattle.ledger_types.specs.declared.signer.SignerKey.TheVariants as signer
use Rattle.op_types.specs.declared.preconditions.Preconditions.TheVariants as conditions
use Rattle.op_types.specs.declared.preconditions.PreconditionsV2.{PreconditionsV2}
use Rattle.op_types.specs.declared.transaction_result.InnerTransactionOutcome.TheVariants as inner
use Rattle.op_types.specs.declared.transaction_result.TransactionOutcome.TheVariants as outcome
use Rattle.definition_rows.proofs.Rows.{hex}
use Rattle.definition_rows.proofs.Readings.{is_encoding, has_value, has_fault}
use Rattle.definition_rows.proofs.Opened.{entries_formats, transactions_formats, results_formats}

abbrev one : Hash
one = record { 0 = replicate 32 1 }

abbrev nothing_asked : PreconditionsV2
nothing_asked = record {
  time_bounds = None;
  ledger_bounds = None;
  min_seq_num = None;
  min_seq_age = 0;
  min_seq_ledger_gap = 0;
  extra_signers = [];
}

abbrev all_asked : PreconditionsV2
all_asked = record {
  time_bounds = Some (record { min_time = 1; max_time = 2 });
  ledger_bounds = Some (record { min_ledger = 3; max_ledger = 4 });
  min_seq_num = Some (pos 5);
  min_seq_age = 6;
  min_seq_ledger_gap = 7;
  extra_signers = signer.HashX one ∷ signer.SignedPayload (replicate 32 2) (9 ∷ []) ∷ [];
}

preconditions_of_each_form : (is_encoding preconditions conditions.None (hex "00000000")
    && is_encoding preconditions (conditions.Time (record { min_time = 1; max_time = 2 }))
    (hex "0000000100000000000000010000000000000002")
    && is_encoding preconditions (conditions.V2 nothing_asked)
    (hex "0000000200000000000000000000000000000000000000000000000000000000")
    && is_encoding preconditions (conditions.V2 all_asked)
    (hex "0000000200000001000000000000000100000000000000020000000100000003000000040000000100000000000000050000"
    ++ hex "0000000000060000000700000002000000020101010101010101010101010101010101010101010101010101010101010101"
    ++ hex "0000000302020202020202020202020202020202020202020202020202020202020202020000000109000000")
    && has_value preconditions 32 (hex "0000000200000000000000000000000000000000000000000000000000000000")
    && has_value preconditions 144
    (hex "0000000200000001000000000000000100000000000000020000000100000003000000040000000100000000000000050000"
    ++ hex "0000000000060000000700000002000000020101010101010101010101010101010101010101010101010101010101010101"
    ++ hex "0000000302020202020202020202020202020202020202020202020202020202020202020000000109000000")) ≡ true
unfolding hex is_encoding has_value transactions_formats
preconditions_of_each_form = refl

faults_of_preconditions : (has_fault preconditions BadEnum 0 (hex "00000003")
    && has_fault preconditions Short 8 (hex "0000000100000000")
    && has_fault preconditions BadFlag 4 (hex "0000000200000002")
    && has_fault preconditions TooLong 28
    (hex "0000000200000000000000000000000000000000000000000000000000000003")) ≡ true
unfolding hex has_fault transactions_formats
faults_of_preconditions = refl

-- the same word is an arm of a transaction and a flag of its first version
second_form_is_no_flag : (has_value transaction 92
    (hex "000000000a0a0a0a0a0a0a0a0a0a0a0a0a0a0a0a0a0a0a0a0a0a0a0a0a0a0a0a0a0a0a0a0000006400000000000000080000"
    ++ hex "000200000000000000000000000000000000000000000000000000000000000000000000000000000000")
    && has_fault transaction BadEnum 48
    (hex "000000000a0a0a0a0a0a0a0a0a0a0a0a0a0a0a0a0a0a0a0a0a0a0a0a0a0a0a0a0a0a0a0a0000006400000000000000080000"
    ++ hex "0003")
    && has_fault transaction_v0 BadFlag 44
    (hex "0a0a0a0a0a0a0a0a0a0a0a0a0a0a0a0a0a0a0a0a0a0a0a0a0a0a0a0a0a0a0a0a00000064000000000000000800000002")
    && has_fault transaction_v0 BadFlag 44
    (hex "0a0a0a0a0a0a0a0a0a0a0a0a0a0a0a0a0a0a0a0a0a0a0a0a0a0a0a0a0a0a0a0a00000064000000000000000800000003")) ≡ true
unfolding hex has_value has_fault transactions_formats
second_form_is_no_flag = refl

-- a payload has at most 64 bytes, of any values
signed_payloads : (has_value signer_key 40
    (hex "00000003070707070707070707070707070707070707070707070707070707070707070700000000")
    && has_value signer_key 104
    (hex "00000003070707070707070707070707070707070707070707070707070707070707070700000040ffffffffffffffffffff"
    ++ hex "ffffffffffffffffffffffffffffffffffffffffffffffffffffffffffffffffffffffffffffffffffffffffffffffffffff"
    ++ hex "ffffffff")
    && has_fault signer_key TooLong 36
    (hex "00000003070707070707070707070707070707070707070707070707070707070707070700000041")
    && has_fault signer_key Padding 41
    (hex "00000003070707070707070707070707070707070707070707070707070707070707070700000001" ++ hex "05010000")
    && has_fault signer_key BadEnum 0 (hex "00000004")) ≡ true
unfolding hex has_value has_fault entries_formats
signed_payloads = refl

third_extensions : (is_encoding account_extension_v3 (record { seq_ledger = 3; seq_time = 4 })
    (hex "00000000000000030000000000000004")
    && has_fault account_extension_v3 BadEnum 0 (hex "00000001000000030000000000000004")) ≡ true
unfolding hex is_encoding has_fault entries_formats
third_extensions = refl

codes_below_minus_14 : (is_encoding transaction_outcome outcome.BadMinSeqAgeOrGap (hex "fffffff1")
    && is_encoding transaction_outcome outcome.Malformed (hex "fffffff0")
    && is_encoding inner_transaction_outcome inner.BadMinSeqAgeOrGap (hex "fffffff1")
    && is_encoding inner_transaction_outcome inner.Malformed (hex "fffffff0")
    && has_fault transaction_outcome BadEnum 0 (hex "ffffffef")
    && has_fault inner_transaction_outcome BadEnum 0 (hex "ffffffef")) ≡ true
unfolding hex is_encoding has_fault results_formats
codes_below_minus_14 = refl

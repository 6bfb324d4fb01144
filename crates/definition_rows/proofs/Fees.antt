-- Sets laid out by hand: the order of their transactions, their hashes by another SHA-256, and what they charge. The
-- contracts of fee_rules name these definitions.
use Rattle.definition_rows.proofs.Prelude as prelude
use prelude.{◌≡◌, refl, ℕ, ℤ, pos, List, [], ◌∷◌, Bool, true, false, ◌&&◌, Ok, Err, bytes_eq, sha256, first_words}
use prelude.{schedule, rounds, compress, hash_after, digest_bytes, LedgerHeader, XdrFault, Reading, start_of, u32, i32}
use prelude.{i64, flag, fixed, count, opaque_at, constant, option, list, many_at, hash, muxed_account, operation}
use prelude.{operation_body, second_body_arms, preconditions, memo, transaction_tail, transaction}
use prelude.{fee_bump_transaction}
use prelude.{transaction_v1_envelope, fee_bump_envelope, transaction_envelope, transaction_set}
use Rattle.std.proofs.Common.{◌++◌}
use Rattle.op_types.specs.declared.transaction.TransactionEnvelope.{TransactionEnvelope}
use Rattle.op_types.specs.declared.transaction.TransactionSet.{TransactionSet}
use Rattle.fee_rules.specs.Ranking.{first_ranked}
use Rattle.fee_rules.specs.SetHash.{hash_of_set}
use Rattle.fee_rules.specs.Turns.{mixed_bytes, indices_in_order, apply_order_of}
use Rattle.fee_rules.specs.Fees.{least_bid, set_base_fee, fee_charged}
use Rattle.definition_rows.proofs.Rows.{hex}

abbrev decoded_passes : (TransactionSet → Bool) → Reading XdrFault TransactionSet → Bool
decoded_passes test (Ok x) = test x.0
decoded_passes test (Err fault) = false

-- The set that bytes decode to passes a test.
unfoldable set_passes : (encoding : List ℕ) → (TransactionSet → Bool) → Bool
unfolding transaction_set hash transaction_envelope transaction_v1_envelope fee_bump_envelope transaction
    fee_bump_transaction transaction_tail preconditions memo muxed_account operation operation_body second_body_arms
    constant option list
    many_at u32 i32 i64 flag fixed count opaque_at hex
set_passes encoding test = decoded_passes test (transaction_set.read (start_of encoding))

-- ---- order and hash

-- Its transactions are applied in this order of their indices.
unfoldable is_order : (indices : List ℕ) → TransactionSet → Bool
unfolding sha256 first_words schedule rounds compress hash_after digest_bytes first_ranked hash_of_set mixed_bytes
    indices_in_order
is_order indices set = bytes_eq (apply_order_of set) indices

unfoldable is_hash : (expected : List ℕ) → TransactionSet → Bool
unfolding sha256 first_words schedule rounds compress hash_after digest_bytes first_ranked hash_of_set
is_hash expected set = bytes_eq (hash_of_set set).0 expected

-- three transactions of one source, with the sequence numbers 3, 1 and 2
abbrev one_source : List ℕ
one_source =
    hex "5555555555555555555555555555555555555555555555555555555555555555000000030000000200000000010101010101"
    ++ hex "0101010101010101010101010101010101010101010101010101000000640000000000000003000000000000000000000001"
    ++ hex "0000000000000009000000000000000000000002000000000101010101010101010101010101010101010101010101010101"
    ++ hex "0101010101010000006400000000000000010000000000000000000000010000000000000009000000000000000000000002"
    ++ hex "0000000001010101010101010101010101010101010101010101010101010101010101010000006400000000000000020000"
    ++ hex "0000000000000000000100000000000000090000000000000000"

-- the same transaction of one source twice, and one of another source, which is in a fee bump too
abbrev two_sources : List ℕ
two_sources =
    hex "5555555555555555555555555555555555555555555555555555555555555555000000040000000200000000050505050505"
    ++ hex "0505050505050505050505050505050505050505050505050505000000640000000000000001000000000000000000000001"
    ++ hex "0000000000000009000000000000000000000002000000000606060606060606060606060606060606060606060606060606"
    ++ hex "0606060606060000006400000000000000010000000000000000000000010000000000000009000000000000000000000002"
    ++ hex "0000000005050505050505050505050505050505050505050505050505050505050505050000006400000000000000010000"
    ++ hex "0000000000000000000100000000000000090000000000000000000000050000000009090909090909090909090909090909"
    ++ hex "0909090909090909090909090909090900000000000001900000000200000000060606060606060606060606060606060606"
    ++ hex "0606060606060606060606060606000000640000000000000001000000000000000000000001000000000000000900000000"
    ++ hex "000000000000000000000000"

transactions_of_one_source_go_by_their_sequence_numbers :
    set_passes one_source (is_order (1 ∷ 2 ∷ 0 ∷ [])) ≡ true
unfolding set_passes is_order
transactions_of_one_source_go_by_their_sequence_numbers = refl

the_first_of_each_source_go_first_and_equal_ones_by_index :
    set_passes two_sources (is_order (0 ∷ 3 ∷ 2 ∷ 1 ∷ [])) ≡ true
unfolding set_passes is_order
the_first_of_each_source_go_first_and_equal_ones_by_index = refl

-- SHA-256 of 32 bytes 55 and of its envelopes in the order of their hashes
abbrev hash_of_one_source : List ℕ
hash_of_one_source = hex "ad75c81d67b8c30a6975730f32a4e2a5ba95a206aa16ff2292e097bb9b437cfd"

-- the same of the other set
abbrev hash_of_two_sources : List ℕ
hash_of_two_sources = hex "890b384b613fc12ed863881c928f68544ccc8dca6e25afa88a12b5f39f6f3675"

hashes_are_those_of_another_sha256 : (
    set_passes one_source (is_hash hash_of_one_source)
    && set_passes two_sources (is_hash hash_of_two_sources)) ≡ true
unfolding set_passes is_hash
hashes_are_those_of_another_sha256 = refl

-- ---- fees

-- transactions of 2, 1 and 0 operations, which bid 300, 120 and 5
abbrev three_bids : List ℕ
three_bids =
    hex "5555555555555555555555555555555555555555555555555555555555555555000000030000000200000000010101010101"
    ++ hex "01010101010101010101010101010101010101010101010101010000012c0000000000000001000000000000000000000002"
    ++ hex "0000000000000009000000000000000900000000000000000000000200000000020202020202020202020202020202020202"
    ++ hex "0202020202020202020202020202000000780000000000000001000000000000000000000001000000000000000900000000"
    ++ hex "0000000000000002000000000303030303030303030303030303030303030303030303030303030303030303000000050000"
    ++ hex "0000000000010000000000000000000000000000000000000000"

abbrev charges : (fee : ℕ) → List TransactionEnvelope → List ℤ → List ℕ
charges fee (envelope ∷ envelopes) (balance ∷ balances) =
    fee_charged fee envelope balance ∷ charges fee envelopes balances
charges fee envelopes balances = []

-- what an operation of a set costs at a base fee of 100, and what its transactions are charged where each has 1000 but
-- the third 3
abbrev charged : LedgerHeader → (max_tx_set_size : ℕ) → TransactionSet → List ℕ
charged any max_tx_set_size set =
    let header = record any { base_fee = 100; max_tx_set_size = max_tx_set_size } in
    let fee = set_base_fee header set.txs in fee ∷ charges fee set.txs (pos 1000 ∷ pos 1000 ∷ pos 3 ∷ [])

a_set_in_surge_costs_its_least_bid : (any : LedgerHeader)
    → (set_passes three_bids (λ set. bytes_eq (charged any 102 set) (120 ∷ 240 ∷ 120 ∷ 3 ∷ []))
    && set_passes three_bids (λ set. bytes_eq (charged any 103 set) (100 ∷ 200 ∷ 100 ∷ 3 ∷ []))) ≡ true
unfolding set_passes least_bid
a_set_in_surge_costs_its_least_bid any = refl

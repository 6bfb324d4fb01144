-- Hashes of envelopes laid out by hand, which another SHA-256 makes of their preimages, and the published hash of the
-- public network's first ledger. The contracts of value_hashes name these definitions.
use Rattle.definition_rows.proofs.Prelude as prelude
use prelude.{◌≡◌, refl, ℕ, List, replicate, Bool, true, false, ◌&&◌, Ok, Err, bytes_eq, sha256, first_words, schedule}
use prelude.{rounds, compress, hash_after, digest_bytes, Hash, XdrFault, Reading, start_of, u32, u64, i32, i64, flag}
use prelude.{fixed, var, count, opaque_at, constant, option, list, many_at, times, extension, Xdr, hash, muxed_account}
use prelude.{operation, operation_body, second_body_arms, bump_sequence_op, preconditions, memo, decorated_signature}
use prelude.{transaction_tail}
use prelude.{transaction, transaction_v0, fee_bump_transaction, transaction_v1_envelope, transaction_v0_envelope}
use prelude.{fee_bump_envelope, transaction_envelope, transaction_result_set, stellar_value, limits, counts}
use prelude.{ledger_header}
use Rattle.std.proofs.Common.{◌++◌}
use Rattle.value_hashes.specs.Hashes.{signed_hash_of, envelope_hash_of, ledger_hash_of, results_hash_of}
use Rattle.definition_rows.proofs.Rows.{hex}

abbrev is_hash : {V : Type 0} → (V → Hash) → List ℕ → Reading XdrFault V → Bool
is_hash hash_of expected (Ok x) = bytes_eq (hash_of x.0).0 expected
is_hash hash_of expected (Err fault) = false

-- The value that bytes decode to has this hash.
unfoldable has_hash : {V : Type 0} → Xdr V → (V → Hash) → (encoding expected : List ℕ) → Bool
unfolding sha256 first_words schedule rounds compress hash_after digest_bytes hex
has_hash format hash_of encoding expected = is_hash hash_of expected (format.read (start_of encoding))

-- the id of the test network
abbrev test_network : Hash
test_network = record { 0 = hex "cee0302d59844d32bdca915c8203dd44b33fbb7edc19051ea37abedf28ecd472" }

-- a transaction that bumps a sequence number to 9, with one signature
abbrev bump_sequence : List ℕ
bump_sequence =
    hex "0000000200000000010101010101010101010101010101010101010101010101010101010101010100000064000000000000"
    ++ hex "0008000000000000000000000001000000000000000b00000000000000090000000000000001f527a25b0000000673656372"
    ++ hex "65740000"

-- the same transaction in its first version, whose source is a bare key
abbrev bump_sequence_v0 : List ℕ
bump_sequence_v0 =
    hex "0000000001010101010101010101010101010101010101010101010101010101010101010000006400000000000000080000"
    ++ hex "00000000000000000001000000000000000b00000000000000090000000000000001f527a25b000000067365637265740000"

-- a fee bump of 400 stroops over that transaction, without signatures
abbrev fee_bump : List ℕ
fee_bump =
    hex "0000000500000000020202020202020202020202020202020202020202020202020202020202020200000000000001900000"
    ++ hex "0002000000000101010101010101010101010101010101010101010101010101010101010101000000640000000000000008"
    ++ hex "000000000000000000000001000000000000000b00000000000000090000000000000001f527a25b00000006736563726574"
    ++ hex "00000000000000000000"

-- the header of the public network's first ledger
abbrev first_header : List ℕ
first_header =
    hex "0000000000000000000000000000000000000000000000000000000000000000000000000000000000000000000000000000"
    ++ hex "0000000000000000000000000000000000000000000000000000000000000000000000000000000000000000000000000000"
    ++ hex "00000000000000000000000000000000572a2e32ff248a07b0e70fd1f6d318c1facd20b6cc08c33d5775259868125a160000"
    ++ hex "00010de0b6b3a764000000000000000000000000000000000000000000000000006405f5e100000000640000000000000000"
    ++ hex "0000000000000000000000000000000000000000000000000000000000000000000000000000000000000000000000000000"
    ++ hex "0000000000000000000000000000000000000000000000000000000000000000000000000000000000000000000000000000"
    ++ hex "000000000000000000000000000000000000000000000000"

-- SHA-256 of the network's id, 00000002 and the transaction
abbrev hash_of_bump_sequence : List ℕ
hash_of_bump_sequence = hex "3228a4b1b39f5d9c190c5a1be5814b05f59bde2b924961b7060e81f5604a8303"

-- SHA-256 of the network's id, 00000005 and the fee bump
abbrev hash_of_fee_bump : List ℕ
hash_of_fee_bump = hex "a22b51881178aebf32526979619b66830a72b9143de38077e17ef2370168b3e4"

-- SHA-256 of the first encoding
abbrev hash_of_envelope : List ℕ
hash_of_envelope = hex "c6f6ef28835811d8cb02b79b07d39af4955141d83e97abde5bf845f5e3b3aff9"

-- the hash of that ledger, as the network publishes it
abbrev first_ledger : List ℕ
first_ledger = hex "63d98f536ee68d1b27b5b89f23af5311b7569a24faf1403ad0b52b633b07be99"

-- SHA-256 of four zero bytes
abbrev no_results : List ℕ
no_results = hex "df3f619804a92fdb4057192dc43dd748ea778adc52bc498ce80524c014b81119"

transactions_have_the_hashes_that_another_sha256_makes : (
    has_hash transaction_envelope (signed_hash_of test_network) bump_sequence hash_of_bump_sequence
    && has_hash transaction_envelope (signed_hash_of test_network) bump_sequence_v0 hash_of_bump_sequence
    && has_hash transaction_envelope (signed_hash_of test_network) fee_bump hash_of_fee_bump
    && has_hash transaction_envelope envelope_hash_of bump_sequence hash_of_envelope) ≡ true
unfolding has_hash transaction_envelope transaction_v1_envelope transaction_v0_envelope fee_bump_envelope transaction
    transaction_v0 fee_bump_transaction transaction_tail preconditions decorated_signature memo muxed_account operation
    operation_body second_body_arms bump_sequence_op constant option list many_at u32 i32 i64 flag fixed var count
    opaque_at
transactions_have_the_hashes_that_another_sha256_makes = refl

the_first_ledger_has_the_hash_that_the_network_published :
    has_hash ledger_header ledger_hash_of first_header first_ledger ≡ true
unfolding has_hash ledger_header stellar_value counts limits hash list many_at times extension u32 u64 i32 i64 fixed var
    count opaque_at
the_first_ledger_has_the_hash_that_the_network_published = refl

results_have_the_hash_that_another_sha256_makes :
    has_hash transaction_result_set results_hash_of (replicate 4 0) no_results ≡ true
unfolding has_hash transaction_result_set list many_at count
results_have_the_hash_that_another_sha256_makes = refl

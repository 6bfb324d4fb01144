-- A record has no more transactions than bytes.
use Rattle.close_laws.proofs.Prelude.{◌≡◌, ℕ, ◌≤◌, List, [], ◌∷◌, ◌++◌, length, Ok, Err, refl, ap, subst, arith}
use Rattle.close_laws.proofs.Prelude.{length-append, XdrFault, IsBytes, Position, Reading, start_of, ◌>>=◌}
use Rattle.close_laws.proofs.Prelude.{transaction_set, CloseRecord, stellar_value, close_record, close_record_laws}
use Rattle.close_laws.proofs.Prelude.{ended_by, ended, record_in}
use Rattle.close_rules.specs.xdr_header.Records.{record_head, vouches_if}
use Rattle.close_rules.proofs.tx_apply_proofs.FewOperations.{few_transactions}
use Rattle.std.specs.Prelude.{is_some}

-- ---- the bytes of a record are its encoding

pub ended_is : (rest : List ℕ) (p : Position) (found closing : CloseRecord) → ended_by rest p found ≡ Ok closing
    → found ≡ closing
ended_is [] p found closing is = cc
ended_is (byte ∷ rest) p found closing is = absurd (cc)

begins : (bytes text rest : List ℕ) → bytes ≡ text ++ rest → length text ≤ length bytes
begins bytes text rest is = let same = ap length is in omega (arith, same, length-append text rest)

reading_len : (bytes : List ℕ) (read : Reading XdrFault CloseRecord) (closing : CloseRecord) → IsBytes bytes
    → close_record.read (start_of bytes) ≡ read → (read >>= ended) ≡ Ok closing
    → length (close_record.encoding closing) ≤ length bytes
reading_len bytes (Err wrong) closing text is reads = absurd (cc)
reading_len bytes (Ok x) closing text is reads =
    let encoded = close_record_laws.lawful.takes (start_of bytes) x.1 x.0 text is in
    subst (λ (found : CloseRecord). length (close_record.encoding found) ≤ length bytes)
    (ended_is x.1.rest x.1 x.0 closing reads)
    (begins bytes (close_record.encoding x.0) x.1.rest encoded.taken.parts)

record_len : (bytes : List ℕ) (closing : CloseRecord) → IsBytes bytes → record_in bytes ≡ Ok closing
    → length (close_record.encoding closing) ≤ length bytes
unfolding record_in
record_len bytes closing text reads =
    reading_len bytes (close_record.read (start_of bytes)) closing text refl reads

-- ---- its set is a part of it

middle : (first part last : List ℕ) → length part ≤ length (first ++ (part ++ last))
middle first part last = omega (arith, length-append first (part ++ last), length-append part last)

set_len : (closing : CloseRecord)
    → length (transaction_set.encoding closing.tx_set) ≤ length (close_record.encoding closing)
unfolding close_record
set_len closing = middle (record_head.encoding (closing.ledger_seq, is_some closing.vouches))
    (transaction_set.encoding closing.tx_set)
    (stellar_value.encoding closing.scp_value ++ (vouches_if (is_some closing.vouches)).encoding closing.vouches)

pub record_few : {most : ℕ} (bytes : List ℕ) (closing : CloseRecord) → IsBytes bytes → record_in bytes ≡ Ok closing
    → length bytes ≤ most → length closing.tx_set.txs ≤ most
record_few bytes closing text reads few =
    all (few_transactions closing.tx_set) (set_len closing) (record_len bytes closing text reads) few
  where
    all : {a b c d e : ℕ} → a ≤ b → b ≤ c → c ≤ d → d ≤ e → a ≤ e
    all h g k l = omega arith

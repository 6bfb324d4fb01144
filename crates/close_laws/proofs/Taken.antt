-- Bytes that are taken are a record that closes a ledger.
use Rattle.close_laws.proofs.Prelude.{◌≡◌, ℕ, refl, subst, List, Ok, Err, XdrFault, IsBytes, Reading, start_of, ◌>>=◌}
use Rattle.close_laws.proofs.Prelude.{CloseRecord, close_record, close_record_laws, IsEncoded, ended, record_in}
use Rattle.close_laws.proofs.Prelude.{TakenIsClosable}
use Rattle.close_laws.proofs.FewOfRecords.{ended_is, record_few}

-- a record that was read has an encoding
reading_encoded : (bytes : List ℕ) (read : Reading XdrFault CloseRecord) (closing : CloseRecord) → IsBytes bytes
    → close_record.read (start_of bytes) ≡ read → (read >>= ended) ≡ Ok closing → IsEncoded close_record closing
reading_encoded bytes (Err wrong) closing text is reads = absurd (cc)
reading_encoded bytes (Ok x) closing text is reads =
    let encoded = close_record_laws.lawful.takes (start_of bytes) x.1 x.0 text is in
    subst (IsEncoded close_record) (ended_is x.1.rest x.1 x.0 closing reads)
    (record { within = encoded.within; sized = encoded.sized })

pub record_encoded : (bytes : List ℕ) (closing : CloseRecord) → IsBytes bytes → record_in bytes ≡ Ok closing
    → IsEncoded close_record closing
unfolding record_in
record_encoded bytes closing text reads =
    reading_encoded bytes (close_record.read (start_of bytes)) closing text refl reads

pub taken_is_closable : TakenIsClosable
taken_is_closable s bytes taken state few = record {
  state = state;
  encoded = record_encoded bytes taken.closing taken.text taken.reads;
  unrefused = taken.unrefused;
  few = record_few bytes taken.closing taken.text taken.reads few;
}

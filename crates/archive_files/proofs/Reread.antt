-- The file of values is read as these values.
use Rattle.archive_files.proofs.Prelude.{AreEncodable, AreFacts, IsEncodable, Lawful, List, Ok, Position, Reading}
use Rattle.archive_files.proofs.Prelude.{Result, Xdr, XdrFault, [], ap, append-nil, arith, ended, entire_at, fact_in}
use Rattle.archive_files.proofs.Prelude.{facts_of, file_of, header_fact, length, max_record_len, record_of, refl}
use Rattle.archive_files.proofs.Prelude.{results_fact, set_fact, sym, transaction_history_entry, ℕ, ◌++◌, ◌+◌, ◌>>=◌}
use Rattle.archive_files.proofs.Prelude.{◌∙◌, ◌∷◌, ◌≡◌}
use Rattle.xdr_core.proofs.FormatLaws.{faults_located, lawful_of}
use Rattle.xdr_core.proofs.Grammar.{prefix_free}
use Rattle.xdr_core.proofs.Marks.{mark_is_read}
use Rattle.archive_files.specs.Encoded.{FilesAreRead}
use Rattle.archive_files.specs.Entries.{ledger_header_history_entry, transaction_history_result_entry}
use Rattle.archive_files.specs.EntryLaws.{header_entry_laws, results_entry_laws, set_entry_laws}
use Rattle.archive_files.specs.Records.{fact_at}

module _ {V X : Type 0} (f : Xdr V) (fact_of : ℕ → V → X) (lawful : Lawful f) where
  entire_is_read : (at : ℕ) (v : V) → IsEncodable f v → entire_at f (record { at = at; rest = f.encoding v }) ≡ Ok v
  entire_is_read at v h =
      let text : List ℕ = f.encoding v in
      ap (λ (t : List ℕ). entire_at f (record { at = at; rest = t })) (sym (append-nil text))
      ∙ ap (λ (r : Reading XdrFault V). r >>= ended) (lawful.again at v [] h.within h.sized)

  -- a record is read, whatever follows
  record_is_read : (at : ℕ) (v : V) (rest : List ℕ) → IsEncodable f v
      → fact_at f fact_of (record { at = at; rest = record_of f v ++ rest })
      ≡ Ok (fact_of at v, record { at = at + length (record_of f v); rest = rest })
  unfolding fact_at
  record_is_read at v rest h =
      let p : Position = record { at = at; rest = record_of f v ++ rest } in
      let q : Position = record { at = at + length (record_of f v); rest = rest } in
      ap (λ (r : Reading XdrFault (List ℕ)). r >>= fact_in f fact_of p)
      (mark_is_read max_record_len at (f.encoding v) rest (omega arith) h.short)
      ∙ ap (λ (r : Result V XdrFault). r >>= λ x. Ok (fact_of at x, q)) (entire_is_read (at + 4) v h)

  -- where the file ends
  end_of_all : ℕ → List V → ℕ
  end_of_all at [] = at
  end_of_all at (v ∷ vs) = end_of_all (at + length (record_of f v)) vs

  all_read : (at : ℕ) (vs : List V) → AreEncodable f vs
      → AreFacts (fact_at f fact_of) (facts_of f fact_of at vs) (record { at = at; rest = file_of f vs })
      (record { at = end_of_all at vs; rest = [] })
  unfolding end_of_all
  all_read at [] h = refl
  all_read at (v ∷ vs) h = (
    record { at = at + length (record_of f v); rest = file_of f vs },
    record_is_read at v (file_of f vs) h.0,
    all_read (at + length (record_of f v)) vs h.1,
  )

  pub file_read : FilesAreRead f fact_of
  file_read vs h = record {
    end = record { at = end_of_all 0 vs; rest = [] };
    facts = all_read 0 vs h;
    all = refl;
  }

pub headers_read : FilesAreRead ledger_header_history_entry header_fact
headers_read = file_read ledger_header_history_entry header_fact (lawful_of header_entry_laws)

pub sets_read : FilesAreRead transaction_history_entry set_fact
sets_read = file_read transaction_history_entry set_fact (lawful_of set_entry_laws)

pub results_read : FilesAreRead transaction_history_result_entry results_fact
results_read = file_read transaction_history_result_entry results_fact (lawful_of results_entry_laws)

pub ruleset all_laws =
    (lawful_of, header_entry_laws, set_entry_laws, results_entry_laws, headers_read, sets_read, results_read)

pub ruleset entry_faults =
    (prefix_free, lawful_of, faults_located, header_entry_laws, set_entry_laws, results_entry_laws)

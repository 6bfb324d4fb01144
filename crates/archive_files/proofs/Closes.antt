-- The files that a ledger's closes are added to are a chain.
use Rattle.archive_files.proofs.Prelude.{AreEncodable, AreInPlace, AreLinked, AreRising, Contains, Hash, HeaderFact}
use Rattle.archive_files.proofs.Prelude.{History, IsAbove, IsEncodable, IsLinked, IsVerified, List, None, Option}
use Rattle.archive_files.proofs.Prelude.{RecordFact, Some, Xdr, [], ap, append-nil, append_assoc, arith}
use Rattle.archive_files.proofs.Prelude.{empty_set_hash, facts_of, file_of, hash_at, header_fact, inl, inr, last_hash}
use Rattle.archive_files.proofs.Prelude.{ledger_hash_of, length, length-append, map, max_record_len, no_results_hash}
use Rattle.archive_files.proofs.Prelude.{numbers, or_else, record_of, refl, results_fact, results_hash_of, set_fact}
use Rattle.archive_files.proofs.Prelude.{subst, suc, sym, transaction_history_entry, ℕ, ◌++◌, ◌+◌, ◌∙◌, ◌∷◌, ◌≡◌, ◌≤◌}
use Rattle.std.proofs.lemmas.List.Elements.{Contains-append_cases, Contains-append_left, Contains-append_right}
use Rattle.std.proofs.lemmas.List.Elements.{Contains-push, Contains-push_cases}
use Rattle.fee_rules.specs.SetHash.{hash_of_set}
use Rattle.op_types.specs.declared.transaction.TransactionEnvelope.{TransactionEnvelope}
use Rattle.archive_files.specs.Added.{AddedClosesVerify, AddedIsTheirHistory, AreAdded, AreCloses, IsClose, added}
use Rattle.archive_files.specs.Added.{extended, header_entry_of, header_record, history_of, last_close_hash}
use Rattle.archive_files.specs.Added.{max_file_len, no_closes, record_unless_empty, results_entry_of, results_record}
use Rattle.archive_files.specs.Added.{set_entry_of, set_record, unless_empty, with_transactions}
use Rattle.archive_files.specs.Chain.{IsChain}
use Rattle.archive_files.specs.Entries.{ledger_header_history_entry, transaction_history_result_entry}
use Rattle.archive_files.specs.declared.closed.Closed.{Closed}
use Rattle.archive_files.proofs.Lengths.{record_len}
use Rattle.archive_files.proofs.Reread.{headers_read, results_read, sets_read}
use Rattle.archive_files.proofs.Walking.{none_below, passed_by, this_one}

-- ---- the files of closes

-- the record of a close, if it has one, and then the file of others
cut_file : {V : Type 0} (f : Xdr V) (txs : List TransactionEnvelope) (v : V) (vs : List V)
    → record_unless_empty f txs v ++ file_of f vs ≡ file_of f (unless_empty txs v vs)
cut_file f [] v vs = refl
cut_file f (t ∷ ts) v vs = refl

-- what closes were added to ends with their files
abbrev with_files : History → List Closed → History
with_files h cs = extended h (history_of cs).headers (history_of cs).sets (history_of cs).results

one_more : (h : History) (c : Closed) (cs : List Closed) → with_files (added h c) cs ≡ with_files h (c ∷ cs)
one_more h c cs =
    let headers = append_assoc h.headers (header_record c) (history_of cs).headers in
    let sets = append_assoc h.sets (set_record c) (history_of cs).sets
    ∙ ap (λ l. h.sets ++ l)
    (cut_file transaction_history_entry c.set.txs (set_entry_of c) (with_transactions set_entry_of cs)) in
    let results = append_assoc h.results (results_record c) (history_of cs).results
    ∙ ap (λ l. h.results ++ l)
    (cut_file transaction_history_result_entry c.set.txs (results_entry_of c)
    (with_transactions results_entry_of cs)) in
    λ i. record { headers = headers i; sets = sets i; results = results i }

added_to : (cs : List Closed) (old new : History) → AreAdded old cs new → new ≡ with_files old cs
added_to [] old new are =
    let headers = append-nil old.headers in
    let sets = append-nil old.sets in
    let results = append-nil old.results in
    sym are ∙ sym (λ i. record { headers = headers i; sets = sets i; results = results i })
added_to (c ∷ cs) old new are = added_to cs (added old c) new are.3 ∙ one_more old c cs

pub added_history : AddedIsTheirHistory
added_history cs h are = added_to cs no_closes h are

-- ---- the entries have encodings

short_record : {V : Type 0} (f : Xdr V) (v : V) (file : List ℕ) → length (file ++ record_of f v) ≤ max_file_len
    → length (f.encoding v) ≤ max_record_len
short_record f v file le =
    omega (arith, length-append file (record_of f v), record_len (f.encoding v), le)

encodable : {V : Type 0} (f : Xdr V) (v : V) (file : List ℕ) → f.within v → f.sized v
    → length (file ++ record_of f v) ≤ max_file_len → IsEncodable f v
encodable f v file within sized le = record { within = within; sized = sized; short = short_record f v file le }

encodable_unless : {V : Type 0} (f : Xdr V) (txs : List TransactionEnvelope) (v : V) (vs : List V) (file : List ℕ)
    → f.within v → f.sized v → length (file ++ record_unless_empty f txs v) ≤ max_file_len → AreEncodable f vs
    → AreEncodable f (unless_empty txs v vs)
encodable_unless f [] v vs file within sized le are = are
encodable_unless f (t ∷ ts) v vs file within sized le are = (encodable f v file within sized le, are)

-- the entries of all closes have encodings
record AreWritable (cs : List Closed) : Type 0 where
  pub headers : AreEncodable ledger_header_history_entry (map header_entry_of cs)
  pub sets : AreEncodable transaction_history_entry (with_transactions set_entry_of cs)
  pub results : AreEncodable transaction_history_result_entry (with_transactions results_entry_of cs)

writable : (cs : List Closed) (old new : History) → AreAdded old cs new → AreWritable cs
writable [] old new are = record { headers = tt; sets = tt; results = tt }
writable (c ∷ cs) old new are =
    let others = writable cs (added old c) new are.3 in
    record {
      headers = (
        encodable ledger_header_history_entry (header_entry_of c) old.headers are.0.header are.1.header
            are.2.headers,
        others.headers,
      );
      sets = encodable_unless transaction_history_entry c.set.txs (set_entry_of c) (with_transactions set_entry_of cs)
          old.sets are.0.set are.1.set are.2.sets others.sets;
      results = encodable_unless transaction_history_result_entry c.set.txs (results_entry_of c)
          (with_transactions results_entry_of cs) old.results are.0.results are.1.results are.2.results
          others.results;
    }

-- ---- entries of closes, whose facts are the close's number and a hash of it

module _ {V : Type 0} (f : Xdr V) (entry : Closed → V) (seq_of : V → ℕ) (hash_of_it : V → Hash)
    (own : (c : Closed) → seq_of (entry c) ≡ c.header.ledger_seq) where
  abbrev fact : ℕ → V → RecordFact
  fact at v = record { at = at; seq = seq_of v; hash = hash_of_it v }

  abbrev facts : ℕ → List Closed → List RecordFact
  facts at cs = facts_of f fact at (with_transactions entry cs)

  -- they rise above what is below the first close's number
  rising_here : (before : Option ℕ) (want : ℕ) (last : Hash) (at : ℕ) (c : Closed) (cs : List Closed)
      (txs : List TransactionEnvelope) → ((n : ℕ) → want ≤ n → IsAbove before n) → IsClose want last c
      → ((b : Option ℕ) (k : ℕ) → ((n : ℕ) → want + 1 ≤ n → IsAbove b n) → AreRising b (facts k cs))
      → AreRising before (facts_of f fact at (unless_empty txs (entry c) (with_transactions entry cs)))
  rising_here before want last at c cs [] up is others = others before at (λ n le. up n (omega arith))
  rising_here before want last at c cs (t ∷ ts) up is others =
      let seq : seq_of (entry c) ≡ want = own c ∙ is.number in (
        up (seq_of (entry c)) (omega (arith, seq)),
        others (Some (seq_of (entry c))) (at + length (record_of f (entry c))) (λ n le. omega (arith, seq)),
      )

  rising : (before : Option ℕ) (want : ℕ) (last : Hash) (at : ℕ) (cs : List Closed)
      → ((n : ℕ) → want ≤ n → IsAbove before n) → AreCloses want last cs → AreRising before (facts at cs)
  rising before want last at [] up h = tt
  rising before want last at (c ∷ cs) up h =
      rising_here before want last at c cs c.set.txs up h.0
      (λ b k more. rising b (want + 1) (ledger_hash_of c.header) k cs more h.1)

  -- none is stray
  place_here : (heads : List HeaderFact) (before : Option ℕ) (at : ℕ) (c : Closed) (cs : List Closed)
      (txs : List TransactionEnvelope) → Contains (numbers heads) c.header.ledger_seq
      → AreRising before (facts_of f fact at (unless_empty txs (entry c) (with_transactions entry cs)))
      → ((b : Option ℕ) (k : ℕ) → AreRising b (facts k cs) → AreInPlace heads b (facts k cs))
      → AreInPlace heads before (facts_of f fact at (unless_empty txs (entry c) (with_transactions entry cs)))
  place_here heads before at c cs [] here up others = others before at up
  place_here heads before at c cs (t ∷ ts) here up others = (
    record { above = up.0; of = subst (λ n. Contains (numbers heads) n) (sym (own c)) here },
    others (Some (seq_of (entry c))) (at + length (record_of f (entry c))) up.1,
  )

  in_place : (heads : List HeaderFact) (before : Option ℕ) (at : ℕ) (cs : List Closed)
      → ((c : Closed) → Contains cs c → Contains (numbers heads) c.header.ledger_seq)
      → AreRising before (facts at cs) → AreInPlace heads before (facts at cs)
  in_place heads before at [] all up = tt
  in_place heads before at (c ∷ cs) all up =
      place_here heads before at c cs c.set.txs
      (all c (Contains-append_left (c ∷ []) cs c (Contains-push [] c))) up
      (λ b k more. in_place heads b k cs (λ d there. all d (Contains-append_right (c ∷ []) cs d there)) more)

  -- ---- the hash of a close, and of later ones

  module _ (want : ℕ) (last : Hash) (at : ℕ) (c : Closed) (cs : List Closed) (is : IsClose want last c)
      (are : AreCloses (want + 1) (ledger_hash_of c.header) cs) where
    abbrev facts_with : List TransactionEnvelope → List RecordFact
    facts_with txs = facts_of f fact at (unless_empty txs (entry c) (with_transactions entry cs))

    none_found : c.set.txs ≡ [] → hash_at (facts at (c ∷ cs)) want ≡ None
    none_found e = ap (λ txs. hash_at (facts_with txs) want) e
        ∙ none_below (facts at cs) want want (omega arith)
        (rising (Some want) (want + 1) (ledger_hash_of c.header) at cs (λ n le. omega arith) are)

    one_found : (t : TransactionEnvelope) (ts : List TransactionEnvelope) → c.set.txs ≡ t ∷ ts
        → hash_at (facts at (c ∷ cs)) want ≡ Some (hash_of_it (entry c))
    one_found t ts e = ap (λ txs. hash_at (facts_with txs) want) e
        ∙ this_one (fact at (entry c)) (facts (at + length (record_of f (entry c))) cs) want (own c ∙ is.number)

    later_same : c.set.txs ≡ [] → (n : ℕ) → hash_at (facts at (c ∷ cs)) n ≡ hash_at (facts at cs) n
    later_same e n = ap (λ txs. hash_at (facts_with txs) n) e

    later_passed : (t : TransactionEnvelope) (ts : List TransactionEnvelope) → c.set.txs ≡ t ∷ ts
        → (n : ℕ) → want + 1 ≤ n
        → hash_at (facts at (c ∷ cs)) n ≡ hash_at (facts (at + length (record_of f (entry c))) cs) n
    later_passed t ts e n le =
        let seq : seq_of (entry c) ≡ want = own c ∙ is.number in
        ap (λ txs. hash_at (facts_with txs) n) e
        ∙ passed_by (fact at (entry c)) (facts (at + length (record_of f (entry c))) cs) n (omega (arith, seq))

-- ---- both files

own_set : (c : Closed) → (set_entry_of c).ledger_seq ≡ c.header.ledger_seq
own_set c = refl

own_results : (c : Closed) → (results_entry_of c).ledger_seq ≡ c.header.ledger_seq
own_results c = refl

abbrev sets_from : ℕ → List Closed → List RecordFact
sets_from at cs = facts_of transaction_history_entry set_fact at (with_transactions set_entry_of cs)

abbrev results_from : ℕ → List Closed → List RecordFact
results_from at cs = facts_of transaction_history_result_entry results_fact at (with_transactions results_entry_of cs)

-- what all records have at a number from `want` on is what those of the closes ahead have
abbrev Sees : List RecordFact → ℕ → List RecordFact → Type 0
Sees all want ahead = (n : ℕ) → want ≤ n → hash_at all n ≡ hash_at ahead n

module _ (alls allr : List RecordFact) (want : ℕ) (last : Hash) (at : ℕ) (c : Closed) (is : IsClose want last c) where
  abbrev here : HeaderFact
  here = header_fact at (header_entry_of c)

  linked_without : c.set.txs ≡ [] → hash_at alls want ≡ None → hash_at allr want ≡ None
      → IsLinked alls allr want last here
  linked_without e s r =
      let two = is.without e in record {
        number = is.number;
        own = refl;
        link = is.link;
        same_set = is.set_hash ∙ ap hash_of_set two.0 ∙ ap empty_set_hash (sym is.link)
            ∙ ap (λ o. or_else o (empty_set_hash c.header.previous_ledger_hash))
            (sym (ap (hash_at alls) is.number ∙ s));
        same_results = is.results_hash ∙ ap results_hash_of two.1
            ∙ ap (λ o. or_else o no_results_hash) (sym (ap (hash_at allr) is.number ∙ r));
      }

  linked_with : hash_at alls want ≡ Some (hash_of_set c.set) → hash_at allr want ≡ Some (results_hash_of c.results)
      → IsLinked alls allr want last here
  linked_with s r = record {
    number = is.number;
    own = refl;
    link = is.link;
    same_set = is.set_hash ∙ ap (λ o. or_else o (empty_set_hash c.header.previous_ledger_hash))
        (sym (ap (hash_at alls) is.number ∙ s));
    same_results = is.results_hash ∙ ap (λ o. or_else o no_results_hash)
        (sym (ap (hash_at allr) is.number ∙ r));
  }

abbrev headers_from : ℕ → List Closed → List HeaderFact
headers_from at cs = facts_of ledger_header_history_entry header_fact at (map header_entry_of cs)

linked_from : (alls allr : List RecordFact) (want : ℕ) (last : Hash) (at at_s at_r : ℕ) (c : Closed) (cs : List Closed)
    (txs : List TransactionEnvelope) → c.set.txs ≡ txs
    → IsClose want last c → AreCloses (want + 1) (ledger_hash_of c.header) cs
    → Sees alls want (sets_from at_s (c ∷ cs)) → Sees allr want (results_from at_r (c ∷ cs))
    → ((k_s k_r : ℕ) → Sees alls (want + 1) (sets_from k_s cs) → Sees allr (want + 1) (results_from k_r cs)
    → AreLinked alls allr (want + 1) (ledger_hash_of c.header)
    (headers_from (at + length (header_record c)) cs))
    → AreLinked alls allr want last (headers_from at (c ∷ cs))
linked_from alls allr want last at at_s at_r c cs [] e is are s r others = (
  linked_without alls allr want last at c is e
      (s want (omega arith)
      ∙ none_found transaction_history_entry set_entry_of (λ v. v.ledger_seq) (λ v. hash_of_set v.tx_set) own_set want
      last at_s c cs is are e)
      (r want (omega arith)
      ∙ none_found transaction_history_result_entry results_entry_of (λ v. v.ledger_seq)
      (λ v. results_hash_of v.tx_result_set) own_results want last at_r c cs is are e),
  others at_s at_r
      (λ n le. s n (omega arith)
      ∙ later_same transaction_history_entry set_entry_of (λ v. v.ledger_seq) (λ v. hash_of_set v.tx_set) own_set want
      last at_s c cs is are e n)
      (λ n le. r n (omega arith)
      ∙ later_same transaction_history_result_entry results_entry_of (λ v. v.ledger_seq)
      (λ v. results_hash_of v.tx_result_set) own_results want last at_r c cs is are e n),
)
linked_from alls allr want last at at_s at_r c cs (t ∷ ts) e is are s r others = (
  linked_with alls allr want last at c is
      (s want (omega arith)
      ∙ one_found transaction_history_entry set_entry_of (λ v. v.ledger_seq) (λ v. hash_of_set v.tx_set) own_set want
      last at_s c cs is are t ts e)
      (r want (omega arith)
      ∙ one_found transaction_history_result_entry results_entry_of (λ v. v.ledger_seq)
      (λ v. results_hash_of v.tx_result_set) own_results want last at_r c cs is are t ts e),
  others (at_s + length (record_of transaction_history_entry (set_entry_of c)))
      (at_r + length (record_of transaction_history_result_entry (results_entry_of c)))
      (λ n le. s n (omega arith)
      ∙ later_passed transaction_history_entry set_entry_of (λ v. v.ledger_seq) (λ v. hash_of_set v.tx_set) own_set want
      last at_s c cs is are t ts e n le)
      (λ n le. r n (omega arith)
      ∙ later_passed transaction_history_result_entry results_entry_of (λ v. v.ledger_seq)
      (λ v. results_hash_of v.tx_result_set) own_results want last at_r c cs is are t ts e n le),
)

linked : (alls allr : List RecordFact) (want : ℕ) (last : Hash) (at at_s at_r : ℕ) (cs : List Closed)
    → AreCloses want last cs → Sees alls want (sets_from at_s cs) → Sees allr want (results_from at_r cs)
    → AreLinked alls allr want last (headers_from at cs)
linked alls allr want last at at_s at_r [] are s r = tt
linked alls allr want last at at_s at_r (c ∷ cs) are s r =
    linked_from alls allr want last at at_s at_r c cs c.set.txs refl are.0 are.1 s r
    (λ k_s k_r t u. linked alls allr (want + 1) (ledger_hash_of c.header)
    (at + length (header_record c)) k_s k_r cs are.1 t u)

-- each close's number is that of a header
number_there : (at : ℕ) (cs : List Closed) (c : Closed) → Contains cs c
    → Contains (numbers (headers_from at cs)) c.header.ledger_seq
number_there at [] c h = absurd (omega (arith, h.1))
number_there at (d ∷ cs) c h = elim (Contains-append_cases (d ∷ []) cs c h) [
  | inl one ↦ elim (Contains-push_cases [] d c one) [
    | inl none ↦ absurd (omega (arith, none.1))
    | inr same ↦
        subst (λ n. Contains (numbers (headers_from at (d ∷ cs))) n) (ap (λ (x : Closed). x.header.ledger_seq) same)
        (Contains-append_left (d.header.ledger_seq ∷ []) _ d.header.ledger_seq (Contains-push [] d.header.ledger_seq))
  ]
  | inr later ↦ Contains-append_right (d.header.ledger_seq ∷ []) _ c.header.ledger_seq
      (number_there (at + length (header_record d)) cs c later)
]

chain_of : (cs : List Closed) (before : Hash) (first : ℕ) → AreWritable cs → AreCloses first before cs
    → IsChain (history_of cs) before first (headers_from 0 cs)
chain_of cs before first can are = record {
  sets = sets_from 0 cs;
  results = results_from 0 cs;
  read = record {
    headers_read = headers_read (map header_entry_of cs) can.headers;
    sets_read = sets_read (with_transactions set_entry_of cs) can.sets;
    results_read = results_read (with_transactions results_entry_of cs) can.results;
  };
  sets_in_place =
      in_place transaction_history_entry set_entry_of (λ v. v.ledger_seq) (λ v. hash_of_set v.tx_set) own_set
      (headers_from 0 cs) None 0 cs (number_there 0 cs)
      (rising transaction_history_entry set_entry_of (λ v. v.ledger_seq) (λ v. hash_of_set v.tx_set) own_set None first
      before 0 cs (λ n le. tt) are);
  results_in_place =
      in_place transaction_history_result_entry results_entry_of (λ v. v.ledger_seq)
      (λ v. results_hash_of v.tx_result_set) own_results (headers_from 0 cs) None 0 cs (number_there 0 cs)
      (rising transaction_history_result_entry results_entry_of (λ v. v.ledger_seq)
      (λ v. results_hash_of v.tx_result_set) own_results None first before 0 cs (λ n le. tt) are);
  linked = linked (sets_from 0 cs) (results_from 0 cs) first before 0 0 0 cs are (λ n le. refl) (λ n le. refl);
}

-- ---- their number, and the last one's hash

as_many : (at : ℕ) (cs : List Closed) → length cs ≡ length (headers_from at cs)
as_many at [] = refl
as_many at (c ∷ cs) = ap suc (as_many (at + length (header_record c)) cs)

same_last : (before : Hash) (at : ℕ) (cs : List Closed)
    → last_close_hash before cs ≡ last_hash before (headers_from at cs)
same_last before at [] = refl
same_last before at (c ∷ cs) = same_last (ledger_hash_of c.header) (at + length (header_record c)) cs

pub closes_verify : AddedClosesVerify
closes_verify cs before first h are closes =
    subst (λ (x : History). IsVerified x before first (record { closes = length cs; last = last_close_hash before cs }))
    (sym (added_history cs h are))
    (record {
      headers = headers_from 0 cs;
      chain = chain_of cs before first (writable cs no_closes h are) closes;
      closes = as_many 0 cs;
      last = same_last before 0 cs;
    })

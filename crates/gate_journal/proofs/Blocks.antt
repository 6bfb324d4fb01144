-- Reading one block.
use Rattle.gate_journal.proofs.Prelude.{◌≡◌, ℕ, ◌+◌, ◌<◌, ◌≤◌, List, [], ◌∷◌, ◌++◌, length, take, drop, get_or, sym}
use Rattle.gate_journal.proofs.Prelude.{◌∙◌, ap, subst, arith, length-append, take-append-drop, drop-drop, big_number}
use Rattle.gate_journal.proofs.Prelude.{big_bytes, big_number-reads_back, max_record, block, IsBroken, IsOpen}
use Rattle.std.proofs.lemmas.Nat.{be_bytes_4}
use Rattle.std.specs.Int.{w32, from_be_bytes}

-- an open gate is broken where no record follows it
pub broken_by : (rest : List ℕ) → IsOpen rest
    → ((bytes more : List ℕ) → length bytes ≤ max_record → rest ≡ block bytes ++ more → ⊥) → IsBroken rest
broken_by [] opened none = tt
broken_by (gate ∷ following) opened none = (ap (λ (l : List ℕ). get_or l 0 0) opened, none)

pub length_block : (bytes more : List ℕ) → length (block bytes ++ more) ≡ 5 + length bytes + length more
length_block bytes more = omega (arith, length-append (block bytes) more)

-- the length that a block begins with
pub length_reported : (bytes more rest head : List ℕ) → length bytes ≤ max_record → rest ≡ block bytes ++ more
    → head ≡ take 4 (drop 1 rest)
    → big_number 4 head ≡ length bytes
length_reported bytes more rest head short is prefix =
    let same : head ≡ big_bytes 4 (length bytes) = prefix ∙ ap (λ (l : List ℕ). take 4 (drop 1 l)) is in
    ap (big_number 4) same ∙ big_number-reads_back 4 (length bytes) [] (omega arith)

pub too_short : (rest : List ℕ) → IsOpen rest → length rest < 5 → IsBroken rest
too_short rest opened less =
    broken_by rest opened (λ bytes more short is. absurd (omega (arith, ap length is, length_block bytes more)))

pub no_room : (rest head : List ℕ) (count : ℕ) → IsOpen rest → head ≡ take 4 (drop 1 rest) → count ≡ big_number 4 head
    → (count ≤ max_record → length rest < 5 + count) → IsBroken rest
no_room rest head count opened prefix counts less = broken_by rest opened (λ bytes more short is.
    let same : count ≡ length bytes = counts ∙ length_reported bytes more rest head short is prefix in
    absurd (omega (arith, less (omega (arith, same, short)), ap length is, length_block bytes more)))

pub encoded_by : (head : List ℕ) (count : ℕ) → length head ≡ 4 → ((i : ℕ) → get_or head i 0 < 256)
    → count ≡ big_number 4 head
    → big_bytes 4 count ≡ head
encoded_by head count four fits counts =
    let word : count ≡ from_be_bytes w32 head = counts ∙ omega arith in
    be_bytes_4 head count four fits word

-- what is there from an open gate on, by the length after it
pub head_is_there : (rest head : List ℕ) (count : ℕ) → IsOpen rest → big_bytes 4 count ≡ head
    → head ≡ take 4 (drop 1 rest) → rest ≡ (1 ∷ big_bytes 4 count) ++ drop 5 rest
head_is_there rest head count opened back prefix =
    opened ∙ ap (λ (l : List ℕ). 1 ∷ l) (sym (take-append-drop 4 (drop 1 rest)))
    ∙ ap (λ (l : List ℕ). (1 ∷ l) ++ drop 4 (drop 1 rest)) (sym (back ∙ prefix))
    ∙ ap (λ (l : List ℕ). (1 ∷ big_bytes 4 count) ++ l) (drop-drop 4 1 rest)

-- and by its bytes
pub block_is_there : (rest bytes : List ℕ) (count : ℕ) → rest ≡ (1 ∷ big_bytes 4 count) ++ drop 5 rest
    → length bytes ≡ count
    → bytes ≡ take count (drop 5 rest) → rest ≡ block bytes ++ drop (5 + length bytes) rest
block_is_there rest bytes count head long prefix =
    head ∙ ap (λ (n : ℕ). (1 ∷ big_bytes 4 n) ++ drop 5 rest) (sym long)
    ∙ ap (λ (l : List ℕ). (1 ∷ big_bytes 4 (length bytes)) ++ l) (sym (take-append-drop (length bytes) (drop 5 rest)))
    ∙ ap (λ (l : List ℕ). (1 ∷ big_bytes 4 (length bytes)) ++ (l ++ drop (length bytes) (drop 5 rest)))
    (ap (λ (n : ℕ). take n (drop 5 rest)) long ∙ sym prefix)
    ∙ ap (λ (l : List ℕ). block bytes ++ l) (drop-drop (length bytes) 5 rest)

-- a record was read, from a file that stayed as it was
pub record_read : (at count : ℕ) (file mid late bytes : List ℕ) → mid ≡ file → late ≡ file
    → drop at mid ≡ (1 ∷ big_bytes 4 count) ++ drop 5 (drop at mid) → length bytes ≡ count
    → bytes ≡ take count (drop (at + 5) late)
    → count ≤ max_record → (length bytes ≤ max_record)
    × (drop at file ≡ block bytes ++ drop (5 + length bytes) (drop at file))
record_read at count file mid late bytes first second head long read short =
    let there : drop at file ≡ (1 ∷ big_bytes 4 count) ++ drop 5 (drop at file)
    = subst (λ (l : List ℕ). drop at l ≡ (1 ∷ big_bytes 4 count) ++ drop 5 (drop at l)) first head in
    let prefix : bytes ≡ take count (drop 5 (drop at file))
    = read ∙ ap (λ (l : List ℕ). take count (drop (at + 5) l)) second ∙ ap (take count) (sym (drop-drop 5 at file)) in
    (omega (arith, long, short), block_is_there (drop at file) bytes count there long prefix)

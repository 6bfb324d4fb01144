-- How many complete `closed` lines a text has, and what is printed of records.
use Rattle.replay.proofs.Prelude.{◌≡◌, ℕ, ◌+◌, ◌-◌, ◌<◌, ◌≤◌, zero, suc, List, [], ◌∷◌, ◌++◌, length, take, refl, sym}
use Rattle.replay.proofs.Prelude.{ap, subst, ◌∙◌, append_assoc, append-nil, zero-add, arith, Ok, Err, inl, inr, ◌⊎◌}
use Rattle.replay.proofs.Prelude.{codes, cond, count_by, flat_map, decimal, signed_decimal, take-append-le}
use Rattle.replay.proofs.Prelude.{length-append, length-take-le, sum_by-cons, leb_tells, take-append-add, LedgerHeader}
use Rattle.replay.proofs.Prelude.{TransactionResultPair, XdrFault, XdrKind, Reading, ledger_hash_of, CloseFault}
use Rattle.replay.proofs.Prelude.{ClosingState, PreparedClose, ended_line, spaced, hash_text, success_count, tx_line}
use Rattle.replay.proofs.Prelude.{closed_line, closed_lines, end_line, kind_name, fault_text, refused_line, Outcome}
use Rattle.replay.proofs.Prelude.{lines_of, IsPrefix, IsStopped, IsEnd, complete_lines, is_closed_line, closed_count}
use Rattle.run_text.specs.op_types.Codes.{outcome_code}
use Rattle.xdr_core.specs.declared.fault.XdrKind.TheVariants as kind
use Rattle.stored_outcome.specs.close_rules.declared.close_fault.CloseFault.TheVariants as fault
use Rattle.reports.proofs.Prefixes.{complete_or_less}
use Rattle.replay.proofs.LineEnds.{IsUnbroken, both_unbroken, lines_none, lines_one, decimal_unbroken, signed_unbroken}
use Rattle.replay.proofs.LineEnds.{hex_unbroken, plain}
use Rattle.reports.proofs.Marking.{read_mark}

-- ---- texts of complete lines

-- so many complete `closed` lines, and nothing after the last line
abbrev pub Counts : ℕ → List ℕ → Type 0
Counts k text = (rest : List ℕ) → closed_count (text ++ rest) ≡ k + closed_count rest

counts_none : Counts 0 []
counts_none rest = sym (zero-add (closed_count rest))

counts_both : (k n : ℕ) (a b : List ℕ) → Counts k a → Counts n b → Counts (k + n) (a ++ b)
counts_both k n a b h i rest =
    let first : closed_count ((a ++ b) ++ rest) ≡ closed_count (a ++ (b ++ rest)) =
    ap closed_count (append_assoc a b rest) in
    let second = h (b ++ rest) in
    let third = i rest in
    omega (arith, first, second, third)

-- one for a `closed` line, none for another one
abbrev closed_in : List ℕ → ℕ
closed_in line = cond (is_closed_line line) 1 0

one_line : (text rest : List ℕ) → IsUnbroken text
    → closed_count (ended_line text ++ rest) ≡ closed_in text + closed_count rest
one_line text rest h =
    ap closed_count (append_assoc text (10 ∷ []) rest) ∙ ap (count_by is_closed_line) (lines_one [] text rest h)
    ∙ sum_by-cons closed_in text (complete_lines [] rest)

counts_line : (text : List ℕ) (k : ℕ) → IsUnbroken text → closed_in text ≡ k
    → Counts k (ended_line text)
counts_line text k h is rest = one_line text rest h ∙ ap (λ (n : ℕ). n + closed_count rest) is

pub nothing_counted : closed_count [] ≡ 0
unfolding complete_lines
nothing_counted = refl

counts_complete : (k : ℕ) (text : List ℕ) → Counts k text → closed_count text ≡ k
counts_complete k text h =
    let e = h [] in
    let f : closed_count (text ++ []) ≡ closed_count text = ap closed_count (append-nil text) in
    omega (arith, e, f, nothing_counted)

-- ---- prefixes that count none

-- no prefix of a text has a complete `closed` line
abbrev pub IsPoor : List ℕ → Type 0
IsPoor text = (prefix : List ℕ) → IsPrefix prefix text → closed_count prefix ≡ 0

count_unbroken : (text : List ℕ) → IsUnbroken text → closed_count text ≡ 0
count_unbroken text h = ap (count_by is_closed_line) (lines_none [] text h)

prefix_unbroken : (n : ℕ) (text : List ℕ) → IsUnbroken text → IsUnbroken (take n text)
prefix_unbroken zero text h = tt
prefix_unbroken (suc n) [] h = tt
prefix_unbroken (suc n) (byte ∷ text) h = (h.0, prefix_unbroken n text h.1)

-- a prefix of a line that isn't all of it
short_prefix : (prefix text : List ℕ) → IsUnbroken text → IsPrefix prefix (ended_line text)
    → length prefix < length (ended_line text) → closed_count prefix ≡ 0
short_prefix prefix text h (n, le, e) less =
    let small : n ≤ length text =
    omega (arith, less, ap length e, length-take-le n (ended_line text) le, length-append text (10 ∷ [])) in
    ap closed_count (e ∙ take-append-le n text (10 ∷ []) small)
    ∙ count_unbroken (take n text) (prefix_unbroken n text h)

pub poor_line : (text : List ℕ) → IsUnbroken text → closed_in text ≡ 0 → IsPoor (ended_line text)
poor_line text h is prefix f = elim (complete_or_less prefix (ended_line text) f) [
  | inl same ↦ ap closed_count same ∙ counts_complete 0 (ended_line text) (counts_line text 0 h is)
  | inr less ↦ short_prefix prefix text h f less
]

poor_none : IsPoor []
poor_none prefix (n, le, e) = let empty : prefix ≡ [] = e ∙ nothing n in ap closed_count empty ∙ nothing_counted
  where
    nothing : (n : ℕ) → take {A = ℕ} n [] ≡ []
    nothing zero = refl
    nothing (suc n) = refl

-- a prefix of two texts is one of the first, or has that and a prefix of the second
pub split_prefix : (a b prefix : List ℕ) → IsPrefix prefix (a ++ b)
    → IsPrefix prefix a ⊎ ((more : List ℕ) × (prefix ≡ a ++ more) × IsPrefix more b)
split_prefix a b prefix (n, le, e) = elim (leb_tells n (length a)) [
  | inl small ↦ inl (n, small.1, e ∙ take-append-le n a b small.1)
  | inr large ↦ let m : ℕ = n - length a in
      let same : n ≡ length a + m = omega (arith, large.1) in
      inr (
        take m b,
        e ∙ ap (λ (k : ℕ). take k (a ++ b)) same ∙ take-append-add a b m,
        (m, omega (arith, le, same, length-append a b), refl),
      )
]

poor_both : (a b : List ℕ) → Counts 0 a → IsPoor a → IsPoor b → IsPoor (a ++ b)
poor_both a b counts poor_a poor_b prefix f = elim (split_prefix a b prefix f) [
  | inl g ↦ poor_a prefix g
  | inr rest ↦ let first : closed_count prefix ≡ closed_count (a ++ rest.0) = ap closed_count rest.1 in
      omega (arith, first, counts rest.0, poor_b rest.0 rest.2)
]

-- ---- the lines of a close

then_spaced : (prefix word : List ℕ) → IsUnbroken prefix → IsUnbroken word → IsUnbroken (prefix ++ spaced word)
then_spaced prefix word h i = both_unbroken prefix (spaced word) h (refl, i)

abbrev tx_text : TransactionResultPair → List ℕ
tx_text pair =
    codes "tx " ++ hash_text pair.transaction_hash ++ spaced (signed_decimal pair.result.fee_charged)
    ++ spaced (signed_decimal (outcome_code pair.result.outcome))

tx_unbroken : (pair : TransactionResultPair) → IsUnbroken (tx_text pair)
tx_unbroken pair =
    then_spaced (codes "tx " ++ hash_text pair.transaction_hash ++ spaced (signed_decimal pair.result.fee_charged))
    (signed_decimal (outcome_code pair.result.outcome))
    (then_spaced (codes "tx " ++ hash_text pair.transaction_hash) (signed_decimal pair.result.fee_charged)
    (both_unbroken (codes "tx ") (hash_text pair.transaction_hash) (plain (codes "tx ") refl)
    (hex_unbroken pair.transaction_hash.0))
    (signed_unbroken pair.result.fee_charged))
    (signed_unbroken (outcome_code pair.result.outcome))

tx_counts : (pair : TransactionResultPair) → Counts 0 (tx_line pair)
unfolding tx_line
tx_counts pair = counts_line (tx_text pair) 0 (tx_unbroken pair) refl

tx_poor : (pair : TransactionResultPair) → IsPoor (tx_line pair)
unfolding tx_line
tx_poor pair = poor_line (tx_text pair) (tx_unbroken pair) refl

txs_count : (pairs : List TransactionResultPair) → Counts 0 (flat_map tx_line pairs)
txs_count [] = counts_none
txs_count (pair ∷ pairs) = counts_both 0 0 (tx_line pair) (flat_map tx_line pairs) (tx_counts pair) (txs_count pairs)

txs_poor : (pairs : List TransactionResultPair) → IsPoor (flat_map tx_line pairs)
txs_poor [] = poor_none
txs_poor (pair ∷ pairs) =
    poor_both (tx_line pair) (flat_map tx_line pairs) (tx_counts pair) (tx_poor pair) (txs_poor pairs)

abbrev closed_text : LedgerHeader → List TransactionResultPair → List ℕ
closed_text header pairs =
    codes "closed " ++ decimal header.ledger_seq ++ spaced (hash_text (ledger_hash_of header))
    ++ spaced (decimal (length pairs)) ++ spaced (decimal (success_count pairs))

closed_unbroken : (header : LedgerHeader) (pairs : List TransactionResultPair) → IsUnbroken (closed_text header pairs)
closed_unbroken header pairs =
    then_spaced
    (codes "closed " ++ decimal header.ledger_seq ++ spaced (hash_text (ledger_hash_of header))
    ++ spaced (decimal (length pairs)))
    (decimal (success_count pairs))
    (then_spaced (codes "closed " ++ decimal header.ledger_seq ++ spaced (hash_text (ledger_hash_of header)))
    (decimal (length pairs))
    (then_spaced (codes "closed " ++ decimal header.ledger_seq) (hash_text (ledger_hash_of header))
    (both_unbroken (codes "closed ") (decimal header.ledger_seq) (plain (codes "closed ") refl)
    (decimal_unbroken header.ledger_seq))
    (hex_unbroken (ledger_hash_of header).0))
    (decimal_unbroken (length pairs)))
    (decimal_unbroken (success_count pairs))

closed_counts : (header : LedgerHeader) (pairs : List TransactionResultPair) → Counts 1 (closed_line header pairs)
unfolding closed_line
closed_counts header pairs = counts_line (closed_text header pairs) 1 (closed_unbroken header pairs) refl

closed_short : (header : LedgerHeader) (pairs : List TransactionResultPair) (prefix : List ℕ)
    → IsPrefix prefix (closed_line header pairs) → length prefix < length (closed_line header pairs)
    → closed_count prefix ≡ 0
unfolding closed_line
closed_short header pairs prefix f less =
    short_prefix prefix (closed_text header pairs) (closed_unbroken header pairs) f less

-- all lines of a close have one `closed` line
pub counts_close : (c : PreparedClose) → Counts 1 (lines_of c)
unfolding closed_lines
counts_close c =
    counts_both 0 1 (flat_map tx_line c.results) (closed_line c.state.header c.results) (txs_count c.results)
    (closed_counts c.state.header c.results)

-- a prefix that isn't all of them has none
pub poor_close : (c : PreparedClose) (prefix : List ℕ) → IsPrefix prefix (lines_of c)
    → length prefix < length (lines_of c)
    → closed_count prefix ≡ 0
unfolding closed_lines
poor_close c prefix f less =
    elim (split_prefix (flat_map tx_line c.results) (closed_line c.state.header c.results) prefix f) [
      | inl g ↦ txs_poor c.results prefix g
      | inr rest ↦ let first : closed_count prefix ≡ closed_count (flat_map tx_line c.results ++ rest.0) =
          ap closed_count rest.1 in
          let small : length rest.0 < length (closed_line c.state.header c.results) =
          omega (
            arith,
            less,
            ap length rest.1,
            length-append (flat_map tx_line c.results) rest.0,
            length-append (flat_map tx_line c.results) (closed_line c.state.header c.results),
          ) in
          omega (
            arith,
            first,
            txs_count c.results rest.0,
            closed_short c.state.header c.results rest.0 rest.2 small,
          )
    ]

-- ---- the last line of a run

end_poor : (header : LedgerHeader) → IsPoor (end_line header)
unfolding end_line
end_poor header =
    poor_line (codes "end " ++ decimal header.ledger_seq ++ spaced (hash_text (ledger_hash_of header)))
    (then_spaced (codes "end " ++ decimal header.ledger_seq) (hash_text (ledger_hash_of header))
    (both_unbroken (codes "end ") (decimal header.ledger_seq) (plain (codes "end ") refl)
    (decimal_unbroken header.ledger_seq))
    (hex_unbroken (ledger_hash_of header).0))
    refl

kind_unbroken : (k : XdrKind) → IsUnbroken (kind_name k)
kind_unbroken kind.Short = plain (codes "Short") refl
kind_unbroken kind.Padding = plain (codes "Padding") refl
kind_unbroken kind.BadEnum = plain (codes "BadEnum") refl
kind_unbroken kind.BadFlag = plain (codes "BadFlag") refl
kind_unbroken kind.TooLong = plain (codes "TooLong") refl
kind_unbroken kind.BadMark = plain (codes "BadMark") refl
kind_unbroken kind.Trailing = plain (codes "Trailing") refl
kind_unbroken kind.TooDeep = plain (codes "TooDeep") refl

two_values : (name a b : List ℕ) → IsUnbroken name → IsUnbroken a → IsUnbroken b
    → IsUnbroken (name ++ spaced a ++ spaced b)
two_values name a b h i j = then_spaced (name ++ spaced a) b (then_spaced name a h i) j

fault_unbroken : (wrong : CloseFault) → IsUnbroken (fault_text wrong)
unfolding fault_text
fault_unbroken (fault.BadXdr at k) =
    two_values (codes "BadXdr") (decimal at) (kind_name k) (plain (codes "BadXdr") refl)
    (decimal_unbroken at) (kind_unbroken k)
fault_unbroken fault.SeqEnd = plain (codes "SeqEnd") refl
fault_unbroken (fault.WrongSeq want given) =
    two_values (codes "WrongSeq") (decimal want) (decimal given) (plain (codes "WrongSeq") refl)
    (decimal_unbroken want) (decimal_unbroken given)
fault_unbroken (fault.WrongPrevious have given) =
    two_values (codes "WrongPrevious") (hash_text have) (hash_text given) (plain (codes "WrongPrevious") refl)
    (hex_unbroken have.0) (hex_unbroken given.0)
fault_unbroken (fault.WrongSetHash have given) =
    two_values (codes "WrongSetHash") (hash_text have) (hash_text given) (plain (codes "WrongSetHash") refl)
    (hex_unbroken have.0) (hex_unbroken given.0)
fault_unbroken (fault.StaleTime last given) =
    two_values (codes "StaleTime") (decimal last) (decimal given) (plain (codes "StaleTime") refl)
    (decimal_unbroken last) (decimal_unbroken given)
fault_unbroken (fault.BadUpgrade index) =
    then_spaced (codes "BadUpgrade") (decimal index) (plain (codes "BadUpgrade") refl)
    (decimal_unbroken index)
fault_unbroken (fault.UpgradeOutOfProfile index) =
    then_spaced (codes "UpgradeOutOfProfile") (decimal index) (plain (codes "UpgradeOutOfProfile") refl)
    (decimal_unbroken index)
fault_unbroken (fault.FeeSourceMissing index) =
    then_spaced (codes "FeeSourceMissing") (decimal index) (plain (codes "FeeSourceMissing") refl)
    (decimal_unbroken index)
fault_unbroken (fault.LedgerFull total) =
    then_spaced (codes "LedgerFull") (decimal total) (plain (codes "LedgerFull") refl)
    (decimal_unbroken total)
fault_unbroken fault.NoMemory = tt

refused_poor : (header : LedgerHeader) (wrong : CloseFault) → IsPoor (refused_line header wrong)
unfolding refused_line
refused_poor header wrong =
    poor_line (codes "refused " ++ decimal (header.ledger_seq + 1) ++ spaced (fault_text wrong))
    (then_spaced (codes "refused " ++ decimal (header.ledger_seq + 1)) (fault_text wrong)
    (both_unbroken (codes "refused ") (decimal (header.ledger_seq + 1)) (plain (codes "refused ") refl)
    (decimal_unbroken (header.ledger_seq + 1)))
    (fault_unbroken wrong))
    refl

poor_stop : (s : ClosingState) (r : Reading XdrFault (List ℕ)) (last : Outcome) → IsStopped s r last → IsPoor last.text
poor_stop s (Err wrong) last h = subst IsPoor (sym (ap (λ (o : Outcome). o.text) h)) poor_none
poor_stop s (Ok x) last h =
    subst IsPoor (sym (ap (λ (o : Outcome). o.text) h.2)) (refused_poor s.header h.0)

-- what ends a run has no complete `closed` line
pub poor_end : (s : ClosingState) (at : ℕ) (rest : List ℕ) (last : Outcome) → IsEnd s at rest last → IsPoor last.text
poor_end s at [] last h = subst IsPoor (sym (ap (λ (o : Outcome). o.text) h)) (end_poor s.header)
poor_end s at (byte ∷ rest) last h =
    poor_stop s (read_mark (record { at = at; rest = byte ∷ rest })) last h

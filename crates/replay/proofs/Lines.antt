-- What a closed ledger prints isn't nothing.
use Rattle.replay.proofs.Prelude.{ℕ, ◌≤◌, List, [], ◌∷◌, ◌++◌, length, arith, flat_map, codes, decimal, LedgerHeader}
use Rattle.replay.proofs.Prelude.{TransactionResultPair, ledger_hash_of, PreparedClose, ended_line, spaced, hash_text}
use Rattle.replay.proofs.Prelude.{success_count, tx_line, closed_line, closed_lines, lines_of}
use Rattle.std.proofs.Common.{length-append}

ended_some : (text : List ℕ) → 1 ≤ length (ended_line text)
ended_some text = omega (arith, length-append text (10 ∷ []))

after_some : (prefix text : List ℕ) → 1 ≤ length text → 1 ≤ length (prefix ++ text)
after_some prefix text some = omega (arith, length-append prefix text, some)

closed_some : (header : LedgerHeader) (pairs : List TransactionResultPair) → 1 ≤ length (closed_line header pairs)
unfolding closed_line
closed_some header pairs =
    ended_some
    (codes "closed " ++ decimal header.ledger_seq ++ spaced (hash_text (ledger_hash_of header))
    ++ spaced (decimal (length pairs)) ++ spaced (decimal (success_count pairs)))

pub lines_some : (c : PreparedClose) → 1 ≤ length (lines_of c)
unfolding closed_lines
lines_some c =
    after_some (flat_map tx_line c.results) (closed_line c.state.header c.results)
    (closed_some c.state.header c.results)

use Rattle.worker_merges.proofs.Prelude.{◌≡◌, ◌+◌, IsBoardIn, board_parts, posted_by, returned_to, waiting_in}
use Rattle.worker_merges.proofs.Drawing.{SoFar}
use Rattle.worker_merges.proofs.posting.post_due.Given as goal

abbrev pub invariant-loop-job : goal.invariant-loop-job
invariant-loop-job g l = record {
  room : IsBoardIn l.room l.board;
  parts : board_parts l.board ≡ board_parts l.initial.board;
  state : l.ledger.state ≡ l.initial.ledger.state;
  caches : l.ledger.caches ≡ l.initial.ledger.caches;
  returned : returned_to l.board ≡ returned_to l.initial.board + l.back;
  so_far : SoFar (posted_by l.initial.board) l.initial.ledger.pending l.ledger.pending (posted_by l.board) l.back;
}

abbrev pub decreases-loop-job : goal.decreases-loop-job
decreases-loop-job g l = waiting_in l.ledger.pending

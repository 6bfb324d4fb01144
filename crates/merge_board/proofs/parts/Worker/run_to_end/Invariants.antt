use Rattle.merge_board.proofs.Prelude.{◌≡◌, ◌<◌, vec_len, IsAtWork, IsDealt}
use Rattle.merge_board.proofs.parts.Worker.run_to_end.Given as goal

abbrev pub invariant-loop : goal.invariant-loop
invariant-loop g l = record {
  at_work : IsAtWork l.room 0 l.desk;
  dealt : IsDealt l.desk;
  index : vec_len l.desk.left < 64;
  number : l.desk.seats.number ≡ l.initial.desk.seats.number;
}

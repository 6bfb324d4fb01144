use Rattle.worker_merges.proofs.Prelude.{arith}
use Rattle.worker_merges.proofs.slots.Side.close.Goals as goal

pub returns-clause-ends : goal.returns-clause-ends
returns-clause-ends g c workers side = record {
  board = c.shut-board.ensures.room;
  board_has = (let same = c.shut-board.ensures.parts in let has = side.board_has in omega (arith, same, has));
  collector = c.finish.ensures.room c.args.room.now side.collector;
  collector_has = (let same = c.finish.ensures.parts in let has = side.collector_has in omega (arith, same, has));
}

use Rattle.op_laws.proofs.crossed_books.crossed_offers_go.Goals as goal
use Rattle.op_laws.proofs.CrossedBook.{crossed_offers_go}

pub returns : goal.returns
returns c = crossed_offers_go

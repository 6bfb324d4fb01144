use Rattle.op_laws.proofs.crossed_books.crossing_follows_book.Goals as goal
use Rattle.op_laws.proofs.FollowedBook.{crossing_follows_book}

pub returns : goal.returns
returns c = crossing_follows_book

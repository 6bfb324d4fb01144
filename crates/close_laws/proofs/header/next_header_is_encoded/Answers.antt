use Rattle.close_laws.proofs.HeaderEncoded.{next_header_is_encoded}
use Rattle.close_laws.proofs.header.next_header_is_encoded.Goals as goal

pub returns : goal.returns
returns c = next_header_is_encoded c.sets_conserve.ensures c.settled_held.ensures

use Rattle.std.proofs.Common.{All, subst}
use mathlib.Core.List.{IsPrefix}
use Rattle.ledger_readers.proofs.publisher.PublisherOf+ReadingSide+S+J+Arc+S.end.Goals as goal

pub returns : goal.returns
returns g c = subst (All (λ known. IsPrefix known c.args.self.prefix)) c.as_slice.ensures.value c.await_all.ensures

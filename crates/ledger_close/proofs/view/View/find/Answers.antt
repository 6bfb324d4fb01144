use Rattle.ledger_close.proofs.Prelude.{ap, ClosingState}
use Rattle.bucket_levels.proofs.Represented.{represents_view}
use Rattle.ledger_close.proofs.view.View.find.Goals as goal

pub returns : goal.returns
returns c =
    let entries = ap (λ (s : ClosingState). s.entries) c.self.view_is in
    c.find_entry.ensures c.args.self.now.entries
    (represents_view c.as_slice.result.now c.self.inside.pairs.items c.args.self.now.entries c.as_slice.ensures.value
    entries)

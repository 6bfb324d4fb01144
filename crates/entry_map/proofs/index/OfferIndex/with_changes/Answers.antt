use Rattle.entry_map.proofs.Prelude.{ap, ◌∙◌, IfOk-weaker, offers_in, with_offers}
use Rattle.entry_map.proofs.Rebuilt.{rebuilt}
use Rattle.entry_map.proofs.index.OfferIndex.with_changes.Goals as goal

pub returns : goal.returns
returns c = IfOk-weaker c.with_entries-2.result _ _
    (λ index h offers is replaced.
    rebuilt offers c.args.before.now c.args.batch.now c.args.self.now c.in_ok-left.left c.in_ok-made.made index
    is replaced c.in_ok-left.ensures
    (c.in_ok-made.ensures ∙ ap (λ es. with_offers c.in_ok-left.left (offers_in es)) c.as_slice.ensures)
    (h ∙ ap (λ es. with_offers c.in_ok-made.made (offers_in es)) c.as_slice-2.ensures))
    c.with_entries-2.ensures

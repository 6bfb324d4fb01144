use Rattle.bucket_levels.proofs.Represented.{represents_view}
use Rattle.level_pages.proofs.stored_entries.StoredEntriesBase.next_up_to.Goals as goal

pub returns : goal.returns
returns c =
    c.next_entry_up_to.ensures c.args.self.now
    (represents_view c.as_slice.result.now c.self.inside.pairs.items c.args.self.now c.as_slice.ensures.value
    c.self.view_is)

use Rattle.level_entries.proofs.Prelude.{sym, ◌∙◌}
use Rattle.level_entries.proofs.Placing.{leaves_is}
use Rattle.bucket_items.specs.declared.item.BucketEntryType.TheVariants as mark
use Rattle.level_entries.proofs.left.leaves_entry.Goals as goal

pub returns-in-Meta : goal.returns-in-Meta
returns-in-Meta c = leaves_is c.args.item.now.1 mark.Meta (sym c.in-Meta.is ∙ c.mark.ensures)

pub returns-in-Live : goal.returns-in-Live
returns-in-Live c = leaves_is c.args.item.now.1 mark.Live (sym c.in-Live.is ∙ c.mark.ensures)

pub returns-in-Dead : goal.returns-in-Dead
returns-in-Dead c = leaves_is c.args.item.now.1 mark.Dead (sym c.in-Dead.is ∙ c.mark.ensures)

pub returns-in-Init : goal.returns-in-Init
returns-in-Init c = leaves_is c.args.item.now.1 mark.Init (sym c.in-Init.is ∙ c.mark.ensures)

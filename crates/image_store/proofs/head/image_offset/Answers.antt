use Rattle.image_store.proofs.Prelude.{sym}
use Rattle.image_store.proofs.Words.{offset_two, offset_other}
use Rattle.image_store.proofs.head.image_offset.Goals as goal

pub returns-then-format-eq2 : goal.returns-then-format-eq2
returns-then-format-eq2 c = sym (offset_two c.args.format c.if-format-eq2.true)

pub returns-else-format-eq2 : goal.returns-else-format-eq2
returns-else-format-eq2 c = sym (offset_other c.args.format c.if-format-eq2.false)

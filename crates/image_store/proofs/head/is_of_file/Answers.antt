use Rattle.image_store.proofs.Prelude.{◌∙◌, ◌-◌, ◌^◌, refl, nat_lt}
use Rattle.image_store.proofs.Heads.{epoch_reported}
use Rattle.image_store.proofs.head.is_of_file.Goals as goal

pub returns : goal.returns
returns c = epoch_reported c.args.file c.args.format c.args.epoch (nat_lt c.args.epoch (2 ^ 63 - 1))
    (c.if-epoch-from.false ∙ c.from.ensures) c.if-format-ne1.false refl

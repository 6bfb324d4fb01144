use Rattle.bucket_merge.proofs.Prelude.{◌∙◌, arith, append-nil}
use Rattle.bucket_merge.proofs.Writing.{text_is_short, grew_by_item}
use Rattle.bucket_merge.proofs.record.put_item.Goals as goal

pub put_record-requires : goal.put_record-requires
put_record-requires c =
    omega (arith, text_is_short c.args.item.now.bytes.now c.requires.0 c.requires.1.reads c.requires.2)

pub returns : goal.returns
returns c = λ e h.
    let text = c.args.item.now.bytes.now in
    grew_by_item c.put_record.result c.put_record.new.file.items c.args.file.now.items _ e
    (append-nil text ∙ h.reads.encoded) c.put_record.ensures

use Rattle.bucket_merge.proofs.Prelude.{◌∙◌, arith}
use Rattle.bucket_merge.proofs.Writing.{text_is_short, grew_by_item, init_parts, live_text}
use Rattle.bucket_merge.proofs.record.put_live.Goals as goal

pub split_at-requires : goal.split_at-requires
split_at-requires c = (init_parts c.args.item.now.bytes.now c.requires.0 c.requires.1.reads).0

pub put_record-requires : goal.put_record-requires
put_record-requires c =
    let short = text_is_short c.args.item.now.bytes.now _ c.requires.1.reads c.requires.2 in
    omega (arith, short, c.split_at.ensures.back_len)

pub returns : goal.returns
returns c = λ e h.
    let parts = init_parts c.args.item.now.bytes.now e h.reads in
    grew_by_item c.put_record.result c.put_record.new.file.items c.args.file.now.items _ _
    (live_text c.split_at.result.1.now e (c.split_at.ensures.back ∙ parts.1)) c.put_record.ensures

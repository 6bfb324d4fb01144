use Rattle.archive_files.proofs.Stated.{head_written}
use Rattle.archive_files.proofs.stating.stated_head.Goals as goal

pub returns : goal.returns
returns c =
    head_written c.new-text.result c.tag.new.self c.write_hash.new.builder c.u32.new.self c.args.before.now c.args.first
    c.new-text.ensures c.in_ok-tag.ensures c.in_ok-write_hash.ensures c.in_ok-u32.ensures

use Rattle.gate_journal.proofs.Prelude.{◌∙◌, ap, length, Image}
use Rattle.gate_journal.proofs.Blocks.{record_read}
use Rattle.gate_journal.proofs.reading.next_record.Goals as goal

pub returns-in-Ok-read_bytes-clause-reported : goal.returns-in-Ok-read_bytes-clause-reported
returns-in-Ok-read_bytes-clause-reported g c = λ reported.
    let file = λ (image : Image). image c.args.file in
    let first = ap file c.is_open.ensures.stays.reads in
    let second = ap file (c.record_length.ensures.stays.reads ∙ c.is_open.ensures.stays.reads) in
    record_read c.args.at c.in-Ok.count (file (g.V.Volume.disk c.args.vol.now).reads)
    (file (g.V.Volume.disk c.is_open.new.vol).reads)
    (file (g.V.Volume.disk c.record_length.new.vol).reads) c.from_vec.result first second
    (c.in-Ok.ensures.reported reported)
    (ap length c.from_vec.ensures ∙ c.in-Ok-read_bytes.ensures.count)
    (c.from_vec.ensures ∙ c.in-Ok-read_bytes.ensures.bytes reported) (c.in-Ok.ensures.within.1)

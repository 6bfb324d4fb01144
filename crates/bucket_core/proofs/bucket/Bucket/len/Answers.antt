use Rattle.std.proofs.Common.{ap, ◌∙◌, length}
use Rattle.bucket_core.specs.Bucket.{Contents}
use Rattle.bucket_core.specs.Index.{rows}
use Rattle.bucket_core.proofs.FileRows.{rows_long}
use Rattle.bucket_core.proofs.bucket.Bucket.len.Goals as goal

pub returns : goal.returns
returns c =
    ap length c.as_slice.ensures.value
    ∙ rows_long c.self.inside.bytes.items c.self.inside.offsets.items c.self.invariant.stated.file
    c.self.invariant.index
    ∙ ap (λ (x : Contents). length (rows x)) c.self.view_is

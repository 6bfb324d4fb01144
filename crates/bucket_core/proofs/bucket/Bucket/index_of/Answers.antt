use Rattle.std.proofs.Common.{◌<◌, ap, subst, ◌∙◌, length}
use Rattle.std.specs.Prelude.{IfSome}
use Rattle.bucket_core.specs.Bucket.{Contents}
use Rattle.bucket_core.specs.Index.{index_of, rows}
use Rattle.bucket_core.proofs.FileRows.{row_of_slices, slices_rise, rows_long}
use Rattle.bucket_core.proofs.bucket.Bucket.index_of.Goals as goal

pub index_of-requires-clause-rises : goal.index_of-requires-clause-rises
index_of-requires-clause-rises c =
    slices_rise c.self.inside.bytes.items c.self.inside.offsets.items c.as_slice.result.now c.as_slice-2.result.now
    c.self.invariant.stated.file c.self.invariant.index c.as_slice.ensures.value
    c.as_slice-2.ensures.value

pub returns-clause-index : goal.returns-clause-index
returns-clause-index c = λ k text.
    c.index_of.ensures.index k text ∙ ap (index_of k)
    (row_of_slices c.self.inside.bytes.items c.self.inside.offsets.items c.as_slice.result.now c.as_slice-2.result.now
    c.args.self.now c.self.invariant.stated.file c.self.invariant.index c.as_slice.ensures.value
    c.as_slice-2.ensures.value c.self.view_is)

pub returns-clause-within : goal.returns-clause-within
returns-clause-within c =
    subst (λ n. IfSome c.index_of.result (λ i. i < n))
    (ap length c.as_slice-2.ensures.value
    ∙ rows_long c.self.inside.bytes.items c.self.inside.offsets.items c.self.invariant.stated.file
    c.self.invariant.index
    ∙ ap (λ (x : Contents). length (rows x)) c.self.view_is) c.index_of.ensures.within

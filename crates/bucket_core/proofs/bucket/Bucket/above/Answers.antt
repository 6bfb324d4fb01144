use Rattle.std.proofs.Common.{rules, arith, ◌≡◌, refl, length, sym, ap, ◌∙◌}
use Rattle.bucket_core.specs.Index.{above}
use Rattle.bucket_core.proofs.FileRows.{no_rows, row_of_slices, slices_rise}
use Rattle.bucket_core.proofs.bucket.Bucket.above.Goals as goal

pub stored_above-requires-clause-rises : goal.stored_above-requires-clause-rises
stored_above-requires-clause-rises c =
    slices_rise c.self.inside.bytes.items c.self.inside.offsets.items c.as_slice-3.result.now c.as_slice-4.result.now
    c.self.invariant.stated.file c.self.invariant.index c.as_slice-3.ensures.value
    c.as_slice-4.ensures.value

pub returns-then-is_empty-clause-above : goal.returns-then-is_empty-clause-above
returns-then-is_empty-clause-above c = λ k text.
    let none : length c.self.inside.offsets.items ≡ 0 =
    search (rules, arith, c.as_slice.ensures, c.is_empty.ensures, c.if-is_empty.true) in
    ap (above k) (sym (no_rows c.self.inside.bytes.items c.self.inside.offsets.items none)
    ∙ row_of_slices c.self.inside.bytes.items c.self.inside.offsets.items c.self.inside.bytes.items
    c.self.inside.offsets.items c.args.self.now c.self.invariant.stated.file c.self.invariant.index refl refl
    c.self.view_is)

pub returns-clause-above : goal.returns-clause-above
returns-clause-above c = λ k text.
    c.stored_above.ensures k text ∙ ap (above k)
    (row_of_slices c.self.inside.bytes.items c.self.inside.offsets.items c.as_slice-3.result.now c.as_slice-4.result.now
    c.args.self.now c.self.invariant.stated.file c.self.invariant.index c.as_slice-3.ensures.value
    c.as_slice-4.ensures.value c.self.view_is)

use Rattle.std.proofs.Common.{rules, arith, ◌<◌, Some, sym, ap, ◌∙◌, length}
use Rattle.bucket_core.proofs.FileRows.{item_at_index}
use Rattle.bucket_core.proofs.bucket.Bucket.item.Goals as goal

pub offset_bounds-offsets-index : goal.offset_bounds-offsets-index
offset_bounds-offsets-index c =
    let w : c.args.index < length c.as_slice-offsets.result.now =
    (item_at_index c.self.inside.bytes.items c.self.inside.offsets.items c.as_slice.result.now
    c.as_slice-offsets.result.now
    c.args.self.now c.args.index 0 c.self.invariant.stated.file c.self.invariant.index c.as_slice.ensures.value
    c.as_slice-offsets.ensures.value c.self.view_is c.requires).within in
    search (rules, arith, w, c.as_slice-offsets.type_inv)

pub bounds-offsets-index : goal.bounds-offsets-index
bounds-offsets-index c =
    (item_at_index c.self.inside.bytes.items c.self.inside.offsets.items c.as_slice.result.now
    c.as_slice-offsets.result.now
    c.args.self.now c.args.index 0 c.self.invariant.stated.file c.self.invariant.index c.as_slice.ensures.value
    c.as_slice-offsets.ensures.value c.self.view_is c.requires).within

pub stored_at-requires : goal.stored_at-requires
stored_at-requires c =
    (item_at_index c.self.inside.bytes.items c.self.inside.offsets.items c.as_slice.result.now
    c.as_slice-offsets.result.now
    c.args.self.now c.args.index 0 c.self.invariant.stated.file c.self.invariant.index c.as_slice.ensures.value
    c.as_slice-offsets.ensures.value c.self.view_is c.requires).exists

pub returns : goal.returns
returns c =
    (item_at_index c.self.inside.bytes.items c.self.inside.offsets.items c.as_slice.result.now
    c.as_slice-offsets.result.now
    c.args.self.now c.args.index 0 c.self.invariant.stated.file c.self.invariant.index c.as_slice.ensures.value
    c.as_slice-offsets.ensures.value c.self.view_is c.requires).is
    ∙ ap Some (sym c.stored_at.ensures)

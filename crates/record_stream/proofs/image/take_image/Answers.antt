use Rattle.record_stream.proofs.Prelude.{ℕ, List, ap, subst, ◌∙◌, get_or, drop, slice_set, Span, Layout, image_in}
use Rattle.record_stream.proofs.Prelude.{piece, IsLayout}
use Rattle.record_stream.proofs.Layouts.{taken}
use Rattle.record_stream.proofs.image.take_image.Goals as goal

pub returns-clause-taken : goal.returns-clause-taken
returns-clause-taken c =
    let layout : Layout = c.in-Ok.layout in
    let index : ℕ = c.longest-index.result in
    let none : Span = record { start = 0; len = 0 } in
    let left : Layout = record {
      header = layout.header;
      files = slice_set layout.files index none;
      end = layout.end;
    } in
    taken c.args.ahead.now.items c.replace-bytes.new.dest.items layout index none c.in_ok-image.image
    c.from_vec-left.result c.set.new.self
    (subst (λ (t : List ℕ). IsLayout t layout) c.as_slice.ensures.value c.in-Ok.ensures) c.longest-index.ensures.within
    (c.in_ok-image.ensures ∙ ap (λ (t : List ℕ). image_in t left) c.as_slice-2.ensures.value)
    (c.from_vec-left.ensures ∙ c.only.ensures
    ∙ ap (λ v. piece v.items (get_or layout.files index none)) c.replace-bytes.ensures.value)
    c.set.ensures
    (ap (λ v. v.items) c.replace-bytes.ensures.after ∙ c.in_ok-rest.ensures
    ∙ ap (drop layout.end) c.as_slice-3.ensures.value)

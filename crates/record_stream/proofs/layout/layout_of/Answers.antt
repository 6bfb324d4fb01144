use Rattle.record_stream.proofs.Prelude.{◌+◌, ◌-◌, ◌<◌, ◌≤◌, List, length, take, refl, ap, sym, subst, ◌∙◌, arith}
use Rattle.record_stream.proofs.Prelude.{take_more_set, length-set, take_all, start_of, Span}
use Rattle.std.proofs.lemmas.Result.{err_from_is_err_and}
use Rattle.record_stream.proofs.Layouts.{bytes_of, magic, prefix_header, AreSoFar, none_so_far, one_passed}
use Rattle.record_stream.proofs.Layouts.{no_magic, no_header, no_file, laid_out}
use Rattle.record_stream.proofs.layout.layout_of.Goals as goal

pub returns-in_err-tag : goal.returns-in_err-tag
returns-in_err-tag c =
    let p = err_from_is_err_and c.from_residual.result c.from_residual.ensures.1 in
    rw (p.1, p.2) (no_magic (start_of c.args.text.now) c.in_err-tag.field-0.0
    (ap magic.read (sym c.new-ahead.ensures) ∙ c.in_err-tag.ensures.0))

pub returns-in_err-len : goal.returns-in_err-len
returns-in_err-len c =
    let p = err_from_is_err_and c.from_residual-in_err-len.result c.from_residual-in_err-len.ensures.1 in
    rw (p.1, p.2) (no_header (start_of c.args.text.now) c.tag.new.self c.in_err-len.field-0.0
    (ap magic.read (sym c.new-ahead.ensures) ∙ c.in_ok-tag.ensures) c.in_err-len.ensures.0)

pub overflow_sub-header : goal.overflow_sub-header
overflow_sub-header c =
    (prefix_header c.args.text.now c.new-ahead.result c.tag.new.self c.mark.new.self c.in_ok-len.field-0.now c.at.result
    c.new-ahead.ensures (bytes_of c.args.text.now c.type_inv.text) c.in_ok-tag.ensures c.in_ok-len.ensures
    c.at.ensures).low

pub loop-file-init : goal.loop-file-init
loop-file-init c =
    let header = prefix_header c.args.text.now c.new-ahead.result c.tag.new.self c.mark.new.self
    c.in_ok-len.field-0.now c.at.result c.new-ahead.ensures (bytes_of c.args.text.now c.type_inv.text)
    c.in_ok-tag.ensures c.in_ok-len.ensures c.at.ensures in
    record { many = refl; so_far = none_so_far c.args.text.now c.mark.new.self header.is.position }

pub returns-in_err-file : goal.returns-in_err-file
returns-in_err-file c =
    let text = c.args.text.now in
    let header = prefix_header text c.new-ahead.result c.tag.new.self c.mark.new.self
    c.in_ok-len.field-0.now c.at.result c.new-ahead.ensures (bytes_of text c.type_inv.text)
    c.in_ok-tag.ensures c.in_ok-len.ensures c.at.ensures in
    let below : c.loop-file.file-index < 22 = omega (arith, c.loop-file-test.true, c.loop-file.invariant.many) in
    let p = err_from_is_err_and c.from_residual-in_err-file.result c.from_residual-in_err-file.ensures.1 in
    rw (p.1, p.2) (no_file text c.tag.new.self c.mark.new.self _
    (ap magic.read (sym c.new-ahead.ensures) ∙ c.in_ok-tag.ensures) header.is c.loop-file.file-index c.loop-file.room
    c.loop-file.ahead (take c.loop-file.file-index c.loop-file.file-items) c.loop-file.invariant.so_far
    c.in_err-file.field-0.0 below c.in_err-file.ensures.faults)

pub loop-file-preserved : goal.loop-file-preserved
loop-file-preserved c =
    let text = c.args.text.now in
    let items = c.loop-file.file-items in
    let index = c.loop-file.file-index in
    let span = c.in_ok-file.field-0 in
    let below : index < length items = omega (arith, c.loop-file-test.true, c.loop-file.invariant.many) in
    let count : index < 22 = omega (arith, below, c.loop-file.invariant.many) in
    record {
      many = length-set items index span ∙ c.loop-file.invariant.many;
      so_far = subst (λ (spans : List Span). AreSoFar text (index + 1) (c.loop-file.room - span.len) c.mark.new.self
          c.pass_file.new.cursor spans) (sym (take_more_set items index span below))
          (one_passed text index c.loop-file.room c.mark.new.self c.loop-file.ahead c.pass_file.new.cursor
          (take index items) span count c.loop-file.invariant.so_far
          (c.in_ok-file.ensures.passes text c.loop-file.invariant.so_far.position));
    }

pub returns : goal.returns
returns c =
    let text = c.args.text.now in
    let items = c.loop-file.file-items in
    let index = c.loop-file.file-index in
    let header = prefix_header text c.new-ahead.result c.tag.new.self c.mark.new.self
    c.in_ok-len.field-0.now c.at.result c.new-ahead.ensures (bytes_of text c.type_inv.text)
    c.in_ok-tag.ensures c.in_ok-len.ensures c.at.ensures in
    let done : 22 ≤ index = omega (arith, c.loop-file-test.false, c.loop-file.invariant.many) in
    laid_out text c.tag.new.self c.mark.new.self _
    (ap magic.read (sym c.new-ahead.ensures) ∙ c.in_ok-tag.ensures) header.is index c.loop-file.room c.loop-file.ahead
    (take index items) c.loop-file.invariant.so_far items c.at-2.result done
    (take_all index items (omega (arith, done, c.loop-file.invariant.many))) c.at-2.ensures

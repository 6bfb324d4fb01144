use Rattle.bucket_items.proofs.Prelude.{ℕ, get_or, ap, ◌∙◌, w8, Fits-lt-pow, type_with}
use Rattle.bucket_items.proofs.Marking.{entire_is_text, number_stays, type_is_read, type_has_no_fault}
use Rattle.bucket_items.proofs.marked_item.type_in.Goals as goal

pub returns-in-Ok : goal.returns-in-Ok
returns-in-Ok c = λ p e at entire.
    let fits = λ (i : ℕ). Fits-lt-pow {w = w8} {n = get_or c.args.text.now i 0} (c.type_inv.text i) in
    c.type_with.ensures
    ∙ ap type_with (number_stays c.args.text.now _ _ c.in-Ok.discriminant fits c.new-ahead.ensures c.in-Ok.ensures)
    ∙ type_is_read c.args.text.now e _ _ c.in-Ok.discriminant (entire_is_text c.args.text.now p e fits at entire)
    c.new-ahead.ensures c.in-Ok.ensures

pub returns-in-Err : goal.returns-in-Err
returns-in-Err c = λ p e at entire.
    let fits = λ (i : ℕ). Fits-lt-pow {w = w8} {n = get_or c.args.text.now i 0} (c.type_inv.text i) in
    type_has_no_fault c.args.text.now e _ _ (entire_is_text c.args.text.now p e fits at entire) c.new-ahead.ensures
    c.in-Err.ensures.0

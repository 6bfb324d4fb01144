use Rattle.bucket_items.proofs.Prelude.{ℕ, get_or, subst, w8, Fits-lt-pow, Position, start_of, mark, max_item_len}
use Rattle.bucket_items.proofs.Prelude.{◌≡◌, Ok}
use Rattle.bucket_items.proofs.Marking.{item_says}
use Rattle.bucket_items.proofs.RecordLaws.{marked_is_text}
use Rattle.bucket_items.proofs.marked_item.item_text.Goals as goal

pub returns-in-Ok : goal.returns-in-Ok
returns-in-Ok c = λ e q h.
    let fits = λ (i : ℕ). Fits-lt-pow {w = w8} {n = get_or c.args.text.now i 0} (c.type_inv.text i) in
    marked_is_text (start_of c.args.text.now) q c.mark.new.self e c.in-Ok.record.now fits h
    (subst (λ (p : Position). (mark max_item_len).read p ≡ Ok (c.in-Ok.record.now, c.mark.new.self))
    c.new-ahead.ensures c.in-Ok.ensures)

pub returns-in-Err : goal.returns-in-Err
returns-in-Err c = λ e q h.
    let says = item_says (start_of c.args.text.now) e q h in
    absurd (cc (c.in-Err.ensures.0, says.1, c.new-ahead.ensures))

use Rattle.bucket_items.proofs.Prelude.{◌≡◌, ℕ, List, length, refl, sym, ap, subst, Ok, arith, Position, marked_leaves}
use Rattle.bucket_items.proofs.Prelude.{entire_at, after_mark, max_item_len}
use Rattle.bucket_items.proofs.Marking.{item_says, takes_shown}
use Rattle.bucket_items.proofs.marked_item.next_item.Goals as goal

pub returns-in-Ok-clause-item : goal.returns-in-Ok-clause-item
returns-in-Ok-clause-item c = λ e q h.
    let old = c.args.cursor.now in
    let text = c.in-Ok.text.now in
    let says = item_says old e q h in
    let same : (text, c.mark.new.self) ≡ (says.0, q) = cc (c.in-Ok.ensures, says.1) in
    let entire : entire_at (after_mark old text) ≡ Ok e =
    subst (λ (t : List ℕ). entire_at (after_mark old t) ≡ Ok e)
    (sym (ap (λ (x : List ℕ × Position). x.0) same)) says.2 in
    takes_shown c.shown.result c.mark.new.self e q text (ap (λ (x : List ℕ × Position). x.1) same)
    (c.shown.ensures (after_mark old text) e refl entire)

pub returns-in-Ok-clause-end : goal.returns-in-Ok-clause-end
returns-in-Ok-clause-end c = λ h.
    let left = marked_leaves max_item_len c.args.cursor.now c.mark.new.self c.in-Ok.text.now c.in-Ok.ensures in
    let none : length c.args.cursor.now.rest ≡ 0 = ap (λ (x : List ℕ). length x) h in
    absurd (omega arith)

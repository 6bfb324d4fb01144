use Rattle.bucket_items.proofs.Prelude.{ℕ, get_or, ◌∙◌, sym, w8, Fits-lt-pow}
use Rattle.bucket_items.proofs.KeysInRecords.{dead_from, other_from}
use Rattle.bucket_items.proofs.item.from_key.Goals as goal

pub returns-then-byte_at-eq-DEAD : goal.returns-then-byte_at-eq-DEAD
returns-then-byte_at-eq-DEAD c = λ e q reads.
    let text = c.args.text.now in
    let fits = λ (i : ℕ). Fits-lt-pow {w = w8} {n = get_or text i 0} (c.type_inv.text i) in
    dead_from text c.after.result.now e q fits reads (sym c.byte_at.ensures ∙ c.if-byte_at-eq-DEAD.true) c.after.ensures

pub returns-else-byte_at-eq-DEAD : goal.returns-else-byte_at-eq-DEAD
returns-else-byte_at-eq-DEAD c = λ e q reads.
    let text = c.args.text.now in
    let fits = λ (i : ℕ). Fits-lt-pow {w = w8} {n = get_or text i 0} (c.type_inv.text i) in
    other_from text c.after-else-byte_at-eq-DEAD.result.now e q fits reads
    (λ is. c.if-byte_at-eq-DEAD.false (c.byte_at.ensures ∙ is))
    c.after-else-byte_at-eq-DEAD.ensures

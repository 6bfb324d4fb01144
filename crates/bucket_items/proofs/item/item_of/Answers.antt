use Rattle.bucket_items.proofs.Prelude.{ℕ, get_or, refl, sym, w8, Fits-lt-pow}
use Rattle.bucket_items.proofs.Marking.{entire_is_text}
use Rattle.bucket_items.proofs.item.item_of.Goals as goal

pub returns : goal.returns
returns c = λ p e at entire t.
    let fits = λ (i : ℕ). Fits-lt-pow {w = w8} {n = get_or c.args.text.now i 0} (c.type_inv.text i) in
    let reads = entire_is_text c.args.text.now p e fits at entire in
    record { reads = reads; mark = sym t; key = c.key_in.ensures e reads t; bytes = refl }

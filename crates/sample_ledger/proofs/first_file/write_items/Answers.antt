use Rattle.sample_ledger.proofs.Prelude.{ℕ, List, ◌++◌, take, ap, sym, ◌∙◌, append_assoc, flat_map}
use Rattle.sample_ledger.proofs.Rows.{init_record, item_after}
use Rattle.sample_ledger.proofs.first_file.write_items.Goals as goal

pub loop-index-preserved : goal.loop-index-preserved
loop-index-preserved c =
    let row = c.args.rows.now in
    let index = c.loop-index.index in
    let e = c.entry.result.now in
    c.in_ok-write_item.ensures ∙ ap (λ (t : List ℕ). t ++ init_record e) c.loop-index.invariant
    ∙ append_assoc c.args.file.now (flat_map (λ x. init_record x.1) (take index row)) (init_record e)
    ∙ ap (λ (t : List ℕ). c.args.file.now ++ t) (sym (item_after row index e c.entry.ensures))

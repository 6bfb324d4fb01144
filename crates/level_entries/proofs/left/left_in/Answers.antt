use Rattle.level_entries.proofs.Prelude.{◌++◌, [], sym, ap, ◌∙◌, arith, entry_in, left_in, prepended_if}
use Rattle.std.proofs.lemmas.List.{take_all}
use Rattle.level_entries.proofs.Placing.{next_left}
use Rattle.level_entries.proofs.left.left_in.Goals as goal

pub loop-item-preserved : goal.loop-item-preserved
loop-item-preserved c =
    let item = c.item-item.result in
    c.in_ok-push_left.ensures
    ∙ ap (λ r. r ++ prepended_if (entry_in item.1) item []) c.loop-item.invariant
    ∙ sym (next_left c.args.row.now c.loop-item.item-index item c.loop-item-test.true c.item-item.is)

pub returns : goal.returns
returns c =
    c.loop-item.invariant ∙ ap left_in (take_all c.loop-item.item-index c.args.row.now (omega arith))

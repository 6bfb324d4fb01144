use Rattle.entry_table.proofs.Prelude.{sym, ◌∙◌, key_cmp, keys_compared}
use Rattle.entry_table.proofs.Passes.{older_passed, both_passed, newer_passed}
use Rattle.entry_table.proofs.rows.push_first.Goals as goal

pub returns-in_ok-push-in-Less : goal.returns-in_ok-push-in-Less
returns-in_ok-push-in-Less g c =
    older_passed c.args.older.now c.in-Some.pair.1.now c.args.row.now.items c.push-in-Less.new.row.items
    c.args.newer.now c.in-Some.pair.0.now c.in-Some.ensures.cases.0 c.requires.older c.requires.newer
    c.in-Some-split_first.pair.0.now c.in-Some-split_first.pair.1.now c.in-Some-split_first.ensures.cases.0
    ((λ i. key_cmp (sym c.key.ensures i) (sym c.key-2.ensures i))
    ∙ sym (keys_compared c.key.result.now c.key-2.result.now) ∙ sym c.cmp.ensures ∙ c.in-Less.is)
    c.in_ok-push-in-Less.ensures

pub returns-in_ok-push-in-Equal : goal.returns-in_ok-push-in-Equal
returns-in_ok-push-in-Equal g c =
    both_passed c.args.older.now c.in-Some.pair.1.now c.args.row.now.items c.push-in-Equal.new.row.items
    c.args.newer.now c.in-Some.pair.0.now c.in-Some.ensures.cases.0 c.requires.older c.requires.newer
    c.in-Some-split_first.pair.0.now c.in-Some-split_first.pair.1.now c.in-Some-split_first.ensures.cases.0
    ((λ i. key_cmp (sym c.key.ensures i) (sym c.key-2.ensures i))
    ∙ sym (keys_compared c.key.result.now c.key-2.result.now) ∙ sym c.cmp.ensures ∙ c.in-Equal.is)
    c.in_ok-push-in-Equal.ensures

pub returns-in_ok-push-in-Greater : goal.returns-in_ok-push-in-Greater
returns-in_ok-push-in-Greater g c =
    newer_passed c.args.older.now c.in-Some.pair.1.now c.args.row.now.items c.push-in-Greater.new.row.items
    c.args.newer.now c.in-Some.pair.0.now c.in-Some.ensures.cases.0 c.requires.older c.requires.newer
    c.in-Some-split_first.pair.0.now c.in-Some-split_first.pair.1.now c.in-Some-split_first.ensures.cases.0
    ((λ i. key_cmp (sym c.key.ensures i) (sym c.key-2.ensures i))
    ∙ sym (keys_compared c.key.result.now c.key-2.result.now) ∙ sym c.cmp.ensures ∙ c.in-Greater.is)
    c.in_ok-push-in-Greater.ensures

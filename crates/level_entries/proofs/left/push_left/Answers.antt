use Rattle.level_entries.proofs.Prelude.{[], ◌∷◌, ◌++◌, sym, ap, ◌∙◌, entry_in}
use Rattle.level_entries.proofs.Placing.{none_pushed, one_pushed}
use Rattle.level_entries.proofs.left.push_left.Goals as goal

pub returns-then-not-leaves_entry : goal.returns-then-not-leaves_entry
returns-then-not-leaves_entry c =
    none_pushed (entry_in c.args.item.now.1) c.args.item.now c.args.row.now.items
    (sym c.leaves_entry.ensures ∙ c.if-not-leaves_entry.true)

pub returns : goal.returns
returns c =
    one_pushed (entry_in c.args.item.now.1) c.args.item.now c.args.row.now.items c.push.new.self.items
    (sym c.leaves_entry.ensures ∙ c.if-not-leaves_entry.false)
    (c.in_ok-push.ensures.items ∙ ap (λ x. c.args.row.now.items ++ x ∷ []) c.again.ensures)

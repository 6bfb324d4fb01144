use Rattle.trade_cross.proofs.Prelude.{◌≡◌, sym, subst, ◌∙◌, IfOk, OnOk, Undo, Crossing, IsCrossing}
use Rattle.trade_cross.proofs.Chosen.{book_crossed, book_kept, pool_crossed, pool_left_so}
use Rattle.trade_cross.proofs.hops.choose.Goals as goal

pub returns-then-is_better-clause-crossed : goal.returns-then-is_better-clause-crossed
returns-then-is_better-clause-crossed g c =
    book_crossed c.args.ctx.now c.args.trade.now c.args.entries.now c.child.new.self c.convert.new.entries
    c.in_ok-book.book c.args.serving.swap c.requires.serving.swap c.in_ok-child.ensures c.in_ok-book.ensures.crossed
    c.in_ok-book.ensures.entries (sym c.is_better.ensures ∙ c.if-is_better.true)

pub returns-then-is_better-clause-entries : goal.returns-then-is_better-clause-entries
returns-then-is_better-clause-entries g c =
    book_kept c.args.ctx.now c.args.trade.now c.args.entries.now c.child.new.self c.convert.new.entries
    c.in_ok-book.book c.args.serving.swap c.requires.serving.swap c.in_ok-child.ensures c.in_ok-book.ensures.crossed
    c.in_ok-book.ensures.entries (sym c.is_better.ensures ∙ c.if-is_better.true) c.commit.new.self
    c.in_ok-commit.ensures

pub returns-clause-crossed : goal.returns-clause-crossed
returns-clause-crossed g c =
    subst (λ (x : Crossing). IfOk c.serve.result (λ crossed. IsCrossing crossed x))
    (pool_crossed c.args.ctx.now c.args.trade.now c.args.entries.now c.child.new.self c.convert.new.entries
    c.in_ok-book.book c.args.serving.swap c.requires.serving.swap c.in_ok-child.ensures c.in_ok-book.ensures.crossed
    c.in_ok-book.ensures.entries (sym c.is_better.ensures ∙ c.if-is_better.false) c.drop_child.new.self
    c.drop_child.ensures)
    c.serve.ensures.crossed

pub returns-clause-entries : goal.returns-clause-entries
returns-clause-entries g c =
    subst (λ (u : Undo). OnOk c.serve.result (c.serve.new.entries ≡ u))
    (pool_left_so c.args.ctx.now c.args.trade.now c.args.entries.now c.child.new.self c.convert.new.entries
    c.in_ok-book.book c.args.serving.swap c.requires.serving.swap c.in_ok-child.ensures c.in_ok-book.ensures.crossed
    c.in_ok-book.ensures.entries (sym c.is_better.ensures ∙ c.if-is_better.false) c.drop_child.new.self
    c.drop_child.ensures)
    c.serve.ensures.entries

use Rattle.shared_tree.proofs.Prelude.{rules, arith, ap, sym, ◌∙◌, ◌++◌, ◌∷◌, IfOk-weaker, between}
use Rattle.shared_tree.proofs.Parts.{parted, changed_after, changed_top, changed_before}
use Rattle.shared_tree.proofs.tree.Tree.+with_change.Goals as goal

pub with_change-requires : goal.with_change-requires
with_change-requires g t c =
    let fork = c.in-Some.fork.now in
    let p = parted g.met.K.Ord.total c.args.self.now fork.before fork.kept fork.after c.in-Some.ensures c.requires in
    let less = p.after_shorter in
    let sorted = p.after_sorted in
    search (rules, arith, less, sorted)

pub with_change-requires-in-Greater : goal.with_change-requires-in-Greater
with_change-requires-in-Greater g t c =
    let fork = c.in-Some.fork.now in
    let p = parted g.met.K.Ord.total c.args.self.now fork.before fork.kept fork.after c.in-Some.ensures c.requires in
    let less = p.before_shorter in
    let sorted = p.before_sorted in
    search (rules, arith, less, sorted)

pub returns-in_ok-after-in-Less : goal.returns-in_ok-after-in-Less
returns-in_ok-after-in-Less g t c =
    let fork = c.in-Some.fork.now in
    let p = parted g.met.K.Ord.total c.args.self.now fork.before fork.kept fork.after c.in-Some.ensures c.requires in
    let here = ap (g.K.Ord.cmp fork.kept.0) (sym c.key.ensures) ∙ sym c.order.ensures ∙ c.in-Less.is in
    IfOk-weaker c.leveled.result _ _ (λ tree is. is
    ∙ ap (λ r. fork.before ++ fork.kept ∷ r) c.in_ok-after-in-Less.ensures
    ∙ sym (changed_after g.met.K.Ord.total c.args.change.now.0 p c.args.change.now.1 here)) c.leveled.ensures

pub returns-in-Equal : goal.returns-in-Equal
returns-in-Equal g t c =
    let fork = c.in-Some.fork.now in
    let p = parted g.met.K.Ord.total c.args.self.now fork.before fork.kept fork.after c.in-Some.ensures c.requires in
    let here = ap (g.K.Ord.cmp fork.kept.0) (sym c.key.ensures) ∙ sym c.order.ensures ∙ c.in-Equal.is in
    IfOk-weaker c.joined-in-Equal.result _ _
    (λ tree is. is ∙ ap (λ o. fork.before ++ between o fork.after) c.kept-in-Equal.ensures
    ∙ sym (changed_top g.met.K.Ord.total c.args.change.now.0 p c.args.change.now.1 here)) c.joined-in-Equal.ensures

pub returns-in_ok-before-in-Greater : goal.returns-in_ok-before-in-Greater
returns-in_ok-before-in-Greater g t c =
    let fork = c.in-Some.fork.now in
    let p = parted g.met.K.Ord.total c.args.self.now fork.before fork.kept fork.after c.in-Some.ensures c.requires in
    let here = ap (g.K.Ord.cmp fork.kept.0) (sym c.key.ensures) ∙ sym c.order.ensures ∙ c.in-Greater.is in
    IfOk-weaker c.leveled-in-Greater.result _ _
    (λ tree is. is ∙ ap (λ r. r ++ fork.kept ∷ fork.after) c.in_ok-before-in-Greater.ensures
    ∙ sym (changed_before g.met.K.Ord.total c.args.change.now.0 p c.args.change.now.1 here))
    c.leveled-in-Greater.ensures

use Rattle.shared_tree.proofs.Prelude.{rules, arith, Some, ap, sym, ◌∙◌}
use Rattle.shared_tree.proofs.Parts.{parted, find_after, find_top, find_before}
use Rattle.shared_tree.proofs.tree.Tree.+find.Goals as goal

pub find-requires : goal.find-requires
find-requires g t c =
    let fork = c.in-Some.fork.now in
    let p = parted g.met.K.Ord.total c.args.self.now fork.before fork.kept fork.after c.in-Some.ensures c.requires in
    let less = p.after_shorter in
    let sorted = p.after_sorted in
    search (rules, arith, less, sorted)

pub find-requires-in-Greater : goal.find-requires-in-Greater
find-requires-in-Greater g t c =
    let fork = c.in-Some.fork.now in
    let p = parted g.met.K.Ord.total c.args.self.now fork.before fork.kept fork.after c.in-Some.ensures c.requires in
    let less = p.before_shorter in
    let sorted = p.before_sorted in
    search (rules, arith, less, sorted)

pub returns-in-Less : goal.returns-in-Less
returns-in-Less g t c =
    let fork = c.in-Some.fork.now in
    let p = parted g.met.K.Ord.total c.args.self.now fork.before fork.kept fork.after c.in-Some.ensures c.requires in
    c.find.ensures ∙ sym (find_after g.met.K.Ord.total c.args.key.now p (sym c.order.ensures ∙ c.in-Less.is))

pub returns-in-Equal : goal.returns-in-Equal
returns-in-Equal g t c =
    let fork = c.in-Some.fork.now in
    let p = parted g.met.K.Ord.total c.args.self.now fork.before fork.kept fork.after c.in-Some.ensures c.requires in
    ap Some c.value.ensures ∙ sym (find_top g.met.K.Ord.total c.args.key.now p (sym c.order.ensures ∙ c.in-Equal.is))

pub returns-in-Greater : goal.returns-in-Greater
returns-in-Greater g t c =
    let fork = c.in-Some.fork.now in
    let p = parted g.met.K.Ord.total c.args.self.now fork.before fork.kept fork.after c.in-Some.ensures c.requires in
    c.find-in-Greater.ensures
    ∙ sym (find_before g.met.K.Ord.total c.args.key.now p (sym c.order.ensures ∙ c.in-Greater.is))

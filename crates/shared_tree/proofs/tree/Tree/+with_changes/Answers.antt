use Rattle.shared_tree.proofs.Prelude.{rules, arith, ap, sym, ◌∙◌, ◌++◌, IfOk-weaker, option_copied, between}
use Rattle.shared_tree.proofs.Prelude.{all_changed}
use Rattle.shared_tree.proofs.Parts.{parted}
use Rattle.shared_tree.proofs.Divided.{all_new, made}
use Rattle.shared_tree.proofs.tree.Tree.+with_changes.Goals as goal

pub returns-in_default : goal.returns-in_default
returns-in_default g t c =
    IfOk-weaker c.of_changes.result _ _ (λ tree is. is
    ∙ all_new g.met.K.Ord.total c.args.changes.now c.requires.changes
    ∙ ap (all_changed g.K.Ord.cmp c.args.changes.now) (sym c.in_default.ensures)) c.of_changes.ensures

pub with_changes-requires : goal.with_changes-requires
with_changes-requires g t c =
    let fork = c.in-Some.fork.now in
    let p = parted g.met.K.Ord.total c.args.self.now fork.before fork.kept fork.after c.in-Some.ensures
    c.requires.row in
    let m = made g.met.K.Ord.total c.args.self.now fork.before fork.kept fork.after c.args.changes.now
    c.divided.result.0.now (option_copied c.divided.result.1) c.divided.result.2.now p c.requires.changes
    c.divided.ensures in
    let less = p.before_shorter in
    let sorted = p.before_sorted in
    let rises = m.earlier_sorted in
    search (rules, arith, less, sorted, rises)

pub with_changes-requires-2 : goal.with_changes-requires-2
with_changes-requires-2 g t c =
    let fork = c.in-Some.fork.now in
    let p = parted g.met.K.Ord.total c.args.self.now fork.before fork.kept fork.after c.in-Some.ensures
    c.requires.row in
    let m = made g.met.K.Ord.total c.args.self.now fork.before fork.kept fork.after c.args.changes.now
    c.divided.result.0.now (option_copied c.divided.result.1) c.divided.result.2.now p c.requires.changes
    c.divided.ensures in
    let less = p.after_shorter in
    let sorted = p.after_sorted in
    let rises = m.later_sorted in
    search (rules, arith, less, sorted, rises)

pub returns : goal.returns
returns g t c =
    let fork = c.in-Some.fork.now in
    let p = parted g.met.K.Ord.total c.args.self.now fork.before fork.kept fork.after c.in-Some.ensures
    c.requires.row in
    let m = made g.met.K.Ord.total c.args.self.now fork.before fork.kept fork.after c.args.changes.now
    c.divided.result.0.now (option_copied c.divided.result.1) c.divided.result.2.now p c.requires.changes
    c.divided.ensures in
    IfOk-weaker c.joined.result _ _ (λ tree is. is
    ∙ (λ i. c.in_ok-before.ensures i ++ between (option_copied c.divided.result.1) (c.in_ok-after.ensures i))
    ∙ m.same) c.joined.ensures

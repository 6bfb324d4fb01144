use Rattle.shared_tree.proofs.Prelude.{rules, arith, length, ◌+◌, ap, sym, ◌∙◌, ◌++◌}
use Rattle.shared_tree.proofs.Parts.{parted}
use Rattle.shared_tree.proofs.Divided.{count_within, count_after, count_top, count_before}
use Rattle.shared_tree.proofs.changes.+count_below.Goals as goal

pub count_below-requires : goal.count_below-requires
count_below-requires g t c =
    let p = parted g.met.K.Ord.total c.args.changes.now c.split_at.result.0.now c.in-Some.change.now c.in-Some.later.now
    (c.split_at.ensures.by_index.0 ∙ ap (λ r. c.split_at.result.0.now ++ r) c.in-Some.ensures.cases.0) c.requires in
    let less = p.after_shorter in
    let sorted = p.after_sorted in
    search (rules, arith, less, sorted)

pub count_below-requires-in-Greater : goal.count_below-requires-in-Greater
count_below-requires-in-Greater g t c =
    let p = parted g.met.K.Ord.total c.args.changes.now c.split_at.result.0.now c.in-Some.change.now c.in-Some.later.now
    (c.split_at.ensures.by_index.0 ∙ ap (λ r. c.split_at.result.0.now ++ r) c.in-Some.ensures.cases.0) c.requires in
    let less = p.before_shorter in
    let sorted = p.before_sorted in
    search (rules, arith, less, sorted)

pub overflow_add-result-in-Less : goal.overflow_add-result-in-Less
overflow_add-result-in-Less g t c =
    let within = count_within g.met.K.Ord.total c.args.key.now c.in-Some.later.now in
    omega (
      arith,
      within,
      c.count_below.ensures,
      c.in-Some.ensures.cases.1,
      c.split_at.ensures.front_len,
      c.split_at.ensures.back_len,
    )

pub returns-in-Less : goal.returns-in-Less
returns-in-Less g t c =
    let p = parted g.met.K.Ord.total c.args.changes.now c.split_at.result.0.now c.in-Some.change.now c.in-Some.later.now
    (c.split_at.ensures.by_index.0 ∙ ap (λ r. c.split_at.result.0.now ++ r) c.in-Some.ensures.cases.0) c.requires in
    ap (λ n. length c.split_at.result.0.now + 1 + n) c.count_below.ensures
    ∙ count_after g.met.K.Ord.total c.args.key.now p (ap (λ k. g.K.Ord.cmp k c.args.key.now) (sym c.key.ensures)
    ∙ sym c.cmp.ensures ∙ c.in-Less.is)

pub returns-in-Equal : goal.returns-in-Equal
returns-in-Equal g t c =
    let p = parted g.met.K.Ord.total c.args.changes.now c.split_at.result.0.now c.in-Some.change.now c.in-Some.later.now
    (c.split_at.ensures.by_index.0 ∙ ap (λ r. c.split_at.result.0.now ++ r) c.in-Some.ensures.cases.0) c.requires in
    count_top g.met.K.Ord.total c.args.key.now p (ap (λ k. g.K.Ord.cmp k c.args.key.now) (sym c.key.ensures)
    ∙ sym c.cmp.ensures ∙ c.in-Equal.is)

pub returns-in-Greater : goal.returns-in-Greater
returns-in-Greater g t c =
    let p = parted g.met.K.Ord.total c.args.changes.now c.split_at.result.0.now c.in-Some.change.now c.in-Some.later.now
    (c.split_at.ensures.by_index.0 ∙ ap (λ r. c.split_at.result.0.now ++ r) c.in-Some.ensures.cases.0) c.requires in
    c.count_below-in-Greater.ensures
    ∙ count_before g.met.K.Ord.total c.args.key.now p (ap (λ k. g.K.Ord.cmp k c.args.key.now) (sym c.key.ensures)
    ∙ sym c.cmp.ensures ∙ c.in-Greater.is)

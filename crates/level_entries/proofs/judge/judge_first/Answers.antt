use Rattle.level_entries.proofs.Prelude.{◌+◌, drop, sym, subst, ◌∙◌, item_type, MayFollowBy}
use Rattle.bucket_items.specs.declared.item.BucketEntryType.{BucketEntryType}
use Rattle.level_entries.proofs.JudgedRows.{from_index, judged_less, judged_equal, judged_greater}
use Rattle.level_entries.proofs.JudgedRows.{refused_equal}
use Rattle.level_entries.proofs.judge.judge_first.Goals as goal

pub returns-in-Less : goal.returns-in-Less
returns-in-Less c =
    let older = c.args.older.now in
    let newer = c.args.newer.now in
    let item = c.index-newer-turn.result in
    let under = c.index-older-index.result in
    judged_less (drop c.args.index older) (drop c.args.turn newer) (drop (c.args.turn + 1) newer) item
    (from_index newer c.args.turn item c.requires.turn c.index-newer-turn.is) c.requires.older c.requires.newer
    (drop (c.args.index + 1) older) under (from_index older c.args.index under c.requires.index c.index-older-index.is)
    (sym (c.order.ensures item.0 c.key.ensures) ∙ c.in-Less.is)

pub returns-then-may_follow : goal.returns-then-may_follow
returns-then-may_follow c =
    let older = c.args.older.now in
    let newer = c.args.newer.now in
    let item = c.index-newer-turn.result in
    let under = c.index-older-index.result in
    judged_equal (drop c.args.index older) (drop c.args.turn newer) (drop (c.args.turn + 1) newer) item
    (from_index newer c.args.turn item c.requires.turn c.index-newer-turn.is) c.requires.older c.requires.newer
    (drop (c.args.index + 1) older) under (from_index older c.args.index under c.requires.index c.index-older-index.is)
    (sym (c.order.ensures item.0 c.key.ensures) ∙ c.in-Equal.is)
    (subst (λ (t : BucketEntryType). MayFollowBy t (item_type under.1)) c.mark.ensures
    (subst (λ (t : BucketEntryType). MayFollowBy c.mark.result t) c.mark-in-Equal.ensures
    (c.may_follow.ensures.0 c.if-may_follow.true)))

pub returns-else-may_follow : goal.returns-else-may_follow
returns-else-may_follow c =
    let older = c.args.older.now in
    let newer = c.args.newer.now in
    let item = c.index-newer-turn.result in
    let under = c.index-older-index.result in
    refused_equal (drop c.args.index older) (drop c.args.turn newer) (drop (c.args.turn + 1) newer) item
    (from_index newer c.args.turn item c.requires.turn c.index-newer-turn.is) c.requires.older c.requires.newer
    (drop (c.args.index + 1) older) under (from_index older c.args.index under c.requires.index c.index-older-index.is)
    (sym (c.order.ensures item.0 c.key.ensures) ∙ c.in-Equal.is)
    (λ may. cc (
      c.may_follow.ensures.1 (subst (λ (t : BucketEntryType). MayFollowBy c.mark.result t) (sym c.mark-in-Equal.ensures)
          (subst (λ (t : BucketEntryType). MayFollowBy t (item_type under.1)) (sym c.mark.ensures) may)),
      c.if-may_follow.false,
    ))

pub returns-in-Greater : goal.returns-in-Greater
returns-in-Greater c =
    let older = c.args.older.now in
    let newer = c.args.newer.now in
    let item = c.index-newer-turn.result in
    let under = c.index-older-index.result in
    judged_greater (drop c.args.index older) (drop c.args.turn newer) (drop (c.args.turn + 1) newer) item
    (from_index newer c.args.turn item c.requires.turn c.index-newer-turn.is) c.requires.older c.requires.newer
    (drop (c.args.index + 1) older) under (from_index older c.args.index under c.requires.index c.index-older-index.is)
    (sym (c.order.ensures item.0 c.key.ensures) ∙ c.in-Greater.is)

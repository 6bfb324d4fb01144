use Rattle.level_entries.proofs.Prelude.{◌+◌, drop, arith, sym, ◌∙◌, older_passed, both_passed}
use Rattle.level_entries.proofs.Prelude.{newer_passed}
use Rattle.level_entries.proofs.JudgedRows.{from_index}
use Rattle.level_entries.proofs.overlay.push_first.Goals as goal

pub returns-in_ok-push-in-Less : goal.returns-in_ok-push-in-Less
returns-in_ok-push-in-Less c =
    let older = c.args.older.now in
    let newer = c.args.newer.now in
    let item = c.index-newer-turn.result in
    let under = c.index-older-index.result in
    record {
      passed = older_passed (drop c.args.index older) (drop (c.args.index + 1) older) c.args.row.now.items
          c.push.new.row.items (drop c.args.turn newer) under
          (from_index older c.args.index under c.requires.index c.index-older-index.is) c.requires.older
          c.requires.newer item (drop (c.args.turn + 1) newer)
          (from_index newer c.args.turn item c.requires.turn c.index-newer-turn.is)
          (sym (c.order.ensures item.0 c.key.ensures) ∙ c.in-Less.is) c.in_ok-push-in-Less.ensures;
      older_within = omega (arith, c.requires.index);
      newer_within = omega (arith, c.requires.turn);
    }

pub returns-in_ok-push-in-Equal : goal.returns-in_ok-push-in-Equal
returns-in_ok-push-in-Equal c =
    let older = c.args.older.now in
    let newer = c.args.newer.now in
    let item = c.index-newer-turn.result in
    let under = c.index-older-index.result in
    record {
      passed = both_passed (drop c.args.index older) (drop (c.args.index + 1) older) c.args.row.now.items
          c.push-in-Equal.new.row.items (drop c.args.turn newer) under
          (from_index older c.args.index under c.requires.index c.index-older-index.is) c.requires.older
          c.requires.newer item (drop (c.args.turn + 1) newer)
          (from_index newer c.args.turn item c.requires.turn c.index-newer-turn.is)
          (sym (c.order.ensures item.0 c.key.ensures) ∙ c.in-Equal.is) c.in_ok-push-in-Equal.ensures;
      older_within = omega (arith, c.requires.index);
      newer_within = omega (arith, c.requires.turn);
    }

pub returns-in_ok-push-in-Greater : goal.returns-in_ok-push-in-Greater
returns-in_ok-push-in-Greater c =
    let older = c.args.older.now in
    let newer = c.args.newer.now in
    let item = c.index-newer-turn.result in
    let under = c.index-older-index.result in
    record {
      passed = newer_passed (drop c.args.index older) (drop (c.args.index + 1) older) c.args.row.now.items
          c.push-in-Greater.new.row.items (drop c.args.turn newer) under
          (from_index older c.args.index under c.requires.index c.index-older-index.is) c.requires.older
          c.requires.newer item (drop (c.args.turn + 1) newer)
          (from_index newer c.args.turn item c.requires.turn c.index-newer-turn.is)
          (sym (c.order.ensures item.0 c.key.ensures) ∙ c.in-Greater.is) c.in_ok-push-in-Greater.ensures;
      older_within = omega (arith, c.requires.index);
      newer_within = omega (arith, c.requires.turn);
    }

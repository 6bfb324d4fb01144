use Rattle.change_stream.proofs.Applied.{kept_applied}
use Rattle.change_stream.proofs.applying.apply_changes.Goals as goal

pub returns-in_ok-commit-in-Ok : goal.returns-in_ok-commit-in-Ok
returns-in_ok-commit-in-Ok g c = kept_applied c.args.entries.now c.child.new.self c.make_all.new.entries
    c.commit.new.self c.args.list.now c.in_ok-child.ensures c.in-Ok.ensures c.in_ok-commit-in-Ok.ensures

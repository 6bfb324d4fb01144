use Rattle.image_rules.proofs.Prelude.{Some, on_ok_weaker, pos, for_key, uses_of}
use Rattle.image_rules.proofs.Counting.{added_both}
use Rattle.image_rules.proofs.Naming.{used_both}
use Rattle.image_rules.proofs.shares.add_uses_of.Goals as goal

pub returns : goal.returns
returns c =
    let first = c.needed_line.result in
    let second = c.needed_line-2.result in
    on_ok_weaker c.add_at-2.result
    (added_both c.args.tally.now c.add_at.new.tally c.add_at-2.new.tally (λ k. for_key k first (pos 1))
    (λ k. for_key k second (pos 1)) (λ k. uses_of k c.args.id.now (Some c.args.params.now))
    (λ k. used_both k c.args.id.now c.args.params.now first second c.needed_line.ensures c.needed_line-2.ensures)
    c.in_ok-add_at.ensures) c.add_at-2.ensures

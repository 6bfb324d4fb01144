use Rattle.image_rules.proofs.Prelude.{subst, sym, OnOk, on_ok_weaker, pos, for_key, Adds}
use Rattle.image_rules.proofs.Counting.{added_for, added_nothing}
use Rattle.image_rules.proofs.counts.add_at.Goals as goal

pub returns-then-more-eq0 : goal.returns-then-more-eq0
returns-then-more-eq0 c = added_nothing c.args.tally.now c.args.named c.args.more c.if-more-eq0.true

pub returns-in-Some : goal.returns-in-Some
returns-in-Some c =
    subst (λ o. OnOk c.add.result (Adds c.args.tally.now c.add.new.tally (λ k. for_key k o (pos c.args.more))))
    (sym c.in-Some.is)
    (on_ok_weaker c.add.result (added_for c.args.tally.now c.add.new.tally c.in-Some.key c.args.more) c.add.ensures)

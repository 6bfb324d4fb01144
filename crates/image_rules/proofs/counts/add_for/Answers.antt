use Rattle.image_rules.proofs.Prelude.{subst, OnOk, pos, for_key, Adds}
use Rattle.image_rules.proofs.counts.add_for.Goals as goal

pub returns : goal.returns
returns c =
    subst (λ o. OnOk c.add_at.result (Adds c.args.tally.now c.add_at.new.tally (λ k. for_key k o (pos c.args.more))))
    c.account_key.ensures c.add_at.ensures

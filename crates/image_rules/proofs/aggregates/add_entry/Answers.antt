use Rattle.image_rules.proofs.Prelude.{subst, sym, OnOk, pools_in, Adds, counted_else}
use Rattle.image_rules.proofs.aggregates.add_entry.Goals as goal

pub returns-in-Sponsoring : goal.returns-in-Sponsoring
returns-in-Sponsoring c =
    subst (λ b. OnOk c.add_payers.result (Adds c.args.tally.now c.add_payers.new.tally
    (λ k. counted_else (pools_in c.args.entries.now) b k c.args.entry.now)))
    (sym c.in-Sponsoring.is) c.add_payers.ensures

pub returns-in-Sponsored : goal.returns-in-Sponsored
returns-in-Sponsored c =
    subst (λ b. OnOk c.add_paid_for.result (Adds c.args.tally.now c.add_paid_for.new.tally
    (λ k. counted_else (pools_in c.args.entries.now) b k c.args.entry.now)))
    (sym c.in-Sponsored.is) c.add_paid_for.ensures

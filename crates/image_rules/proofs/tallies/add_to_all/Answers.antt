use Rattle.image_rules.proofs.Prelude.{on_ok_weaker}
use Rattle.image_rules.proofs.Tallying.{account_added}
use Rattle.image_rules.proofs.tallies.add_to_all.Goals as goal

pub returns-in-Account : goal.returns-in-Account
returns-in-Account c =
    on_ok_weaker c.add_payers.result
    (account_added c.args.tallies.now c.add_payers.new.tally c.args.entries.now c.args.entry.now c.in-Account.field-0
    c.in-Account.is) c.add_payers.ensures

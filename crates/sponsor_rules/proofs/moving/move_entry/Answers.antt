use Rattle.sponsor_rules.proofs.Prelude.{rules, ◌≡◌, ◌∙◌, sym, ap, Some, get}
use Rattle.sponsor_rules.specs.Charge.{owner_in}
use Rattle.sponsor_rules.proofs.moving.move_entry.Goals as goal

pub move_between-requires-clause-owner : goal.move_between-requires-clause-owner
move_between-requires-clause-owner g c =
    let found : get c.args.entries.now.current c.args.key.now ≡ Some c.in-Some.entry = search rules in
    c.requires c.in-Some.entry found c.in-Itself.owner (ap owner_in (sym c.charge_of.ensures ∙ c.in-Itself.is))

pub move_between-requires-in-Subentry-clause-owner : goal.move_between-requires-in-Subentry-clause-owner
move_between-requires-in-Subentry-clause-owner g c =
    let found : get c.args.entries.now.current c.args.key.now ≡ Some c.in-Some.entry = search rules in
    c.requires c.in-Some.entry found c.in-Subentry.owner (ap owner_in (sym c.charge_of.ensures ∙ c.in-Subentry.is))

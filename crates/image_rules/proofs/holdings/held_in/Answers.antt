use Rattle.image_rules.proofs.Prelude.{refl, sym, subst, Option, LedgerKey, keys_in}
use Rattle.image_rules.specs.Holdings.{AreHeld}
use Rattle.image_rules.proofs.Kept.{known_at, known_more}
use Rattle.image_rules.proofs.holdings.held_in.Goals as goal

pub returns-in-Some-clause-held : goal.returns-in-Some-clause-held
returns-in-Some-clause-held c =
    known_at c.args.entries.now c.args.known.now c.args.asset.now c.in-Some.held.now c.requires
    (sym c.in-Some.ensures.value)

pub returns-clause-known : goal.returns-clause-known
returns-clause-known c =
    let m = c.args.entries.now in
    let held = c.in_ok-held.held in
    known_more m c.args.known.now (record { seller = c.args.known.now.seller; found = c.insert.new.self })
    c.args.asset.now held c.requires refl c.in_ok-insert.ensures.updates
    (subst (λ (n : Option LedgerKey). AreHeld m (keys_in n) held) c.holder.ensures c.in_ok-held.ensures)

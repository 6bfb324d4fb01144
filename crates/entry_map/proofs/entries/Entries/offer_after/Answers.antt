use Rattle.entry_map.proofs.Prelude.{subst, Undo, IsIndexOf}
use Rattle.entry_map.proofs.entries.Entries.offer_after.Goals as goal

pub returns : goal.returns
returns g c sound priced =
    let m = c.args.self.now.current in
    let index : IsIndexOf m c.self.inside.offers = subst (λ (u : Undo). IsIndexOf u.current c.self.inside.offers)
    c.self.view_is (c.self.invariant c.if-self.false).now in
    c.offer_after.ensures.map m index sound priced

use Rattle.offer_exchange.proofs.Prelude.{◌≡◌, ap, ◌∙◌, unsigned_abs, rules, pos, Normal, bounds_of, wanted_by, Amounts}
use Rattle.offer_exchange.proofs.Prelude.{offered, table}
use Rattle.offer_exchange.proofs.offers.wanted.Goals as goal

pub returns : goal.returns
returns c =
    let bounds : bounds_of c.offered.result ≡ offered (unsigned_abs c.args.send) (unsigned_abs c.args.receive) =
    search rules in
    let moved : table Normal c.parts-n.result.0 c.parts-n.result.1 (bounds_of c.offered.result)
    ≡ wanted_by c.args.price c.args.send c.args.receive =
    λ i. table Normal (c.parts-n.ensures.value i).0 (c.parts-n.ensures.value i).1 (bounds i) in
    let is = c.table.ensures.value ∙ moved in
    record {
      selling = c.bound_by.ensures.selling ∙ ap (λ (a : Amounts). pos a.wheat) is;
      buying = c.bound_by.ensures.buying ∙ ap (λ (a : Amounts). pos a.sheep) is;
    }

use Rattle.offer_book.proofs.Prelude.{◌≡◌, ◌∙◌, [], ap, sym, subst, above, entries, sold_in, IsKeyed, EntryMap}
use Rattle.entry_map.specs.Walk.{WalkAt}
use Rattle.offer_book.proofs.Selling.{AreFound, all_found, none_found, one_more_found}
use Rattle.offer_book.specs.Sold.{IsNextSold}
use Rattle.offer_book.proofs.sold.sold_entries.Goals as goal

pub loop-sold-init : goal.loop-sold-init
loop-sold-init g c = none_found c.args.entries.now.current c.args.seller.now c.last_key.result c.in_ok-walk.walk
    c.new-sold.result.items
    (c.in_ok-walk.ensures ∙ ap (λ k. record { entries = c.args.entries.now.current; at = k; last = c.last_key.result })
    c.first_key.ensures)
    c.last_key.ensures c.new-sold.ensures.items

pub loop-sold-preserved : goal.loop-sold-preserved
loop-sold-preserved g c =
    let old : WalkAt = c.loop-sold.walk in
    one_more_found c.args.entries.now.current c.args.seller.now old c.next_sold.new.walk c.loop-sold.sold.items
    c.push.new.self.items c.in-Some.entry c.loop-sold.invariant c.in_ok-entry.ensures.entries
    c.in_ok-entry.ensures.last
    (subst (IsNextSold old c.next_sold.new.walk.at c.args.seller.now) c.in-Some.is c.in_ok-entry.ensures.next)
    c.in_ok-push.ensures.items

pub returns : goal.returns
returns g c = λ numbered.
    let walk : WalkAt = c.loop-sold.walk in
    let m = c.args.entries.now.current in
    let far : AreFound m c.args.seller.now walk c.loop-sold.sold.items = c.loop-sold.invariant in
    let none : sold_in c.args.seller.now (above walk.at (entries walk.entries)) ≡ [] =
    subst (IsNextSold walk c.next_sold.new.walk.at c.args.seller.now) c.in_default.is c.in_ok-entry.ensures.next
    (subst (λ (x : EntryMap). IsKeyed x) (sym far.same) numbered.keyed) far.among far.within in
    all_found m c.args.seller.now walk c.loop-sold.sold.items far none numbered

use Rattle.offer_book.proofs.Prelude.{◌≡◌, subst, Option, Some, IsSoldIn, LedgerEntry, key_of}
use Rattle.entry_map.specs.EntryMap.{IsNextUpTo}
use Rattle.std.specs.Prelude.{IfSome}
use Rattle.offer_book.proofs.Selling.{nothing_sold, other_sold, some_sold}
use Rattle.offer_book.proofs.sold.next_sold.Goals as goal

pub returns-in_default-clause-next : goal.returns-in_default-clause-next
returns-in_default-clause-next g c = λ keyed among within.
    let old = c.args.walk.now in
    nothing_sold old.entries old.at old.last c.args.seller.now
    (subst (IsNextUpTo old.entries old.at (Some old.last)) c.in_default.is c.in_ok-entry.ensures.next) keyed within

pub returns-in-None-clause-next : goal.returns-in-None-clause-next
returns-in-None-clause-next g c = λ keyed among within.
    let old = c.args.walk.now in
    other_sold old.entries old.at c.args.seller.now c.in-Some.entry
    (subst (IsNextUpTo old.entries old.at (Some old.last)) c.in-Some.is c.in_ok-entry.ensures.next)
    (subst (IsSoldIn c.in-Some.entry c.args.seller.now) c.in-None.is c.sold_in.ensures) keyed among

pub returns-in-Some-sold_in-clause-next : goal.returns-in-Some-sold_in-clause-next
returns-in-Some-sold_in-clause-next g c =
    let old = c.args.walk.now in
    some_sold old c.next.new.self.at c.args.seller.now c.in-Some.entry c.in-Some-sold_in.field-0
    (subst (IsNextUpTo old.entries old.at (Some old.last)) c.in-Some.is c.in_ok-entry.ensures.next)
    (subst (λ (o : Option LedgerEntry). IfSome o (λ e. c.next.new.self.at ≡ key_of e)) c.in-Some.is
    c.in_ok-entry.ensures.at)
    (subst (IsSoldIn c.in-Some.entry c.args.seller.now) c.in-Some-sold_in.is c.sold_in.ensures)

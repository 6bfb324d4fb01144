use Rattle.pool_shares.proofs.Prelude.{subst, sym, Option, Some, None, LedgerEntry, LedgerKey, IsLeastAbove}
use Rattle.entry_map.specs.EntryMap.{IsNextUpTo}
use Rattle.pool_shares.proofs.Holding.{none_next, entry_next}
use Rattle.pool_shares.proofs.account_pools.next_line.Goals as goal

pub returns-in-None : goal.returns-in-None
returns-in-None g c =
    let m = c.args.entries.now.current in
    let last = c.last_key.result in
    none_next m c.args.id.now c.args.after.now last
    (subst (λ (k : LedgerKey). IsNextUpTo m k (Some last) None) c.line_key.ensures
    (subst (λ (o : Option LedgerEntry). IsNextUpTo m c.line_key.result (Some last) o) c.in-None.is
    c.in_ok-next_up_to.ensures)) c.last_key.ensures

pub returns : goal.returns
returns g c =
    let m = c.args.entries.now.current in
    let last = c.last_key.result in
    entry_next m c.args.id.now c.args.after.now c.in-Some.entry c.line_held.result
    (subst (λ (k : LedgerKey). IsLeastAbove m k c.in-Some.entry) c.line_key.ensures
    (subst (λ (o : Option LedgerEntry). IsNextUpTo m c.line_key.result (Some last) o) c.in-Some.is
    c.in_ok-next_up_to.ensures)) (sym c.line_held.ensures)

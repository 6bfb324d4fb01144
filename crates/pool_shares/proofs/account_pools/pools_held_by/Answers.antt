use Rattle.pool_shares.proofs.Prelude.{◌≡◌, [], sym, ap, subst, ◌∙◌, ◌++◌, append-nil, left, held_in, IsNextLine}
use Rattle.pool_shares.proofs.Holding.{all_ahead}
use Rattle.pool_shares.proofs.account_pools.pools_held_by.Goals as goal

pub returns : goal.returns
returns g c keyed =
    let m = c.args.entries.now.current in
    let id = c.args.id.now in
    let none : held_in id (left m id c.loop-pools.last) ≡ [] =
    subst (IsNextLine m id c.loop-pools.last) c.in_default.is c.in_ok-asset.ensures keyed in
    sym (append-nil c.loop-pools.pools.items) ∙ ap (λ r. c.loop-pools.pools.items ++ r) (sym none)
    ∙ c.loop-pools.invariant ∙ all_ahead id c.ahead_of_shares-last.result c.ahead_of_shares-last.ensures m keyed

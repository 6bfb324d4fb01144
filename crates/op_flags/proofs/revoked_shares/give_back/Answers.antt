use Rattle.op_flags.proofs.Prelude.{◌≡◌, sym, subst, rules, w64, to_z, of_z, DoesFit, DoesPoolFit, DoShareLinesFit}
use Rattle.op_flags.proofs.Prelude.{part_of, map_after_withdrawing}
use Rattle.std.proofs.Common.{pos, neg_ℤ, ◌≤ℤ◌}
use Rattle.ledger_types.specs.declared.asset.TrustLineAsset.TheVariants.{PoolShare}
use Rattle.pool_shares.proofs.Loaded.{line_loaded, pool_loaded}
use Rattle.op_flags.proofs.Shares.{some_shares, as_there_are, pool_in_range, balance_fits, pool_fits, counts_fit}
use Rattle.op_flags.proofs.revoked_shares.give_back.Goals as goal

pub part_of-part-requires-clause-reserve_a : goal.part_of-part-requires-clause-reserve_a
part_of-part-requires-clause-reserve_a g c =
    let m = c.args.entries.now.current in
    let id = c.args.trustor.now in
    let pool = c.args.pool_id.now in
    (pool_in_range c.args.ctx.now.id_pool m c.requires.legal id pool c.args.share.line c.args.pool.pool
    (line_loaded m id (PoolShare pool) c.args.share c.requires.share)
    (pool_loaded m pool c.args.pool c.requires.pool)).reserve_a

pub part_of-part-requires-clause-reserve_b : goal.part_of-part-requires-clause-reserve_b
part_of-part-requires-clause-reserve_b g c =
    let m = c.args.entries.now.current in
    let id = c.args.trustor.now in
    let pool = c.args.pool_id.now in
    (pool_in_range c.args.ctx.now.id_pool m c.requires.legal id pool c.args.share.line c.args.pool.pool
    (line_loaded m id (PoolShare pool) c.args.share c.requires.share)
    (pool_loaded m pool c.args.pool c.requires.pool)).reserve_b

pub part_of-part-requires-clause-shares : goal.part_of-part-requires-clause-shares
part_of-part-requires-clause-shares g c =
    let m = c.args.entries.now.current in
    let id = c.args.trustor.now in
    let pool = c.args.pool_id.now in
    let n = c.args.share.line.balance in
    let number : to_z w64 (of_z w64 n) ≡ n = search rules in
    subst (λ x. pos 0 ≤ℤ x) (sym number)
    (some_shares c.args.ctx.now.id_pool m c.requires.legal id pool c.args.share.line c.args.pool.pool
    (line_loaded m id (PoolShare pool) c.args.share c.requires.share)
    (pool_loaded m pool c.args.pool c.requires.pool))

pub part_of-part-requires-clause-within : goal.part_of-part-requires-clause-within
part_of-part-requires-clause-within g c =
    let m = c.args.entries.now.current in
    let id = c.args.trustor.now in
    let pool = c.args.pool_id.now in
    let n = c.args.share.line.balance in
    let number : to_z w64 (of_z w64 n) ≡ n = search rules in
    subst (λ x. x ≤ℤ c.args.pool.pool.total_pool_shares) (sym number)
    (as_there_are c.args.ctx.now.id_pool m c.requires.legal id pool c.args.share.line c.args.pool.pool
    (line_loaded m id (PoolShare pool) c.args.share c.requires.share)
    (pool_loaded m pool c.args.pool c.requires.pool))

pub given_back-change-requires-clause-shares : goal.given_back-change-requires-clause-shares
given_back-change-requires-clause-shares g c =
    let m = c.args.entries.now.current in
    let id = c.args.trustor.now in
    let pool = c.args.pool_id.now in
    let n = c.args.share.line.balance in
    let number : to_z w64 (of_z w64 n) ≡ n = search rules in
    subst (λ x. pos 0 ≤ℤ x) (sym number)
    (some_shares c.args.ctx.now.id_pool m c.requires.legal id pool c.args.share.line c.args.pool.pool
    (line_loaded m id (PoolShare pool) c.args.share c.requires.share)
    (pool_loaded m pool c.args.pool c.requires.pool))

pub store_shares-requires-clause-balance : goal.store_shares-requires-clause-balance
store_shares-requires-clause-balance g c =
    let m = c.args.entries.now.current in
    let id = c.args.trustor.now in
    let pool = c.args.pool_id.now in
    let n = c.args.share.line.balance in
    let shares : c.given_back-change.result.shares ≡ neg_ℤ n = search rules in
    subst (DoesFit n) (sym shares)
    (balance_fits c.args.ctx.now.id_pool m c.requires.legal id pool c.args.share.line c.args.pool.pool
    (line_loaded m id (PoolShare pool) c.args.share c.requires.share)
    (pool_loaded m pool c.args.pool c.requires.pool))

pub store_shares-requires-clause-reserves : goal.store_shares-requires-clause-reserves
store_shares-requires-clause-reserves g c =
    let m = c.args.entries.now.current in
    let id = c.args.trustor.now in
    let pool = c.args.pool_id.now in
    let p = c.args.pool.pool in
    let n = c.args.share.line.balance in
    let change : c.given_back-change.result ≡ record {
      a = neg_ℤ (pos (part_of p n).a);
      b = neg_ℤ (pos (part_of p n).b);
      shares = neg_ℤ n;
    } = search rules in
    subst (DoesPoolFit p) (sym change)
    (pool_fits c.args.ctx.now.id_pool m c.requires.legal id pool c.args.share.line p
    (line_loaded m id (PoolShare pool) c.args.share c.requires.share)
    (pool_loaded m pool c.args.pool c.requires.pool))

pub remove_share_line-requires : goal.remove_share_line-requires
remove_share_line-requires g c =
    let m = c.args.entries.now.current in
    let id = c.args.trustor.now in
    let pool = c.args.pool_id.now in
    let p = c.args.pool.pool in
    let n = c.args.share.line.balance in
    let now : c.store_shares.new.entries.current ≡ map_after_withdrawing id pool n (part_of p n) m = search rules in
    subst (DoShareLinesFit (neg_ℤ (pos 1)) id pool p.params) (sym now)
    (counts_fit c.args.ctx.now.id_pool m c.requires.legal id pool c.args.share.line p
    (line_loaded m id (PoolShare pool) c.args.share c.requires.share)
    (pool_loaded m pool c.args.pool c.requires.pool))

use Rattle.fee_rules.proofs.Prelude.{sym, no_tx, hashed_of}
use Rattle.fee_rules.proofs.Orders.{hashed_total}
use Rattle.fee_rules.proofs.Ranking.{sorted_is_ranked}
use Rattle.fee_rules.proofs.hashed.by_hash.Goals as goal

pub returns : goal.returns
returns c =
    sym (sorted_is_ranked hashed_total _ _ c.sort.ensures.permutation c.in_ok-sort.ensures.sorted c.requires
    (hashed_of no_tx))

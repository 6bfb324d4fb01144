use Rattle.fee_rules.proofs.Prelude.{List, sym, subst, IsDistinct, eq_by_cmp, Hashed, hashed_cmp}
use Rattle.fee_rules.proofs.Indices.{apart_hashes}
use Rattle.fee_rules.proofs.hashed.in_order.Goals as goal

pub by_hash-requires : goal.by_hash-requires
by_hash-requires c =
    subst (λ (hs : List Hashed). IsDistinct (eq_by_cmp hashed_cmp) hs) (sym c.in_ok-hashed.ensures)
    (apart_hashes _ c.requires)

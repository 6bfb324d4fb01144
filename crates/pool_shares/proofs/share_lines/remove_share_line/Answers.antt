use Rattle.pool_shares.proofs.Prelude.{sym, ap, subst, pos, neg_ℤ, Undo, DoShareLinesFit}
use Rattle.pool_shares.proofs.Uses.{still_fits}
use Rattle.pool_shares.proofs.share_lines.remove_share_line.Goals as goal

pub count_share_lines-requires : goal.count_share_lines-requires
count_share_lines-requires g c =
    let id = c.args.id.now in
    let pool = c.args.pool_id.now in
    let params = c.args.params.now in
    subst (DoShareLinesFit (neg_ℤ (pos 1)) id pool params)
    (sym (ap (λ (u : Undo). u.current) c.in_ok-remove_entry.ensures.removed))
    (still_fits (neg_ℤ (pos 1)) id pool params c.args.entries.now.current c.requires)

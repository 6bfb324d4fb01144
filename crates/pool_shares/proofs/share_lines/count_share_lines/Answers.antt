use Rattle.pool_shares.proofs.Prelude.{◌≡◌, sym, ap, subst, ◌∙◌, rules, w32, w64, to_z, of_z, to_z-of_z, pool_at}
use Rattle.pool_shares.proofs.Prelude.{map_with_uses, DoesFit, DoUsesFit, DoShareLinesFit}
use Rattle.pool_shares.proofs.Uses.{second_fits, lines_fit}
use Rattle.pool_shares.proofs.share_lines.count_share_lines.Goals as goal

pub count_uses-requires-2 : goal.count_uses-requires-2
count_uses-requires-2 g c =
    let n = to_z w32 (of_z w32 c.args.n) in
    let id = c.args.id.now in
    let pool = c.args.pool_id.now in
    let params = c.args.params.now in
    let m = c.args.entries.now.current in
    let fits = subst (λ k. DoShareLinesFit k id pool params m) (sym (to_z-of_z w32 c.args.n c.ranges.n)) c.requires in
    let now : c.count_uses.new.entries.current ≡ map_with_uses n id params.asset_a m = search rules in
    subst (DoUsesFit n id params.asset_b) (sym now) (second_fits n id pool params m fits)

pub count_lines-requires : goal.count_lines-requires
count_lines-requires g c p exists =
    let n = c.args.n in
    let id = c.args.id.now in
    let params = c.args.params.now in
    let m = c.args.entries.now.current in
    let now : c.count_uses-2.new.entries.current
    ≡ map_with_uses n id params.asset_b (map_with_uses n id params.asset_a m) = search rules in
    let number : to_z w64 (of_z w64 c.from.result) ≡ n = search rules in
    subst (DoesFit p.pool_shares_trust_line_count) (sym number)
    (lines_fit n id c.args.pool_id.now params m c.requires p
    (ap (λ x. pool_at x c.args.pool_id.now) (sym now) ∙ exists))

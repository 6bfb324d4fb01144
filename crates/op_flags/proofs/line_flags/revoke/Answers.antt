use Rattle.op_flags.proofs.Prelude.{◌≡◌, sym, subst, true, rules, view, AreEntriesLegal, entries_legal, IsCrossable}
use Rattle.op_flags.proofs.Prelude.{map_after_flagging}
use Rattle.op_flags.proofs.Flagged.{flagged_legal}
use Rattle.trade_cross.proofs.Crossables.{crossable_of}
use Rattle.op_flags.proofs.line_flags.revoke.Goals as goal

pub revoke_offers-requires : goal.revoke_offers-requires
revoke_offers-requires g c =
    let m = c.args.entries.now.current in
    let now : c.child.new.self.current ≡ m = search rules in
    record {
      crossable = subst IsCrossable (sym now) (crossable_of _ c.args.ctx.now.id_pool _ m c.requires.legal);
    }

pub revoke_shares-requires-clause-legal : goal.revoke_shares-requires-clause-legal
revoke_shares-requires-clause-legal g c =
    let id_pool = c.args.ctx.now.id_pool in
    let m = c.args.entries.now.current in
    let trustor = c.args.trustor.now in
    let held = c.args.asset.now in
    let flags = c.args.flags in
    let flagged = map_after_flagging trustor held flags true m in
    let now : c.set_flags.new.entries.current ≡ flagged = search rules in
    subst (AreEntriesLegal id_pool) (sym now)
    (entries_legal (view m) id_pool _ flagged
    (flagged_legal (view m) id_pool _ trustor held c.requires.issued m c.requires.legal c.args.line.now
    c.requires.exists flags c.requires.flags true c.requires.revoked))

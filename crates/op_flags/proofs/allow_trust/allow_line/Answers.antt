use Rattle.op_flags.proofs.Prelude.{◌≡◌, sym, subst, rules, AreFlagsFit}
use Rattle.op_flags.specs.AllowTrust.{asset_allowed, allowed_flags}
use Rattle.op_flags.proofs.FlagTests.{allowed_fit, allowed_issued}
use Rattle.op_flags.proofs.allow_trust.allow_line.Goals as goal

pub flag_line-requires-clause-flags : goal.flag_line-requires-clause-flags
flag_line-requires-clause-flags g c =
    let ctx = c.args.ctx.now in
    let op = c.args.op.now in
    let line = c.args.line.now in
    let flags : c.allowed_flags-flags.result ≡ allowed_flags op line = search rules in
    subst AreFlagsFit (sym flags)
    (allowed_fit ctx.id_pool c.args.entries.now.current c.requires.legal op.trustor line op (asset_allowed ctx op)
    (allowed_issued op.asset ctx.op_source) c.requires.exists c.requires.authorize)

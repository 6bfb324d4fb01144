use Rattle.op_flags.proofs.Prelude.{◌≡◌, sym, subst, false, None, rules, first_fault, is_native, AreFlagsFit}
use Rattle.op_flags.specs.SetTrustLineFlags.{flag_tests, new_flags}
use Rattle.op_flags.proofs.FlagTests.{set_fit}
use Rattle.op_flags.proofs.set_trust_line_flags.set_line.Goals as goal

pub flag_line-requires-clause-flags : goal.flag_line-requires-clause-flags
flag_line-requires-clause-flags g c =
    let op = c.args.op.now in
    let line = c.args.line.now in
    let source = c.args.source.now in
    let flags : c.new_flags-flags.result ≡ new_flags op line = search rules in
    let issued : is_native op.asset ≡ false = search rules in
    let passed : first_fault (flag_tests source line (new_flags op line)) ≡ None = search rules in
    subst AreFlagsFit (sym flags)
    (set_fit c.args.ctx.now.id_pool c.args.entries.now.current c.requires.legal op.trustor line op source issued
    c.requires.exists c.requires.few passed)

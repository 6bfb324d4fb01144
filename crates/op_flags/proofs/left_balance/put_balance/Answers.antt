use Rattle.op_flags.proofs.Prelude.{subst, LedgerEntry, Ctx, map_after_adding, IsRefused, low_answer, given_by}
use Rattle.op_flags.proofs.Prelude.{IsUnpaid, IsRevoked, revoked_balance, alone, balance_put}
use Rattle.op_flags.proofs.Steps.{unpaid_so, if_ok}
use Rattle.op_flags.proofs.left_balance.put_balance.Goals as goal

pub returns : goal.returns
returns g c =
    let ctx = c.args.ctx.now in
    let low = low_answer c.args.by in
    let given = given_by c.args.given.now in
    let old = c.args.entries.now in
    let new = c.add_entry.new.entries in
    let fault = c.in-Err.fault in
    let outcome = map_after_adding (alone ctx) given.payer (revoked_balance ctx given old.current) old.current in
    let refused : IsRefused fault old new outcome =
    subst (λ (e : LedgerEntry). IsRefused fault old new (map_after_adding (alone ctx) given.payer e old.current))
    c.requires.entry
    (subst (λ (x : Ctx). IsRefused fault old new (map_after_adding x given.payer c.args.entry old.current))
    c.alone.ensures c.in-Err.ensures.outcome) in
    if_ok (IsUnpaid low fault) (λ refusal. IsRevoked refusal old new (balance_put ctx low given old.current))
    (λ refusal is. unpaid_so low old new outcome _ fault refusal refused is) c.unpaid.result c.unpaid.ensures

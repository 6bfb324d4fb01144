use Rattle.op_flags.proofs.Prelude.{◌∙◌, ap, line_of_slot, pool_of_slot, AreEntriesLegal, low_answer, IsRevoked}
use Rattle.op_flags.proofs.Prelude.{UnlessRefused, share_revoked_by}
use Rattle.op_flags.proofs.SharesRevoked.{share_by}
use Rattle.op_flags.proofs.Steps.{if_ok, legal_unless}
use Rattle.op_flags.proofs.revoked_shares.revoke_share.Goals as goal

pub returns-clause-legal : goal.returns-clause-legal
returns-clause-legal g c =
    let ctx = c.args.ctx.now in
    let low = low_answer c.args.by in
    let id = c.args.trustor.now in
    let pool = c.args.pool_id.now in
    let old = c.args.entries.now in
    let new = c.revoke_loaded.new.entries in
    let share = c.in-Some.share in
    let found = c.in-Some-2.pool in
    let step = share_revoked_by ctx low id pool found.pool share.line old.current in
    if_ok (λ refusal. IsRevoked refusal old new step)
    (λ refusal. UnlessRefused refusal (AreEntriesLegal ctx.id_pool new.current))
    (λ refusal is. legal_unless ctx.id_pool refusal old new step
    (share_by ctx low old.current c.requires.legal id pool share.line found.pool
    (c.in_ok-share.ensures.line ∙ ap line_of_slot c.in-Some.is)
    (c.in_ok-pool.ensures.pool ∙ ap pool_of_slot c.in-Some-2.is)) is)
    c.revoke_loaded.result c.revoke_loaded.ensures

use Rattle.op_sponsor.proofs.revoke_sponsorship.move_signer_to_payer.Goals as goal

pub move_signer-requires : goal.move_signer-requires
move_signer-requires g c = c.requires.ready c.args.id.now

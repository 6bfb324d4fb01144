use Rattle.op_sponsor.proofs.revoke_sponsorship.move_to_payer.Goals as goal

pub move_entry-requires : goal.move_entry-requires
move_entry-requires g c = λ entry found owner is. c.requires.ready owner

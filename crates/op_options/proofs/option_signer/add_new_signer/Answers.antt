use Rattle.op_options.proofs.option_signer.add_new_signer.Goals as goal

pub add_signer-requires : goal.add_signer-requires
add_signer-requires g c = c.requires.ready c.args.ctx.now.op_source

use Rattle.op_options.proofs.manage_data.add.Goals as goal

pub add_entry-requires : goal.add_entry-requires
add_entry-requires g c =
    c.in_ok-entry.ensures.ready c.args.entries.now.current (c.requires.ready.ready c.args.ctx.now.op_source)

use Rattle.replay.proofs.Prelude.{seen_volume}
use Rattle.replay.proofs.Commands.{by_command, usage_reported}
use Rattle.replay.proofs.laws.words_are_commands.Goals as goal

pub returns-clause-commands : goal.returns-clause-commands
returns-clause-commands g c =
    by_command (seen_volume g.V.Volume.reports g.V.Volume.disk g.V.Volume.faults c.args.old.now c.args.new.now)

pub returns-clause-usage : goal.returns-clause-usage
returns-clause-usage g c =
    usage_reported (seen_volume g.V.Volume.reports g.V.Volume.disk g.V.Volume.faults c.args.old.now c.args.new.now)

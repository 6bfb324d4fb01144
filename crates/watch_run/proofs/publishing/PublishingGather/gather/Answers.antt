use Rattle.reports.proofs.Closing.{installable}
use Rattle.watch_run.proofs.publishing.PublishingGather.gather.Goals as goal

pub install-requires : goal.install-requires
install-requires g c = installable c.args.ledger.now.state c.args.close c.requires.0 c.requires.1

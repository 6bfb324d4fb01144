use Rattle.std.proofs.Common.{rules}
use Rattle.ledger_types.proofs.KeyOrdering.{assets_tied}
use Rattle.ledger_types.proofs.asset.Asset.is_same.Goals as goal

pub returns-clause-tied : goal.returns-clause-tied
returns-clause-tied c = assets_tied c.args.self.now c.args.other.now c.eq.result (search rules)

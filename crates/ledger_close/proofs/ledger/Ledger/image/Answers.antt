use Rattle.ledger_close.proofs.Prelude.{Ok, subst, StartImage, IsJudged, state_of, LedgerAt}
use Rattle.ledger_close.proofs.ledger.Ledger.image.Goals as goal

pub returns-clause-within : goal.returns-clause-within
returns-clause-within c =
    let image : StartImage = record { header = c.in_ok-header.header; files = c.in_ok-files.files } in
    let own = c.self.inside in
    (c.images_represent_states.ensures (state_of own.network own.header own.levels.pairs own.entries) image
    c.self.invariant.state (record { header = c.in_ok-header.ensures; files = c.in_ok-files.ensures })).0

pub returns-clause-judged : goal.returns-clause-judged
returns-clause-judged c =
    let image : StartImage = record { header = c.in_ok-header.header; files = c.in_ok-files.files } in
    let own = c.self.inside in
    subst (λ (s : LedgerAt). IsJudged s.state.network image (Ok s.state)) c.self.view_is
    (c.images_represent_states.ensures (state_of own.network own.header own.levels.pairs own.entries) image
    c.self.invariant.state (record { header = c.in_ok-header.ensures; files = c.in_ok-files.ensures })).1

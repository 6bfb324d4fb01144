use Rattle.ledger_close.proofs.Prelude.{◌≡◌, ◌∙◌, List, ap, map, LedgerAt, Pair, pair_of, state_of}
use Rattle.bucket_levels.specs.Meaning.{entries_of}
use Rattle.bucket_levels.proofs.Represented.{one_map}
use Rattle.ledger_close.proofs.ledger.Ledger.view.Goals as goal

-- the files that are shared have the ledger's entries
pub returns : goal.returns
returns c =
    let own = c.self.inside in
    let pairs : List Pair = map pair_of c.in_ok-share_pairs.field-0.items in
    let shared : pairs ≡ own.levels.pairs = c.in_ok-share_pairs.ensures in
    let entries : entries_of pairs ≡ own.entries =
    ap entries_of shared ∙ one_map own.levels.pairs own.entries c.self.invariant.state.existing in
    let header = c.in_ok-copy.ensures in
    c.in_ok-new.ensures.ok ∙ (λ i. state_of own.network (header i) (shared i) (entries i))
    ∙ ap (λ (l : LedgerAt). l.state) c.self.view_is

use Rattle.ledger_close.proofs.Prelude.{◌≡◌, ℕ, ◌+◌, List, sym, ap, subst, ◌∙◌, length, map, entries, EntryMap}
use Rattle.ledger_close.proofs.Prelude.{LedgerAt, LevelPair, LevelsAfter, Pair, pair_of, IsClosingState, IsLeveled}
use Rattle.bucket_levels.specs.Laws.{StepsRepresent}
use Rattle.bucket_levels.specs.Meaning.{Represent}
use Rattle.entry_table.specs.AfterBatch.{after_batch}
use Rattle.ledger_close.proofs.ledger.Ledger.entries_after.Goals as goal

-- the files that are shared of those after a step represent the entries after it
represent_after : StepsRepresent → (own now : LedgerAt) (version : ℕ) (after : EntryMap) (step : LevelsAfter)
    (files shared : List LevelPair) → own ≡ now → IsClosingState own.state → IsLeveled now.state version after step
    → map pair_of files ≡ step.pairs → map pair_of shared ≡ map pair_of files
    → Represent (map pair_of shared) after
represent_after law own now version after step files shared is state leveled are same =
    let s = subst (λ (l : LedgerAt). IsClosingState l.state) is state in
    subst (λ (pairs : List Pair). Represent pairs after) (sym (same ∙ are))
    (law (now.state.header.ledger_seq + 1) leveled.fresh now.state.levels step.pairs now.state.entries after s.count
    s.marked s.existing leveled.changes leveled.levels).1

counted : (own now : LedgerAt) (len : ℕ) → own ≡ now → len ≡ length (entries own.state.entries)
    → len ≡ length (entries now.state.entries)
counted own now len is count = count ∙ ap (λ (l : LedgerAt). length (entries l.state.entries)) is

pub count_after-requires : goal.count_after-requires
count_after-requires c = (
  c.args.self.now.state.entries,
  c.requires.exact,
  counted _ c.args.self.now _ c.self.view_is c.len.ensures.count,
)

pub new-requires : goal.new-requires
new-requires c =
    let m = c.args.self.now.state.entries in (
      after_batch m c.args.batch.now,
      represent_after c.steps_represent.ensures _ c.args.self.now c.requires.step.0 (after_batch m c.args.batch.now)
          c.args.step.now c.pairs.result.now c.in_ok-pairs.pairs.items c.self.view_is c.self.invariant.state
          c.requires.step.1 c.pairs.ensures c.in_ok-pairs.ensures,
      record {
        index = c.requires.index;
        count = c.in_ok-len.ensures m c.requires.exact
            (counted _ c.args.self.now _ c.self.view_is c.len.ensures.count);
      },
    )

pub returns : goal.returns
returns c =
    let m = c.args.self.now.state.entries in
    c.new.ensures (after_batch m c.args.batch.now)
    (represent_after c.steps_represent.ensures _ c.args.self.now c.requires.step.0 (after_batch m c.args.batch.now)
    c.args.step.now c.pairs.result.now c.in_ok-pairs.pairs.items c.self.view_is c.self.invariant.state
    c.requires.step.1 c.pairs.ensures c.in_ok-pairs.ensures)

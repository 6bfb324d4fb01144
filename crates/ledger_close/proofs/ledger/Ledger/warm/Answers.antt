use Rattle.ledger_close.proofs.Prelude.{◌≡◌, ℕ, List, Ok, Err, Result, ap, ◌∙◌, subst, LedgerAt, Contents}
use Rattle.std.specs.Prelude.{IfOk}
use Rattle.std.specs.declared.alloc.AllocError.{AllocError}
use Rattle.ledger_types.specs.declared.key.LedgerKey.{LedgerKey}
use Rattle.bucket_levels.specs.Meaning.{files_of}
use Rattle.page_cache.specs.Pages.{CacheAt}
use Rattle.page_cache.specs.Caches.{AreWarmed, contents_in, marked_count}
use Rattle.ledger_close.proofs.ledger.Ledger.warm.Goals as goal

counted : (keys : List LedgerKey) (old new : List CacheAt) (r : Result ℕ AllocError) (files : List Contents)
    → AreWarmed keys old r new → contents_in old ≡ files → IfOk r (λ n. n ≡ marked_count files keys)
counted keys old new (Ok n) files warm same = warm.1 ∙ ap (λ (fs : List Contents). marked_count fs keys) same
counted keys old new (Err e) files warm same = tt

pub invariant_of-self : goal.invariant_of-self
invariant_of-self c = record {
  state = c.self.invariant.state;
  hashed = c.self.invariant.hashed;
  number = c.self.invariant.number;
  files = c.warm.ensures.files ∙ c.self.invariant.files;
}

pub returns-clause-count : goal.returns-clause-count
returns-clause-count c =
    counted c.args.keys.now c.self.inside.caches c.warm.new.self c.warm.result (files_of c.args.self.now.state.levels)
    c.warm.ensures.pages
    (c.self.invariant.files ∙ ap (λ (l : LedgerAt). files_of l.state.levels) c.self.view_is)

pub returns-clause-files : goal.returns-clause-files
returns-clause-files c =
    subst (λ (l : LedgerAt). contents_in l.caches ≡ files_of l.state.levels) c.self.view_is c.self.invariant.files

pub returns-clause-pages : goal.returns-clause-pages
returns-clause-pages c =
    subst (λ (l : LedgerAt). AreWarmed c.args.keys.now l.caches c.warm.result c.warm.new.self) c.self.view_is
    c.warm.ensures.pages

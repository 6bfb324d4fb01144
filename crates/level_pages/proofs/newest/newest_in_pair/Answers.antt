use Rattle.std.proofs.Common.{[], ◌∷◌, option_map, ap, ◌∙◌}
use Rattle.ledger_types.specs.declared.key.LedgerKey.{LedgerKey}
use Rattle.ledger_types.specs.declared.bucket.BucketEntry.{BucketEntry}
use Rattle.bucket_core.specs.Bucket.{Contents, change_at}
use Rattle.bucket_core.specs.File.{item_of}
use Rattle.level_pages.proofs.Lookups.{told_first, second_tells}
use Rattle.level_pages.proofs.newest.newest_in_pair.Goals as goal

pub returns-in-Some : goal.returns-in-Some
returns-in-Some c = λ k text.
    told_first k c.in-Some.item.1 c.args.pair.now.curr.value (c.args.pair.now.snap.value ∷ [])
    (c.in-Some.ensures k text
    ∙ ap (λ (x : Contents). option_map (λ change. item_of (k, change)) (change_at x k)) c.deref.ensures)

pub returns-in-None : goal.returns-in-None
returns-in-None c = λ k text.
    second_tells k c.args.pair.now.curr.value c.args.pair.now.snap.value
    (option_map (λ (x : LedgerKey × BucketEntry). x.1) c.stored-in-None.result)
    (c.in-None.ensures k text
    ∙ ap (λ (x : Contents). option_map (λ change. item_of (k, change)) (change_at x k)) c.deref.ensures)
    (c.stored-in-None.ensures k text
    ∙ ap (λ (x : Contents). option_map (λ change. item_of (k, change)) (change_at x k)) c.deref-in-None.ensures)

use Rattle.fresh_bucket.proofs.Prelude.{sym, subst, ap, All, List, [], ◌∷◌, AllByRecursion, IfOk-weaker}
use Rattle.fresh_bucket.proofs.Prelude.{All-from_recursion, LedgerKey, IsEncodable, version_of, IsFresh, bucket_of}
use Rattle.fresh_bucket.proofs.Prelude.{ItemRef, item_at, items_at}
use Rattle.fresh_bucket.proofs.Stated.{is_fresh}
use Rattle.fresh_bucket.proofs.Encoded.{row_encoded, stated_file}
use Rattle.fresh_bucket.proofs.fresh.fresh_bucket.Goals as goal

-- what holds of the items in a row holds where they are
where_they_are : (row : List (LedgerKey × ItemRef)) → AllByRecursion (λ x. IsEncodable x.1) (items_at row)
    → AllByRecursion (λ (x : LedgerKey × ItemRef). IsEncodable (item_at x.1)) row
where_they_are [] h = tt
where_they_are (x ∷ xs) h = (h.0, where_they_are xs h.1)

pub file_of-requires : goal.file_of-requires
file_of-requires c =
    let r = c.requires in
    subst (All (λ (x : LedgerKey × ItemRef). IsEncodable (item_at x.1))) (sym c.as_slice.ensures.value)
    (All-from_recursion (λ (x : LedgerKey × ItemRef). IsEncodable (item_at x.1)) c.in_ok-row.row.items
    (where_they_are c.in_ok-row.row.items
    (row_encoded c.args.version c.ranges.version.fits r.0 r.1 c.args.batch.now r.2 r.3 r.4 r.5
    (items_at c.in_ok-row.row.items) c.in_ok-row.ensures)))

pub of_file_to_merge-requires : goal.of_file_to_merge-requires
of_file_to_merge-requires c =
    let r = c.requires in
    let t = stated_file c.args.version c.ranges.version.fits r.0 r.1 c.args.batch.now r.2 r.3 r.4 r.5
    (items_at c.in_ok-row.row.items) c.in_ok-row.ensures (items_at c.as_slice.result.now) c.in_ok-file.file.items
    (ap items_at c.as_slice.ensures.value)
    c.in_ok-file.ensures in
    (bucket_of c.args.version (items_at c.in_ok-row.row.items), t.0, t.1)

pub returns-clause-fresh : goal.returns-clause-fresh
returns-clause-fresh c before after x keyed =
    let r = c.requires in
    let t = stated_file c.args.version c.ranges.version.fits r.0 r.1 c.args.batch.now r.2 r.3 r.4 r.5
    (items_at c.in_ok-row.row.items) c.in_ok-row.ensures (items_at c.as_slice.result.now) c.in_ok-file.file.items
    (ap items_at c.as_slice.ensures.value)
    c.in_ok-file.ensures in
    IfOk-weaker c.of_file_to_merge.result _ _ (λ made is. subst (IsFresh before after) (sym is)
    (is_fresh before after c.args.batch.now x
    (items_at c.in_ok-row.row.items) c.in_ok-row.ensures c.args.version keyed))
    (c.of_file_to_merge.ensures (bucket_of c.args.version (items_at c.in_ok-row.row.items)) t.0 t.1)

pub returns-clause-version : goal.returns-clause-version
returns-clause-version c =
    let r = c.requires in
    let t = stated_file c.args.version c.ranges.version.fits r.0 r.1 c.args.batch.now r.2 r.3 r.4 r.5
    (items_at c.in_ok-row.row.items) c.in_ok-row.ensures (items_at c.as_slice.result.now) c.in_ok-file.file.items
    (ap items_at c.as_slice.ensures.value)
    c.in_ok-file.ensures in
    IfOk-weaker c.of_file_to_merge.result _ _ (λ made is. ap version_of is)
    (c.of_file_to_merge.ensures (bucket_of c.args.version (items_at c.in_ok-row.row.items)) t.0 t.1)

use Rattle.std.proofs.Common.{◌≡◌, ◌∙◌, List, take, sym, ap, arith}
use Rattle.bucket_core.specs.Bucket.{Contents}
use Rattle.page_cache.specs.Caches.{contents_in, is_marked}
use Rattle.page_cache.proofs.Warmings.{one_warmed, one_counted, one_uncounted, counted_below, all_files_kept}
use Rattle.page_cache.proofs.level_caches.warm_all.Goals.{then-branch, else-branch}
use Rattle.page_cache.proofs.level_caches.warm_all.Goals as goal

pub overflow_add-count : goal.overflow_add-count
overflow_add-count c =
    let below = counted_below (contents_in c.args.caches.now) c.args.keys.now c.loop-key.key-index c.loop-key.count
    c.loop-key.invariant.count c.loop-key-test.true in
    omega (arith, below, c.loop-key-test.true, c.requires)

pub loop-key-preserved : goal.loop-key-preserved
loop-key-preserved c =
    let it = c.loop-key.invariant in
    let files = contents_in c.args.caches.now in
    let same : contents_in c.loop-key.caches ≡ files =
    ap contents_in it.pages ∙ all_files_kept (take c.loop-key.key-index c.args.keys.now) c.args.caches.now in
    let has : c.in_ok-warm_key.field-0 ≡ is_marked files c.key-item.result =
    c.in_ok-warm_key.ensures.marked ∙ ap (λ (fs : List Contents). is_marked fs c.key-item.result) same in
    record {
      pages = one_warmed c.args.keys.now c.loop-key.key-index c.key-item.result c.args.caches.now c.loop-key.caches
          c.warm_key.new.caches c.loop-key-test.true c.key-item.is it.pages c.in_ok-warm_key.ensures.ok;
      count = elim c.if-branch.branch [
        | then-branch w ↦ w.count-is ∙ one_counted files c.args.keys.now c.loop-key.key-index c.key-item.result
            c.loop-key.count c.loop-key-test.true c.key-item.is it.count (sym has ∙ w.if-branch.true)
        | else-branch w ↦ w.count-is ∙ one_uncounted files c.args.keys.now c.loop-key.key-index c.key-item.result
            c.loop-key.count c.loop-key-test.true c.key-item.is it.count (sym has ∙ w.if-branch.false)
      ];
    }

pub returns-in_err-warm_key-clause-files : goal.returns-in_err-warm_key-clause-files
returns-in_err-warm_key-clause-files c =
    ap contents_in (c.in_err-warm_key.ensures.err ∙ c.loop-key.invariant.pages)
    ∙ all_files_kept (take c.loop-key.key-index c.args.keys.now) c.args.caches.now

pub returns-clause-files : goal.returns-clause-files
returns-clause-files c =
    ap contents_in c.loop-key.invariant.pages
    ∙ all_files_kept (take c.loop-key.key-index c.args.keys.now) c.args.caches.now

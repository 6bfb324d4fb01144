use Rattle.std.proofs.Common.{◌≡◌, ◌∙◌, ◌*◌, arith}
use Rattle.bucket_core.specs.Index.{rows}
use Rattle.page_cache.proofs.Paging.{one_more, page_is}
use Rattle.page_cache.proofs.page.read_page.Goals as goal

pub loop-i-preserved : goal.loop-i-preserved
loop-i-preserved c =
    c.in_ok-push.ensures.ok
    ∙ one_more (rows c.args.bucket.now) (c.args.number * 64) c.loop-i.i c.item.result c.loop-i.page
    c.in_ok-read.field-0 c.loop-i.invariant c.item.ensures c.in_ok-read.ensures

pub returns : goal.returns
returns c =
    let all : c.loop-i.i ≡ c.min-count.result = omega (arith, c.loop-i-test.false, c.loop-i.auto.i-end) in
    c.loop-i.invariant
    ∙ page_is (rows c.args.bucket.now) c.args.number c.loop-i.i c.len-len.result c.len-len.ensures
    (all ∙ c.min-count.ensures)

use Rattle.std.proofs.Common.{rules, ◌≡◌, sym, ap, ◌∙◌}
use Rattle.bucket_core.specs.Index.{rows}
use Rattle.page_cache.specs.Pages.{CacheAt, page_at}
use Rattle.page_cache.proofs.Caching.{looked}
use Rattle.page_cache.proofs.cache.PageCache.page.Goals as goal

pub returns-in-Some : goal.returns-in-Some
returns-in-Some c =
    let same : c.in-Ok.key ≡ c.args.number = search (rules, c.in-Ok.ensures) in
    c.as_slice.ensures
    ∙ looked c.self.inside.bucket.value c.in-Ok.key c.self.inside.pages.entries c.in-Some.page.now c.self.invariant.are
    (sym c.in-Some.ensures)
    ∙ ap (λ n. page_at n (rows c.self.inside.bucket.value)) same
    ∙ ap (λ (x : CacheAt). page_at c.args.number (rows x.contents)) c.self.view_is

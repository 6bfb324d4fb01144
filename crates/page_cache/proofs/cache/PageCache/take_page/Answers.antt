use Rattle.std.proofs.Common.{rules, ◌≡◌, ℕ, List, sym, ap, subst, ◌∙◌}
use Rattle.lru.specs.LruCache.{LruCache}
use Rattle.ledger_types.specs.declared.bucket.BucketEntry.{BucketEntry}
use Rattle.bucket_core.specs.Bucket.{Contents}
use Rattle.bucket_core.specs.Index.{rows}
use Rattle.page_cache.specs.Pages.{CacheAt, IsCache, numbers_of, page_at, with_first}
use Rattle.page_cache.proofs.Caching.{promoted_are, promoted_first, put_are, put_first}
use Rattle.page_cache.proofs.cache.PageCache.take_page.Goals as goal

pub invariant_of-self : goal.invariant_of-self
invariant_of-self c =
    subst (λ (s : LruCache ℕ (List BucketEntry)). IsCache c.self.inside.bucket.value s.entries s.cap)
    (sym c.promote.ensures.entries)
    (record { are = promoted_are _ _ _ c.self.invariant.are; most = c.self.invariant.most })

pub returns-then-contains-clause-ok : goal.returns-then-contains-clause-ok
returns-then-contains-clause-ok c = record {
  contents = ap (λ (x : CacheAt). x.contents) c.self.view_is;
  numbers = ap (λ (s : LruCache ℕ (List BucketEntry)). numbers_of s.entries) c.promote.ensures.entries
      ∙ promoted_first c.self.inside.bucket.value c.in-Ok.key c.self.inside.pages.entries c.self.invariant.are
      (sym c.contains.ensures ∙ c.if-contains.true)
      ∙ (let same : c.in-Ok.key ≡ c.args.number = search (rules, c.in-Ok.ensures) in
      (λ i. with_first (same i) (c.self.view_is i).numbers));
}

pub invariant_of-self-in-Ok-put : goal.invariant_of-self-in-Ok-put
invariant_of-self-in-Ok-put c =
    subst (λ (s : LruCache ℕ (List BucketEntry)). IsCache c.self.inside.bucket.value s.entries s.cap)
    (sym c.in-Ok-put.ensures.entries)
    (record {
      are = put_are c.self.inside.bucket.value c.self.inside.pages c.in-Ok.key c.in_ok-page.page
          (let same : c.in-Ok.key ≡ c.args.number = search (rules, c.in-Ok.ensures) in
          c.in_ok-page.ensures ∙ ap (λ n. page_at n (rows c.deref.result.now)) (sym same)
          ∙ ap (λ (x : Contents). page_at c.in-Ok.key (rows x)) c.deref.ensures) c.self.invariant.are;
      most = c.self.invariant.most;
    })

pub returns-in-Ok-put-clause-ok : goal.returns-in-Ok-put-clause-ok
returns-in-Ok-put-clause-ok c = record {
  contents = ap (λ (x : CacheAt). x.contents) c.self.view_is;
  numbers = ap (λ (s : LruCache ℕ (List BucketEntry)). numbers_of s.entries) c.in-Ok-put.ensures.entries
      ∙ put_first c.self.inside.bucket.value c.self.inside.pages c.in-Ok.key c.in_ok-page.page c.self.invariant.most
      (sym c.contains.ensures ∙ c.if-contains.false)
      ∙ (let same : c.in-Ok.key ≡ c.args.number = search (rules, c.in-Ok.ensures) in
      (λ i. with_first (same i) (c.self.view_is i).numbers));
}

use Rattle.std.proofs.Common.{◌≡◌, List, ℕ, option_map, not, sym, ap, subst, ◌∙◌}
use Rattle.bucket_items.specs.KeyText.{IsKeyText}
use Rattle.bucket_core.specs.Bucket.{Contents, change_at}
use Rattle.bucket_core.specs.File.{HasFile, item_of}
use Rattle.bucket_core.specs.Filter.{fingerprint}
use Rattle.bucket_core.specs.Index.{rows, index_of}
use Rattle.page_cache.specs.Pages.{CacheAt}
use Rattle.page_cache.specs.Sought.{IsSought}
use Rattle.page_cache.proofs.Paging.{unencoded, unmarked, unindexed, unstored}
use Rattle.page_cache.proofs.cache.PageCache.warm_sought.Goals as goal

pub returns-in_default-clause-marked : goal.returns-in_default-clause-marked
returns-in_default-clause-marked c = λ k sought.
    let y = c.args.self.now.contents in
    let here : c.self.inside.bucket.value ≡ y = ap (λ (x : CacheAt). x.contents) c.self.view_is in
    unencoded y k (subst HasFile (c.deref.ensures ∙ here) c.has_file.ensures)
    (subst (IsSought k) c.in_default.is sought)

pub returns-in_default-clause-none : goal.returns-in_default-clause-none
returns-in_default-clause-none c = λ k sought.
    let y = c.args.self.now.contents in
    let here : c.self.inside.bucket.value ≡ y = ap (λ (x : CacheAt). x.contents) c.self.view_is in
    let file = subst HasFile (c.deref.ensures ∙ here) c.has_file.ensures in
    unindexed y k file (unencoded y k file (subst (IsSought k) c.in_default.is sought))

pub stored-requires : goal.stored-requires
stored-requires c =
    (subst (IsSought c.requires.0) c.in-Some.is c.requires.1).1
    ∙ ap fingerprint (sym c.as_slice-text.ensures.value)

pub returns-in-None-clause-marked : goal.returns-in-None-clause-marked
returns-in-None-clause-marked c = λ k sought.
    let y = c.args.self.now.contents in
    let here : c.self.inside.bucket.value ≡ y = ap (λ (x : CacheAt). x.contents) c.self.view_is in
    let text : IsKeyText c.as_slice-text.result.now k =
    subst (λ (t : List ℕ). IsKeyText t k) (sym c.as_slice-text.ensures.value)
    (subst (IsSought k) c.in-Some.is sought).0 in
    unmarked y k (subst HasFile (c.deref.ensures ∙ here) c.has_file.ensures)
    (ap (λ (x : Contents). index_of k (rows x)) (sym (c.deref-3.ensures ∙ here))
    ∙ sym (c.index_of.ensures.index k text) ∙ c.in-None.is)

pub returns-in-None-clause-none : goal.returns-in-None-clause-none
returns-in-None-clause-none c = λ k sought.
    let y = c.args.self.now.contents in
    let here : c.self.inside.bucket.value ≡ y = ap (λ (x : CacheAt). x.contents) c.self.view_is in
    let text : IsKeyText c.as_slice-text.result.now k =
    subst (λ (t : List ℕ). IsKeyText t k) (sym c.as_slice-text.ensures.value)
    (subst (IsSought k) c.in-Some.is sought).0 in
    ap (λ (x : Contents). index_of k (rows x)) (sym (c.deref-3.ensures ∙ here))
    ∙ sym (c.index_of.ensures.index k text) ∙ c.in-None.is

pub returns-then-is_none-clause-none : goal.returns-then-is_none-clause-none
returns-then-is_none-clause-none c = λ k sought.
    let y = c.args.self.now.contents in
    let here : c.self.inside.bucket.value ≡ y = ap (λ (x : CacheAt). x.contents) c.self.view_is in
    let text : IsKeyText c.as_slice-text.result.now k =
    subst (λ (t : List ℕ). IsKeyText t k) (sym c.as_slice-text.ensures.value)
    (subst (IsSought k) c.in-Some.is sought).0 in
    unindexed y k (subst HasFile (c.deref.ensures ∙ here) c.has_file.ensures)
    (unstored k c.stored.result (change_at y k) (c.is_none.ensures ∙ ap not c.if-is_none.true)
    (c.stored.ensures k text
    ∙ ap (λ (x : Contents). option_map (λ change. item_of (k, change)) (change_at x k)) (c.deref-2.ensures ∙ here)))

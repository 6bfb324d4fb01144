use Rattle.std.proofs.Common.{◌≡◌, ◌%◌, ℕ, List, Some, sym, ap, subst, ◌∙◌, slice_get}
use Rattle.ledger_types.specs.declared.bucket.BucketEntry.{BucketEntry}
use Rattle.ledger_types.specs.declared.key.LedgerKey.{LedgerKey}
use Rattle.bucket_items.specs.KeyText.{IsKeyText}
use Rattle.bucket_core.specs.Bucket.{Contents}
use Rattle.bucket_core.specs.File.{HasFile}
use Rattle.bucket_core.specs.Index.{rows, index_of}
use Rattle.page_cache.specs.Pages.{CacheAt}
use Rattle.page_cache.proofs.Paging.{IsTextOf, located, nowhere, told_value, on_page, in_bounds, got, same_some}
use Rattle.page_cache.proofs.cache.PageCache.find.Goals as goal

pub returns-in_default-index_of : goal.returns-in_default-index_of
returns-in_default-index_of c =
    let k = c.args.key.now in
    let y = c.args.self.now.contents in
    let here : c.self.inside.bucket.value ≡ y = ap (λ (x : CacheAt). x.contents) c.self.view_is in
    let same2 : c.deref-2.result.now ≡ y = c.deref-2.ensures ∙ here in
    let same3 : c.deref-3.result.now ≡ y = c.deref-3.ensures ∙ here in
    let file : HasFile y = subst HasFile same2 c.has_file.ensures in
    let text : IsKeyText c.as_slice.result.now k =
    subst (λ (t : List ℕ). IsKeyText t k) (sym c.as_slice.ensures.value)
    (subst (IsTextOf k) c.in-Some.is c.in_ok-text.ensures) in
    let at : c.index_of.result ≡ index_of k (rows y) =
    c.index_of.ensures.index k text ∙ ap (λ (x : Contents). index_of k (rows x)) same3 in
    sym (nowhere k (rows y) (sym at ∙ c.in_default-index_of.is)) ∙ told_value y k file

pub bounds-page-index : goal.bounds-page-index
bounds-page-index c =
    let k = c.args.key.now in
    let y = c.args.self.now.contents in
    let here : c.self.inside.bucket.value ≡ y = ap (λ (x : CacheAt). x.contents) c.self.view_is in
    let same2 : c.deref-2.result.now ≡ y = c.deref-2.ensures ∙ here in
    let same3 : c.deref-3.result.now ≡ y = c.deref-3.ensures ∙ here in
    let file : HasFile y = subst HasFile same2 c.has_file.ensures in
    let text : IsKeyText c.as_slice.result.now k =
    subst (λ (t : List ℕ). IsKeyText t k) (sym c.as_slice.ensures.value)
    (subst (IsTextOf k) c.in-Some.is c.in_ok-text.ensures) in
    let at : c.index_of.result ≡ index_of k (rows y) =
    c.index_of.ensures.index k text ∙ ap (λ (x : Contents). index_of k (rows x)) same3 in
    let i = c.in-Some-index_of.index in
    let p = located k (rows y) i (sym at ∙ c.in-Some-index_of.is) in
    in_bounds c.in-Some-page.page.now (i % 64) p.item.1
    (ap (λ (page : List BucketEntry). slice_get page (i % 64)) c.in-Some-page.ensures
    ∙ on_page (rows y) i p.item p.there)

pub returns-in-Some-page : goal.returns-in-Some-page
returns-in-Some-page c =
    let k = c.args.key.now in
    let y = c.args.self.now.contents in
    let here : c.self.inside.bucket.value ≡ y = ap (λ (x : CacheAt). x.contents) c.self.view_is in
    let same2 : c.deref-2.result.now ≡ y = c.deref-2.ensures ∙ here in
    let same3 : c.deref-3.result.now ≡ y = c.deref-3.ensures ∙ here in
    let file : HasFile y = subst HasFile same2 c.has_file.ensures in
    let text : IsKeyText c.as_slice.result.now k =
    subst (λ (t : List ℕ). IsKeyText t k) (sym c.as_slice.ensures.value)
    (subst (IsTextOf k) c.in-Some.is c.in_ok-text.ensures) in
    let at : c.index_of.result ≡ index_of k (rows y) =
    c.index_of.ensures.index k text ∙ ap (λ (x : Contents). index_of k (rows x)) same3 in
    let i = c.in-Some-index_of.index in
    let p = located k (rows y) i (sym at ∙ c.in-Some-index_of.is) in
    ap Some (c.in_ok-copy-in-Some-page.ensures ∙ c.index-page-index.is
    ∙ got c.in-Some-page.page.now (i % 64) p.item.1 _
    (ap (λ (page : List BucketEntry). slice_get page (i % 64)) c.in-Some-page.ensures
    ∙ on_page (rows y) i p.item p.there))
    ∙ sym p.value ∙ told_value y k file

pub returns : goal.returns
returns c =
    let k = c.args.key.now in
    let y = c.args.self.now.contents in
    let here : c.self.inside.bucket.value ≡ y = ap (λ (x : CacheAt). x.contents) c.self.view_is in
    let same2 : c.deref-2.result.now ≡ y = c.deref-2.ensures ∙ here in
    let same3 : c.deref-3.result.now ≡ y = c.deref-3.ensures ∙ here in
    let file : HasFile y = subst HasFile same2 c.has_file.ensures in
    let text : IsKeyText c.as_slice.result.now k =
    subst (λ (t : List ℕ). IsKeyText t k) (sym c.as_slice.ensures.value)
    (subst (IsTextOf k) c.in-Some.is c.in_ok-text.ensures) in
    let at : c.index_of.result ≡ index_of k (rows y) =
    c.index_of.ensures.index k text ∙ ap (λ (x : Contents). index_of k (rows x)) same3 in
    let i = c.in-Some-index_of.index in
    let p = located k (rows y) i (sym at ∙ c.in-Some-index_of.is) in
    let same : c.deref-in-None.result.now ≡ y = c.deref-in-None.ensures ∙ here in
    let item : c.item.result ≡ p.item =
    same_some c.item.result p.item (slice_get (rows y) i)
    (ap (λ (x : Contents). slice_get (rows x) i) (sym same) ∙ c.item.ensures) p.there in
    ap Some (c.in_ok-read-in-None.ensures ∙ ap (λ (x : LedgerKey × BucketEntry). x.1) item)
    ∙ sym p.value ∙ told_value y k file

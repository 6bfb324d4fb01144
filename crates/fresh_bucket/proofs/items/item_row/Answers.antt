use Rattle.fresh_bucket.proofs.Prelude.{◌≡◌, sym, subst, ap, ◌∙◌, map, List, IfOk-weaker, LedgerKey, BucketEntry}
use Rattle.fresh_bucket.proofs.Prelude.{key_of, AreRising, IsRising, IsOverlaid, ItemRef, made, changed, gone, item_at}
use Rattle.fresh_bucket.proofs.Prelude.{items_at}
use Rattle.ledger_types.specs.declared.bucket.BucketEntry.TheVariants as bucket
use Rattle.fresh_bucket.proofs.Listed.{sorted}
use Rattle.fresh_bucket.proofs.Revalued.{sorted_before, overlaid}
use Rattle.fresh_bucket.proofs.Stated.{themselves, all_items}
use Rattle.fresh_bucket.proofs.items.item_row.Goals as goal

-- a row rises where the items in it do
rises : (row : List (LedgerKey × ItemRef)) (items : List (LedgerKey × BucketEntry)) → items_at row ≡ items
    → IsRising items → IsRising row
rises row items is h = sorted_before item_at row (subst (λ (r : List (LedgerKey × BucketEntry)). IsRising r) (sym is) h)

pub overlay-requires-clause-older : goal.overlay-requires-clause-older
overlay-requires-clause-older c =
    rises c.as_slice-4.result.now (map made c.args.batch.now.init)
    (ap items_at c.as_slice-4.ensures.value ∙ c.in_ok-made.ensures ∙ ap (map made) c.as_slice.ensures)
    (sorted key_of (λ e. bucket.Init e) c.args.batch.now.init c.requires.init)

pub overlay-requires-clause-newer : goal.overlay-requires-clause-newer
overlay-requires-clause-newer c =
    rises c.as_slice-5.result.now (map changed c.args.batch.now.live)
    (ap items_at c.as_slice-5.ensures.value ∙ c.in_ok-changed.ensures ∙ ap (map changed) c.as_slice-2.ensures)
    (sorted key_of (λ e. bucket.Live e) c.args.batch.now.live c.requires.live)

pub overlay-requires-2-clause-newer : goal.overlay-requires-2-clause-newer
overlay-requires-2-clause-newer c =
    rises c.as_slice-7.result.now (map gone c.args.batch.now.dead)
    (ap items_at c.as_slice-7.ensures.value ∙ c.in_ok-gone.ensures ∙ ap (map gone) c.as_slice-3.ensures)
    (sorted (λ q. q) (λ q. bucket.Dead q) c.args.batch.now.dead
    (subst AreRising (sym (themselves c.args.batch.now.dead)) c.requires.dead))

pub returns : goal.returns
returns c = IfOk-weaker c.overlay-2.result _ _ (λ all over.
    all_items c.args.batch.now (items_at c.as_slice-4.result.now) (items_at c.as_slice-5.result.now)
    (items_at c.as_slice-6.result.now) (items_at c.as_slice-7.result.now) (items_at all.items)
    (ap items_at c.as_slice-4.ensures.value ∙ c.in_ok-made.ensures ∙ ap (map made) c.as_slice.ensures)
    (ap items_at c.as_slice-5.ensures.value ∙ c.in_ok-changed.ensures ∙ ap (map changed) c.as_slice-2.ensures)
    (ap items_at c.as_slice-7.ensures.value ∙ c.in_ok-gone.ensures ∙ ap (map gone) c.as_slice-3.ensures)
    (overlaid item_at _ _ _
    (subst (λ (r : List (LedgerKey × ItemRef)). IsOverlaid c.as_slice-4.result.now c.as_slice-5.result.now r)
    (sym c.as_slice-6.ensures.value) c.in_ok-there.ensures)) (overlaid item_at _ _ _ over)) c.overlay-2.ensures

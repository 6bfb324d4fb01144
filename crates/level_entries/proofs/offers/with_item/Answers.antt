use Rattle.level_entries.proofs.Prelude.{◌≡◌, sym, ap, subst, ◌∙◌, LedgerEntry, key_of, get}
use Rattle.std.specs.Prelude.{IfOk}
use Rattle.entry_map.specs.EntryMap.{put}
use Rattle.entry_map.specs.Indexes.{IsIndexOf}
use Rattle.entry_map.proofs.Aggregates.{index_kept}
use Rattle.level_entries.proofs.Offered.{leaves_no_offer}
use Rattle.level_entries.proofs.offers.with_item.Goals as goal

pub returns-then-not-is_of_offer : goal.returns-then-not-is_of_offer
returns-then-not-is_of_offer c m e some index none =
    index_kept m c.args.index e index
    (leaves_no_offer c.args.item.now e c.requires some (sym c.is_of_offer.ensures ∙ c.if-not-is_of_offer.true))

pub returns : goal.returns
returns c m e some index none =
    let same : c.in_ok-entry.entry ≡ e = cc (c.in_ok-entry.ensures, some) in
    subst (λ (x : LedgerEntry). IfOk c.with_entry.result (IsIndexOf (put m x))) same
    (c.with_entry.ensures.map m index (ap (λ (x : LedgerEntry). get m (key_of x)) same ∙ none))

use Rattle.level_entries.proofs.Prelude.{◌≡◌, sym, ap, subst, ◌∙◌, LedgerEntry, key_of, get}
use Rattle.std.specs.Prelude.{OnOk}
use Rattle.entry_map.specs.EntryMap.{put}
use Rattle.entry_map.specs.Indexes.{IsIndexOf, index_of}
use Rattle.entry_map.proofs.Aggregates.{index_kept}
use Rattle.level_entries.proofs.Offered.{leaves_no_offer}
use Rattle.level_entries.proofs.offers.push_offer_in.Goals as goal

pub returns-then-not-is_of_offer : goal.returns-then-not-is_of_offer
returns-then-not-is_of_offer c m e some index none =
    index_kept m (index_of c.args.offers.now.items) e index
    (leaves_no_offer c.args.item.now e c.requires some (sym c.is_of_offer.ensures ∙ c.if-not-is_of_offer.true))

pub returns : goal.returns
returns c m e some index none =
    let same : c.in_ok-entry.entry ≡ e = cc (c.in_ok-entry.ensures, some) in
    subst
    (λ (x : LedgerEntry). OnOk c.push_offer.result (IsIndexOf (put m x) (index_of c.push_offer.new.offers.items))) same
    (c.push_offer.ensures m index (ap (λ (x : LedgerEntry). get m (key_of x)) same ∙ none))

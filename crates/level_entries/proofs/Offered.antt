-- Whether items leave offers, by their keys.
use Rattle.level_entries.proofs.Prelude.{◌≡◌, false, Option, Some, None, is_some, refl, sym, ap, ◌∙◌}
use Rattle.level_entries.proofs.Prelude.{LedgerKey, BucketEntry, LedgerEntry, entry_in, key_of, Leaves}
use Rattle.ledger_types.specs.declared.entry.LedgerEntryBody.{LedgerEntryBody}
use Rattle.ledger_types.specs.declared.entry.LedgerEntryBody.TheVariants as body
use Rattle.ledger_types.specs.Keys.{key_of_body}
use Rattle.ledger_types.specs.declared.offer.OfferEntry.{OfferEntry}
use Rattle.entry_map.specs.Book.{offer_in}
use Rattle.entry_map.specs.Indexes.{is_of_offer}

of_offer : (b : LedgerEntryBody) → is_of_offer (key_of_body b) ≡ is_some (offer_in b)
of_offer (body.Account account) = refl
of_offer (body.TrustLine line) = refl
of_offer (body.Offer offer) = refl
of_offer (body.Data entry) = refl
of_offer (body.ClaimableBalance balance) = refl
of_offer (body.LiquidityPool pool) = refl

pub leaves_offer : (x : LedgerKey × BucketEntry) (e : LedgerEntry) → Leaves x → entry_in x.1 ≡ Some e
    → is_of_offer x.0 ≡ is_some (offer_in e.body)
leaves_offer x e leaves some =
    let same : leaves.entry ≡ e = cc (leaves.left, some) in
    ap is_of_offer (sym leaves.own ∙ ap key_of same) ∙ of_offer e.body

none_there : (o : Option OfferEntry) → is_some o ≡ false → o ≡ None
none_there None none = refl
none_there (Some offer) none = absurd (cc)

pub leaves_no_offer : (x : LedgerKey × BucketEntry) (e : LedgerEntry) → Leaves x → entry_in x.1 ≡ Some e
    → is_of_offer x.0 ≡ false → offer_in e.body ≡ None
leaves_no_offer x e leaves some other =
    none_there (offer_in e.body) (sym (leaves_offer x e leaves some) ∙ other)

-- Offers are short.
use Rattle.close_laws.proofs.Prelude.{◌<◌, ◌≤◌, ℕ, arith, Price, OfferEntry, i32, price_fields, offer_fields}
use Rattle.close_laws.proofs.Prelude.{offer_entry, IsEncoded}
use Rattle.std.proofs.Common.{pos}
use Rattle.close_rules.specs.xdr_entries.Basic as basic
use Rattle.close_laws.proofs.Bytes.{AreOfferBytes}
use Rattle.close_laws.proofs.Short as short
use Rattle.close_laws.proofs.Short.{IsShort}
use Rattle.close_laws.proofs.ShortIds.{id_short}
use Rattle.close_laws.proofs.ShortBalances.{asset_short}
use Rattle.close_laws.proofs.ShortPredicates.{encoded_i64_fits}

price_short : (price : Price) → IsEncoded basic.price price → IsShort basic.price 8 price
unfolding basic.price i32
price_short price encoded =
    short.short_struct price_fields (short.short_both (short.short_i32 price.n encoded.sized.0)
    (short.short_i32 price.d encoded.sized.1))

pub offer_short : (offer : OfferEntry) → AreOfferBytes offer → offer.flags ≤ 1 → IsShort offer_entry 187 offer
unfolding offer_entry
offer_short offer bytes flags =
    short.short_struct offer_fields (short.short_both (id_short offer.seller_id bytes.id)
    (short.short_both (short.short_i64 offer.offer_id (encoded_i64_fits offer.offer_id bytes.offer_id))
    (short.short_both (asset_short offer.selling bytes.selling)
    (short.short_both (asset_short offer.buying bytes.buying)
    (short.short_both (short.short_i64 offer.amount (encoded_i64_fits offer.amount bytes.amount))
    (short.short_both (price_short offer.price bytes.price)
    (short.short_closed (pos 0) (short.short_u32 offer.flags (small offer.flags flags)))))))))
  where
    small : (n : ℕ) → n ≤ 1 → n < 4294967296
    small n le = omega arith

-- A key in a text, as the key that it is.
use Rattle.ledger_types.specs.declared.key.LedgerKey.{LedgerKey}
use Rattle.ledger_types.specs.declared.key.LedgerKey.TheVariants as key
use Rattle.bucket_items.specs.declared.key_ref.KeyRef.{KeyRef}
use Rattle.bucket_items.specs.declared.key_ref.KeyRef.TheVariants as here

abbrev pub key_seen : KeyRef → LedgerKey
key_seen (here.Account account) = key.Account account
key_seen (here.TrustLine account asset) = key.TrustLine account asset
key_seen (here.Offer seller offer) = key.Offer seller offer
key_seen (here.Data account name) = key.Data account name.now
key_seen (here.ClaimableBalance balance) = key.ClaimableBalance balance
key_seen (here.LiquidityPool pool) = key.LiquidityPool pool

-- What is under the key of a slot that was loaded.
use Rattle.pool_shares.proofs.Prelude.{◌≡◌, refl, sym, ap, ◌∙◌, Some, get, AccountId, TrustLineAsset, EntryMap, line_at}
use Rattle.pool_shares.proofs.Prelude.{line_slot_at, line_of_slot, line_slot, lines_exact, slot_value}
use Rattle.ledger_types.specs.declared.key.LedgerKey.TheVariants as key
use Rattle.entry_slots.specs.declared.lines.LineSlot.{LineSlot}
pub use Rattle.trade_cross.proofs.PoolsLegal.{pool_loaded}

pub line_loaded : (m : EntryMap) (id : AccountId) (held : TrustLineAsset) (slot : LineSlot)
    → Some slot ≡ line_slot_at m id held → line_at m id held ≡ Some slot.line
unfolding line_at
line_loaded m id held slot is =
    slot_value lines_exact line_slot (λ s. s.line) (λ e t. refl) (get m (key.TrustLine id held))
    ∙ ap line_of_slot (sym is)

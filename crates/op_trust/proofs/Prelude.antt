-- Names that several proofs of this crate use.
pub use Rattle.std.proofs.Common.{Bool, None, Ok, Option, Some, ap, arith, false, if◌then◌else◌, not, of_z, refl, rules}
pub use Rattle.std.proofs.Common.{subst, sym, to_z, true, w64, ℕ, ◌+◌, ◌||◌, ◌∙◌, ◌≡◌, ◌≢◌}
pub use Rattle.entry_slots.specs.Lines.{line_of_slot}
unfoldable pub use Rattle.entry_slots.specs.Lines.{line_at}
pub use Rattle.entry_slots.specs.Pools.{pool_of}
unfoldable pub use Rattle.entry_slots.specs.Pools.{pool_at}
pub use Rattle.ledger_types.specs.declared.entry.LedgerEntry.{LedgerEntry}
pub use Rattle.op_trust.specs.ShareTrust.{are_same_params, is_held_fully, is_pool_bad, is_taken, is_used_fully}
pub use Rattle.op_trust.specs.ShareTrust.{is_used_fully_at}
pub use Rattle.pool_shares.specs.Fits.{DoLinesFit, DoShareLinesFit, DoUsesFitAt, DoesCountFit}
pub use Rattle.pool_shares.specs.ShareLines.{empty_pool, map_with_pool, map_with_pool_by}
pub use Rattle.sponsor_rules.specs.Adding.{map_after_adding, map_after_counting, sponsored_entry}
pub use Rattle.sponsor_rules.specs.Payers.{IsReady, subentry_tests_at}
unfoldable pub use Rattle.sponsor_rules.specs.Payers.{open_sponsor}
pub use Rattle.trade_cross.specs.legal_rules.PoolShares.{needed_line}

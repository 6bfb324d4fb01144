-- Names that several proofs of this crate use.
pub use Rattle.std.proofs.Common.{Bool, None, Option, Some, [], ap, arith, cond, false, inl, inr, length, map, refl}
pub use Rattle.std.proofs.Common.{rules, subst, suc, sym, true, vec_len, zero, ℕ, ◌+◌, ◌<◌, ◌∙◌, ◌∷◌, ◌≡◌, ◌≢◌, ◌≤◌}
pub use Rattle.std.proofs.Common.{◌⊎◌}
pub use Rattle.std.proofs.lemmas.Option.{none-some}
pub use Rattle.std.specs.FinMap.{from_entries, get, get-empty, get-insert}
pub use Rattle.std.specs.Prelude.{if◌then◌else◌, not, pos, ◌&&◌, ◌+ℤ◌, ◌≤ℤ◌}
pub use Rattle.entry_map.specs.EntryMap.{EntryMap, put}
pub use Rattle.entry_slots.specs.AccountExtensions.{num_sponsored, num_sponsoring, with_liabilities_in}
pub use Rattle.entry_slots.specs.Accounts.{account_in, account_of}
unfoldable pub use Rattle.entry_slots.specs.Accounts.{account_at}
pub use Rattle.entry_slots.specs.Balances.{balance_in, balance_of}
unfoldable pub use Rattle.entry_slots.specs.Balances.{balance_at}
pub use Rattle.entry_slots.specs.Lines.{line_in, line_of}
unfoldable pub use Rattle.entry_slots.specs.Lines.{line_at}
pub use Rattle.ledger_types.specs.KeyOrder.{key_cmp}
pub use Rattle.ledger_types.specs.Keys.{key_of, key_of_body}
pub use Rattle.ledger_types.specs.declared.account.AccountEntry.{AccountEntry}
pub use Rattle.ledger_types.specs.declared.asset.TrustLineAsset.{TrustLineAsset}
pub use Rattle.ledger_types.specs.declared.claimable_balance.ClaimableBalanceEntry.{ClaimableBalanceEntry}
pub use Rattle.ledger_types.specs.declared.entry.LedgerEntry.{LedgerEntry}
pub use Rattle.ledger_types.specs.declared.ids.AccountId.{AccountId}
pub use Rattle.ledger_types.specs.declared.ids.ClaimableBalanceId.{ClaimableBalanceId}
pub use Rattle.ledger_types.specs.declared.trust_line.TrustLineEntry.{TrustLineEntry}
pub use Rattle.probe.specs.Ready.{IsAmountLowIn, IsPlain, IsPlainLedger, IsPlainLine, IsPlainUnder, IsReadyLedger}

-- Names that several proofs of this crate use.
pub use Rattle.std.proofs.Common.{Bool, Err, List, None, Ok, Option, Result, Some, [], add-one, ap, append-nil, arith}
pub use Rattle.std.proofs.Common.{cond, false, get_or, is_some, length, length-append, map, nat_eq, not, pos, refl}
pub use Rattle.std.proofs.Common.{replicate, subst, suc, sym, take, true, zero, ℕ, ℤ, ◌&&◌, ◌*◌, ◌++◌, ◌+ℤ◌, ◌+◌, ◌-◌}
pub use Rattle.std.proofs.Common.{◌<◌, ◌==◌, ◌^◌, ◌||◌, ◌∙◌, ◌∷◌, ◌≡◌, ◌≢◌, ◌≤◌}
pub use Rattle.std.proofs.lemmas.Int.{ints}
pub use Rattle.std.proofs.lemmas.List.Elements.{All-cons, All-from_recursion, All-nil}
pub use Rattle.std.specs.FinMap.{entries, get, get-from_entries}
pub use Rattle.std.specs.FinMap.Entries.{by_order, find}
pub use Rattle.std.specs.List.{AllByRecursion, AllPairs, flat_map, range_with_len}
pub use Rattle.std.specs.Ordering.{is_eq}
pub use Rattle.std.specs.Prelude.{All, codes, if◌then◌else◌, nat_le, option_map, slice_get, ◌%◌}
pub use Rattle.std.specs.declared.cmp.Ordering.TheVariants.{Equal, Greater, Less}
pub use Rattle.account_laws.specs.Existing.{ClosesKeepAccounts, MergesNone, is_merge}
pub use Rattle.account_laws.specs.entry_map.EntryMap.{EntryMap, put}
pub use Rattle.account_laws.specs.entry_slots.Accounts.{HasAccount, account_of}
unfoldable pub use Rattle.account_laws.specs.entry_slots.Accounts.{account_at}
pub use Rattle.legal_rules.specs.FirstStates.{IsPlainAccount, PlainStatesAreLegal}
pub use Rattle.sample_ledger.proofs.Entries.{entry_short, item_encodable, item_record_short, meta_record_short}
pub use Rattle.sample_ledger.proofs.ledger_types_proofs.KeyOrdering.{keys_exact, keys_total}
pub use Rattle.sample_ledger.specs.Accounts.{account_entry, account_id, flags_of, key_bytes, ledger_entry, sample_text}
pub use Rattle.sample_ledger.specs.Accounts.{signer_of}
pub use Rattle.sample_ledger.specs.Image.{first_bucket, first_changes, first_header, first_image, levels_with}
pub use Rattle.sample_ledger.specs.Image.{new_account}
unfoldable pub use Rattle.sample_ledger.specs.Image.{changes_of}
pub use Rattle.sample_ledger.specs.Records.{is_claim, record_of}
unfoldable pub use Rattle.sample_ledger.specs.Records.{drawn_turn, envelope_of, issuer_operations, issuer_turn}
unfoldable pub use Rattle.sample_ledger.specs.Records.{other_operation}
pub use Rattle.sample_ledger.specs.Samples.{FirstStatesClose, IsAcceptedOrFull, Progress, RecordsAreWritten}
pub use Rattle.sample_ledger.specs.Samples.{SamplesClose, SamplesGoOn, first_entries, first_state, keyed_entry}
pub use Rattle.sample_ledger.specs.Samples.{record_bytes}
unfoldable pub use Rattle.sample_ledger.specs.Samples.{HaveClosed, entries_of}
pub use Rattle.sample_ledger.specs.bucket_core.File.{HasFile, file_of}
pub use Rattle.sample_ledger.specs.bucket_levels.Pairs.{Pair, empty_pair}
pub use Rattle.sample_ledger.specs.close_rules.Refusals.{ended}
unfoldable pub use Rattle.sample_ledger.specs.close_rules.Refusals.{record_fault, record_in, set_fault, term_fault}
unfoldable pub use Rattle.sample_ledger.specs.close_rules.Refusals.{upgrade_fault}
pub use Rattle.sample_ledger.specs.close_rules.State.{ClosingState, IsClosingState, IsEncoded}
pub use Rattle.sample_ledger.specs.ledger_types.KeyOrder.{account_cmp, key_cmp, signer_key_cmp}
pub use Rattle.sample_ledger.specs.ledger_types.Keys.{key_of}
pub use Rattle.sample_ledger.specs.ledger_types.declared.entry.LedgerEntry.{LedgerEntry}
pub use Rattle.sample_ledger.specs.ledger_types.declared.header.LedgerHeader.{LedgerHeader}
pub use Rattle.sample_ledger.specs.ledger_types.declared.ids.AccountId.{AccountId}
pub use Rattle.sample_ledger.specs.ledger_types.declared.key.LedgerKey.{LedgerKey}
pub use Rattle.sample_ledger.specs.op_types.declared.transaction.TransactionEnvelope.{TransactionEnvelope}
pub use Rattle.sha2.proofs.Facts256.{length-sha256}

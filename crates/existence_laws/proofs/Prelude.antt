-- Names that several proofs of this crate use.
pub use Rattle.std.proofs.Common.{All, Bool, Err, IfSome, List, None, Ok, Option, Result, Some, [], ap, append_assoc}
pub use Rattle.std.proofs.Common.{arith, cond, false, inl, inr, length, map, negsuc, option_map, pos, refl, subst, suc}
pub use Rattle.std.proofs.Common.{sym, true, zero, zero-add, ℕ, ◌%◌, ◌*◌, ◌++◌, ◌+◌, ◌-◌, ◌^◌, ◌||◌, ◌∙◌, ◌∷◌, ◌≡◌, ◌≢◌}
pub use Rattle.std.proofs.Common.{◌≤◌, ◌⊎◌}
pub use Rattle.std.proofs.lemmas.Bool.{cases_eq, cases_lt, or_parts}
pub use Rattle.std.proofs.lemmas.List.Elements.{All-cons, All-head, All-nil, All-tail}
pub use Rattle.std.proofs.lemmas.List.Folds.{list_any-append}
pub use Rattle.std.proofs.lemmas.Option.{same_Some}
pub use Rattle.std.specs.Coded.{Coded, coded_option}
pub use Rattle.std.specs.FinMap.{contains_key-keys, empty, get, get-empty, get-insert, insert, keys}
pub use Rattle.std.specs.List.{AllByRecursion, AllPairs, flat_map, list_any, range_with_len}
pub use Rattle.std.specs.Ordering.{eq_by_cmp, int_cmp, is_eq}
pub use Rattle.std.specs.Prelude.{if◌then◌else◌, slice_get, ℤ, ◌+ℤ◌, ◌<ℤ◌, ◌≤ℤ◌}
pub use Rattle.close_laws.proofs.ledger_types_proofs.KeyOrdering.{keys_total, same_keys}
pub use Rattle.close_laws.proofs.xdr_header_proofs.ImageLaws.{start_image_laws}
pub use Rattle.close_laws.specs.Closes.{NextIsClosing, TakenIsClosable}
pub use Rattle.close_laws.specs.bucket_levels.Hash.{list_hash}
pub use Rattle.close_laws.specs.bucket_levels.Meaning.{AreWellMarked, MayFollow, Represent, entry_after, entry_by}
pub use Rattle.close_laws.specs.bucket_levels.Meaning.{entries_of, files_of, prepended}
unfoldable pub use Rattle.close_laws.specs.bucket_levels.Meaning.{AreMarkedWell, changes_of}
pub use Rattle.close_laws.specs.bucket_levels.Pairs.{Pair, empty_pair, pair_at}
unfoldable pub use Rattle.close_laws.specs.bucket_levels.Size.{file_total}
pub use Rattle.close_laws.specs.bucket_levels.Spills.{level_count, spills}
pub use Rattle.close_laws.specs.close_rules.Close.{ClosesWith, IsClose, IsClosed, IsRefused, IsTaken, PreparedClose}
pub use Rattle.close_laws.specs.close_rules.Close.{applied_in, upgraded_header}
pub use Rattle.close_laws.specs.close_rules.EntryRules.{AreInRange, AreLiable, AreLumensCounted, AreOwned}
pub use Rattle.close_laws.specs.close_rules.EntryRules.{ArePoolsCounted, AreSponsorsCounted, AreSubentriesCounted}
pub use Rattle.close_laws.specs.close_rules.EntryRules.{IsFirstBroken, Keeps, entry_rules}
pub use Rattle.close_laws.specs.close_rules.Images.{AreFieldsInRange, AreFilesOf, BreaksEntries, HasEntries, HasFiles}
pub use Rattle.close_laws.specs.close_rules.Images.{HasHeader, HasLevels, IsJudged, if_complete, read_complete}
pub use Rattle.close_laws.specs.close_rules.Images.{state_of}
unfoldable pub use Rattle.close_laws.specs.close_rules.Images.{header_in}
pub use Rattle.close_laws.specs.close_rules.Refusals.{term_tests}
unfoldable pub use Rattle.close_laws.specs.close_rules.Refusals.{record_fault, record_in, set_fault, term_fault}
unfoldable pub use Rattle.close_laws.specs.close_rules.Refusals.{upgrade_fault}
pub use Rattle.close_laws.specs.close_rules.State.{ClosingState, IsClosingState, IsEncoded, max_file_total}
pub use Rattle.close_laws.specs.close_rules.declared.close_fault.CloseFault.{CloseFault}
pub use Rattle.close_laws.specs.close_rules.declared.image_fault.ImageFault.{ImageFault}
pub use Rattle.close_laws.specs.close_rules.declared.image_fault.ImageRule.{ImageRule}
pub use Rattle.close_laws.specs.entry_map.EntryMap.{EntryMap, IsKeyed}
pub use Rattle.close_laws.specs.entry_slots.AccountExtensions.{account_liabilities, num_sponsoring, sponsorship_of}
pub use Rattle.close_laws.specs.ledger_types.KeyOrder.{asset_cmp, key_cmp, signer_key_cmp}
pub use Rattle.close_laws.specs.ledger_types.Keys.{key_of}
pub use Rattle.close_laws.specs.ledger_types.declared.entry.LedgerEntry.{LedgerEntry}
pub use Rattle.close_laws.specs.ledger_types.declared.entry.LedgerEntryBody.{LedgerEntryBody}
pub use Rattle.close_laws.specs.ledger_types.declared.header.LedgerHeader.{LedgerHeader}
pub use Rattle.close_laws.specs.ledger_types.declared.ids.Hash.{Hash}
pub use Rattle.close_laws.specs.ledger_types.declared.key.LedgerKey.{LedgerKey}
pub use Rattle.close_laws.specs.ledger_types.declared.trust_line.TrustLineEntry.{TrustLineEntry}
pub use Rattle.close_laws.specs.legal_rules.Ranges.{AreAccountFlags, AreClaimantsInRange, AreLineFlags}
pub use Rattle.close_laws.specs.legal_rules.Ranges.{AreSignersInRange, IsAccountInRange, IsBalanceInRange}
pub use Rattle.close_laws.specs.legal_rules.Ranges.{IsBodyInRange, IsDataInRange, IsEntryInRange, IsHeldIn}
pub use Rattle.close_laws.specs.legal_rules.Ranges.{IsOfferInRange, IsPaidRightly, IsPoolInRange, IsTrustLineInRange}
pub use Rattle.close_laws.specs.legal_rules.Ranges.{balance_flags, has_flag}
pub use Rattle.close_laws.specs.xdr_header.declared.image.StartImage.{StartImage}
pub use Rattle.close_laws.specs.xdr_header.declared.record.CloseRecord.{CloseRecord}
pub use Rattle.existence_laws.specs.Existence.{EachClose, EachContent, EachImage, EachOutcome, EachRun, Opened}
pub use Rattle.replay.proofs.ledger_close_proofs.Files.{HasBoth, files_in, levels_are_one}
pub use Rattle.replay.proofs.ledger_close_proofs.Installs.{installed_state}
pub use Rattle.replay.proofs.ledger_close_proofs.Judged.{IsComplete, all_have_file, is_kept}
pub use Rattle.replay.specs.bucket_core.Bucket.{Change, Contents, Dead, Init, IsUnderKey, Live, change_at, version_of}
pub use Rattle.replay.specs.bucket_core.File.{HasFile, file_of}
pub use Rattle.replay.specs.entry_sums.Sums.{EachEntry}
unfoldable pub use Rattle.replay.specs.entry_sums.Sums.{total}
pub use Rattle.replay.specs.hash_ids.Ids.{network_id_of, pool_id_of}
pub use Rattle.replay.specs.run_outcome.Outcome.{AreClosed, IsOutcomeOf, IsRun, IsStarted, IsStopped, Outcome, after}
pub use Rattle.replay.specs.run_outcome.Outcome.{framed, lines_of, max_record_len, silent}
pub use Rattle.replay.specs.xdr_core.Format.{IsBytes}
unfoldable pub use Rattle.replay.specs.xdr_core.Leaves.{mark}
pub use Rattle.replay.specs.xdr_core.Position.{Position, Reading, start_of}
pub use Rattle.replay.specs.xdr_core.declared.fault.XdrFault.{XdrFault}

-- Names that several proofs of this crate use.
pub use Rattle.std.proofs.Common.{All, Bool, Err, FitsSigned, List, None, Ok, Option, Result, Some, [], ap}
pub use Rattle.std.proofs.Common.{append_assoc, arith, drop, false, get_or, inl, inr, length, map, of_z, pos, refl}
pub use Rattle.std.proofs.Common.{rules, subst, suc, sym, take, to_z, true, w64, zero, ℕ, ℤ, ◌*◌, ◌++◌, ◌+◌, ◌<◌, ◌∙◌}
pub use Rattle.std.proofs.Common.{◌∷◌, ◌≡◌, ◌≢◌, ◌≤◌, ◌⊎◌}
pub use Rattle.std.proofs.lemmas.List.{drop-drop, flat_map_more, get_or-drop, length-append, length-drop, length_push}
pub use Rattle.std.proofs.lemmas.List.{map-append, take_all, take_more}
pub use Rattle.std.proofs.lemmas.List.Elements.{All-cons, All-from_recursion, All-head, All-nil, All-push, All-tail}
pub use Rattle.std.proofs.lemmas.List.Elements.{recursion_from_All}
pub use Rattle.std.specs.FinMap.{entries, get, get-entries}
pub use Rattle.std.specs.List.{AllByRecursion, flat_map}
pub use Rattle.std.specs.Option.{option_or}
pub use Rattle.std.specs.Prelude.{IfSome, if◌then◌else◌, option_map, slice_get}
pub use Rattle.bucket_core.specs.Bucket.{Change, Contents, Dead, Init, Live, change_at}
pub use Rattle.bucket_core.specs.File.{HasFile, file_of, item_of, items_of}
pub use Rattle.bucket_levels.specs.Hash.{list_hash}
pub use Rattle.bucket_levels.specs.Levels.{LevelsAfter, LevelsAt, pair_of}
pub use Rattle.bucket_levels.specs.Pairs.{Pair, empty_pair, pair_at}
unfoldable pub use Rattle.bucket_levels.specs.Size.{file_total}
pub use Rattle.bucket_levels.specs.Step.{IsStep}
pub use Rattle.bucket_levels.specs.declared.pair.LevelPair.{LevelPair}
pub use Rattle.close_laws.proofs.EncodedSets.{set_encoded}
pub use Rattle.close_laws.proofs.NextHeader.{next_counts}
pub use Rattle.close_laws.specs.Legal.{AreClosed, IsClosable, NextIsLegal}
pub use Rattle.close_laws.specs.tx_apply.Set.{IsAnswer, fee_pool_after, missing_index, set_done}
pub use Rattle.close_rules.specs.Close.{IsClose, IsClosed, PreparedClose, applied_in, filled_header, result_set}
pub use Rattle.close_rules.specs.Close.{setting_in, upgraded_header}
pub use Rattle.close_rules.specs.EntryRules.{IsFirstBroken, entry_rules}
pub use Rattle.close_rules.specs.Images.{AreFilesOf, HasEntries, HasHeader, HasLevels, IsJudged, if_complete}
pub use Rattle.close_rules.specs.Images.{read_complete, state_of}
unfoldable pub use Rattle.close_rules.specs.Images.{header_in}
pub use Rattle.close_rules.specs.Refusals.{ended, ended_by, term_tests}
unfoldable pub use Rattle.close_rules.specs.Refusals.{record_fault, record_in, set_fault, term_fault, upgrade_fault}
pub use Rattle.close_rules.specs.State.{ClosingState, IsClosingState, IsEncoded, max_file_total}
pub use Rattle.close_rules.specs.declared.close_fault.CloseFault.{CloseFault}
pub use Rattle.close_rules.specs.declared.image_fault.ImageFault.{ImageFault}
pub use Rattle.close_rules.specs.declared.image_fault.ImageRule.{ImageRule}
pub use Rattle.entry_map.specs.EntryMap.{EntryMap, IsKeyed}
pub use Rattle.entry_table.specs.entry_changes.Next.{AreNextEntries, IsExactBatch}
pub use Rattle.header_chain.specs.SkipList.{finished}
pub use Rattle.header_chain.specs.Upgrades.{all_upgraded, first_index, is_bad_at, is_out_of_profile, upgrade_in}
pub use Rattle.header_chain.specs.Upgrades.{upgraded_if}
pub use Rattle.ledger_close.specs.Answers.{Answers, FaultIs, IsUpgradedBy, IsUpgradedIn, JudgesImage, fault_of_set}
pub use Rattle.ledger_close.specs.Answers.{terms_of}
pub use Rattle.ledger_close.specs.Closing.{IsClosedBy, IsFinished, prepared_in}
pub use Rattle.ledger_close.specs.Counted.{AreSteps, AreStepsTo, AreStepsWith}
pub use Rattle.ledger_close.specs.Heading.{IsDone, filled}
pub use Rattle.ledger_close.specs.ImageFiles.{IsFileFault, IsFileOf, IsNoFile, fault_of}
pub use Rattle.ledger_close.specs.Judging.{AreJudged, AreKept, AreRefused, DoFilesFit, IsHeaderJudged, IsMarksFault}
pub use Rattle.ledger_close.specs.Judging.{Lists}
pub use Rattle.ledger_close.specs.Leveled.{IsLeveled}
pub use Rattle.ledger_close.specs.States.{IsKept, LedgerAt}
pub use Rattle.ledger_close.specs.Worked.{Leaves, entries_after}
pub use Rattle.ledger_close.specs.declared.apply.Worked.{Worked}
pub use Rattle.ledger_types.specs.Keys.{key_of}
pub use Rattle.ledger_types.specs.declared.entry.LedgerEntry.{LedgerEntry}
pub use Rattle.ledger_types.specs.declared.header.LedgerHeader.{LedgerHeader}
pub use Rattle.ledger_types.specs.declared.ids.Hash.{Hash}
pub use Rattle.value_hashes.specs.Hashes.{ledger_hash_of, results_hash_of}
pub use Rattle.xdr_core.specs.Format.{IsBytes, Lawful}
pub use Rattle.xdr_core.specs.Position.{Position, start_of, ◌>>=◌}
unfoldable pub use Rattle.xdr_header.specs.Header.{ledger_header, stellar_value}
unfoldable pub use Rattle.xdr_header.specs.Records.{close_record}
pub use Rattle.xdr_header.specs.declared.image.StartImage.{StartImage}
pub use Rattle.xdr_header.specs.declared.record.CloseRecord.{CloseRecord}

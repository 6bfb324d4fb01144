-- Names that several proofs of this crate use.
pub use Rattle.std.proofs.Common.{Bool, Contains, Err, List, None, Ok, Option, Some, [], ap, append-nil, append_assoc}
pub use Rattle.std.proofs.Common.{arith, drop, false, get_or, inl, inr, length, map, refl, subst, suc, sym, take, true}
pub use Rattle.std.proofs.Common.{ℕ, ◌++◌, ◌+◌, ◌<◌, ◌∙◌, ◌∷◌, ◌≡◌, ◌≤◌}
pub use Rattle.std.proofs.lemmas.List.{length-append}
pub use Rattle.std.specs.Prelude.{IfSome, IsTrue, Result, ◌↔◌}
pub use Rattle.hash_ids.specs.Ids.{hash_of}
pub use Rattle.ledger_types.specs.declared.ids.Hash.{Hash}
pub use Rattle.value_hashes.specs.Hashes.{ledger_hash_of, results_hash_of}
pub use Rattle.xdr_core.proofs.Numbers.{wide4}
pub use Rattle.xdr_core.specs.Format.{IsBytes, Lawful}
pub use Rattle.xdr_core.specs.Position.{Position, Reading, start_of, ◌>>=◌}
pub use Rattle.xdr_core.specs.ReadFault.{cause_of}
pub use Rattle.xdr_core.specs.Xdr.{Xdr}
pub use Rattle.xdr_core.specs.declared.fault.XdrFault.{XdrFault}
pub use Rattle.archive_files.specs.Chain.{AreInPlace, AreLinked, AreRead, HasStray, IsAbove, IsBroken, IsFirstFault}
pub use Rattle.archive_files.specs.Chain.{IsJudged, IsLinked, IsVerified, IsWrong, empty_set_hash, hash_at, header_at}
pub use Rattle.archive_files.specs.Chain.{last_hash, no_results_hash, numbers, or_else, results_at, results_hash_for}
pub use Rattle.archive_files.specs.Chain.{set_at, set_hash_for}
pub use Rattle.archive_files.specs.Encoded.{AreEncodable, IsEncodable, facts_of, file_of, record_of}
pub use Rattle.archive_files.specs.Entries.{transaction_history_entry}
pub use Rattle.archive_files.specs.Facts.{header_fact, results_fact, set_fact}
pub use Rattle.archive_files.specs.Judging.{AreJudged}
pub use Rattle.archive_files.specs.Records.{AreFacts, HasFacts, HasFault, ended, entire_at, fact_in, max_record_len}
pub use Rattle.archive_files.specs.Screening.{AreKept, AreNumbersOf, AreScreened, AreScreenedTo}
pub use Rattle.archive_files.specs.Walk.{AreRising, IsAheadFor, IsWalked, IsWalkedTo}
pub use Rattle.archive_files.specs.declared.facts.HeaderFact.{HeaderFact}
pub use Rattle.archive_files.specs.declared.facts.RecordFact.{RecordFact}
pub use Rattle.archive_files.specs.declared.history.History.{History}
pub use Rattle.archive_files.specs.declared.history.HistoryFault.{HistoryFault}
pub use Rattle.archive_files.specs.declared.history.Verified.{Verified}

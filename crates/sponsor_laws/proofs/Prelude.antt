-- Names that several proofs of this crate use.
pub use Rattle.std.proofs.Common.{Bool, Contains, List, None, Ok, Option, Some, T, [], ap, arith, cond, drop, false}
pub use Rattle.std.proofs.Common.{get_or, inl, inr, length, map, nat_eq, nat_lt, refl, slice_index_or, slice_set, subst}
pub use Rattle.std.proofs.Common.{suc, sym, take, true, zero, ℕ, ◌&&◌, ◌++◌, ◌+◌, ◌-◌, ◌<◌, ◌||◌, ◌∙◌, ◌∷◌, ◌≡◌, ◌≢◌}
pub use Rattle.std.proofs.Common.{◌≤◌, ◌⊎◌}
pub use Rattle.std.proofs.lemmas.List.{length-map, length-set, map-append, nil_from_length}
pub use Rattle.std.proofs.lemmas.List.Edits.{length-insert, length-remove}
pub use Rattle.std.proofs.lemmas.List.Sums.{count_by-le-length, get_or-le-sum_by, prefix_len-le-length, sum_by-cons}
pub use Rattle.std.proofs.lemmas.List.Sums.{sum_by-insert, sum_by-remove, sum_by-set}
pub use Rattle.std.specs.FinMap.{FinMap, IsAntisymmetric, entries, entries-insert, entries_sorted, get, get-entries}
pub use Rattle.std.specs.FinMap.{get-insert, get-remove, same_map}
pub use Rattle.std.specs.List.{count_by, drop-map, insert, position, position_or_len, remove, slice_get, sum_by}
pub use Rattle.std.specs.List.{take-map}
pub use Rattle.std.specs.Ordering.{eq_by_cmp, is_eq, is_lt}
pub use Rattle.std.specs.Prelude.{if◌then◌else◌}
pub use Rattle.sponsor_laws.specs.Laws.{AddingKeeps, AddingSignerKeeps, AreKept, HaveToExist, IsAddable, IsApart}
pub use Rattle.sponsor_laws.specs.Laws.{IsBare, IsNewAccount, IsRemovable, MovingKeeps, MovingSignerKeeps, PayerExists}
pub use Rattle.sponsor_laws.specs.Laws.{RemovingKeeps, RemovingSignerKeeps, SponsoredAtMost, SponsoredEntriesCount}
pub use Rattle.sponsor_laws.specs.Laws.{ZeroSponsorsNothing}
pub use Rattle.sponsor_laws.specs.Sums.{HasItems, counted_for, is_there, is_this, signer_sponsors, sponsored_signers}
pub use Rattle.sponsor_laws.specs.Sums.{sponsoring_signers, subentries_for, total}
pub use Rattle.sponsor_rules.proofs.Ids.{is_itself, same_account}
pub use Rattle.sponsor_rules.proofs.Keeping.{counts_edited, same_sponsored, same_sponsoring, second_edited}
pub use Rattle.sponsor_rules.proofs.entry_map_proofs.KeyMaps.{same_itself}
pub use Rattle.sponsor_rules.proofs.entry_map_proofs.Lookups.{erase_get, erase_there, left_over, put_get, put_there}
pub use Rattle.sponsor_rules.proofs.entry_slots_proofs.ChangedEntries.{account_under, accounts_exact, entry_found}
pub use Rattle.sponsor_rules.proofs.entry_slots_proofs.ChangedEntries.{own_key, with_found, with_missing, with_twice}
pub use Rattle.sponsor_rules.proofs.ledger_types_proofs.KeyOrdering.{keys_exact, keys_total, same_keys}
pub use Rattle.sponsor_rules.proofs.ledger_types_proofs.Lists.{if_some_at, if_some_from, nil_contains_nothing}
pub use Rattle.sponsor_rules.specs.Adding.{map_after_adding_account, map_after_adding_balance, map_after_adding_by}
pub use Rattle.sponsor_rules.specs.Adding.{map_after_adding_subentry, map_after_counting, own_tests, sponsored_entry}
pub use Rattle.sponsor_rules.specs.Charge.{charge_of, line_multiplicity, multiplicity, owner_of}
pub use Rattle.sponsor_rules.specs.Counting.{count_at, count_if, count_in, with_less, with_more, with_new_count}
unfoldable pub use Rattle.sponsor_rules.specs.Counting.{with_count}
pub use Rattle.sponsor_rules.specs.Moving.{map_after_moving_balance, map_after_moving_between, map_after_moving_by}
pub use Rattle.sponsor_rules.specs.Moving.{map_after_moving_entry, map_after_moving_owned, map_with_other_payer}
pub use Rattle.sponsor_rules.specs.Moving.{map_with_recorded}
unfoldable pub use Rattle.sponsor_rules.specs.Moving.{map_with_sponsor}
pub use Rattle.sponsor_rules.specs.Payers.{is_full, is_over, is_same_account, is_short, move_tests_at, payer_by}
pub use Rattle.sponsor_rules.specs.Payers.{payer_of, payer_other_than, payer_tests_at, subentry_tests_at}
unfoldable pub use Rattle.sponsor_rules.specs.Payers.{open_sponsor}
pub use Rattle.sponsor_rules.specs.Paying.{map_after_charging, map_after_exchange, map_after_releasing}
pub use Rattle.sponsor_rules.specs.Paying.{with_other_payer, with_subentry, without_subentry}
pub use Rattle.sponsor_rules.specs.Removing.{map_after_discounting, map_after_removing_entry, map_without_charge}
pub use Rattle.sponsor_rules.specs.SignerIndex.{found_at, found_signer, index_for, with_signer, with_signer_at}
pub use Rattle.sponsor_rules.specs.SignerIndex.{with_signer_sponsor, with_sponsors, with_sponsors_in, without_signer}
unfoldable pub use Rattle.sponsor_rules.specs.SignerIndex.{index_of}
pub use Rattle.sponsor_rules.specs.Signers.{map_after_adding_signer, map_after_moving_found}
pub use Rattle.sponsor_rules.specs.Signers.{map_after_moving_signer_between, map_with_signer, map_without_signer}
pub use Rattle.sponsor_rules.specs.Signers.{with_moved_signer, without_counted_signer}
pub use Rattle.sponsor_rules.specs.declared.context.Ctx.{Ctx}
pub use Rattle.sponsor_rules.specs.declared.count.Count.{Count}
pub use Rattle.sponsor_rules.specs.declared.count.Count.TheVariants.{Sponsored, Sponsoring, SubEntries}
pub use Rattle.sponsor_rules.specs.entry_map.EntryMap.{EntryMap, IsKeyed, erase, put}
pub use Rattle.sponsor_rules.specs.entry_slots.AccountExtensions.{second_in, signer_sponsor, sponsored_in}
pub use Rattle.sponsor_rules.specs.entry_slots.AccountExtensions.{sponsorship_in}
pub use Rattle.sponsor_rules.specs.entry_slots.Accounts.{HasAccount, account_in, account_of}
unfoldable pub use Rattle.sponsor_rules.specs.entry_slots.Accounts.{account_at, with_account}
pub use Rattle.sponsor_rules.specs.entry_slots.EntrySponsor.{sponsor_of, with_sponsor}
pub use Rattle.sponsor_rules.specs.entry_slots.Tests.{Tests, first_fault, unless_fault, unless_first}
pub use Rattle.sponsor_rules.specs.ledger_types.KeyOrder.{key_cmp}
pub use Rattle.sponsor_rules.specs.ledger_types.Keys.{key_of, key_of_body}
pub use Rattle.sponsor_rules.specs.ledger_types.declared.account.AccountEntry.{AccountEntry}
pub use Rattle.sponsor_rules.specs.ledger_types.declared.account.AccountEntryExtensionV2.{AccountEntryExtensionV2}
pub use Rattle.sponsor_rules.specs.ledger_types.declared.claimable_balance.ClaimableBalanceEntry.{ClaimableBalanceEntry}
pub use Rattle.sponsor_rules.specs.ledger_types.declared.entry.LedgerEntry.{LedgerEntry}
pub use Rattle.sponsor_rules.specs.ledger_types.declared.entry.LedgerEntryBody.{LedgerEntryBody}
pub use Rattle.sponsor_rules.specs.ledger_types.declared.ids.AccountId.{AccountId}
pub use Rattle.sponsor_rules.specs.ledger_types.declared.key.LedgerKey.{LedgerKey}
pub use Rattle.sponsor_rules.specs.ledger_types.declared.liquidity_pool.LiquidityPoolEntry.{LiquidityPoolEntry}
pub use Rattle.sponsor_rules.specs.ledger_types.declared.signer.Signer.{Signer}
pub use Rattle.sponsor_rules.specs.ledger_types.declared.signer.SignerKey.{SignerKey}
pub use borrow.Author.Tests.{eqb-true, ltb-false, ltb-true}

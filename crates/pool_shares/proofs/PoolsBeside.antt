-- A pool stays as it was where accounts, lines and claimable balances change or are added.
use Rattle.entry_map.proofs.Lookups.{put_elsewhere}
use Rattle.entry_map.specs.EntryMap.{EntryMap, put}
use Rattle.entry_slots.specs.Accounts.{with_account}
use Rattle.entry_slots.specs.Lines.{with_line}
use Rattle.ledger_types.specs.Keys.{key_of}
use Rattle.ledger_types.specs.declared.account.AccountEntry.{AccountEntry}
use Rattle.ledger_types.specs.declared.asset.TrustLineAsset.{TrustLineAsset}
use Rattle.ledger_types.specs.declared.entry.LedgerEntry.{LedgerEntry}
use Rattle.ledger_types.specs.declared.ids.AccountId.{AccountId}
use Rattle.ledger_types.specs.declared.ids.Hash.{Hash}
use Rattle.ledger_types.specs.declared.key.LedgerKey.{LedgerKey}
use Rattle.ledger_types.specs.declared.trust_line.TrustLineEntry.{TrustLineEntry}
use Rattle.legal_rules.proofs.Passed.{unless_first_ok}
use Rattle.legal_rules.specs.Payments.{paid}
use Rattle.legal_rules.specs.ShareLaws.{map_with_uses_at, with_uses}
use Rattle.sponsor_rules.specs.Adding.{map_after_adding_subentry, map_after_counting, sponsored_entry}
use Rattle.sponsor_rules.specs.Counting.{with_more}
use Rattle.sponsor_rules.specs.Payers.{open_sponsor, subentry_tests_at}
use Rattle.sponsor_rules.specs.Paying.{map_after_charging, with_subentry}
use Rattle.sponsor_rules.specs.declared.context.Ctx.{Ctx}
use Rattle.sponsor_rules.specs.declared.count.Count.TheVariants.{Sponsoring}
use Rattle.std.proofs.Common.{ap, refl, sym, ◌∙◌}
use Rattle.std.specs.FinMap.{get}
use Rattle.std.specs.Prelude.{None, Ok, Option, Some, ℕ, ℤ, ◌≡◌, ◌≢◌}
use Rattle.trade_cross.specs.Holdings.{line_paid, paying}
use Rattle.ledger_types.specs.declared.key.LedgerKey.TheVariants as key
use Rattle.pool_shares.proofs.Prelude.{accounts_exact, lines_exact, with_beside}

module _ (pool : Hash) where
  -- the entry of a pool
  abbrev pub its : EntryMap → Option LedgerEntry
  its m = get m (key.LiquidityPool pool)

  -- ---- accounts and lines

  pub beside_account : (m : EntryMap) (id : AccountId) (change : AccountEntry → AccountEntry)
      → its (with_account m id change) ≡ its m
  unfolding with_account
  beside_account m id change =
      with_beside accounts_exact m (key.Account id) change (key.LiquidityPool pool) (λ a exists same. absurd (cc))

  pub beside_line : (m : EntryMap) (id : AccountId) (held : TrustLineAsset)
      (change : TrustLineEntry → TrustLineEntry) → its (with_line m id held change) ≡ its m
  unfolding with_line
  beside_line m id held change =
      with_beside lines_exact m (key.TrustLine id held) change (key.LiquidityPool pool)
      (λ t exists same. absurd (cc))

  pub beside_paying : (o : Option LedgerKey) (n : ℤ) (m : EntryMap) → its (paying o n m) ≡ its m
  beside_paying (Some (key.Account id)) n m = beside_account m id (paid n)
  beside_paying (Some (key.TrustLine id held)) n m = beside_line m id held (line_paid n)
  beside_paying other n m = refl

  pub beside_uses : (n : ℤ) (o : Option LedgerKey) (m : EntryMap) → its (map_with_uses_at n o m) ≡ its m
  beside_uses n (Some (key.TrustLine id held)) m = beside_line m id held (with_uses n)
  beside_uses n other m = refl

  -- ---- subentries that are added

  charging : (k : ℕ) (sponsor : Option AccountId) (m : EntryMap) → its (map_after_charging k sponsor m) ≡ its m
  charging k None m = refl
  charging k (Some sponsor) m = beside_account m sponsor (with_more Sponsoring k)

  sponsored_key : (sponsor : Option AccountId) (e : LedgerEntry) → key_of (sponsored_entry sponsor e) ≡ key_of e
  sponsored_key None e = refl
  sponsored_key (Some sponsor) e = refl

  pub beside_subentry : (ctx : Ctx) (e : LedgerEntry) (owner : AccountId) (k : ℕ) (m new : EntryMap)
      → key.LiquidityPool pool ≢ key_of e → map_after_adding_subentry ctx e owner k m ≡ Ok new → its new ≡ its m
  beside_subentry ctx e owner k m new apart is =
      let sponsor = open_sponsor ctx owner in
      let counted = map_after_counting owner k sponsor m in
      ap its (sym (unless_first_ok (subentry_tests_at ctx m owner k)
      (put counted (sponsored_entry sponsor e)) new is).1)
      ∙ put_elsewhere counted (sponsored_entry sponsor e) (key.LiquidityPool pool)
      (λ same. apart (same ∙ sponsored_key sponsor e))
      ∙ beside_account (map_after_charging k sponsor m) owner (with_subentry k sponsor)
      ∙ charging k sponsor m

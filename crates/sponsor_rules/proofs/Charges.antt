-- Entries that are added and removed, with the counts of who pays for them, in a map of which an invariant holds.
use Rattle.entry_map.specs.EntryMap.{EntryMap}
use Rattle.entry_slots.specs.Accounts.{account_at, with_account}
use Rattle.entry_slots.specs.EntrySponsor.{sponsor_in, sponsor_of, with_sponsor, with_sponsor_in}
use Rattle.ledger_types.proofs.Booleans.{if_either}
use Rattle.ledger_types.specs.declared.account.AccountEntry.{AccountEntry}
use Rattle.ledger_types.specs.declared.entry.LedgerEntry.{LedgerEntry}
use Rattle.ledger_types.specs.declared.entry.LedgerEntryExtensionV1.{LedgerEntryExtensionV1}
use Rattle.ledger_types.specs.declared.ids.AccountId.{AccountId}
use Rattle.ledger_types.specs.declared.key.LedgerKey.{LedgerKey}
use Rattle.ledger_types.specs.declared.signer.Signer.{Signer}
use Rattle.ledger_types.specs.declared.signer.SignerKey.{SignerKey}
use Rattle.sponsor_rules.specs.Charge.{charge_of}
use Rattle.sponsor_rules.specs.Counting.{with_less, with_more}
use Rattle.sponsor_rules.specs.Payers.{is_same_account, open_sponsor, payer_by, payer_other_than}
use Rattle.sponsor_rules.specs.SignerIndex.{found_signer, index_for}
use Rattle.sponsor_rules.specs.declared.charge.Charge.{Charge}
use Rattle.sponsor_rules.specs.declared.context.Ctx.{Ctx}
use Rattle.sponsor_rules.specs.declared.count.Count.TheVariants.{Sponsored, Sponsoring, SubEntries}
use Rattle.sponsor_rules.specs.declared.signer_index.FoundSigner.{FoundSigner}
use Rattle.std.proofs.Common.{refl}
use Rattle.std.specs.FinMap.{get}
use Rattle.std.specs.Prelude.{None, Option, Some, ℕ, ◌≡◌}
use Rattle.sponsor_rules.proofs.Changes.{HoldsIf, account_changed, unless_holds}
use Rattle.sponsor_rules.proofs.Entries.{Fits, Invariant, Kinds}
use Rattle.ledger_types.specs.declared.entry.LedgerEntryBody.TheVariants as body
use Rattle.sponsor_rules.specs.Adding as adding
use Rattle.sponsor_rules.specs.Moving as moving
use Rattle.sponsor_rules.specs.Paying as paying
use Rattle.sponsor_rules.specs.Removing as removing
use Rattle.sponsor_rules.specs.Signers as signing
use Rattle.sponsor_rules.specs.declared.charge.Charge.TheVariants as charge

-- ---- who pays for an entry

recorded : (of : Kinds) (sponsor : Option AccountId) (ext : Option LedgerEntryExtensionV1) → of.Sponsor None
    → of.Sponsor sponsor → of.Sponsor (sponsor_in (with_sponsor_in sponsor ext))
recorded of None None nobody named = nobody
recorded of None (Some ext) nobody named = named
recorded of (Some id) None nobody named = named
recorded of (Some id) (Some ext) nobody named = named

-- who pays for an owner: its sponsor, or itself
pub payer_named : (v : Invariant) (owner : AccountId) (o : Option AccountId) → v.of.Sponsor (Some owner)
    → v.of.Sponsor o
    → v.of.Sponsor (Some (payer_by owner o))
payer_named v owner None own named = own
payer_named v owner (Some sponsor) own named = named

module _ (v : Invariant) where
  pub sponsored_fits : (sponsor : Option AccountId) (e : LedgerEntry) → Fits v.of e → v.of.Sponsor sponsor
      → Fits v.of (with_sponsor sponsor e)
  sponsored_fits sponsor e fits named =
      record { body = fits.body; sponsor = recorded v.of sponsor e.ext v.nobody named }

  pub charging : (k : ℕ) (sponsor : Option AccountId) (m : EntryMap) → v.Holds m
      → v.Holds (paying.map_after_charging k sponsor m)
  charging k None m holds = holds
  charging k (Some id) m holds = account_changed v (with_more Sponsoring k) (λ a. v.counted Sponsoring _ a) m id holds

  pub releasing : (k : ℕ) (sponsor : Option AccountId) (m : EntryMap) → v.Holds m
      → v.Holds (paying.map_after_releasing k sponsor m)
  releasing k None m holds = holds
  releasing k (Some id) m holds = account_changed v (with_less Sponsoring k) (λ a. v.counted Sponsoring _ a) m id holds

  more_paid : (k : ℕ) (sponsor : Option AccountId) (a : AccountEntry) → v.of.Account a
      → v.of.Account (paying.with_more_paid k sponsor a)
  more_paid k None a fits = fits
  more_paid k (Some id) a fits = v.counted Sponsored _ a fits

  less_paid : (k : ℕ) (sponsor : Option AccountId) (a : AccountEntry) → v.of.Account a
      → v.of.Account (paying.with_less_paid k sponsor a)
  less_paid k None a fits = fits
  less_paid k (Some id) a fits = v.counted Sponsored _ a fits

  pub exchanging : (k : ℕ) (old new : Option AccountId) (m : EntryMap) → v.Holds m
      → v.Holds (paying.map_after_exchange k old new m)
  exchanging k old new m holds = charging k new (paying.map_after_releasing k old m) (releasing k old m holds)

  other_payer : (k : ℕ) (old new : Option AccountId) (a : AccountEntry) → v.of.Account a
      → v.of.Account (paying.with_other_payer k old new a)
  other_payer k old new a fits = more_paid k new (paying.with_less_paid k old a) (less_paid k old a fits)

  -- ---- adding

  counting : (owner : AccountId) (k : ℕ) (sponsor : Option AccountId) (m : EntryMap) → v.Holds m
      → v.Holds (adding.map_after_counting owner k sponsor m)
  counting owner k sponsor m holds =
      account_changed v (paying.with_subentry k sponsor)
      (λ a fits. more_paid k sponsor (with_more SubEntries k a) (v.counted SubEntries _ a fits))
      (paying.map_after_charging k sponsor m) owner (charging k sponsor m holds)

  pub sponsored_entry_fits : (sponsor : Option AccountId) (e : LedgerEntry) → Fits v.of e → v.of.Sponsor sponsor
      → Fits v.of (adding.sponsored_entry sponsor e)
  sponsored_entry_fits None e fits named = fits
  sponsored_entry_fits (Some id) e fits named = sponsored_fits (Some id) e fits named

  account_added : (ctx : Ctx) (e : LedgerEntry) (a : AccountEntry) (sponsor : Option AccountId) (m : EntryMap)
      → Fits v.of e → v.of.Account a → v.of.Sponsor sponsor → v.Holds m
      → HoldsIf v (adding.map_after_adding_account ctx e a sponsor m)
  account_added ctx e a None m fits own named holds = unless_holds v _ _ (v.putting m e holds fits)
  account_added ctx e a (Some id) m fits own named holds =
      unless_holds v _ _ (v.putting (paying.map_after_charging 2 (Some id) m) (adding.sponsored_account_entry id e a)
      (charging 2 (Some id) m holds) (sponsored_fits (Some id)
      (record e { body = body.Account (with_more Sponsored 2 a) })
      (record { body = v.counted Sponsored _ a own; sponsor = fits.sponsor }) named))

  -- an account is added
  pub adding_account : (ctx : Ctx) (owner : AccountId) (e : LedgerEntry) (a : AccountEntry) (m : EntryMap)
      → e.body ≡ body.Account a → Fits v.of e → v.of.Account a → v.of.Sponsor (open_sponsor ctx owner) → v.Holds m
      → HoldsIf v (adding.map_after_adding_by ctx owner e (charge.Itself a.account_id) (Some a) m)
  adding_account ctx owner e a m is fits own named holds =
      account_added ctx e a (open_sponsor ctx owner) m fits own named holds

  -- a subentry is added
  pub adding_subentry : (ctx : Ctx) (owner : AccountId) (e : LedgerEntry) (k : ℕ) (m : EntryMap) → Fits v.of e
      → v.of.Sponsor (open_sponsor ctx owner) → v.Holds m → HoldsIf v (adding.map_after_adding_subentry ctx e owner k m)
  adding_subentry ctx owner e k m fits named holds =
      let sponsor = open_sponsor ctx owner in
      unless_holds v _ _ (v.putting (adding.map_after_counting owner k sponsor m) (adding.sponsored_entry sponsor e)
      (counting owner k sponsor m holds) (sponsored_entry_fits sponsor e fits named))

  -- a subentry is counted, before it is put
  pub counting_subentry : (ctx : Ctx) (owner : AccountId) (k : ℕ) (m : EntryMap) → v.Holds m
      → HoldsIf v (adding.map_after_counting_subentry ctx owner k m)
  counting_subentry ctx owner k m holds =
      unless_holds v _ _ (counting owner k (open_sponsor ctx owner) m holds)

  -- a claimable balance is added
  pub adding_balance : (ctx : Ctx) (e : LedgerEntry) (payer : AccountId) (k : ℕ) (m : EntryMap) → Fits v.of e
      → v.of.Sponsor (Some payer) → v.Holds m → HoldsIf v (adding.map_after_adding_balance ctx e payer k m)
  adding_balance ctx e payer k m fits named holds =
      unless_holds v _ _ (v.putting (paying.map_after_charging k (Some payer) m) (with_sponsor (Some payer) e)
      (charging k (Some payer) m holds) (sponsored_fits (Some payer) e fits named))

  -- ---- removing

  pub discounting : (owner : AccountId) (k : ℕ) (sponsor : Option AccountId) (m : EntryMap) → v.Holds m
      → v.Holds (removing.map_after_discounting owner k sponsor m)
  discounting owner k sponsor m holds =
      account_changed v (paying.without_subentry k sponsor)
      (λ a fits. less_paid k sponsor (with_less SubEntries k a) (v.counted SubEntries _ a fits))
      (paying.map_after_releasing k sponsor m) owner (releasing k sponsor m holds)

  uncharged : (of : Charge) (sponsor : Option AccountId) (m : EntryMap) → v.Holds m
      → v.Holds (removing.map_without_charge of sponsor m)
  uncharged (charge.Itself id) sponsor m holds = releasing 2 sponsor m holds
  uncharged (charge.Subentry owner k) sponsor m holds = discounting owner k sponsor m holds
  uncharged (charge.Payer k) sponsor m holds = releasing k sponsor m holds
  uncharged charge.Nobody sponsor m holds = holds

  removed : (k : LedgerKey) (m : EntryMap) (o : Option LedgerEntry) → v.Goes k → v.Holds m
      → v.Holds (removing.map_after_removing_entry k m o)
  removed k m None goes holds = holds
  removed k m (Some e) goes holds =
      v.erasing (removing.map_without_charge (charge_of e.body) (sponsor_of e) m) k
      (uncharged (charge_of e.body) (sponsor_of e) m holds) goes

  pub removing_holds : (k : LedgerKey) (m : EntryMap) → v.Goes k → v.Holds m
      → v.Holds (removing.map_after_removing k m)
  removing_holds k m goes holds = removed k m (get m k) goes holds

  -- ---- moving

  sponsor_recorded : (k : LedgerKey) (sponsor : Option AccountId) (m : EntryMap) (o : Option LedgerEntry)
      → get m k ≡ o → v.of.Sponsor sponsor → v.Holds m → v.Holds (moving.map_with_recorded m sponsor o)
  sponsor_recorded k sponsor m None there named holds = holds
  sponsor_recorded k sponsor m (Some e) there named holds =
      v.putting m (with_sponsor sponsor e) holds (sponsored_fits sponsor e (v.found m k e holds there) named)

  recording : (k : LedgerKey) (sponsor : Option AccountId) (m : EntryMap) → v.of.Sponsor sponsor → v.Holds m
      → v.Holds (moving.map_with_sponsor k sponsor m)
  unfolding moving.map_with_sponsor
  recording k sponsor m named holds = sponsor_recorded k sponsor m (get m k) refl named holds

  other_named : (owner : AccountId) (payer : Option AccountId) → v.of.Sponsor payer
      → v.of.Sponsor (payer_other_than owner payer)
  other_named owner None named = v.nobody
  other_named owner (Some payer) named =
      if_either v.of.Sponsor (is_same_account payer owner) None (Some payer) v.nobody named

  moved : (k : LedgerKey) (owner : AccountId) (n : ℕ) (old new : Option AccountId) (m : EntryMap)
      → v.of.Sponsor new → v.Holds m
      → v.Holds (moving.map_with_sponsor k new (moving.map_with_other_payer owner n old new m))
  moved k owner n old new m named holds =
      recording k new (moving.map_with_other_payer owner n old new m) named
      (account_changed v (paying.with_other_payer n old new) (other_payer n old new)
      (paying.map_after_exchange n old new m) owner (exchanging n old new m holds))

  moved_between : (ctx : Ctx) (k : LedgerKey) (owner : AccountId) (n : ℕ) (old new : Option AccountId) (m : EntryMap)
      → v.of.Sponsor new → v.Holds m → HoldsIf v (moving.map_after_moving_between ctx k owner n old new m)
  moved_between ctx k owner n None None m named holds = record { holds = holds }
  moved_between ctx k owner n None (Some new) m named holds =
      unless_holds v _ _ (moved k owner n None (Some new) m named holds)
  moved_between ctx k owner n (Some old) new m named holds =
      unless_holds v _ _ (moved k owner n (Some old) new m named holds)

  balance_moved : (ctx : Ctx) (k : LedgerKey) (n : ℕ) (old payer : Option AccountId) (m : EntryMap)
      → v.of.Sponsor payer → v.Holds m → HoldsIf v (moving.map_after_moving_balance ctx k n old payer m)
  balance_moved ctx k n old None m named holds = record { holds = holds }
  balance_moved ctx k n old (Some payer) m named holds =
      unless_holds v _ _ (recording k (Some payer) (paying.map_after_exchange n old (Some payer) m) named
      (exchanging n old (Some payer) m holds))

  moved_by : (ctx : Ctx) (k : LedgerKey) (of : Charge) (old payer : Option AccountId) (m : EntryMap)
      → v.of.Sponsor payer → v.Holds m → HoldsIf v (moving.map_after_moving_by ctx k of old payer m)
  moved_by ctx k (charge.Itself owner) old payer m named holds =
      moved_between ctx k owner 2 old (payer_other_than owner payer) m (other_named owner payer named) holds
  moved_by ctx k (charge.Subentry owner n) old payer m named holds =
      moved_between ctx k owner n old (payer_other_than owner payer) m (other_named owner payer named) holds
  moved_by ctx k (charge.Payer n) old payer m named holds = balance_moved ctx k n old payer m named holds
  moved_by ctx k charge.Nobody old payer m named holds = record { holds = holds }

  entry_moved : (ctx : Ctx) (k : LedgerKey) (payer : Option AccountId) (m : EntryMap) (o : Option LedgerEntry)
      → v.of.Sponsor payer → v.Holds m → HoldsIf v (moving.map_after_moving_entry ctx k payer m o)
  entry_moved ctx k payer m None named holds = record { holds = holds }
  entry_moved ctx k payer m (Some e) named holds = moved_by ctx k (charge_of e.body) (sponsor_of e) payer m named holds

  pub moving_holds : (ctx : Ctx) (k : LedgerKey) (payer : Option AccountId) (m : EntryMap) → v.of.Sponsor payer
      → v.Holds m → HoldsIf v (moving.map_after_moving ctx k payer m)
  moving_holds ctx k payer m named holds = entry_moved ctx k payer m (get m k) named holds

  -- ---- signers

  pub adding_signer : (ctx : Ctx) (id : AccountId) (one : Signer) (m : EntryMap) → v.of.Key one.key
      → v.of.Sponsor (open_sponsor ctx id) → v.Holds m → HoldsIf v (signing.map_after_adding_signer ctx id one m)
  adding_signer ctx id one m key named holds =
      let sponsor = open_sponsor ctx id in
      unless_holds v _ _ (account_changed v (signing.with_counted_signer one sponsor)
      (λ a fits. v.signed (index_for one.key (paying.with_subentry 1 sponsor a).signers) one sponsor key named
      (paying.with_subentry 1 sponsor a)
      (more_paid 1 sponsor (with_more SubEntries 1 a) (v.counted SubEntries _ a fits)))
      (paying.map_after_charging 1 sponsor m) id (charging 1 sponsor m holds))

  signer_removed : (id : AccountId) (m : EntryMap) (o : Option FoundSigner) → v.Holds m
      → v.Holds (signing.map_without_signer id m o)
  signer_removed id m None holds = holds
  signer_removed id m (Some found) holds =
      account_changed v (signing.without_counted_signer found)
      (λ a fits. v.unsigned found.index (paying.without_subentry 1 found.sponsor a)
      (less_paid 1 found.sponsor (with_less SubEntries 1 a) (v.counted SubEntries _ a fits)))
      (paying.map_after_releasing 1 found.sponsor m) id (releasing 1 found.sponsor m holds)

  pub removing_signer : (id : AccountId) (k : SignerKey) (m : EntryMap) → v.Holds m
      → v.Holds (signing.map_after_removing_signer id k m)
  removing_signer id k m holds = signer_removed id m (found_signer k (account_at m id)) holds

  signer_moved : (id : AccountId) (index : ℕ) (old new : Option AccountId) (m : EntryMap) → v.of.Sponsor new → v.Holds m
      → v.Holds (with_account (paying.map_after_exchange 1 old new m) id (signing.with_moved_signer index old new))
  signer_moved id index old new m named holds =
      account_changed v (signing.with_moved_signer index old new)
      (λ a fits. v.sponsored index new named (paying.with_other_payer 1 old new a) (other_payer 1 old new a fits))
      (paying.map_after_exchange 1 old new m) id (exchanging 1 old new m holds)

  signer_moved_between : (ctx : Ctx) (id : AccountId) (index : ℕ) (old new : Option AccountId) (m : EntryMap)
      → v.of.Sponsor new → v.Holds m → HoldsIf v (signing.map_after_moving_signer_between ctx id index old new m)
  signer_moved_between ctx id index None None m named holds = record { holds = holds }
  signer_moved_between ctx id index None (Some new) m named holds =
      unless_holds v _ _ (signer_moved id index None (Some new) m named holds)
  signer_moved_between ctx id index (Some old) new m named holds =
      unless_holds v _ _ (signer_moved id index (Some old) new m named holds)

  found_moved : (ctx : Ctx) (id : AccountId) (payer : Option AccountId) (m : EntryMap) (o : Option FoundSigner)
      → v.of.Sponsor payer → v.Holds m → HoldsIf v (signing.map_after_moving_found ctx id payer m o)
  found_moved ctx id payer m None named holds = record { holds = holds }
  found_moved ctx id payer m (Some found) named holds =
      signer_moved_between ctx id found.index found.sponsor (payer_other_than id payer) m (other_named id payer named)
      holds

  pub moving_signer : (ctx : Ctx) (id : AccountId) (k : SignerKey) (payer : Option AccountId) (m : EntryMap)
      → v.of.Sponsor payer → v.Holds m → HoldsIf v (signing.map_after_moving_signer ctx id k payer m)
  moving_signer ctx id k payer m named holds =
      found_moved ctx id payer m (found_signer k (account_at m id)) named holds

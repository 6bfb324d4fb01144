-- An account that pays no reserve for others is nobody's sponsor.
use Rattle.sponsor_laws.proofs.Prelude.{◌≡◌, ◌≢◌, refl, sym, ap, ◌∙◌, ◌≤◌, List, [], ◌∷◌, length, Some, arith, count_by}
use Rattle.sponsor_laws.proofs.Prelude.{get, AccountId, LedgerEntry, LedgerEntryBody, LedgerKey, EntryMap, Sponsoring}
use Rattle.sponsor_laws.proofs.Prelude.{sponsor_of, multiplicity, is_this, signer_sponsors, total}
use Rattle.sponsor_laws.proofs.Prelude.{SponsoredEntriesCount, ZeroSponsorsNothing, accounts_exact}
use Rattle.sponsor_rules.specs.ledger_types.declared.entry.LedgerEntryBody.TheVariants as body
use Rattle.sponsor_rules.specs.ledger_types.declared.key.LedgerKey.TheVariants as key
use Rattle.sponsor_laws.proofs.Accounts.{own_part, counted_split}
use Rattle.sponsor_laws.proofs.Even.{even, sums_of, account_entry}
use Rattle.sponsor_laws.proofs.Parts.{pays_for, in_total, counts_once}
use Rattle.sponsor_laws.proofs.Edits.{counted_once}

not_empty : {X : Type 0} (xs : List X) → xs ≢ [] → 1 ≤ length xs
not_empty [] some = absurd (some refl)
not_empty (x ∷ xs) some = omega arith

module _ (m : EntryMap) (entire : SponsoredEntriesCount m) (k : LedgerKey) (e : LedgerEntry) (there : get m k ≡ Some e)
    (id : AccountId) (pays : sponsor_of e ≡ Some id) where
  sponsored_counts : (b : LedgerEntryBody) → e.body ≡ b → 1 ≤ multiplicity b
  sponsored_counts (body.Account account) is = omega arith
  sponsored_counts (body.TrustLine line) is = counts_once line.asset
  sponsored_counts (body.Offer offer) is = omega arith
  sponsored_counts (body.Data data_entry) is = omega arith
  sponsored_counts (body.ClaimableBalance balance) is =
      not_empty balance.claimants (entire.claimants k e balance there is)
  sponsored_counts (body.LiquidityPool pool) is = absurd (let none = entire.pools k e pool there is in cc)

pub zero_sponsors : ZeroSponsorsNothing
zero_sponsors id account m kept entire exists zero =
    let h = even m kept in
    let none : total Sponsoring id m ≡ 0 = sym (sums_of m h id account Sponsoring exists) ∙ zero in
    record {
      entries = λ k e there pays.
          let once = sponsored_counts m entire k e there id pays e.body refl in
          let paid = pays_for e id pays in
          let le = in_total m k e Sponsoring id there in
          absurd (omega arith);
      signers = λ of other there has.
          let entry = account_entry m of other there in
          let once = counted_once (signer_sponsors other) id has in
          let split = counted_split Sponsoring id entry.0 in
          let part : own_part Sponsoring id entry.0.body ≡ count_by (is_this id) (signer_sponsors other) =
          ap (own_part Sponsoring id) (accounts_exact.body entry.0.body other entry.1.1) in
          let le = in_total m (key.Account of) entry.0 Sponsoring id entry.1.0 in
          absurd (omega arith);
    }

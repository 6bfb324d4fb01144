-- That accounts are dated, as an invariant of maps: what sets a sequence number records the ledger that closes and its
-- time, all else leaves the third extensions of accounts, and operations give accounts signers of their version alone.
use Rattle.close_laws.proofs.ThirdExtensions.{liable_third, sponsors_third, sponsorship_third}
use Rattle.close_rules.proofs.entry_sums_proofs.Lookups.{erase_each, put_each}
use Rattle.close_rules.proofs.ledger_types_proofs.Booleans.{if_either}
use Rattle.close_rules.proofs.ledger_types_proofs.Lists.{all_insert, all_remove}
use Rattle.close_rules.specs.entry_slots.AccountExtensions.{second_in, with_account_liabilities}
use Rattle.close_rules.specs.entry_slots.AccountExtensions.{with_seq_num}
use Rattle.close_rules.specs.entry_sums.Sums.{EachEntry}
use Rattle.close_rules.specs.ledger_types.declared.account.AccountEntry.{AccountEntry}
use Rattle.close_rules.specs.ledger_types.declared.account.AccountEntryExtensionV3.{AccountEntryExtensionV3}
use Rattle.close_rules.specs.ledger_types.declared.entry.LedgerEntryBody.{LedgerEntryBody}
use Rattle.close_rules.specs.ledger_types.declared.ids.AccountId.{AccountId}
use Rattle.close_rules.specs.ledger_types.declared.price.Liabilities.{Liabilities}
use Rattle.close_rules.specs.ledger_types.declared.signer.Signer.{Signer}
use Rattle.close_rules.specs.legal_rules.Dated.{IsAccountDated, IsBodyDated, IsKeyDated, IsThirdDated}
use Rattle.close_rules.specs.sponsor_rules.Counting.{count_in, with_count, with_new_count}
use Rattle.close_rules.specs.sponsor_rules.SeqNums.{new_extension_v3}
use Rattle.close_rules.specs.sponsor_rules.SignerIndex.{with_signer_at, with_signer_sponsor, without_signer}
use Rattle.close_rules.specs.sponsor_rules.declared.context.Ctx.{Ctx}
use Rattle.close_rules.specs.sponsor_rules.declared.count.Count.TheVariants.{Sponsored, Sponsoring, SubEntries}
use Rattle.close_rules.specs.sponsor_rules.declared.count.Count.{Count}
use Rattle.op_form.proofs.Steps.{anything}
use Rattle.op_form.proofs.Walks.{Logic}
use Rattle.sponsor_rules.proofs.Entries.{FitsBody, Invariant, Kinds}
use Rattle.std.proofs.Common.{insert, slice_set, subst}
use Rattle.std.proofs.lemmas.Bool.{ltb-false}
use Rattle.std.proofs.lemmas.List.Elements.{All-set}
use Rattle.std.specs.List.{remove}
use Rattle.std.specs.Prelude.{Bool, None, Option, Some, false, if◌then◌else◌, nat_eq, nat_lt, refl, true, ℕ, ℤ, ◌+◌}
use Rattle.std.specs.Prelude.{◌≡◌, ◌≤◌}
use Rattle.close_rules.specs.ledger_types.declared.entry.LedgerEntryBody.TheVariants as body

module _ (version seq close_time : ℕ) where
  abbrev IsDated : AccountEntry → Type 0
  IsDated account = IsAccountDated version seq close_time account

  abbrev IsSigner : Signer → Type 0
  IsSigner signer = IsKeyDated version signer.key

  -- ---- accounts

  new_count_dated : (count : Count) (n : ℕ) (account : AccountEntry) → IsDated account
      → IsDated (with_new_count count n account)
  new_count_dated SubEntries n account dated = record { third = dated.third; signers = dated.signers }
  new_count_dated Sponsoring n account dated = record {
    third = sponsorship_third (IsThirdDated version seq close_time) tt account.signers (second_in account.ext)
        dated.third;
    signers = dated.signers;
  }
  new_count_dated Sponsored n account dated = record {
    third = sponsorship_third (IsThirdDated version seq close_time) tt account.signers (second_in account.ext)
        dated.third;
    signers = dated.signers;
  }

  pub count_dated : (count : Count) (n : ℕ) (account : AccountEntry) → IsDated account
      → IsDated (with_count count n account)
  unfolding with_count
  count_dated count n account dated =
      if_either IsDated (nat_eq n (count_in count account)) account (with_new_count count n account) dated
      (new_count_dated count n account dated)

  pub liable_dated : (owed : Liabilities) (account : AccountEntry) → IsDated account
      → IsDated (with_account_liabilities owed account)
  liable_dated owed account dated = record {
    third = liable_third (IsThirdDated version seq close_time) tt owed account.ext dated.third;
    signers = dated.signers;
  }

  pub signer_dated : (index : ℕ) (signer : Signer) (sponsor : Option AccountId) → IsSigner signer
      → (account : AccountEntry) → IsDated account → IsDated (with_signer_at index signer sponsor account)
  signer_dated index signer sponsor key account dated = record {
    third = sponsors_third (IsThirdDated version seq close_time) tt (λ sponsors. insert sponsors index sponsor)
        account.ext dated.third;
    signers = all_insert IsSigner account.signers index signer dated.signers key;
  }

  pub without_signer_dated : (index : ℕ) (account : AccountEntry) → IsDated account
      → IsDated (without_signer index account)
  without_signer_dated index account dated = record {
    third = sponsors_third (IsThirdDated version seq close_time) tt (λ sponsors. remove sponsors index) account.ext
        dated.third;
    signers = all_remove IsSigner account.signers index dated.signers;
  }

  pub signer_sponsor_dated : (index : ℕ) (sponsor : Option AccountId) (account : AccountEntry) → IsDated account
      → IsDated (with_signer_sponsor index sponsor account)
  signer_sponsor_dated index sponsor account dated = record {
    third = sponsors_third (IsThirdDated version seq close_time) tt (λ sponsors. slice_set sponsors index sponsor)
        account.ext dated.third;
    signers = dated.signers;
  }

  -- ---- sequence numbers

  pub seq_num_dated : (n : ℤ) (ext : Option AccountEntryExtensionV3) → IsThirdDated version seq close_time ext
      → (account : AccountEntry) → IsDated account → IsDated (with_seq_num n ext account)
  seq_num_dated n None third account dated = record { third = dated.third; signers = dated.signers }
  seq_num_dated n (Some ext) third account dated = record { third = third; signers = dated.signers }

  -- what closes is this ledger or an earlier one
  abbrev IsDatedContext : Ctx → Type 0
  IsDatedContext ctx = (ctx.version ≡ version) × ((ctx.seq + 1 ≤ seq) × (ctx.close_time ≤ close_time))

  either_dated : (b : Bool) (ctx : Ctx) → nat_lt ctx.version 19 ≡ b → IsDatedContext ctx
      → IsThirdDated version seq close_time
      (if b then None else Some (record { seq_ledger = ctx.seq + 1; seq_time = ctx.close_time }))
  either_dated true ctx older of = tt
  either_dated false ctx newer of = (subst (λ n. 19 ≤ n) of.0 (ltb-false ctx.version 19 newer), of.1)

  -- what an account is given with a sequence number that is set
  pub extension_dated : (ctx : Ctx) → IsDatedContext ctx → IsThirdDated version seq close_time (new_extension_v3 ctx)
  extension_dated ctx of = either_dated (nat_lt ctx.version 19) ctx refl of

  -- ---- entries

  abbrev pub dated_kinds : Kinds
  dated_kinds = record {
    Account = IsAccountDated version seq close_time;
    Line = λ t. Unit {0};
    Offer = λ o. Unit {0};
    Data = λ d. Unit {0};
    Balance = λ b. Unit {0};
    Pool = λ p. Unit {0};
    Sponsor = λ s. Unit {0};
    Key = IsKeyDated version;
    Extension = IsThirdDated version seq close_time;
    Named = λ a. Unit {0};
  }

  pub fits_dated : (of : LedgerEntryBody) → IsBodyDated version seq close_time of → FitsBody dated_kinds of
  fits_dated (body.Account account) dated = dated
  fits_dated other dated = tt

  pub dated_fits : (of : LedgerEntryBody) → FitsBody dated_kinds of → IsBodyDated version seq close_time of
  dated_fits (body.Account account) fits = fits
  dated_fits other fits = tt

  abbrev pub dated_entries : Invariant
  dated_entries = record {
    of = dated_kinds;
    Holds = λ m. EachEntry (λ k e. IsBodyDated version seq close_time e.body) m;
    Goes = λ k. Unit {0};
    others = λ k other. tt;
    found = λ m k e each there. record { body = fits_dated e.body (each k e there); sponsor = tt };
    putting = λ m e each fits.
        put_each (λ k x. IsBodyDated version seq close_time x.body) m e each (dated_fits e.body fits.body);
    erasing = λ m k each goes. erase_each (λ q x. IsBodyDated version seq close_time x.body) m k each;
    Asks = ⊥;
    nobody = tt;
    counted = count_dated;
    numbered = λ balance seq_num a dated. record { third = dated.third; signers = dated.signers };
    sequenced = seq_num_dated;
    signed = λ index one sponsor key named a dated. signer_dated index one sponsor key a dated;
    unsigned = without_signer_dated;
    sponsored = λ index sponsor named a dated. signer_sponsor_dated index sponsor a dated;
    weighed = λ index one key a dated.
        record { third = dated.third; signers = All-set IsSigner a.signers index one key dated.signers };
    liable = λ owed a within dated. liable_dated owed a dated;
    same_line = λ t s same asset fits. tt;
    pooled = λ a b shares lines p bound fits. tt;
    pool_assets = λ p fits. (tt, tt);
    pool_bounds = λ p fits asks. absurd asks;
    offer_left = λ n o facts. tt;
    Reported = λ one. Unit {0};
    crossed = λ o wheat sheep fits. tt;
    swapped = λ p id wheat sheep sold bought first second own fits. tt;
  }

  abbrev pub dating : Logic
  dating = record {
    inv = dated_entries;
    answers = anything;
    Context = IsDatedContext;
    sponsor = λ ctx id of. tt;
    extension = extension_dated;
    opened = λ ctx one named of. of;
    closed = λ ctx index of. of;
    drawn = λ ctx ids of. of;
  }

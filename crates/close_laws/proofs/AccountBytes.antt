-- Numbers, counts, liabilities and signers that change leave the bytes of accounts.
use Rattle.close_laws.proofs.Bytes.{AreAccountBytes, IsIdIf, IsKey, IsThird, KeepsAccounts, no_id, no_third}
use Rattle.close_laws.proofs.Bytes.{sponsors_in}
use Rattle.close_laws.proofs.ThirdExtensions.{liable_third, sponsors_third, sponsorship_third}
use Rattle.close_rules.proofs.ledger_types_proofs.Booleans.{if_either}
use Rattle.close_rules.proofs.ledger_types_proofs.Lists.{all_insert, all_remove}
use Rattle.close_rules.specs.State.{IsEncoded}
use Rattle.close_rules.specs.entry_slots.AccountExtensions.{is_nothing, liabilities_in, second_in, sponsorship_in}
use Rattle.close_rules.specs.entry_slots.AccountExtensions.{with_account_liabilities, with_liabilities_in}
use Rattle.close_rules.specs.entry_slots.AccountExtensions.{sponsorship_of, with_seq_num, with_sponsorship}
use Rattle.close_rules.specs.ledger_types.declared.account.AccountEntry.{AccountEntry}
use Rattle.close_rules.specs.ledger_types.declared.account.AccountEntryExtensionV1.{AccountEntryExtensionV1}
use Rattle.close_rules.specs.ledger_types.declared.account.AccountEntryExtensionV2.{AccountEntryExtensionV2}
use Rattle.close_rules.specs.ledger_types.declared.account.AccountEntryExtensionV3.{AccountEntryExtensionV3}
use Rattle.close_rules.specs.ledger_types.declared.ids.AccountId.{AccountId}
use Rattle.close_rules.specs.ledger_types.declared.price.Liabilities.{Liabilities}
use Rattle.close_rules.specs.ledger_types.declared.signer.Signer.{Signer}
use Rattle.close_rules.specs.op_options.OptionSigner.{with_signer_set}
use Rattle.close_rules.specs.reserve_rules.Reserve.{greatest_i64}
use Rattle.close_rules.specs.sponsor_rules.Counting.{count_in, with_count, with_new_count}
use Rattle.close_rules.specs.sponsor_rules.SignerIndex.{with_signer_at, with_signer_sponsor, with_sponsors}
use Rattle.close_rules.specs.sponsor_rules.SignerIndex.{with_sponsors_in, without_signer}
use Rattle.close_rules.specs.sponsor_rules.declared.count.Count.TheVariants.{Sponsored, Sponsoring, SubEntries}
use Rattle.close_rules.specs.sponsor_rules.declared.count.Count.{Count}
use Rattle.close_rules.specs.xdr_entries.Basic.{signer_key}
use Rattle.std.proofs.Common.{arith, insert, slice_set}
use Rattle.std.proofs.lemmas.Int.{ints}
use Rattle.std.proofs.lemmas.List.Elements.{All-cons, All-nil, All-set}
use Rattle.std.specs.List.{remove}
use Rattle.std.specs.Prelude.{All, Bool, List, None, Option, Some, [], false, if◌then◌else◌, map, nat_eq, true, ℕ, ℤ}
use Rattle.std.specs.Prelude.{◌∷◌, ◌≤ℤ◌}

-- a change of numbers alone
pub numbers : (was account : AccountEntry) → AreAccountBytes was
    → AreAccountBytes (record was { balance = account.balance; seq_num = account.seq_num })
numbers was account bytes = record {
  id = bytes.id;
  inflation_dest = bytes.inflation_dest;
  home_domain = bytes.home_domain;
  thresholds = bytes.thresholds;
  signers = bytes.signers;
  sponsors = bytes.sponsors;
  third = bytes.third;
  selling = bytes.selling;
}

-- ---- sponsorship

none_named : (signers : List Signer) → All IsIdIf (map (λ signer. None) signers)
none_named [] = All-nil IsIdIf
none_named (one ∷ others) = All-cons IsIdIf None _ no_id (none_named others)

sponsors_of : (signers : List Signer) (ext : Option AccountEntryExtensionV2) → All IsIdIf (sponsors_in ext)
    → All IsIdIf (sponsorship_in signers ext).signer_sponsoring_ids
sponsors_of signers None all = none_named signers
sponsors_of signers (Some ext) all = all

-- an account that says something else of sponsorship, but has the same sponsors of its signers
sponsorship_bytes : (sponsorship : AccountEntryExtensionV2) (account : AccountEntry) → AreAccountBytes account
    → All IsIdIf sponsorship.signer_sponsoring_ids → IsThird sponsorship.ext
    → AreAccountBytes (with_sponsorship sponsorship account)
sponsorship_bytes sponsorship account bytes all third = record {
  id = bytes.id;
  inflation_dest = bytes.inflation_dest;
  home_domain = bytes.home_domain;
  thresholds = bytes.thresholds;
  signers = bytes.signers;
  sponsors = all;
  third = third;
  selling = bytes.selling;
}

-- ---- sequence numbers

pub seq_num_bytes : (n : ℤ) (ext : Option AccountEntryExtensionV3) → IsThird ext → KeepsAccounts (with_seq_num n ext)
seq_num_bytes n None third account bytes = numbers account (record account { seq_num = n }) bytes
seq_num_bytes n (Some ext) third account bytes =
    let numbered : AccountEntry = record account { seq_num = n } in
    sponsorship_bytes (record (sponsorship_of numbered) { ext = Some ext }) numbered
    (numbers account (record account { seq_num = n }) bytes)
    (sponsors_of account.signers (second_in account.ext) bytes.sponsors) third

-- ---- counts

new_count_bytes : (count : Count) (n : ℕ) → KeepsAccounts (with_new_count count n)
new_count_bytes SubEntries n account bytes = record {
  id = bytes.id;
  inflation_dest = bytes.inflation_dest;
  home_domain = bytes.home_domain;
  thresholds = bytes.thresholds;
  signers = bytes.signers;
  sponsors = bytes.sponsors;
  third = bytes.third;
  selling = bytes.selling;
}
new_count_bytes Sponsoring n account bytes =
    sponsorship_bytes (record (sponsorship_of account) { num_sponsoring = n }) account bytes
    (sponsors_of account.signers (second_in account.ext) bytes.sponsors)
    (sponsorship_third IsThird no_third account.signers (second_in account.ext) bytes.third)
new_count_bytes Sponsored n account bytes =
    sponsorship_bytes (record (sponsorship_of account) { num_sponsored = n }) account bytes
    (sponsors_of account.signers (second_in account.ext) bytes.sponsors)
    (sponsorship_third IsThird no_third account.signers (second_in account.ext) bytes.third)

pub count_bytes : (count : Count) (n : ℕ) → KeepsAccounts (with_count count n)
unfolding with_count
count_bytes count n account bytes =
    if_either AreAccountBytes (nat_eq n (count_in count account)) account (with_new_count count n account) bytes
    (new_count_bytes count n account bytes)

-- ---- liabilities

either_selling : (b : Bool) (owed : Liabilities) → owed.selling ≤ℤ greatest_i64
    → (liabilities_in (if b then None else Some (record { liabilities = owed; ext = None }))).selling ≤ℤ greatest_i64
either_selling true owed le = omega (arith, ints)
either_selling false owed le = le

owed_selling : (owed : Liabilities) (ext : Option AccountEntryExtensionV1) → owed.selling ≤ℤ greatest_i64
    → (liabilities_in (with_liabilities_in owed ext)).selling ≤ℤ greatest_i64
owed_selling owed None le = either_selling (is_nothing owed) owed le
owed_selling owed (Some ext) le = le

either_sponsors : (b : Bool) (owed : Liabilities)
    → All IsIdIf (sponsors_in (second_in (if b then None else Some (record { liabilities = owed; ext = None }))))
either_sponsors true owed = All-nil IsIdIf
either_sponsors false owed = All-nil IsIdIf

owed_sponsors : (owed : Liabilities) (ext : Option AccountEntryExtensionV1) → All IsIdIf (sponsors_in (second_in ext))
    → All IsIdIf (sponsors_in (second_in (with_liabilities_in owed ext)))
owed_sponsors owed None all = either_sponsors (is_nothing owed) owed
owed_sponsors owed (Some ext) all = all

pub liable_bytes : (owed : Liabilities) (a : AccountEntry) → owed.selling ≤ℤ greatest_i64 → AreAccountBytes a
    → AreAccountBytes (with_account_liabilities owed a)
liable_bytes owed a le bytes = record {
  id = bytes.id;
  inflation_dest = bytes.inflation_dest;
  home_domain = bytes.home_domain;
  thresholds = bytes.thresholds;
  signers = bytes.signers;
  sponsors = owed_sponsors owed a.ext bytes.sponsors;
  third = liable_third IsThird no_third owed a.ext bytes.third;
  selling = owed_selling owed a.ext le;
}

-- ---- signers

-- a change of a list that keeps what holds of all of it
abbrev KeepsAll : (List (Option AccountId) → List (Option AccountId)) → Type 0
KeepsAll change = (xs : List (Option AccountId)) → All IsIdIf xs → All IsIdIf (change xs)

changed_second : (change : List (Option AccountId) → List (Option AccountId))
    (second : Option AccountEntryExtensionV2) → KeepsAll change → All IsIdIf (sponsors_in second)
    → All IsIdIf (sponsors_in (with_sponsors_in change second))
changed_second change None keep all = all
changed_second change (Some ext) keep all = keep ext.signer_sponsoring_ids all

changed_sponsors : (change : List (Option AccountId) → List (Option AccountId))
    (ext : Option AccountEntryExtensionV1) → KeepsAll change → All IsIdIf (sponsors_in (second_in ext))
    → All IsIdIf (sponsors_in (second_in (with_sponsors change ext)))
changed_sponsors change None keep all = all
changed_sponsors change (Some ext) keep all = changed_second change ext.ext keep all

same_selling : (change : List (Option AccountId) → List (Option AccountId)) (ext : Option AccountEntryExtensionV1)
    → (liabilities_in ext).selling ≤ℤ greatest_i64 → (liabilities_in (with_sponsors change ext)).selling ≤ℤ greatest_i64
same_selling change None le = le
same_selling change (Some ext) le = le

pub signer_at_bytes : (index : ℕ) (signer : Signer) (sponsor : Option AccountId) → IsEncoded signer_key signer.key
    → IsIdIf sponsor → KeepsAccounts (with_signer_at index signer sponsor)
signer_at_bytes index signer sponsor encoded named account bytes = record {
  id = bytes.id;
  inflation_dest = bytes.inflation_dest;
  home_domain = bytes.home_domain;
  thresholds = bytes.thresholds;
  signers = all_insert IsKey account.signers index signer bytes.signers encoded;
  sponsors = changed_sponsors (λ sponsors. insert sponsors index sponsor) account.ext
      (λ xs all. all_insert IsIdIf xs index sponsor all named) bytes.sponsors;
  third = sponsors_third IsThird no_third (λ sponsors. insert sponsors index sponsor) account.ext bytes.third;
  selling = same_selling (λ sponsors. insert sponsors index sponsor) account.ext bytes.selling;
}

pub without_signer_bytes : (index : ℕ) → KeepsAccounts (without_signer index)
without_signer_bytes index account bytes = record {
  id = bytes.id;
  inflation_dest = bytes.inflation_dest;
  home_domain = bytes.home_domain;
  thresholds = bytes.thresholds;
  signers = all_remove IsKey account.signers index bytes.signers;
  sponsors = changed_sponsors (λ sponsors. remove sponsors index) account.ext
      (λ xs all. all_remove IsIdIf xs index all) bytes.sponsors;
  third = sponsors_third IsThird no_third (λ sponsors. remove sponsors index) account.ext bytes.third;
  selling = same_selling (λ sponsors. remove sponsors index) account.ext bytes.selling;
}

pub signer_sponsor_bytes : (index : ℕ) (sponsor : Option AccountId) → IsIdIf sponsor
    → KeepsAccounts (with_signer_sponsor index sponsor)
signer_sponsor_bytes index sponsor named account bytes = record {
  id = bytes.id;
  inflation_dest = bytes.inflation_dest;
  home_domain = bytes.home_domain;
  thresholds = bytes.thresholds;
  signers = bytes.signers;
  sponsors = changed_sponsors (λ sponsors. slice_set sponsors index sponsor) account.ext
      (λ xs all. All-set IsIdIf xs index sponsor named all) bytes.sponsors;
  third = sponsors_third IsThird no_third (λ sponsors. slice_set sponsors index sponsor) account.ext bytes.third;
  selling = same_selling (λ sponsors. slice_set sponsors index sponsor) account.ext bytes.selling;
}

pub set_signer : (index : ℕ) (one : Signer) → IsEncoded signer_key one.key
    → KeepsAccounts (with_signer_set index one)
set_signer index one encoded account bytes = record {
  id = bytes.id;
  inflation_dest = bytes.inflation_dest;
  home_domain = bytes.home_domain;
  thresholds = bytes.thresholds;
  signers = All-set IsKey account.signers index one encoded bytes.signers;
  sponsors = bytes.sponsors;
  third = bytes.third;
  selling = bytes.selling;
}

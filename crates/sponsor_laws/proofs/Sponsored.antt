-- An account's reserves that others pay are at most its own two and one for each of its subentries.
use Rattle.sponsor_laws.proofs.Prelude.{◌≡◌, ◌≢◌, refl, sym, ap, subst, ◌∙◌, ℕ, ◌+◌, ◌≤◌, Bool, true, false, length}
use Rattle.sponsor_laws.proofs.Prelude.{Some, arith, if◌then◌else◌, count_by, count_by-le-length, AccountId}
use Rattle.sponsor_laws.proofs.Prelude.{AccountEntry, LedgerEntry, LedgerEntryBody, keys_total, EntryMap, erase}
use Rattle.sponsor_laws.proofs.Prelude.{SubEntries, Sponsored, account_in, sponsor_of, multiplicity, owner_of}
use Rattle.sponsor_laws.proofs.Prelude.{is_same_account, HasItems, is_this, is_there, signer_sponsors, subentries_for}
use Rattle.sponsor_laws.proofs.Prelude.{sponsored_signers, counted_for, total, SponsoredAtMost, left_over}
use Rattle.sponsor_laws.proofs.Prelude.{accounts_exact}
use Rattle.sponsor_rules.specs.ledger_types.declared.entry.LedgerEntryBody.TheVariants as body
use Rattle.sponsor_rules.specs.ledger_types.declared.key.LedgerKey.TheVariants as key
use Rattle.sponsor_laws.proofs.Totals.{sum_in-at_most}
use Rattle.sponsor_laws.proofs.Accounts.{as_many}
use Rattle.sponsor_laws.proofs.Even.{IsEven, even, sums_of, account_entry, account_key, sponsored_none}
use Rattle.sponsor_laws.proofs.Shifts.{apart_ids}
use Rattle.sponsor_laws.proofs.Settling.{erase_total}

-- ---- one entry

if_at_most : (b : Bool) (n k : ℕ) → n ≤ k → (if b then n else 0) ≤ (if b then k else 0)
if_at_most true n k le = le
if_at_most false n k le = omega arith

only_if : (b : Bool) (n : ℕ) → (if b then n else 0) ≤ n
only_if true n = omega arith
only_if false n = omega arith

-- others pay no more than the entry's own reserves, and those of an account's signers
paid_at_most : (id : AccountId) (e : LedgerEntry) → counted_for Sponsored id e ≤
    (if is_this id (owner_of e.body) then multiplicity e.body else 0) + sponsored_signers id e.body
paid_at_most id e = let le = only_if (is_there (sponsor_of e))
    (if is_this id (owner_of e.body) then multiplicity e.body else 0) in omega arith

-- each of an account's signers has one who pays, or none
signers_at_most : (id : AccountId) (account : AccountEntry) → HasItems account
    → sponsored_signers id (body.Account account) ≤ subentries_for id (body.Account account)
signers_at_most id account items = if_at_most (is_same_account account.account_id id)
    (count_by is_there (signer_sponsors account)) (length account.signers)
    (let le = count_by-le-length is_there (signer_sponsors account) in let same = as_many account items in omega arith)

-- an account pays two reserves for itself
account_at_most : (id : AccountId) (e : LedgerEntry) (account : AccountEntry) → HasItems account
    → e.body ≡ body.Account account → counted_for Sponsored id e ≤ 2 + counted_for SubEntries id e
account_at_most id e account items is =
    let paid = paid_at_most id e in
    let own : (if is_this id (owner_of e.body) then multiplicity e.body else 0) ≤ 2 =
    subst (λ b. (if is_this id (owner_of b) then multiplicity b else 0) ≤ 2) (sym is)
    (only_if (is_same_account account.account_id id) 2) in
    let signers : sponsored_signers id e.body ≤ subentries_for id e.body =
    subst (λ b. sponsored_signers id b ≤ subentries_for id b) (sym is) (signers_at_most id account items) in
    omega arith

-- any entry but the account's own takes reserves as its subentry only
body_at_most : (id : AccountId) (b : LedgerEntryBody)
    → ((account : AccountEntry) → account_in b ≡ Some account → account.account_id ≢ id)
    → (if is_this id (owner_of b) then multiplicity b else 0) + sponsored_signers id b ≤ subentries_for id b
body_at_most id (body.Account account) another =
    let apart : is_same_account account.account_id id ≡ false =
    apart_ids account.account_id id (another account refl) in
    let own : ◌≡◌ {A = ℕ} (if is_same_account account.account_id id then 2 else 0) 0 =
    ap (λ t. if t then 2 else 0) apart in
    let signers = sponsored_none id (body.Account account) apart in
    omega arith
body_at_most id other another = omega arith

-- ---- all entries

-- all but the account's own
others_at_most : (m : EntryMap) (id : AccountId) → IsEven m
    → total Sponsored id (erase m (key.Account id)) ≤ total SubEntries id (erase m (key.Account id))
others_at_most m id h = sum_in-at_most keys_total (counted_for Sponsored id) (counted_for SubEntries id)
    (erase m (key.Account id)) (λ k e left.
    let was = left_over m (key.Account id) k e left in
    let paid = paid_at_most id e in
    let le = body_at_most id e.body (λ other is same. was.0 (sym (h.own k e was.1) ∙ account_key e.body other is
    ∙ ap key.Account same)) in
    omega arith)

pub sponsored_at_most : SponsoredAtMost
sponsored_at_most id account m kept there =
    let h = even m kept in
    let entry = account_entry m id account there in
    let itself = account_at_most id entry.0 account (kept.items id account there)
    (accounts_exact.body entry.0.body account entry.1.1) in
    let others = others_at_most m id h in
    let sponsored = erase_total m (key.Account id) entry.0 Sponsored id entry.1.0 in
    let subentries = erase_total m (key.Account id) entry.0 SubEntries id entry.1.0 in
    let sponsored_sum = sums_of m h id account Sponsored there in
    let subentries_sum = sums_of m h id account SubEntries there in
    omega arith

-- Balances and liabilities of accounts and of lines that stay in their ranges.
use Rattle.op_form.proofs.Prelude.{◌≡◌, ◌⊎◌, inl, inr, refl, sym, ap, subst, ◌∙◌, Bool, true, false, cond, Option, Some}
use Rattle.op_form.proofs.Prelude.{None, arith, ints, ℤ, pos, ◌+ℤ◌, ◌-ℤ◌, ◌≤ℤ◌, if◌then◌else◌, get, get-insert}
use Rattle.op_form.proofs.Prelude.{get-remove, AccountId, AccountEntry, LedgerEntry, key_of, keys_total, EntryMap, put}
use Rattle.op_form.proofs.Prelude.{erase, account_in, account_of, account_at, with_account, account_liabilities}
use Rattle.op_form.proofs.Prelude.{line_in, line_of, line_at, IsInRange, IsLineInRange, greatest_i64, room, line_room}
use Rattle.op_form.proofs.Prelude.{with_more_lumens, map_after_lumens_credit, map_after_lumens_credit_of}
use Rattle.op_form.proofs.Prelude.{BalancesAreInRange, accounts_exact, either_way, entry_exists}
use Rattle.std.specs.Ordering.{is_lt, int_cmp}
use Rattle.ledger_types.specs.declared.asset.TrustLineAsset.{TrustLineAsset}
use Rattle.ledger_types.specs.declared.trust_line.TrustLineEntry.{TrustLineEntry}
use Rattle.ledger_types.specs.declared.entry.LedgerEntryBody.{LedgerEntryBody}
use Rattle.ledger_types.specs.declared.entry.LedgerEntryBody.TheVariants as body
use Rattle.ledger_types.specs.declared.key.LedgerKey.{LedgerKey}
use Rattle.ledger_types.specs.declared.key.LedgerKey.TheVariants as key
use Rattle.entry_slots.specs.LineExtensions.{line_liabilities}
use Rattle.op_form.specs.Amounts.{with_more}
use Rattle.op_form.proofs.Premises.{in_range_with}
use Rattle.ledger_types.proofs.Arithmetic.{add_nonnegative, int_cmp_not_less}

-- ---- an entry that is put or erased

line_found : (b : Bool) (e : LedgerEntry) (o : Option LedgerEntry) (line : TrustLineEntry)
    → line_of (cond b (Some e) o) ≡ Some line → (line_in e.body ≡ Some line) ⊎ (line_of o ≡ Some line)
line_found true e o line is = inl is
line_found false e o line is = inr is

line_found_after : (m : EntryMap) (e : LedgerEntry) (id : AccountId) (held : TrustLineAsset) (line : TrustLineEntry)
    → line_at (put m e) id held ≡ Some line → (line_in e.body ≡ Some line) ⊎ (line_at m id held ≡ Some line)
unfolding line_at
line_found_after m e id held line is =
    line_found _ e (get m (key.TrustLine id held)) line
    (sym (ap line_of (get-insert keys_total m (key_of e) e (key.TrustLine id held))) ∙ is)

-- what an entry says of balances is in its ranges
pub record IsInRangeIn (b : LedgerEntryBody) : Type 0 where
  pub account : (account : AccountEntry) → account_in b ≡ Some account → IsInRange account
  pub line : (line : TrustLineEntry) → line_in b ≡ Some line → IsLineInRange line

pub balances_put : (m : EntryMap) (e : LedgerEntry) → IsInRangeIn e.body → BalancesAreInRange m
    → BalancesAreInRange (put m e)
balances_put m e range all = record {
  accounts = in_range_with m e range.account all.accounts;
  lines = λ id held line is. elim (line_found_after m e id held line is) [
    | inl here ↦ range.line line here
    | inr there ↦ all.lines id held line there
  ];
}

account_kept : (b : Bool) (o : Option LedgerEntry) (account : AccountEntry)
    → account_of (cond b None o) ≡ Some account → account_of o ≡ Some account
account_kept true o account is = absurd (cc)
account_kept false o account is = is

line_kept : (b : Bool) (o : Option LedgerEntry) (line : TrustLineEntry)
    → line_of (cond b None o) ≡ Some line → line_of o ≡ Some line
line_kept true o line is = absurd (cc)
line_kept false o line is = is

account_before : (m : EntryMap) (k : LedgerKey) (id : AccountId) (account : AccountEntry)
    → account_at (erase m k) id ≡ Some account → account_at m id ≡ Some account
unfolding account_at
account_before m k id account is =
    account_kept _ (get m (key.Account id)) account
    (sym (ap account_of (get-remove keys_total m k (key.Account id))) ∙ is)

line_before : (m : EntryMap) (k : LedgerKey) (id : AccountId) (held : TrustLineAsset) (line : TrustLineEntry)
    → line_at (erase m k) id held ≡ Some line → line_at m id held ≡ Some line
unfolding line_at
line_before m k id held line is =
    line_kept _ (get m (key.TrustLine id held)) line
    (sym (ap line_of (get-remove keys_total m k (key.TrustLine id held))) ∙ is)

pub balances_erased : (m : EntryMap) (k : LedgerKey) → BalancesAreInRange m → BalancesAreInRange (erase m k)
balances_erased m k all = record {
  accounts = record { in_range = λ id account is. all.accounts.in_range id account (account_before m k id account is) };
  lines = λ id held line is. all.lines id held line (line_before m k id held line is);
}

-- ---- an account that is changed

account_only : (a : AccountEntry) → IsInRange a → IsInRangeIn (body.Account a)
account_only a range = record {
  account = λ b is. let same : a ≡ b = cc in subst IsInRange same range;
  line = λ line is. absurd (cc);
}

-- an account that stays in its ranges
pub account_changed : (m : EntryMap) (id : AccountId) (f : AccountEntry → AccountEntry)
    → ((a : AccountEntry) → account_at m id ≡ Some a → IsInRange (f a)) → BalancesAreInRange m
    → BalancesAreInRange (with_account m id f)
unfolding account_at with_account
account_changed m id f range all =
    either_way accounts_exact m (key.Account id) f BalancesAreInRange (λ none. all)
    (λ e a here. balances_put m (record e { body = body.Account (f a) })
    (account_only (f a) (range a (entry_exists accounts_exact m (key.Account id) a e here))) all)

-- ---- lumens that are taken

more_fits : (b n buying g : ℤ) → n ≤ℤ (g -ℤ b -ℤ buying) → ((b +ℤ n) +ℤ buying) ≤ℤ g
more_fits b n buying g le = omega (arith, ints)

more_in_range : (a : AccountEntry) (amount : ℤ) → IsInRange a → pos 0 ≤ℤ amount → amount ≤ℤ room a
    → IsInRange (with_more_lumens amount a)
more_in_range a amount range low fits = record {
  balance = add_nonnegative a.balance amount range.balance low;
  buying = range.buying;
  selling = range.selling;
  fits = more_fits a.balance amount (account_liabilities a).buying greatest_i64 fits;
}

taken_by : (id : AccountId) (amount : ℤ) (m new : EntryMap) (a : AccountEntry) (t : Bool)
    → is_lt (int_cmp (room a) amount) ≡ t → account_at m id ≡ Some a
    → (if t then None else Some (with_account m id (with_more_lumens amount))) ≡ Some new → pos 0 ≤ℤ amount
    → BalancesAreInRange m → BalancesAreInRange new
taken_by id amount m new a true test exists is low all = absurd (cc)
taken_by id amount m new a false test exists is low all =
    let same : with_account m id (with_more_lumens amount) ≡ new = cc in
    subst BalancesAreInRange same (account_changed m id (with_more_lumens amount) (λ b there.
    let one : a ≡ b = cc in
    subst (λ (x : AccountEntry). IsInRange (with_more_lumens amount x)) one
    (more_in_range a amount (all.accounts.in_range id a exists) low (int_cmp_not_less (room a) amount test))) all)

taken_of : (id : AccountId) (amount : ℤ) (m new : EntryMap) (o : Option AccountEntry) → account_at m id ≡ o
    → map_after_lumens_credit_of id amount m o ≡ Some new → pos 0 ≤ℤ amount → BalancesAreInRange m
    → BalancesAreInRange new
taken_of id amount m new None exists is low all = absurd (cc)
taken_of id amount m new (Some a) exists is low all = taken_by id amount m new a _ refl exists is low all

pub lumens_taken : (id : AccountId) (amount : ℤ) (m new : EntryMap) → map_after_lumens_credit id amount m ≡ Some new
    → pos 0 ≤ℤ amount → BalancesAreInRange m → BalancesAreInRange new
lumens_taken id amount m new is low all = taken_of id amount m new (account_at m id) refl is low all

-- ---- a line that is changed

line_more_covers : (s b n : ℤ) → s ≤ℤ b → pos 0 ≤ℤ n → s ≤ℤ (b +ℤ n)
line_more_covers s b n le low = omega (arith, ints)

pub line_more_in_range : (t : TrustLineEntry) (amount : ℤ) → IsLineInRange t → pos 0 ≤ℤ amount → amount ≤ℤ line_room t
    → IsLineInRange (with_more amount t)
line_more_in_range t amount range low fits = record {
  balance = add_nonnegative t.balance amount range.balance low;
  buying = range.buying;
  selling = range.selling;
  covered = line_more_covers (line_liabilities t).selling t.balance amount range.covered low;
  fits = more_fits t.balance amount (line_liabilities t).buying t.limit fits;
}

pub line_only : (t : TrustLineEntry) → IsLineInRange t → IsInRangeIn (body.TrustLine t)
line_only t range = record {
  account = λ account is. absurd (cc);
  line = λ line is. let same : t ≡ line = cc in subst IsLineInRange same range;
}

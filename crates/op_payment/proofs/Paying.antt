-- Lumens that an account gives and takes.
use Rattle.op_payment.proofs.Prelude as prelude
use prelude.{◌≡◌, refl, subst, ℕ, Bool, true, false, Option, Some, None, inl, inr, arith, ints, ℤ, pos, neg_ℤ, ◌+ℤ◌}
use prelude.{◌-ℤ◌, ◌≤ℤ◌, if◌then◌else◌, is_lt, int_cmp, AccountId, EntryMap, available, room, min_balance, Ctx, View}
use prelude.{nothing_owed, IsLegalOwing, lumens_of, account_legal, with_less_lumens, map_after_lumens_debit_of}
use prelude.{map_after_lumens_debit, with_more_lumens, map_after_lumens_credit_of, map_after_lumens_credit, IsKeyed}
use prelude.{for_one, Leaves, account_changed, add_nonnegative, int_cmp_not_less}
use Rattle.sponsor_rules.specs.entry_slots.Accounts.{account_at, with_account}
use Rattle.sponsor_rules.specs.entry_slots.AccountExtensions.{account_liabilities}
use Rattle.trade_cross.proofs.legal_rules_proofs.Covered.{not_above_balance}
use Rattle.ledger_types.specs.declared.account.AccountEntry.{AccountEntry}
use Rattle.trade_cross.proofs.legal_rules_proofs.Paid.{paid_legal, debit_legal}

-- a change of a map that is made where a test passes
passed_some : {X : Type 0} (b : Bool) (x y : X) → (if b then None else Some x) ≡ Some y → (b ≡ false) × (x ≡ y)
passed_some true x y is = absurd (cc)
passed_some false x y is = (refl, cc)

-- ---- taking

pub record IsTaken (id : AccountId) (amount : ℤ) (m new : EntryMap) : Type 0 where
  pub account : AccountEntry
  pub exists : account_at m id ≡ Some account
  pub fits : amount ≤ℤ room account
  pub is : with_account m id (with_more_lumens amount) ≡ new

taken_of : (id : AccountId) (amount : ℤ) (m new : EntryMap) (o : Option AccountEntry) → account_at m id ≡ o
    → map_after_lumens_credit_of id amount m o ≡ Some new → IsTaken id amount m new
taken_of id amount m new None exists is = absurd (cc)
taken_of id amount m new (Some a) exists is =
    let test = passed_some (is_lt (int_cmp (room a) amount)) (with_account m id (with_more_lumens amount)) new is in
    record { account = a; exists = exists; fits = int_cmp_not_less (room a) amount test.0; is = test.1 }

pub credit_is_taken : (id : AccountId) (amount : ℤ) (m new : EntryMap) → map_after_lumens_credit id amount m ≡ Some new
    → IsTaken id amount m new
credit_is_taken id amount m new is = taken_of id amount m new (account_at m id) refl is

pub taken_legal : (v : View) (id_pool : ℕ) (sum : ℤ) (id : AccountId) (amount : ℤ) (m new : EntryMap)
    → IsTaken id amount m new → pos 0 ≤ℤ amount → IsLegalOwing v id_pool nothing_owed sum m
    → IsLegalOwing v id_pool nothing_owed (sum +ℤ lumens_of v.asset amount) new
taken_legal v id_pool sum id amount m new h low legal =
    subst (IsLegalOwing v id_pool nothing_owed (sum +ℤ lumens_of v.asset amount)) h.is
    (paid_legal v id_pool nothing_owed sum m id amount h.account legal h.exists
    (add_nonnegative h.account.balance amount
    (account_legal v id_pool nothing_owed sum m id h.account legal h.exists).range.range.balance low) h.fits)

no_less : (b n p s : ℤ) → pos 0 ≤ℤ n → (b -ℤ p -ℤ s) ≤ℤ ((b +ℤ n) -ℤ p -ℤ s)
no_less b n p s low = omega (arith, ints)

pub taken_left : (base : ℕ) (id : AccountId) (amount : ℤ) (m new : EntryMap) → IsTaken id amount m new
    → pos 0 ≤ℤ amount → IsKeyed m → Leaves base (for_one id amount) m new
taken_left base id amount m new h low keyed =
    let a = h.account in
    subst (Leaves base (for_one id amount) m) h.is
    (account_changed base amount m keyed id (with_more_lumens amount) a h.exists (record {
      id = refl;
      balance = refl;
      covered = inr (no_less a.balance amount (min_balance a base) (account_liabilities a).selling low);
    }))

-- ---- giving

pub record IsGiven (base : ℕ) (id : AccountId) (amount : ℤ) (m new : EntryMap) : Type 0 where
  pub account : AccountEntry
  pub exists : account_at m id ≡ Some account
  pub enough : amount ≤ℤ available account base
  pub is : with_account m id (with_less_lumens amount) ≡ new

given_of : (ctx : Ctx) (id : AccountId) (amount : ℤ) (m new : EntryMap) (o : Option AccountEntry) → account_at m id ≡ o
    → map_after_lumens_debit_of ctx id amount m o ≡ Some new → IsGiven ctx.base_reserve id amount m new
given_of ctx id amount m new None exists is = absurd (cc)
given_of ctx id amount m new (Some a) exists is =
    let test = passed_some (is_lt (int_cmp (available a ctx.base_reserve) amount))
    (with_account m id (with_less_lumens amount)) new is in
    record {
      account = a;
      exists = exists;
      enough = int_cmp_not_less (available a ctx.base_reserve) amount test.0;
      is = test.1;
    }

pub debit_is_given : (ctx : Ctx) (id : AccountId) (amount : ℤ) (m new : EntryMap)
    → map_after_lumens_debit ctx id amount m ≡ Some new
    → IsGiven ctx.base_reserve id amount m new
debit_is_given ctx id amount m new is = given_of ctx id amount m new (account_at m id) refl is

pub given_legal : (v : View) (id_pool base : ℕ) (sum : ℤ) (id : AccountId) (amount : ℤ) (m new : EntryMap)
    → IsGiven base id amount m new → pos 0 ≤ℤ amount → IsLegalOwing v id_pool nothing_owed sum m
    → IsLegalOwing v id_pool nothing_owed (sum +ℤ lumens_of v.asset (neg_ℤ amount)) new
given_legal v id_pool base sum id amount m new h low legal =
    subst (IsLegalOwing v id_pool nothing_owed (sum +ℤ lumens_of v.asset (neg_ℤ amount))) h.is
    (debit_legal v id_pool nothing_owed sum m id amount h.account legal h.exists low
    (not_above_balance v id_pool nothing_owed sum m id h.account base amount legal (omega (arith, ints)) h.exists
    h.enough))

still_covered : (b n p s : ℤ) → n ≤ℤ (b -ℤ p -ℤ s) → pos 0 ≤ℤ ((b -ℤ n) -ℤ p -ℤ s)
still_covered b n p s enough = omega (arith, ints)

pub given_left : (base : ℕ) (id : AccountId) (amount : ℤ) (m new : EntryMap) → IsGiven base id amount m new
    → IsKeyed m → Leaves base (for_one id (neg_ℤ amount)) m new
given_left base id amount m new h keyed =
    let a = h.account in
    subst (Leaves base (for_one id (neg_ℤ amount)) m) h.is
    (account_changed base (neg_ℤ amount) m keyed id (with_less_lumens amount) a h.exists (record {
      id = refl;
      balance = refl;
      covered = inl (still_covered a.balance amount (min_balance a base) (account_liabilities a).selling h.enough);
    }))

-- ---- both

-- what one takes and another gives is what was, of whatever asset
pub given_back : (t : Bool) (sum n : ℤ)
    → ((sum +ℤ (if t then n else pos 0)) +ℤ (if t then neg_ℤ n else pos 0)) ≡ sum
given_back true sum n = omega (arith, ints)
given_back false sum n = omega (arith, ints)

-- What accounts and trust lines can spend and take, worked out by hand at a base reserve of half a lumen. The
-- contracts of reserve_rules name these definitions.
use Rattle.definition_rows.proofs.Prelude.{◌≡◌, refl, ℕ, ℤ, pos, negsuc, neg_ℤ, ◌+ℤ◌, ◌≤ℤ◌, ◌<ℤ◌, ◌↔◌, Bool, true}
use Rattle.definition_rows.proofs.Prelude.{false, [], not, ◌&&◌, ◌||◌, Option, Some, None, arith, int_le, int_lt}
use Rattle.definition_rows.proofs.Prelude.{Decides, int_eq, AccountEntry, TrustLineEntry}
use Rattle.std.proofs.Common.{if◌then◌else◌}
use Rattle.std.proofs.lemmas.Int.{ints}
use Rattle.ledger_types.specs.declared.account.AccountEntryExtensionV1.{AccountEntryExtensionV1}
use Rattle.reserve_rules.specs.Reserve.{min_balance, available, room, line_available, line_room, Passes}
use Rattle.definition_rows.proofs.Computed.{same_flags, not_where}
use Rattle.definition_rows.proofs.Computed.{and_decides, or_decides}

abbrev base_reserve : ℕ
base_reserve = 5000000

-- an account with one subentry
abbrev holding : ℤ → Option AccountEntryExtensionV1 → AccountEntry → AccountEntry
holding balance ext account = record account { balance = balance; num_sub_entries = 1; ext = ext }

-- an extension of an account whose offers would take and give so much
abbrev offers : (buying selling : ℤ) → Option AccountEntryExtensionV1
offers buying selling = Some (record { liabilities = record { buying = buying; selling = selling }; ext = None })

-- a trust line with a limit of 1000, whose offers would take 7 and give 5
abbrev held : TrustLineEntry → TrustLineEntry
held line = record line {
  balance = pos 100;
  limit = pos 1000;
  ext = Some (record { liabilities = record { buying = pos 7; selling = pos 5 }; ext = None });
}

-- ---- what can be spent and taken

three_reserves_are_kept_for_one_subentry : (account : AccountEntry)
    → (available (holding (pos 15000000) None account) base_reserve ≡ pos 0)
    × (available (holding (pos 14999999) None account) base_reserve ≡ negsuc 0)
three_reserves_are_kept_for_one_subentry account = (refl, refl)

-- 2 + 1 + 2 - 3 reserves
reserves_paid_for_others_are_kept_and_those_that_others_pay_are_not : (account : AccountEntry)
    → min_balance (holding (pos 0) (Some (record {
      liabilities = record { buying = pos 0; selling = pos 0 };
      ext = Some (record { num_sponsored = 3; num_sponsoring = 2; signer_sponsoring_ids = []; ext = None });
    })) account) base_reserve ≡ pos 10000000
reserves_paid_for_others_are_kept_and_those_that_others_pay_are_not account = refl

offers_lower_what_can_be_spent_and_taken : (account : AccountEntry)
    → (room (holding (pos 0) None account) ≡ pos 9223372036854775807)
    × (available (holding (pos 15000100) (offers (pos 0) (pos 5)) account) base_reserve ≡ pos 95)
    × (room (holding (pos 15000100) (offers (pos 7) (pos 0)) account) ≡ pos 9223372036839775700)
offers_lower_what_can_be_spent_and_taken account = (refl, refl, refl)

-- ---- changes of balances

abbrev passes : (delta to_take to_spend : ℤ) → Bool
passes delta to_take to_spend =
    (int_le (pos 0) delta && int_lt to_take delta) || (int_lt delta (pos 0) && int_lt to_spend (neg_ℤ delta))

int_le_decides : (a b : ℤ) → Decides (int_le a b) (a ≤ℤ b)
int_le_decides a b = (λ e. grind (arith, ints), λ h. grind (arith, ints))

below : (a b : ℤ) → Decides (int_lt a b) (a <ℤ b)
below a b = (λ e. grind (arith, ints), λ h. grind (arith, ints))

passes_decides : (delta to_take to_spend : ℤ) → Decides (passes delta to_take to_spend) (Passes delta to_take to_spend)
passes_decides delta to_take to_spend =
    or_decides (int_le (pos 0) delta && int_lt to_take delta) (int_lt delta (pos 0) && int_lt to_spend (neg_ℤ delta))
    (and_decides (int_le (pos 0) delta) (int_lt to_take delta) (int_le_decides (pos 0) delta) (below to_take delta))
    (and_decides (int_lt delta (pos 0)) (int_lt to_spend (neg_ℤ delta)) (below delta (pos 0))
    (below to_spend (neg_ℤ delta)))

-- what calls of add_balance and line_add answer, by their contracts
change_answers : (delta to_take to_spend : ℤ) (done : Bool) → ((done ≡ false) ↔ Passes delta to_take to_spend)
    → done ≡ not (passes delta to_take to_spend)
change_answers delta to_take to_spend done h =
    not_where done (passes delta to_take to_spend) (passes_decides delta to_take to_spend) h

-- A change of a balance is made and leaves another one, or isn't, and the balance stays.
abbrev changes : (balance to_take to_spend delta : ℤ) → Bool → ℤ → Bool
changes balance to_take to_spend delta is_made left =
    let refused = passes delta to_take to_spend in
    same_flags (not refused) is_made && int_eq (if refused then balance else balance +ℤ delta) left

abbrev account_changes : AccountEntry → (delta : ℤ) → Bool → ℤ → Bool
account_changes account delta is_made left =
    changes account.balance (room account) (available account base_reserve) delta is_made left

a_balance_changes_up_to_both_bounds : (any : AccountEntry)
    → (let account = holding (pos 15000100) (offers (pos 7) (pos 5)) any in
    account_changes account (pos 9223372036839775700) true (pos 9223372036854775800)
    && account_changes account (pos 9223372036839775701) false (pos 15000100)
    && account_changes account (negsuc 94) true (pos 15000005)
    && account_changes account (negsuc 95) false (pos 15000100)
    && account_changes account (negsuc 9223372036854775807) false (pos 15000100)) ≡ true
a_balance_changes_up_to_both_bounds any = refl

abbrev line_changes : TrustLineEntry → (delta : ℤ) → Bool → ℤ → Bool
line_changes line delta is_made left =
    changes line.balance (line_room line) (line_available line) delta is_made left

a_line_changes_up_to_both_bounds : (any : TrustLineEntry)
    → (int_eq (line_available (held any)) (pos 95)
    && int_eq (line_room (held any)) (pos 893)
    && line_changes (held any) (pos 893) true (pos 993)
    && line_changes (held any) (pos 894) false (pos 100)
    && line_changes (held any) (negsuc 94) true (pos 5)
    && line_changes (held any) (negsuc 95) false (pos 100)
    && line_changes (held any) (negsuc 9223372036854775807) false (pos 100)) ≡ true
a_line_changes_up_to_both_bounds any = refl

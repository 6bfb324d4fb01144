-- Balances and liabilities of accounts that stay in their ranges.
use Rattle.op_form.proofs.Prelude.{◌≡◌, ◌≢◌, sym, ap, subst, ◌∙◌, Some, AccountId, AccountEntry, EntryMap}
use Rattle.op_form.proofs.Prelude.{account_of_slot, account_liabilities, IsInRange, greatest_i64, KeepsCore, HasCore}
use Rattle.op_form.proofs.Prelude.{ChangesAtMost, account_of_slot_at, IsInRangeAt}
use Rattle.std.proofs.Common.{pos, ◌+ℤ◌, ◌≤ℤ◌}
use Rattle.ledger_types.specs.declared.price.Liabilities.{Liabilities}

pub core_in_range : (was account : AccountEntry) → KeepsCore was account → IsInRange was → IsInRange account
core_in_range was account core range =
    let balance = sym core.balance in
    let liabilities = sym core.liabilities in
    record {
      balance = subst (λ b. pos 0 ≤ℤ b) balance range.balance;
      buying = subst (λ (l : Liabilities). pos 0 ≤ℤ l.buying) liabilities range.buying;
      selling = subst (λ (l : Liabilities). pos 0 ≤ℤ l.selling) liabilities range.selling;
      fits =
          subst (λ b. (b +ℤ (account_liabilities account).buying) ≤ℤ greatest_i64) balance
          (subst (λ (l : Liabilities). (was.balance +ℤ l.buying) ≤ℤ greatest_i64) liabilities range.fits);
    }

-- an account that has kept its means
pub range_kept : (m : EntryMap) (id : AccountId) (was : AccountEntry) → HasCore m id was → IsInRange was
    → IsInRangeAt m id
range_kept m id was has range account exists =
    let there = has.exists in
    let same : has.account ≡ account = cc in
    subst IsInRange same (core_in_range was has.account has.core range)

-- an account beside one that has changed
pub range_beside : (old new : EntryMap) (changed id : AccountId) → ChangesAtMost (Some changed) old new → changed ≢ id
    → IsInRangeAt old id → IsInRangeAt new id
range_beside old new changed id only apart range account exists =
    range account
    (account_of_slot_at old id ∙ ap account_of_slot (sym (only.others id (λ e. apart (cc e))))
    ∙ sym (account_of_slot_at new id) ∙ exists)

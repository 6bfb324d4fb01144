-- A claimable balance that is added: what it leaves, and that it can be.
use Rattle.op_flags.proofs.Prelude as prelude
use prelude.{◌≡◌, ◌≢◌, refl, sym, ap, subst, ◌∙◌, ℕ, ◌*◌, Bool, true, false, is_some, Option, Some, None, Ok, arith}
use prelude.{◌≤◌, ℤ, pos, ◌+ℤ◌, ◌≤ℤ◌, get, AccountId, AccountEntry, ClaimableBalanceEntry, LedgerEntry, key_of}
use prelude.{EntryMap, put, account_at, HasAccount, balance_at, balance_of, with_sponsor, part, Ctx}
use prelude.{map_after_adding_balance, payer_by, payer_tests_at, balance_flags, held, flagged_ext, IsKeyed, under_key}
use prelude.{Leaves, keeps_then, accounts_kept, keyed_put, zero_add, unless_first_ok, balance_under, balances_exact}
use prelude.{nothing_under}
use Rattle.sponsor_rules.specs.reserve_rules.Reserve.{available}
use Rattle.sponsor_rules.specs.Paying.{map_after_charging}
use Rattle.ledger_types.specs.declared.ids.ClaimableBalanceId.{ClaimableBalanceId}
use Rattle.trade_cross.proofs.legal_rules_proofs.ChargesLeft.{charging_kept, payer_had, put_beside}
use Rattle.trade_cross.proofs.legal_rules_proofs.Holdings.{still_holds, put_holds}
use Rattle.ledger_types.specs.declared.key.LedgerKey.TheVariants as key

-- ---- a balance that is added

-- a balance is put where nothing was held
pub balance_left : (ctx : Ctx) (m : EntryMap) (payer : AccountId) (k : ℕ) (e : LedgerEntry) (new : EntryMap) → IsKeyed m
    → ((id : AccountId) → key.Account id ≢ key_of e) → get m (key_of e) ≡ None
    → map_after_adding_balance ctx e payer k m ≡ Ok new
    → Leaves ctx.base_reserve (under_key (key_of e) (λ x. held x e)) m new
balance_left ctx m payer k e new keyed apart free done =
    let now = map_after_charging k (Some payer) m in
    let added = with_sponsor (Some payer) e in
    let test = unless_first_ok (payer_tests_at ctx m payer k) (put now added) new done in
    let first = charging_kept ctx.base_reserve k (Some payer) m keyed
    (λ x is. let same : payer ≡ x = cc in subst (λ w. (a : AccountEntry) → account_at m w ≡ Some a
    → pos (k * ctx.base_reserve) ≤ℤ available a ctx.base_reserve) same (payer_had ctx m payer k test.0)) in
    let more = under_key (key_of e) (λ x. held x e) in
    subst (Leaves ctx.base_reserve more m) test.1
    (keeps_then ctx.base_reserve more m now (put now added) first
    (accounts_kept ctx.base_reserve more now (put now added) (keyed_put now added first.keyed)
    (put_beside now added apart)
    (put_holds now added (λ x. held x e) (λ x. sym (ap (λ n. n +ℤ held x e)
    (still_holds m now first.holds (key_of e) x ∙ ap (part (held x)) free) ∙ zero_add (held x e))))))

pub payer_exists : (m : EntryMap) (owner : AccountId) (o : Option AccountId) → HasAccount m owner
    → ((sponsor : AccountId) → o ≡ Some sponsor → HasAccount m sponsor) → HasAccount m (payer_by owner o)
payer_exists m owner None exists sponsors = exists
payer_exists m owner (Some sponsor) exists sponsors = sponsors sponsor refl

-- ---- flags

pub new_flags : (can : Bool) → balance_flags (flagged_ext can) ≤ 1
new_flags true = omega arith
new_flags false = omega arith

-- ---- keys

none_of : (o : Option ClaimableBalanceEntry) → is_some o ≡ false → o ≡ None
none_of None h = refl
none_of (Some balance) h = absurd (cc)

-- where no balance is under its key, nothing is
pub no_balance : (m : EntryMap) (id : ClaimableBalanceId) → IsKeyed m → is_some (balance_at m id) ≡ false
    → get m (key.ClaimableBalance id) ≡ None
unfolding balance_at
no_balance m id keyed none =
    nothing_under balances_exact m (key.ClaimableBalance id) (balance_under id) (keyed (key.ClaimableBalance id))
    (none_of (balance_of (get m (key.ClaimableBalance id))) none)

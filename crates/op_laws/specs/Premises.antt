-- What the operations ask of the entries that they are applied to, and that each state between two operations meets it.
use Rattle.std.specs.Prelude.{ℕ, ◌+◌, ◌<◌, pos, ◌≤ℤ◌}
use Rattle.op_flags.specs.op_types.declared.operation.OperationBody.{OperationBody}
use Rattle.op_flags.specs.entry_map.EntryMap.{EntryMap}
use Rattle.op_flags.specs.entry_map.Book.{AreOffersSound}
use Rattle.op_flags.specs.entry_slots.Accounts.{HasAccount}
use Rattle.op_pool.specs.reserve_rules.Reserve.{greatest_i64}
use Rattle.op_flags.specs.sponsor_rules.declared.context.Ctx.{Ctx}
use Rattle.op_flags.specs.legal_rules.Owing.{AreEntriesLegal}
use Rattle.op_flags.specs.offer_book.Book.{AreNumbered}
use Rattle.op_flags.specs.pool_shares.Premises.{ArePoolsSound}
use Rattle.op_flags.specs.op_form.Premises.{AccountsAreReady, BalancesAreInRange, AreAmountsLow}
use Rattle.op_flags.specs.op_form.Sequences.{last_seq}
use Rattle.op_offers.specs.Calls.{IsManageable}
use Rattle.op_payment.specs.Operations.{AreEntriesFit}
use Rattle.op_laws.specs.Underway.{IsUnderway}

-- all that the nine `apply` of operations ask for, before an operation of any type
pub record CanApply (ctx : Ctx) (of : OperationBody) (m : EntryMap) : Type 0 where
  pub seq : ctx.seq < last_seq
  pub source : HasAccount m ctx.op_source
  pub ready : AccountsAreReady m
  pub in_range : BalancesAreInRange m
  pub legal : AreEntriesLegal ctx.id_pool m
  pub sound : ArePoolsSound m
  pub amounts : AreAmountsLow m
  pub manageable : IsManageable ctx m
  pub fit : AreEntriesFit ctx of m

-- Legal entries but for the bound on the ids drawn, under open sponsorships whose sponsors have accounts, where one
-- more id can be drawn and a ledger can close: an operation of an account that exists can be applied.
abbrev pub OperationsCanApply : Type 0
OperationsCanApply = (ctx : Ctx) (of : OperationBody) (m : EntryMap) → IsUnderway ctx m → HasAccount m ctx.op_source
    → pos (ctx.id_pool + 1) ≤ℤ greatest_i64 → CanApply ctx of m

-- offers of legal entries are under their own keys, with ids of at least 1
abbrev pub LegalIsNumbered : Type 0
LegalIsNumbered = (id_pool : ℕ) (m : EntryMap) → AreEntriesLegal id_pool m → AreNumbered m

-- offers of legal entries have prices that can be compared, and ids of their own
abbrev pub LegalOffersAreSound : Type 0
LegalOffersAreSound = (id_pool : ℕ) (m : EntryMap) → AreEntriesLegal id_pool m → AreOffersSound m

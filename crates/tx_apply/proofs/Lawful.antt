-- Operations in their order: each is lawful, and a transaction that is under way before it is under way after it.
use Rattle.tx_apply.proofs.Prelude.{◌≡◌, ℕ, suc, ◌+◌, List, [], ◌∷◌, length, nat_eq, refl, ap, arith, Option, Some}
use Rattle.tx_apply.proofs.Prelude.{None, All-cons, AccountId, AccountEntry, Operation, Transaction, EntryMap}
use Rattle.tx_apply.proofs.Prelude.{account_at, Ctx, Done, IsUnderway, LeavesSettled, AreDrawn, IsFit, IsLawful}
use Rattle.tx_apply.proofs.Prelude.{AllLawful, none_drawn, AreFit, AreLawful, source_of, source_account, Step, inserted}
use Rattle.tx_apply.proofs.Prelude.{done_by, done_at, Ran, run, operations_applied}
use Rattle.op_laws.specs.legal_rules.Sponsorships.{AreSponsorshipsSound}
use Rattle.op_types.specs.declared.operation_result.OperationResult.TheVariants.{NoAccount}
use Rattle.op_types.specs.declared.transaction_result.TransactionOutcome.TheVariants as outcome
use Rattle.op_laws.proofs.AllOperations.{failed_is_lawful}
use Rattle.tx_apply.proofs.Settling.{leaves_itself, leaves_twice, no_steps, IsSound}
use Rattle.tx_apply.proofs.Settling.{drawn_next, undone_sound, either_sound}

-- ---- one operation

lawful_by : AllLawful → (ctx : Ctx) (operation : Operation) (m : EntryMap) (account : Option AccountEntry)
    → account_at m ctx.op_source ≡ account → IsFit operation.body → IsUnderway ctx m
    → IsLawful ctx m (done_by ctx operation m account)
lawful_by all ctx operation m None e fit underway = failed_is_lawful ctx m underway NoAccount
lawful_by all ctx operation m (Some account) e fit underway = all ctx operation.body m fit underway (account, e)

-- the same context at another index
pub underway_at_index : (ctx : Ctx) (index : ℕ) (source : AccountId) (m : EntryMap) → IsUnderway ctx m
    → IsUnderway (inserted ctx index source) m
underway_at_index ctx index source m underway = record {
  settled = underway.settled;
  sponsorships = record {
    once = underway.sponsorships.once;
    other = underway.sponsorships.other;
    exist = underway.sponsorships.exist;
  };
  seq = underway.seq;
}

pub lawful_at : AllLawful → (ctx : Ctx) (source : AccountId) (index : ℕ) (operation : Operation) (m : EntryMap)
    → IsFit operation.body → IsUnderway ctx m
    → IsLawful (inserted ctx index (source_of source operation)) m (done_at ctx source index operation m)
lawful_at all ctx source index operation m fit underway =
    lawful_by all (inserted ctx index (source_of source operation)) operation m
    (account_at m (source_of source operation)) refl fit
    (underway_at_index ctx index (source_of source operation) m underway)

-- ---- all of them

-- the first of operations whose numbers fit, and the others
first_fits : (operation : Operation) (operations : List Operation) → AreFit (operation ∷ operations)
    → IsFit operation.body
first_fits operation operations fit = fit 0 operation (omega arith)

others_fit : (operation : Operation) (operations : List Operation) → AreFit (operation ∷ operations)
    → AreFit operations
others_fit operation operations fit = λ k d within. fit (suc k) d (let h = within in omega (arith, h))

-- what holds of operations that were run
pub record GoesOn (count first : ℕ) (m : EntryMap) (ran : Ran) : Type 0 where
  pub ids : AreDrawn count first ran.ctx.id_pool
  pub underway : IsUnderway ran.ctx ran.entries
  pub left : LeavesSettled ran.ctx.id_pool m ran.entries ran.moves
  pub steps : AreLawful ran.steps

-- what a lawful operation leaves
left_by : (ctx : Ctx) (m : EntryMap) (done : Done) → IsLawful ctx m done
    → LeavesSettled done.ctx.id_pool m done.entries done.moves
left_by ctx m done lawful =
    record { settled = lawful.legal.settled; supply = lawful.supply; described = lawful.described }

pub goes_on : AllLawful → (ctx : Ctx) (source : AccountId) (index : ℕ) (operations : List Operation) (m : EntryMap)
    → AreFit operations → IsUnderway ctx m
    → GoesOn (length operations) ctx.id_pool m (run ctx source index operations m)
unfolding run
goes_on all ctx source index [] m fit underway =
    record {
      ids = none_drawn 0 ctx.id_pool ctx.id_pool refl;
      underway = underway;
      left = leaves_itself ctx.id_pool m underway.settled;
      steps = no_steps;
    }
goes_on all ctx source index (operation ∷ operations) m fit underway =
    let own = inserted ctx index (source_of source operation) in
    let first = done_at ctx source index operation m in
    let lawful = lawful_at all ctx source index operation m (first_fits operation operations fit) underway in
    let rest = goes_on all first.ctx source (index + 1) operations first.entries (others_fit operation operations fit)
    lawful.legal in
    let after = run first.ctx source (index + 1) operations first.entries in
    record {
      ids = drawn_next (length operations) ctx.id_pool first.ctx.id_pool after.ctx.id_pool lawful.ids rest.ids;
      underway = rest.underway;
      left = leaves_twice first.ctx.id_pool after.ctx.id_pool m first.entries after.entries first.moves after.moves
          (left_by own m first lawful) rest.left;
      steps = All-cons (λ (step : Step). IsLawful step.ctx step.entries step.done)
          (record { ctx = own; entries = m; done = first }) after.steps lawful rest.steps;
    }

-- ---- the operations of a transaction

pub operations_sound : AllLawful → (ctx : Ctx) (tx : Transaction) (m : EntryMap) → AreFit tx.operations
    → IsUnderway ctx m → IsSound (length tx.operations) ctx.id_pool m (operations_applied ctx tx m)
operations_sound all ctx tx m fit underway =
    let count = length tx.operations in
    let ran = run ctx (source_account tx) 0 tx.operations m in
    let on = goes_on all ctx (source_account tx) 0 tx.operations m fit underway in
    either_sound count ctx.id_pool m ran.succeeds _ _
    (either_sound count ctx.id_pool m (nat_eq (length ran.ctx.sponsorships) 0) _ _
    (record { ids = on.ids; left = on.left; steps = on.steps })
    (undone_sound outcome.BadSponsorship count ctx m ran.steps underway.settled on.steps))
    (undone_sound (outcome.Failed ran.results) count ctx m ran.steps underway.settled on.steps)

-- where no sponsorship is open
pub none_open : (ctx : Ctx) (m : EntryMap) → ctx.sponsorships ≡ [] → AreSponsorshipsSound ctx m
none_open ctx m closed = record {
  once = λ i j d h g. absurd (let none : length ctx.sponsorships ≡ 0 = ap length closed in omega (arith, none, h, g));
  other = λ i d h. absurd (let none : length ctx.sponsorships ≡ 0 = ap length closed in omega (arith, none, h));
  exist = λ i d h. absurd (let none : length ctx.sponsorships ≡ 0 = ap length closed in omega (arith, none, h));
}

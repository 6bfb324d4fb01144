-- Operations on claimable balances, and clawback, step by step, by what holds of their successes.
use Rattle.entry_map.specs.EntryMap.{EntryMap}
use Rattle.entry_slots.specs.Balances.{balance_at}
use Rattle.entry_slots.specs.Lines.{with_line}
use Rattle.ledger_types.specs.Ids.{account_of}
use Rattle.ledger_types.specs.declared.claimable_balance.ClaimableBalanceEntry.{ClaimableBalanceEntry}
use Rattle.ledger_types.specs.declared.trust_line.TrustLineEntry.{TrustLineEntry}
use Rattle.op_claim.specs.Predicates.{fixed_claimant}
use Rattle.op_form.specs.Amounts.{map_after_credit, map_after_debit, with_less}
use Rattle.op_form.specs.Assets.{line_asset_of, line_of_asset}
use Rattle.op_form.specs.Done.{Done}
use Rattle.op_form.specs.declared.amounts.CreditFault.{CreditFault}
use Rattle.op_form.specs.declared.amounts.DebitFault.{DebitFault}
use Rattle.op_types.specs.declared.balance_ops.ClaimClaimableBalanceOp.{ClaimClaimableBalanceOp}
use Rattle.op_types.specs.declared.balance_ops.ClawbackClaimableBalanceOp.{ClawbackClaimableBalanceOp}
use Rattle.op_types.specs.declared.balance_ops.CreateClaimableBalanceOp.{CreateClaimableBalanceOp}
use Rattle.op_types.specs.declared.balance_results.ClaimClaimableBalanceResult.{ClaimClaimableBalanceResult}
use Rattle.op_types.specs.declared.balance_results.ClawbackClaimableBalanceResult.{ClawbackClaimableBalanceResult}
use Rattle.op_types.specs.declared.trust_ops.ClawbackOp.{ClawbackOp}
use Rattle.op_types.specs.declared.trust_results.ClawbackResult.{ClawbackResult}
use Rattle.sponsor_rules.specs.Adding.{map_after_adding}
use Rattle.sponsor_rules.specs.Payers.{open_sponsor, payer_of}
use Rattle.sponsor_rules.specs.Removing.{map_after_removing}
use Rattle.sponsor_rules.specs.declared.context.Ctx.{Ctx}
use Rattle.std.proofs.Common.{refl}
use Rattle.std.specs.Prelude.{Bool, Ok, Some, [], false, is_some, length, map, ◌∷◌, ◌≡◌}
use Rattle.op_form.proofs.AmountSteps.{credit_holds, debit_holds}
use Rattle.sponsor_rules.proofs.Changes.{line_changed}
use Rattle.sponsor_rules.proofs.Charges.{adding_balance, payer_named, removing_holds}
use Rattle.sponsor_rules.proofs.Entries.{Fits}
use Rattle.op_form.proofs.Steps.{AllPass, Answering, Ends, past, past_charge, past_some, past_step}
use Rattle.op_form.proofs.Walks.{Before, Leaves, Left, Logic, left, made_holds, succeeded}
use Rattle.ledger_types.specs.declared.key.LedgerKey.TheVariants as key
use Rattle.op_claim.specs.ClaimClaimableBalance as claiming
use Rattle.op_claim.specs.Clawback as clawing
use Rattle.op_claim.specs.ClawbackClaimableBalance as taking
use Rattle.op_claim.specs.CreateClaimableBalance as creating
use Rattle.op_form.specs.declared.amounts.CreditFault.TheVariants as credit
use Rattle.op_form.specs.declared.amounts.DebitFault.TheVariants as debit
use Rattle.op_types.specs.declared.balance_results.ClaimClaimableBalanceResult.TheVariants as claim
use Rattle.op_types.specs.declared.balance_results.ClawbackClaimableBalanceResult.TheVariants as claw
use Rattle.op_types.specs.declared.balance_results.CreateClaimableBalanceResult.TheVariants as create
use Rattle.op_types.specs.declared.operation_result.OperationResult.TheVariants.{NotSupported}
use Rattle.op_types.specs.declared.operation_result.OperationResultTr.TheVariants as tr
use Rattle.op_types.specs.declared.trust_results.ClawbackResult.TheVariants as clawback

-- ---- CREATE_CLAIMABLE_BALANCE

pub create_balance_steps : (x : Answering) (Q : Done → Type 0) (ctx : Ctx) (op : CreateClaimableBalanceOp)
    (m : EntryMap)
    → ((given added : EntryMap) → AllPass (creating.create_tests op)
    → is_some (balance_at m (creating.new_id ctx)) ≡ false
    → map_after_debit ctx ctx.op_source op.asset op.amount m ≡ Ok given
    → map_after_adding ctx ctx.op_source (creating.new_balance ctx op (creating.can_claw_back ctx op m)) given
    ≡ Ok added
    → Q (succeeded ctx (creating.answer (create.Success (creating.new_id ctx))) added
    (creating.create_move ctx op ∷ [])))
    → Ends x Q (creating.create_claimable_balance ctx op m)
create_balance_steps x Q ctx op m done =
    past (creating.create_tests op) _ (x.bare (tr.CreateClaimableBalance create.Malformed) tt, tt)
    (λ pass. past ((is_some (balance_at m (creating.new_id ctx)), NotSupported) ∷ [])
    (creating.given_and_added ctx op m)
    (x.not_supported, tt)
    (λ free. past_step (map_after_debit ctx ctx.op_source op.asset op.amount m) creating.debit_result _ not_given
    (λ given is. past_charge
    (map_after_adding ctx ctx.op_source (creating.new_balance ctx op (creating.can_claw_back ctx op m)) given)
    (creating.answer create.LowReserve) _ (x.bare (tr.CreateClaimableBalance create.LowReserve) tt)
    (λ added also. record { ends = done given added pass free.0 is also }))))
  where
    not_given : (found : DebitFault) → x.Answer (creating.debit_result found)
    not_given debit.NoLine = x.bare (tr.CreateClaimableBalance create.NoTrust) tt
    not_given debit.NotAuthorized = x.bare (tr.CreateClaimableBalance create.NotAuthorized) tt
    not_given debit.Short = x.bare (tr.CreateClaimableBalance create.Underfunded) tt

pub balance_created : (w : Logic) (ctx : Ctx) (op : CreateClaimableBalanceOp) (m : EntryMap) → Before w ctx m
    → w.inv.of.Sponsor (Some ctx.op_source) → ((clawback : Bool) → Fits w.inv.of (creating.new_balance ctx op clawback))
    → w.answers.Answer (creating.answer (create.Success (creating.new_id ctx)))
    → Leaves w (creating.create_claimable_balance ctx op m)
balance_created w ctx op m before named fits answer =
    create_balance_steps w.answers (Left w) ctx op m (λ given added pass free is also. record {
      entries = made_holds w.inv _ added also (adding_balance w.inv ctx
          (creating.new_balance ctx op (creating.can_claw_back ctx op m)) (payer_of ctx ctx.op_source)
          (length (map (fixed_claimant ctx.close_time) op.claimants)) given (fits (creating.can_claw_back ctx op m))
          (payer_named w.inv ctx.op_source (open_sponsor ctx ctx.op_source) named
          (w.sponsor ctx ctx.op_source before.context)) (made_holds w.inv _ given is
          (debit_holds w.inv ctx.op_source op.amount m before.entries ctx op.asset)));
      context = before.context;
      answer = answer;
    })

-- ---- CLAIM_CLAIMABLE_BALANCE

pub claim_steps : (x : Answering) (Q : Done → Type 0) (ctx : Ctx) (op : ClaimClaimableBalanceOp) (m : EntryMap)
    → ((balance : ClaimableBalanceEntry) (taken : EntryMap) → balance_at m op.balance_id ≡ Some balance
    → AllPass (claiming.claim_tests ctx balance)
    → map_after_credit ctx.op_source balance.asset balance.amount
    (map_after_removing (key.ClaimableBalance op.balance_id) m) ≡ Ok taken
    → Q (succeeded ctx (claiming.answer claim.Success) taken (claiming.claim_move ctx op balance ∷ [])))
    → Ends x Q (claiming.claim_claimable_balance ctx op m)
claim_steps x Q ctx op m done =
    past_some (balance_at m op.balance_id) (claiming.answer claim.DoesNotExist) _ (code claim.DoesNotExist)
    (λ balance there. past (claiming.claim_tests ctx balance) (claiming.removed_and_taken ctx op balance m)
    (code claim.CannotClaim, tt)
    (λ may. past_step (map_after_credit ctx.op_source balance.asset balance.amount
    (map_after_removing (key.ClaimableBalance op.balance_id) m)) claiming.credit_result _ not_taken
    (λ taken is. record { ends = done balance taken there may is })))
  where
    code : (c : ClaimClaimableBalanceResult) → x.Answer (claiming.answer c)
    code c = x.bare (tr.ClaimClaimableBalance c) tt

    not_taken : (found : CreditFault) → x.Answer (claiming.credit_result found)
    not_taken credit.NoLine = x.bare (tr.ClaimClaimableBalance claim.NoTrust) tt
    not_taken credit.NotAuthorized = x.bare (tr.ClaimClaimableBalance claim.NotAuthorized) tt
    not_taken credit.Full = x.bare (tr.ClaimClaimableBalance claim.LineFull) tt

pub balance_claimed : (w : Logic) (ctx : Ctx) (op : ClaimClaimableBalanceOp) (m : EntryMap) → Before w ctx m
    → Leaves w (claiming.claim_claimable_balance ctx op m)
balance_claimed w ctx op m before =
    let k = key.ClaimableBalance op.balance_id in
    claim_steps w.answers (Left w) ctx op m
    (λ balance taken there may is. left (tr.ClaimClaimableBalance claim.Success) tt before
    (made_holds w.inv _ taken is (credit_holds w.inv ctx.op_source balance.amount (map_after_removing k m)
    (removing_holds w.inv k m (w.inv.others k tt) before.entries) balance.asset)))

-- ---- CLAWBACK

pub clawback_steps : (x : Answering) (Q : Done → Type 0) (ctx : Ctx) (op : ClawbackOp) (m : EntryMap)
    → ((line : TrustLineEntry) → AllPass (clawing.clawback_tests ctx op)
    → line_of_asset m (account_of op.from) op.asset ≡ Some line → AllPass (clawing.line_tests op.amount line)
    → Q (succeeded ctx (clawing.answer clawback.Success)
    (with_line m (account_of op.from) (line_asset_of op.asset) (with_less op.amount))
    (clawing.clawback_move ctx op ∷ [])))
    → Ends x Q (clawing.clawback ctx op m)
clawback_steps x Q ctx op m done =
    past (clawing.clawback_tests ctx op) _ (code clawback.Malformed, tt)
    (λ pass. past_some (line_of_asset m (account_of op.from) op.asset) (clawing.answer clawback.NoTrust) _
    (code clawback.NoTrust)
    (λ line there. past (clawing.line_tests op.amount line) (clawing.clawed_back ctx op m)
    (code clawback.NotClawbackEnabled, (code clawback.Underfunded, tt))
    (λ may. record { ends = done line pass there may })))
  where
    code : (c : ClawbackResult) → x.Answer (clawing.answer c)
    code c = x.bare (tr.Clawback c) tt

pub clawed_back : (w : Logic) (ctx : Ctx) (op : ClawbackOp) (m : EntryMap) → Before w ctx m
    → Leaves w (clawing.clawback ctx op m)
clawed_back w ctx op m before =
    clawback_steps w.answers (Left w) ctx op m (λ line pass there may. left (tr.Clawback clawback.Success) tt before
    (line_changed w.inv (with_less op.amount) (λ t fits. w.inv.same_line t _ refl refl fits) m (account_of op.from)
    (line_asset_of op.asset) before.entries))

-- ---- CLAWBACK_CLAIMABLE_BALANCE

pub clawback_balance_steps : (x : Answering) (Q : Done → Type 0) (ctx : Ctx) (op : ClawbackClaimableBalanceOp)
    (m : EntryMap)
    → ((balance : ClaimableBalanceEntry) → balance_at m op.balance_id ≡ Some balance
    → AllPass (taking.balance_tests ctx balance) → Q (succeeded ctx (taking.answer claw.Success)
    (map_after_removing (key.ClaimableBalance op.balance_id) m) (taking.clawback_move ctx op balance ∷ [])))
    → Ends x Q (taking.clawback_claimable_balance ctx op m)
clawback_balance_steps x Q ctx op m done =
    past_some (balance_at m op.balance_id) (taking.answer claw.DoesNotExist) _ (code claw.DoesNotExist)
    (λ balance there. past (taking.balance_tests ctx balance) (taking.clawed_back ctx op balance m)
    (code claw.NotIssuer, (code claw.NotClawbackEnabled, tt)) (λ may. record { ends = done balance there may }))
  where
    code : (c : ClawbackClaimableBalanceResult) → x.Answer (taking.answer c)
    code c = x.bare (tr.ClawbackClaimableBalance c) tt

pub balance_clawed_back : (w : Logic) (ctx : Ctx) (op : ClawbackClaimableBalanceOp) (m : EntryMap) → Before w ctx m
    → Leaves w (taking.clawback_claimable_balance ctx op m)
balance_clawed_back w ctx op m before =
    let k = key.ClaimableBalance op.balance_id in
    clawback_balance_steps w.answers (Left w) ctx op m
    (λ balance there may. left (tr.ClawbackClaimableBalance claw.Success) tt before
    (removing_holds w.inv k m (w.inv.others k tt) before.entries))

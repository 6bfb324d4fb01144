-- CREATE_ACCOUNT, ACCOUNT_MERGE and BUMP_SEQUENCE, step by step, by what holds of their successes.
use Rattle.entry_map.specs.EntryMap.{EntryMap}
use Rattle.entry_slots.specs.AccountExtensions.{with_seq_num_from}
use Rattle.entry_slots.specs.Accounts.{account_at, with_account}
use Rattle.ledger_types.specs.Ids.{account_of}
use Rattle.ledger_types.specs.declared.account.AccountEntry.{AccountEntry}
use Rattle.ledger_types.specs.declared.ids.AccountId.{AccountId}
use Rattle.ledger_types.specs.declared.signer.Signer.{Signer}
use Rattle.op_form.specs.Done.{Done}
use Rattle.op_form.specs.Lumens.{map_after_lumens_credit, map_after_lumens_debit}
use Rattle.op_types.specs.declared.account_ops.AccountMergeOp.{AccountMergeOp}
use Rattle.op_types.specs.declared.account_ops.BumpSequenceOp.{BumpSequenceOp}
use Rattle.op_types.specs.declared.account_ops.CreateAccountOp.{CreateAccountOp}
use Rattle.op_types.specs.declared.account_results.AccountMergeResult.{AccountMergeResult}
use Rattle.op_types.specs.declared.payment_results.CreateAccountResult.{CreateAccountResult}
use Rattle.sponsor_rules.specs.Adding.{map_after_adding}
use Rattle.sponsor_rules.specs.SeqNums.{new_extension_v3}
use Rattle.sponsor_rules.specs.declared.context.Ctx.{Ctx}
use Rattle.std.proofs.Common.{refl}
use Rattle.std.specs.Prelude.{List, Ok, Some, [], false, if◌then◌else◌, int_lt, pos, ◌∷◌, ◌≡◌}
use Rattle.op_form.proofs.AmountSteps.{lumens_credit_holds, lumens_debit_holds}
use Rattle.sponsor_rules.proofs.Changes.{account_changed}
use Rattle.sponsor_rules.proofs.Charges.{adding_account, removing_holds, removing_signer}
use Rattle.sponsor_rules.proofs.Entries.{Invariant}
use Rattle.op_form.proofs.Steps.{AllPass, Answering, Ends, past, past_charge, past_some}
use Rattle.op_form.proofs.Walks.{Before, Leaves, Left, Logic, found_holds, left, made_holds, succeeded}
use Rattle.ledger_types.specs.declared.key.LedgerKey.TheVariants as key
use Rattle.op_account.specs.AccountMerge as merging
use Rattle.op_account.specs.BumpSequence as bumping
use Rattle.op_account.specs.CreateAccount as creating
use Rattle.op_types.specs.declared.account_results.AccountMergeResult.TheVariants as merge
use Rattle.op_types.specs.declared.account_results.BumpSequenceResult.TheVariants as bump
use Rattle.op_types.specs.declared.operation_result.OperationResult.TheVariants.{NoAccount}
use Rattle.op_types.specs.declared.operation_result.OperationResultTr.TheVariants as tr
use Rattle.op_types.specs.declared.payment_results.CreateAccountResult.TheVariants as create

-- ---- CREATE_ACCOUNT

pub create_steps : (x : Answering) (Q : Done → Type 0) (ctx : Ctx) (op : CreateAccountOp) (m : EntryMap)
    → ((added paid : EntryMap) → AllPass (creating.start_tests ctx op m)
    → map_after_adding ctx op.destination (creating.new_entry ctx op) m ≡ Ok added
    → map_after_lumens_debit ctx ctx.op_source op.starting_balance added ≡ Some paid
    → Q (succeeded ctx (creating.answer create.Success) paid (creating.start_move ctx op ∷ [])))
    → Ends x Q (creating.create_account ctx op m)
create_steps x Q ctx op m done =
    past (creating.start_tests ctx op m) (creating.added_and_paid ctx op m)
    (code create.Malformed, (code create.AlreadyExist, tt))
    (λ pass. past_charge (map_after_adding ctx op.destination (creating.new_entry ctx op) m)
    (creating.answer create.LowReserve) _ (code create.LowReserve)
    (λ added is. past_some (map_after_lumens_debit ctx ctx.op_source op.starting_balance added)
    (creating.answer create.Underfunded) _ (code create.Underfunded)
    (λ paid also. record { ends = done added paid pass is also })))
  where
    code : (c : CreateAccountResult) → x.Answer (creating.answer c)
    code c = x.bare (tr.CreateAccount c) tt

pub account_created : (w : Logic) (ctx : Ctx) (op : CreateAccountOp) (m : EntryMap) → Before w ctx m
    → w.inv.of.Account (creating.new_account ctx op) → Leaves w (creating.create_account ctx op m)
account_created w ctx op m before fits =
    create_steps w.answers (Left w) ctx op m
    (λ added paid pass is also. left (tr.CreateAccount create.Success) tt before
    (found_holds w.inv _ paid also (lumens_debit_holds w.inv ctx ctx.op_source op.starting_balance added
    (made_holds w.inv _ added is (adding_account w.inv ctx op.destination (creating.new_entry ctx op)
    (creating.new_account ctx op) m refl (record { body = fits; sponsor = w.inv.nobody }) fits
    (w.sponsor ctx op.destination before.context) before.entries)))))

-- ---- ACCOUNT_MERGE

pub merge_steps : (x : Answering) (Q : Done → Type 0) (ctx : Ctx) (op : AccountMergeOp) (m : EntryMap)
    → ((account : AccountEntry) (taken : EntryMap) → AllPass (merging.destination_tests ctx op m)
    → account_at m ctx.op_source ≡ Some account → AllPass (merging.source_tests ctx account)
    → map_after_lumens_credit (account_of op.destination) account.balance m ≡ Some taken
    → Q (succeeded ctx (merging.answer (merge.Success account.balance))
    (merging.map_without_account ctx.op_source account taken) (merging.merge_move ctx op account ∷ [])))
    → Ends x Q (merging.account_merge ctx op m)
merge_steps x Q ctx op m done =
    past (merging.destination_tests ctx op m) (merging.merge_of ctx op m (account_at m ctx.op_source))
    (code merge.Malformed, (code merge.NoAccount, tt))
    (λ pass. past_some (account_at m ctx.op_source) NoAccount _ x.no_account
    (λ account there. past (merging.source_tests ctx account) (merging.taken_and_removed ctx op account m)
    (code merge.ImmutableSet, (code merge.HasSubEntries, (code merge.SeqnumTooFar, (code merge.IsSponsor, tt))))
    (λ may. past_some (map_after_lumens_credit (account_of op.destination) account.balance m)
    (merging.answer merge.DestFull) _ (code merge.DestFull)
    (λ taken is. record { ends = done account taken pass there may is }))))
  where
    code : (c : AccountMergeResult) → x.Answer (merging.answer c)
    code c = x.bare (tr.AccountMerge c) tt

without_signers : (v : Invariant) (id : AccountId) (all : List Signer) (m : EntryMap) → v.Holds m
    → v.Holds (merging.map_without_signers id all m)
unfolding merging.map_without_signers
without_signers v id [] m holds = holds
without_signers v id (one ∷ others) m holds = without_signers v id others _ (removing_signer v id one.key m holds)

pub account_merged : (w : Logic) (ctx : Ctx) (op : AccountMergeOp) (m : EntryMap) → Before w ctx m
    → w.inv.Goes (key.Account ctx.op_source) → Leaves w (merging.account_merge ctx op m)
account_merged w ctx op m before goes =
    merge_steps w.answers (Left w) ctx op m
    (λ account taken pass there may is. left (tr.AccountMerge (merge.Success account.balance)) tt before
    (removing_holds w.inv (key.Account ctx.op_source)
    (merging.map_without_signers ctx.op_source account.signers taken) goes
    (without_signers w.inv ctx.op_source account.signers taken
    (found_holds w.inv _ taken is (lumens_credit_holds w.inv (account_of op.destination) account.balance m
    before.entries)))))

-- ---- BUMP_SEQUENCE

pub bump_steps : (x : Answering) (Q : Done → Type 0) (ctx : Ctx) (op : BumpSequenceOp) (m : EntryMap)
    → (int_lt op.bump_to (pos 0) ≡ false → Q (succeeded ctx (bumping.answer bump.Success)
    (with_account m ctx.op_source (with_seq_num_from op.bump_to (new_extension_v3 ctx))) []))
    → Ends x Q (bumping.bump_sequence ctx op m)
bump_steps x Q ctx op m done =
    past ((int_lt op.bump_to (pos 0), bumping.answer bump.BadSeq) ∷ []) _ (x.bare (tr.BumpSequence bump.BadSeq) tt, tt)
    (λ pass. record { ends = done pass.0 })

pub sequence_bumped : (w : Logic) (ctx : Ctx) (op : BumpSequenceOp) (m : EntryMap) → Before w ctx m
    → Leaves w (bumping.bump_sequence ctx op m)
sequence_bumped w ctx op m before =
    bump_steps w.answers (Left w) ctx op m (λ low. left (tr.BumpSequence bump.Success) tt before
    (account_changed w.inv (with_seq_num_from op.bump_to (new_extension_v3 ctx))
    (λ a. w.inv.sequenced (if int_lt a.seq_num op.bump_to then op.bump_to else a.seq_num) (new_extension_v3 ctx)
    (w.extension ctx before.context) a) m ctx.op_source before.entries))

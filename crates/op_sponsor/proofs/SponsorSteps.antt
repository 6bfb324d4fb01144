-- Sponsorships that are begun, ended and revoked, step by step, by what holds of their successes.
use Rattle.entry_map.specs.EntryMap.{EntryMap}
use Rattle.entry_slots.specs.Accounts.{account_at}
use Rattle.ledger_types.specs.declared.entry.LedgerEntry.{LedgerEntry}
use Rattle.op_form.specs.Done.{Done}
use Rattle.op_types.specs.declared.sponsor_ops.BeginSponsoringFutureReservesOp.{BeginSponsoringFutureReservesOp}
use Rattle.op_types.specs.declared.sponsor_ops.RevokeSponsorshipOp.{RevokeSponsorshipOp}
use Rattle.op_types.specs.declared.sponsor_results as results
use results.BeginSponsoringFutureReservesResult.{BeginSponsoringFutureReservesResult}
use Rattle.op_types.specs.declared.sponsor_results.RevokeSponsorshipResult.{RevokeSponsorshipResult}
use Rattle.sponsor_rules.specs.Moving.{map_after_moving}
use Rattle.sponsor_rules.specs.Payers.{open_sponsor}
use Rattle.sponsor_rules.specs.SignerIndex.{found_signer}
use Rattle.sponsor_rules.specs.Signers.{map_after_moving_signer}
use Rattle.sponsor_rules.specs.declared.context.Ctx.{Ctx}
use Rattle.sponsor_rules.specs.declared.signer_index.FoundSigner.{FoundSigner}
use Rattle.std.specs.FinMap.{get}
use Rattle.std.specs.Prelude.{Ok, Some, [], false, ℕ, ◌∷◌, ◌≡◌}
use Rattle.sponsor_rules.proofs.Charges.{moving_holds, moving_signer}
use Rattle.op_form.proofs.Steps.{AllPass, Answering, Ends, past, past_charge, past_some}
use Rattle.op_form.proofs.Walks.{Before, Leaves, Left, Logic, left, made_holds, succeeded}
use Rattle.op_sponsor.specs.BeginSponsoringFutureReserves as beginning
use Rattle.op_sponsor.specs.EndSponsoringFutureReserves as ending
use Rattle.op_sponsor.specs.RevokeSponsorship as revoking
use Rattle.op_types.specs.declared.operation_result.OperationResultTr.TheVariants as tr
use Rattle.op_types.specs.declared.sponsor_ops.RevokeSponsorshipOp.TheVariants as revoked
use Rattle.op_types.specs.declared.sponsor_results.BeginSponsoringFutureReservesResult.TheVariants as begin
use Rattle.op_types.specs.declared.sponsor_results.EndSponsoringFutureReservesResult.TheVariants as end
use Rattle.op_types.specs.declared.sponsor_results.RevokeSponsorshipResult.TheVariants as revoke

-- ---- BEGIN_SPONSORING_FUTURE_RESERVES

pub begin_steps : (x : Answering) (Q : Done → Type 0) (ctx : Ctx) (op : BeginSponsoringFutureReservesOp) (m : EntryMap)
    → (AllPass (beginning.begin_tests ctx op)
    → Q (succeeded (beginning.with_sponsorship_opened op ctx) (beginning.answer begin.Success) m []))
    → Ends x Q (beginning.begin_sponsoring ctx op m)
begin_steps x Q ctx op m done =
    past (beginning.begin_tests ctx op) _
    (code begin.Malformed, (code begin.AlreadySponsored, (code begin.Recursive, tt)))
    (λ pass. record { ends = done pass })
  where
    code : (c : BeginSponsoringFutureReservesResult) → x.Answer (beginning.answer c)
    code c = x.bare (tr.BeginSponsoringFutureReserves c) tt

pub sponsoring_begun : (w : Logic) (ctx : Ctx) (op : BeginSponsoringFutureReservesOp) (m : EntryMap) → Before w ctx m
    → w.inv.of.Sponsor (Some ctx.op_source) → Leaves w (beginning.begin_sponsoring ctx op m)
sponsoring_begun w ctx op m before named =
    begin_steps w.answers (Left w) ctx op m (λ pass. record {
      entries = before.entries;
      context = w.opened ctx (beginning.new_sponsorship ctx op) named before.context;
      answer = w.answers.bare (tr.BeginSponsoringFutureReserves begin.Success) tt;
    })

-- ---- END_SPONSORING_FUTURE_RESERVES

pub end_steps : (x : Answering) (Q : Done → Type 0) (ctx : Ctx) (m : EntryMap)
    → ((index : ℕ) → ending.index_of_sponsorship ctx ≡ Some index
    → Q (succeeded (ending.without_sponsorship index ctx) (ending.answer end.Success) m []))
    → Ends x Q (ending.end_sponsoring ctx m)
end_steps x Q ctx m done =
    past_some (ending.index_of_sponsorship ctx) (ending.answer end.NotSponsored) _
    (x.bare (tr.EndSponsoringFutureReserves end.NotSponsored) tt)
    (λ index is. record { ends = done index is })

pub sponsoring_ended : (w : Logic) (ctx : Ctx) (m : EntryMap) → Before w ctx m → Leaves w (ending.end_sponsoring ctx m)
sponsoring_ended w ctx m before =
    end_steps w.answers (Left w) ctx m (λ index is. record {
      entries = before.entries;
      context = w.closed ctx index before.context;
      answer = w.answers.bare (tr.EndSponsoringFutureReserves end.Success) tt;
    })

-- ---- REVOKE_SPONSORSHIP

-- what holds of a revocation that succeeds
abbrev pub RevokeSuccesses : (Done → Type 0) → Ctx → EntryMap → RevokeSponsorshipOp → Type 0
RevokeSuccesses Q ctx m (revoked.LedgerEntry k) =
    (e : LedgerEntry) (moved : EntryMap) → revoking.is_malformed k ≡ false → get m k ≡ Some e
    → AllPass (revoking.entry_tests ctx e)
    → map_after_moving ctx k (open_sponsor ctx ctx.op_source) m ≡ Ok moved
    → Q (succeeded ctx (revoking.answer revoke.Success) moved [])
RevokeSuccesses Q ctx m (revoked.Signer id k) =
    (one : FoundSigner) (moved : EntryMap) → found_signer k (account_at m id) ≡ Some one
    → AllPass (revoking.signer_tests ctx id one)
    → map_after_moving_signer ctx id k (open_sponsor ctx ctx.op_source) m ≡ Ok moved
    → Q (succeeded ctx (revoking.answer revoke.Success) moved [])

module _ (x : Answering) (Q : Done → Type 0) (ctx : Ctx) (m : EntryMap) where
  code : (c : RevokeSponsorshipResult) → x.Answer (revoking.answer c)
  code c = x.bare (tr.RevokeSponsorship c) tt

  pub revoke_steps : (op : RevokeSponsorshipOp) → RevokeSuccesses Q ctx m op
      → Ends x Q (revoking.revoke_sponsorship ctx op m)
  revoke_steps (revoked.LedgerEntry k) done =
      past ((revoking.is_malformed k, revoking.answer revoke.Malformed) ∷ []) (revoking.entry_revoked ctx k m (get m k))
      (code revoke.Malformed, tt)
      (λ formed. past_some (get m k) (revoking.answer revoke.DoesNotExist) _ (code revoke.DoesNotExist)
      (λ e there. past (revoking.entry_tests ctx e) (revoking.entry_moved ctx k m)
      (code revoke.NotSponsor, (code revoke.OnlyTransferable, tt))
      (λ may. past_charge (map_after_moving ctx k (open_sponsor ctx ctx.op_source) m)
      (revoking.answer revoke.LowReserve) _ (code revoke.LowReserve)
      (λ moved is. record { ends = done e moved formed.0 there may is }))))
  revoke_steps (revoked.Signer id k) done =
      past_some (found_signer k (account_at m id)) (revoking.answer revoke.DoesNotExist) _ (code revoke.DoesNotExist)
      (λ one there. past (revoking.signer_tests ctx id one) (revoking.signer_moved ctx id k m)
      (code revoke.NotSponsor, tt)
      (λ may. past_charge (map_after_moving_signer ctx id k (open_sponsor ctx ctx.op_source) m)
      (revoking.answer revoke.LowReserve) _ (code revoke.LowReserve)
      (λ moved is. record { ends = done one moved there may is })))

module _ (w : Logic) (ctx : Ctx) (m : EntryMap) (before : Before w ctx m) where
  its : (op : RevokeSponsorshipOp) → RevokeSuccesses (Left w) ctx m op
  its (revoked.LedgerEntry k) = λ e moved formed there may is. left (tr.RevokeSponsorship revoke.Success) tt before
      (made_holds w.inv _ moved is (moving_holds w.inv ctx k (open_sponsor ctx ctx.op_source) m
      (w.sponsor ctx ctx.op_source before.context) before.entries))
  its (revoked.Signer id k) = λ one moved there may is. left (tr.RevokeSponsorship revoke.Success) tt before
      (made_holds w.inv _ moved is (moving_signer w.inv ctx id k (open_sponsor ctx ctx.op_source) m
      (w.sponsor ctx ctx.op_source before.context) before.entries))

  pub sponsorship_revoked : (op : RevokeSponsorshipOp) → Leaves w (revoking.revoke_sponsorship ctx op m)
  sponsorship_revoked op = revoke_steps w.answers (Left w) ctx m op (its op)

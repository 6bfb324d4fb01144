-- BEGIN_SPONSORING_FUTURE_RESERVES (BeginSponsoringFutureReservesOpFrame in stellar-core; CAP-0033).
use Rattle.std.specs.Prelude.{◌||◌, ◌∷◌, ◌++◌, [], is_some}
use Rattle.op_types.specs.declared.operation_result.OperationResult.{OperationResult}
use Rattle.op_types.specs.declared.operation_result.OperationResult.TheVariants.{Inner}
use Rattle.op_types.specs.declared.operation_result.OperationResultTr.TheVariants as tr
use Rattle.op_types.specs.declared.sponsor_ops.BeginSponsoringFutureReservesOp.{BeginSponsoringFutureReservesOp}
use Rattle.op_types.specs.declared.sponsor_results.BeginSponsoringFutureReservesResult.{
  BeginSponsoringFutureReservesResult,
}
use Rattle.op_types.specs.declared.sponsor_results.BeginSponsoringFutureReservesResult.TheVariants as begin
use Rattle.entry_map.specs.EntryMap.{EntryMap}
use Rattle.entry_slots.specs.Tests.{Tests}
use Rattle.sponsor_rules.specs.declared.context.Ctx.{Ctx}
use Rattle.sponsor_rules.specs.declared.context.Sponsorship.{Sponsorship}
use Rattle.sponsor_rules.specs.Payers.{is_same_account, open_sponsor}
use Rattle.op_form.specs.Done.{Attempt}
use Rattle.op_form.specs.Sponsorships.{is_open_sponsor}
use Rattle.op_form.specs.Steps.{unless_refused, success}

abbrev pub answer : BeginSponsoringFutureReservesResult → OperationResult
answer code = Inner (tr.BeginSponsoringFutureReserves code)

-- Nobody sponsors who is sponsored, and nobody is sponsored who sponsors.
abbrev pub begin_tests : Ctx → BeginSponsoringFutureReservesOp → Tests OperationResult
begin_tests ctx begin_op =
    (is_same_account begin_op.sponsored_id ctx.op_source, answer begin.Malformed)
    ∷ (is_some (open_sponsor ctx begin_op.sponsored_id), answer begin.AlreadySponsored)
    ∷ (is_some (open_sponsor ctx ctx.op_source) || is_open_sponsor ctx begin_op.sponsored_id, answer begin.Recursive)
    ∷ []

-- the source pays from now on for what the sponsored account adds
abbrev pub new_sponsorship : Ctx → BeginSponsoringFutureReservesOp → Sponsorship
new_sponsorship ctx begin_op = record { sponsored = begin_op.sponsored_id; sponsor = ctx.op_source }

abbrev pub with_sponsorship_opened : BeginSponsoringFutureReservesOp → Ctx → Ctx
with_sponsorship_opened begin_op ctx =
    record ctx { sponsorships = ctx.sponsorships ++ new_sponsorship ctx begin_op ∷ [] }

abbrev pub begin_sponsoring : Ctx → BeginSponsoringFutureReservesOp → EntryMap → Attempt
begin_sponsoring ctx begin_op m =
    unless_refused (begin_tests ctx begin_op)
    (success (with_sponsorship_opened begin_op ctx) (answer begin.Success) m [])

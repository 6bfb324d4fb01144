-- END_SPONSORING_FUTURE_RESERVES (EndSponsoringFutureReservesOpFrame in stellar-core; CAP-0033).
use Rattle.std.specs.Prelude.{ℕ, [], Option}
use Rattle.std.specs.List.{position, remove}
use Rattle.op_types.specs.declared.operation_result.OperationResult.{OperationResult}
use Rattle.op_types.specs.declared.operation_result.OperationResult.TheVariants.{Inner}
use Rattle.op_types.specs.declared.operation_result.OperationResultTr.TheVariants as tr
use Rattle.op_types.specs.declared.sponsor_results.EndSponsoringFutureReservesResult.{EndSponsoringFutureReservesResult}
use Rattle.op_types.specs.declared.sponsor_results.EndSponsoringFutureReservesResult.TheVariants as end
use Rattle.entry_map.specs.EntryMap.{EntryMap}
use Rattle.sponsor_rules.specs.declared.context.Ctx.{Ctx}
use Rattle.sponsor_rules.specs.Payers.{is_same_account}
use Rattle.op_form.specs.Done.{Attempt}
use Rattle.op_form.specs.Steps.{after_some, success}

abbrev pub answer : EndSponsoringFutureReservesResult → OperationResult
answer code = Inner (tr.EndSponsoringFutureReserves code)

-- the index of the sponsorship that is open for the source
unfoldable pub index_of_sponsorship : Ctx → Option ℕ
index_of_sponsorship ctx =
    position (λ sponsorship. is_same_account sponsorship.sponsored ctx.op_source) ctx.sponsorships

abbrev pub without_sponsorship : ℕ → Ctx → Ctx
without_sponsorship index ctx = record ctx { sponsorships = remove ctx.sponsorships index }

-- the source pays itself from now on for what it adds
abbrev pub end_sponsoring : Ctx → EntryMap → Attempt
end_sponsoring ctx m =
    after_some (index_of_sponsorship ctx) (answer end.NotSponsored)
    (λ index. success (without_sponsorship index ctx) (answer end.Success) m [])

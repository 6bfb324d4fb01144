-- The operations of this crate, by their types: what they answer, leave and move.
use Rattle.std.specs.Prelude.{ℕ, zero, suc, List, [], Result, Ok, Err}
use Rattle.ledger_types.specs.declared.claim_atom.ClaimAtom.{ClaimAtom}
use Rattle.op_types.specs.declared.offer_results.ManageOfferEffect.{ManageOfferEffect}
use Rattle.op_types.specs.declared.offer_results.ManageOfferEffect.TheVariants as effect
use Rattle.op_types.specs.declared.offer_results.ManageOfferResult.{ManageOfferResult}
use Rattle.op_types.specs.declared.offer_results.ManageOfferResult.TheVariants as manage
use Rattle.op_types.specs.declared.operation.OperationBody.{OperationBody}
use Rattle.op_types.specs.declared.operation.OperationBody.TheVariants as body
use Rattle.op_types.specs.declared.operation_result.OperationResult.{OperationResult}
use Rattle.op_types.specs.declared.operation_result.OperationResult.TheVariants.{Inner, NotSupported, ExceededWorkLimit}
use Rattle.op_types.specs.declared.operation_result.OperationResultTr.{OperationResultTr}
use Rattle.op_types.specs.declared.operation_result.OperationResultTr.TheVariants as tr
use Rattle.entry_map.specs.EntryMap.{EntryMap}
use Rattle.sponsor_rules.specs.declared.context.Ctx.{Ctx}
use Rattle.op_form.specs.AtomMoves.{moves_of}
use Rattle.op_form.specs.Done.{Attempt, Done, done_of, OfAccount}
use Rattle.op_form.specs.Faults.{fault_result}
use Rattle.op_form.specs.Steps.{success}
use Rattle.op_offers.specs.declared.answers.Kind.{Kind}
use Rattle.op_offers.specs.declared.answers.Kind.TheVariants as kind
use Rattle.op_offers.specs.declared.fault.OfferFault.{OfferFault}
use Rattle.op_offers.specs.declared.fault.OfferFault.TheVariants as fault
use Rattle.op_offers.specs.Asked.{ask_to_sell, ask_passively, ask_to_buy}
use Rattle.op_offers.specs.Selling.{Asked, offer_left}
use Rattle.op_offers.specs.Managing.{Effect, Made, Changed, Managed, Traded, Removed, managed}

-- ---- results

-- how a type of operation answers
abbrev pub Answer : Type 0
Answer = ManageOfferResult → OperationResultTr

abbrev pub answer_of : Kind → Answer
answer_of kind.Sell = tr.ManageSellOffer
answer_of kind.Passive = tr.CreatePassiveSellOffer
answer_of kind.Buy = tr.ManageBuyOffer

-- the code of a fault, where an operation answers it with one of its own
abbrev pub code_of : OfferFault → ManageOfferResult
code_of fault.Malformed = manage.Malformed
code_of fault.NotFound = manage.NotFound
code_of fault.SellNoTrust = manage.SellNoTrust
code_of fault.NothingToSell = manage.Underfunded
code_of fault.SellNotAuthorized = manage.SellNotAuthorized
code_of fault.BuyNoTrust = manage.BuyNoTrust
code_of fault.BuyNotAuthorized = manage.BuyNotAuthorized
code_of fault.LineFull = manage.LineFull
code_of fault.Underfunded = manage.Underfunded
code_of fault.CrossSelf = manage.CrossSelf
code_of other = manage.LowReserve

-- too many crossings, and some faults of reserves, are codes of operations
abbrev pub fault_answer : Answer → OfferFault → OperationResult
fault_answer answer fault.TooMany = ExceededWorkLimit
fault_answer answer (fault.Reserve other) = fault_result other (Inner (answer manage.LowReserve))
fault_answer answer other = Inner (answer (code_of other))

-- an offer that is kept is made or changed, and one that isn't is deleted, even where it never existed
abbrev pub effect_of : Effect → Asked → ℕ → ManageOfferEffect
effect_of kind asked zero = effect.Deleted
effect_of Made asked (suc n) = effect.Created (offer_left asked (suc n))
effect_of Changed asked (suc n) = effect.Updated (offer_left asked (suc n))

abbrev pub success_answer : Answer → List ClaimAtom → ManageOfferEffect → OperationResult
success_answer answer atoms what = Inner (answer (manage.Success (record { offers_claimed = atoms; offer = what })))

-- ---- the operations

abbrev pub attempt_of_managed : Ctx → Answer → Result Managed OfferFault → Attempt
attempt_of_managed ctx answer (Err other) = Err (fault_answer answer other)
attempt_of_managed ctx answer (Ok (Removed m)) = success ctx (success_answer answer [] effect.Deleted) m []
attempt_of_managed ctx answer (Ok (Traded kind asked done id_pool)) =
    success (record ctx { id_pool = id_pool })
    (success_answer answer done.crossed.atoms (effect_of kind asked done.amount)) done.entries
    (moves_of (OfAccount ctx.op_source) done.crossed.atoms)

abbrev pub done_of_managed : Ctx → Answer → EntryMap → Result Managed OfferFault → Done
done_of_managed ctx answer m managed = done_of ctx m (attempt_of_managed ctx answer managed)

-- Operations of other types are those of other crates.
abbrev pub attempt_of : Ctx → OperationBody → EntryMap → Attempt
attempt_of ctx (body.ManageSellOffer op) m = attempt_of_managed ctx (answer_of kind.Sell) (managed ctx
    (ask_to_sell op) m)
attempt_of ctx (body.CreatePassiveSellOffer op) m =
    attempt_of_managed ctx (answer_of kind.Passive) (managed ctx (ask_passively op) m)
attempt_of ctx (body.ManageBuyOffer op) m = attempt_of_managed ctx (answer_of kind.Buy) (managed ctx (ask_to_buy op) m)
attempt_of ctx other m = Err NotSupported

unfoldable pub offers_operation : Ctx → OperationBody → EntryMap → Done
offers_operation ctx of m = done_of ctx m (attempt_of ctx of m)

-- Operations on offers, step by step.
use Rattle.entry_map.specs.EntryMap.{EntryMap}
use Rattle.op_offers.specs.Calls.{IsFormed, IsManageable}
use Rattle.op_offers.specs.Managing.{Effect, Managed, Removed, Traded, managed}
use Rattle.op_offers.specs.Operations.{answer_of, attempt_of_managed, code_of, effect_of, fault_answer}
use Rattle.op_offers.specs.Operations.{success_answer}
use Rattle.op_offers.specs.Selling.{Asked, Sold}
use Rattle.op_offers.specs.declared.answers.Kind.{Kind}
use Rattle.op_offers.specs.declared.ask.Ask.{Ask}
use Rattle.op_offers.specs.declared.fault.OfferFault.{OfferFault}
use Rattle.op_types.specs.declared.offer_results.ManageOfferResult.{ManageOfferResult}
use Rattle.sponsor_rules.specs.declared.context.Ctx.{Ctx}
use Rattle.std.specs.Prelude.{Err, Ok, Result, [], ◌≤◌}
use Rattle.op_form.proofs.Steps.{Answering, IsBare, IsBareOffer, charged}
use Rattle.op_form.proofs.Walks.{Before, Leaves, Logic}
use Rattle.op_offers.proofs.ManagedHold.{DoesAskFit, IsManaged, managed_holds}
use Rattle.op_offers.proofs.SoldHold.{AreSold, Gives, IsAskedFit}
use Rattle.op_offers.specs.declared.answers.Kind.TheVariants as kind
use Rattle.op_offers.specs.declared.fault.OfferFault.TheVariants as fault
use Rattle.op_types.specs.declared.offer_results.ManageOfferEffect.TheVariants as effect
use Rattle.op_types.specs.declared.offer_results.ManageOfferResult.TheVariants as manage
use Rattle.op_types.specs.declared.operation_result.OperationResult.TheVariants.{Inner}

-- a success can be answered: of an offer that was removed, and of one that was traded
pub record DoesSaleAnswer (w : Logic) (of : Kind) : Type 0 where
  pub removed : w.answers.Answer (success_answer (answer_of of) [] effect.Deleted)
  pub traded : (what : Effect) (asked : Asked) (done : Sold) → AreSold w.inv done → IsAskedFit w.inv asked
      → (w.inv.Asks → asked.offer.flags ≤ 1)
      → w.answers.Answer (success_answer (answer_of of) done.crossed.atoms (effect_of what asked done.amount))

-- codes that name nothing
bare_code : (of : Kind) (code : ManageOfferResult) → IsBareOffer code → IsBare (answer_of of code)
bare_code kind.Sell code bare = bare
bare_code kind.Passive code bare = bare
bare_code kind.Buy code bare = bare

code_bare : (found : OfferFault) → IsBareOffer (code_of found)
code_bare fault.Malformed = tt
code_bare fault.NotFound = tt
code_bare fault.SellNoTrust = tt
code_bare fault.NothingToSell = tt
code_bare fault.SellNotAuthorized = tt
code_bare fault.BuyNoTrust = tt
code_bare fault.BuyNotAuthorized = tt
code_bare fault.LineFull = tt
code_bare fault.Underfunded = tt
code_bare fault.CrossSelf = tt
code_bare other = tt

fault_answers : (x : Answering) (of : Kind) (found : OfferFault) → x.Answer (fault_answer (answer_of of) found)
fault_answers x of fault.TooMany = x.exceeded
fault_answers x of (fault.Reserve other) =
    charged x other (Inner (answer_of of manage.LowReserve))
    (x.bare (answer_of of manage.LowReserve) (bare_code of manage.LowReserve tt))
fault_answers x of other = x.bare (answer_of of (code_of other)) (bare_code of (code_of other) (code_bare other))

module _ (w : Logic) (ctx : Ctx) (m : EntryMap) (before : Before w ctx m) (of : Kind) (answers : DoesSaleAnswer w of)
  where
    managed_left : (r : Result Managed OfferFault) → Gives (IsManaged w.inv) r
        → Leaves w (attempt_of_managed ctx (answer_of of) r)
    managed_left (Err other) h = record { ends = fault_answers w.answers of other }
    managed_left (Ok (Removed new)) h =
        record { ends = record { entries = h.gives; context = before.context; answer = answers.removed } }
    managed_left (Ok (Traded what asked done ids)) h = record {
      ends = record {
        entries = h.gives.0.entries;
        context = w.drawn ctx ids before.context;
        answer = answers.traded what asked done h.gives.0 h.gives.1 h.gives.2;
      };
    }

    pub offer_managed : (ask : Ask) → (w.inv.Asks → IsManageable ctx m) → IsFormed ask → DoesAskFit w.inv ctx ask
        → Leaves w (attempt_of_managed ctx (answer_of of) (managed ctx ask m))
    offer_managed ask can formed fits =
        managed_left (managed ctx ask m)
        (managed_holds w.inv ctx ask m can formed fits (w.sponsor ctx ctx.op_source before.context) before.entries)

-- The steps of an operation, one after another: what holds of what they give, and of the results that they end with.
use Rattle.entry_map.specs.EntryMap.{EntryMap}
use Rattle.entry_slots.specs.Tests.{Tests, first_fault}
use Rattle.op_form.specs.Faults.{fault_result}
use Rattle.op_form.specs.Steps.{after, after_charge, after_some, after_step, unless_refused, unless_result}
use Rattle.op_types.specs.declared.balance_results.CreateClaimableBalanceResult.{CreateClaimableBalanceResult}
use Rattle.op_types.specs.declared.offer_results.ManageOfferResult.{ManageOfferResult}
use Rattle.op_types.specs.declared.operation_result.OperationResult.{OperationResult}
use Rattle.op_types.specs.declared.operation_result.OperationResultTr.{OperationResultTr}
use Rattle.op_types.specs.declared.payment_results.PathPaymentStrictReceiveResult.{PathPaymentStrictReceiveResult}
use Rattle.op_types.specs.declared.payment_results.PathPaymentStrictSendResult.{PathPaymentStrictSendResult}
use Rattle.sponsor_rules.specs.declared.fault.AddFault.{AddFault}
use Rattle.std.proofs.Common.{refl, subst}
use Rattle.std.specs.Prelude.{Bool, Err, None, Ok, Option, Result, Some, [], false, if◌then◌else◌, true, ◌∷◌, ◌≡◌}
use Rattle.op_types.specs.declared.balance_results.CreateClaimableBalanceResult.TheVariants as create
use Rattle.op_types.specs.declared.offer_results.ManageOfferResult.TheVariants as manage
use Rattle.op_types.specs.declared.operation_result.OperationResult.TheVariants as result
use Rattle.op_types.specs.declared.operation_result.OperationResultTr.TheVariants as tr
use Rattle.op_types.specs.declared.payment_results.PathPaymentStrictReceiveResult.TheVariants as receive
use Rattle.op_types.specs.declared.payment_results.PathPaymentStrictSendResult.TheVariants as send
use Rattle.sponsor_rules.specs.declared.fault.AddFault.TheVariants as fault

-- results of operations that name no asset, no offer, no account and no balance
abbrev pub IsBareOffer : ManageOfferResult → Type 0
IsBareOffer (manage.Success of) = ⊥
IsBareOffer other = Unit {0}

abbrev pub IsBareBalance : CreateClaimableBalanceResult → Type 0
IsBareBalance (create.Success id) = ⊥
IsBareBalance other = Unit {0}

abbrev pub IsBareReceive : PathPaymentStrictReceiveResult → Type 0
IsBareReceive (receive.Success done) = ⊥
IsBareReceive (receive.NoIssuer held) = ⊥
IsBareReceive other = Unit {0}

abbrev pub IsBareSend : PathPaymentStrictSendResult → Type 0
IsBareSend (send.Success done) = ⊥
IsBareSend (send.NoIssuer held) = ⊥
IsBareSend other = Unit {0}

abbrev pub IsBare : OperationResultTr → Type 0
IsBare (tr.Inflation of) = ⊥
IsBare (tr.PathPaymentStrictReceive of) = IsBareReceive of
IsBare (tr.PathPaymentStrictSend of) = IsBareSend of
IsBare (tr.ManageSellOffer of) = IsBareOffer of
IsBare (tr.CreatePassiveSellOffer of) = IsBareOffer of
IsBare (tr.ManageBuyOffer of) = IsBareOffer of
IsBare (tr.CreateClaimableBalance of) = IsBareBalance of
IsBare of = Unit {0}

-- what is shown of results
pub record Answering : Type 1 where
  pub Answer : OperationResult → Type 0
  -- results that name nothing, and those that aren't an operation's own
  pub bare : (of : OperationResultTr) → IsBare of → Answer (result.Inner of)
  pub no_account : Answer result.NoAccount
  pub not_supported : Answer result.NotSupported
  pub too_many_subentries : Answer result.TooManySubentries
  pub too_many_sponsoring : Answer result.TooManySponsoring
  pub exceeded : Answer result.ExceededWorkLimit

-- nothing is
abbrev pub anything : Answering
anything = record {
  Answer = λ of. Unit {0};
  bare = λ of plain. tt;
  no_account = tt;
  not_supported = tt;
  too_many_subentries = tt;
  too_many_sponsoring = tt;
  exceeded = tt;
}

abbrev pub EndsSo : {A : Type 0} → Answering → (A → Type 0) → Result A OperationResult → Type 0
EndsSo x P (Ok a) = P a
EndsSo x P (Err found) = x.Answer found

-- what holds of what a step gives, or of the result that it ends with
pub record Ends {A : Type 0} (x : Answering) (P : A → Type 0) (made : Result A OperationResult) : Type 0 where
  pub ends : EndsSo x P made

abbrev pub AllAnswer : Answering → Tests OperationResult → Type 0
AllAnswer x [] = Unit {0}
AllAnswer x (test ∷ others) = x.Answer test.1 × AllAnswer x others

-- no test holds
abbrev pub AllPass : {F : Type 0} → Tests F → Type 0
AllPass [] = Unit {0}
AllPass (test ∷ others) = (test.0 ≡ false) × AllPass others

pub charged : (x : Answering) (found : AddFault) (low : OperationResult) → x.Answer low
    → x.Answer (fault_result found low)
charged x fault.TooManySubentries low answer = x.too_many_subentries
charged x fault.TooManySponsoring low answer = x.too_many_sponsoring
charged x fault.LowReserve low answer = answer
charged x fault.NoMemory low answer = answer

module _ {A : Type 0} {x : Answering} {P : A → Type 0} where
  -- after tests of which none holds
  pub past : (tests : Tests OperationResult) (next : Result A OperationResult) → AllAnswer x tests
      → (AllPass tests → Ends x P next) → Ends x P (unless_refused tests next)
  past [] next all go = go tt
  past (test ∷ others) next all go = by test.0 refl (past others next all.1)
    where
      by : (b : Bool) → test.0 ≡ b → ((AllPass others → Ends x P next) → Ends x P (unless_refused others next))
          → Ends x P (unless_result (if b then Some test.1 else first_fault others) next)
      by true is rest = record { ends = all.0 }
      by false is rest = rest (λ pass. go (is, pass))

  pub past_some : {B : Type 0} (found : Option B) (none : OperationResult) (next : B → Result A OperationResult)
      → x.Answer none → ((b : B) → found ≡ Some b → Ends x P (next b)) → Ends x P (after_some found none next)
  past_some None none next answer go = record { ends = answer }
  past_some (Some b) none next answer go = go b refl

  pub past_charge : (made : Result EntryMap AddFault) (low : OperationResult)
      (next : EntryMap → Result A OperationResult) → x.Answer low
      → ((m : EntryMap) → made ≡ Ok m → Ends x P (next m)) → Ends x P (after_charge made low next)
  past_charge (Err found) low next answer go = record { ends = charged x found low answer }
  past_charge (Ok m) low next answer go = go m refl

  pub past_step : {F : Type 0} (made : Result EntryMap F) (answers : F → OperationResult)
      (next : EntryMap → Result A OperationResult) → ((found : F) → x.Answer (answers found))
      → ((m : EntryMap) → made ≡ Ok m → Ends x P (next m)) → Ends x P (after_step made answers next)
  past_step (Err found) answers next each go = record { ends = each found }
  past_step (Ok m) answers next each go = go m refl

  pub past_part : {B : Type 0} (Q : B → Type 0) (made : Result B OperationResult)
      (next : B → Result A OperationResult) → Ends x Q made → ((b : B) → made ≡ Ok b → Q b → Ends x P (next b))
      → Ends x P (after made next)
  past_part Q (Err found) next made go = record { ends = made.ends }
  past_part Q (Ok b) next made go = go b refl made.ends

  -- by a test
  pub either_ends : (b : Bool) (this that : Result A OperationResult) → (b ≡ true → Ends x P this)
      → (b ≡ false → Ends x P that) → Ends x P (if b then this else that)
  either_ends true this that here there = here refl
  either_ends false this that here there = there refl

-- what holds of a success
pub done_so : {A : Type 0} (x : Answering) (P : A → Type 0) (made : Result A OperationResult) (a : A) → Ends x P made
    → made ≡ Ok a → P a
done_so x P (Ok b) a ends is = let same : b ≡ a = cc in subst P same ends.ends
done_so x P (Err found) a ends is = absurd (cc)

-- Operations by their types: what a walk asks of each, and what all of them leave.
use Rattle.entry_map.specs.EntryMap.{EntryMap}
use Rattle.ledger_types.specs.Ids.{account_of}
use Rattle.ledger_types.specs.declared.account.AccountEntry.{AccountEntry}
use Rattle.ledger_types.specs.declared.data_entry.DataEntry.{DataEntry}
use Rattle.ledger_types.specs.declared.ids.AccountId.{AccountId}
use Rattle.ledger_types.specs.declared.signer.Signer.{Signer}
use Rattle.legal_rules.specs.Owing.{AreEntriesLegal}
use Rattle.op_account.specs.Operations.{account_operation}
use Rattle.op_claim.specs.Operations.{claim_operation}
use Rattle.op_flags.specs.Operations.{flags_operation}
use Rattle.op_form.specs.Done.{done_of}
use Rattle.op_offers.specs.Asked.{ask_passively, ask_to_buy, ask_to_sell}
use Rattle.op_offers.specs.Calls.{IsFormed, IsManageable}
use Rattle.op_offers.specs.Managing.{managed}
use Rattle.op_offers.specs.Operations.{answer_of, attempt_of_managed, offers_operation}
use Rattle.op_offers.specs.declared.answers.Kind.{Kind}
use Rattle.op_offers.specs.declared.ask.Ask.{Ask}
use Rattle.op_options.specs.Operations.{options_operation}
use Rattle.op_payment.specs.Operations.{payment_operation}
use Rattle.op_payment.specs.PathPayment.{arrived}
use Rattle.op_pool.specs.Operations.{pool_operation}
use Rattle.op_sponsor.specs.Operations.{sponsor_operation}
use Rattle.op_trust.specs.Operations.{change_trust, trust_operation}
use Rattle.op_types.specs.declared.operation.OperationBody.{OperationBody}
use Rattle.sponsor_rules.specs.declared.context.Ctx.{Ctx}
use Rattle.op_laws.specs.AnyOperation.{any_operation}
use Rattle.std.proofs.Common.{arith, refl}
use Rattle.std.specs.Prelude.{Bool, List, Some, false, ℕ, ℤ, ◌≡◌}
use Rattle.sponsor_rules.proofs.Entries.{Fits}
use Rattle.op_form.proofs.Walks.{Before, Left, Logic, done_left}
use Rattle.op_account.proofs.AccountSteps.{account_created, account_merged, sequence_bumped}
use Rattle.op_claim.proofs.ClaimSteps.{balance_claimed, balance_clawed_back, balance_created, clawed_back}
use Rattle.op_flags.proofs.FlagSteps.{flags_set, trust_allowed}
use Rattle.op_offers.proofs.ManagedHold.{DoesAskFit}
use Rattle.op_offers.proofs.OfferSteps.{DoesSaleAnswer, offer_managed}
use Rattle.op_options.proofs.OptionSteps.{data_managed, options_set}
use Rattle.op_payment.proofs.PathSteps.{DoesArriveBy, IsPathNamed, path_received, path_sent}
use Rattle.op_payment.proofs.PaymentSteps.{payment_made}
use Rattle.op_pool.proofs.PoolSteps.{deposited, withdrawn_from}
use Rattle.op_flags.proofs.RevokedHold.{DoBalancesFit}
use Rattle.op_trust.proofs.ShareTrustSteps.{DoesTrustFit, trust_changed}
use Rattle.op_flags.proofs.SharesGiven.{CanRevoke}
use Rattle.op_sponsor.proofs.SponsorSteps.{sponsoring_begun, sponsoring_ended, sponsorship_revoked}
use Rattle.ledger_types.specs.declared.key.LedgerKey.TheVariants as key
use Rattle.op_account.specs.AccountMerge as merging
use Rattle.op_account.specs.BumpSequence as bumping
use Rattle.op_account.specs.CreateAccount as creating
use Rattle.op_claim.specs.ClaimClaimableBalance as claiming
use Rattle.op_claim.specs.Clawback as clawing
use Rattle.op_claim.specs.ClawbackClaimableBalance as taking
use Rattle.op_claim.specs.CreateClaimableBalance as balances
use Rattle.op_flags.specs.AllowTrust as allowing
use Rattle.op_flags.specs.SetTrustLineFlags as flagging
use Rattle.op_offers.specs.declared.answers.Kind.TheVariants as kind
use Rattle.op_options.specs.ManageData as managing
use Rattle.op_options.specs.OptionTests as tests
use Rattle.op_options.specs.SetOptions as options
use Rattle.op_payment.specs.PathReceive as receiving
use Rattle.op_payment.specs.PathSend as sending
use Rattle.op_payment.specs.Payment as paying
use Rattle.op_pool.specs.Deposit as depositing
use Rattle.op_pool.specs.Withdraw as withdrawing
use Rattle.op_sponsor.specs.BeginSponsoringFutureReserves as beginning
use Rattle.op_sponsor.specs.EndSponsoringFutureReserves as ending
use Rattle.op_sponsor.specs.RevokeSponsorship as revoking
use Rattle.op_types.specs.declared.balance_results.CreateClaimableBalanceResult.TheVariants as create
use Rattle.op_types.specs.declared.operation.OperationBody.TheVariants as body
use Rattle.op_types.specs.declared.payment_results.PathPaymentStrictReceiveResult.TheVariants as got_code
use Rattle.op_types.specs.declared.payment_results.PathPaymentStrictSendResult.TheVariants as sent_code

-- ---- what is asked of an operation: that what it puts fits, and what it reports can be answered

abbrev pub OfferAsked : Logic → Ctx → EntryMap → Kind → Ask → Type 0
OfferAsked w ctx m of ask =
    (w.inv.Asks → IsManageable ctx m) × DoesAskFit w.inv ctx ask × DoesSaleAnswer w of

abbrev pub FlagAsked : Logic → Ctx → EntryMap → AccountId → Type 0
FlagAsked w ctx m trustor =
    DoBalancesFit w.inv ctx trustor × w.inv.of.Sponsor (Some trustor) × (w.inv.Asks → CanRevoke trustor m)

abbrev pub Asked : Logic → Ctx → EntryMap → OperationBody → Type 0
Asked w ctx m (body.CreateAccount op) = w.inv.of.Account (creating.new_account ctx op)
Asked w ctx m (body.AccountMerge op) = w.inv.Goes (key.Account ctx.op_source)
Asked w ctx m (body.SetOptions op) =
    (tests.is_bad_signer ctx op.signer ≡ false → (one : Signer) → op.signer ≡ Some one → w.inv.of.Key one.key)
    × (tests.is_out_of_range op ≡ false → (a : AccountEntry) → w.inv.of.Account a
    → w.inv.of.Account (options.with_options op a))
Asked w ctx m (body.ManageData op) =
    (value : List ℕ) → op.data_value ≡ Some value → Fits w.inv.of (managing.new_data ctx op.data_name value)
    × ((d : DataEntry) → w.inv.of.Data d → w.inv.of.Data (managing.with_value value d))
Asked w ctx m (body.ManageSellOffer op) = OfferAsked w ctx m kind.Sell (ask_to_sell op)
Asked w ctx m (body.CreatePassiveSellOffer op) = OfferAsked w ctx m kind.Passive (ask_passively op)
Asked w ctx m (body.ManageBuyOffer op) = OfferAsked w ctx m kind.Buy (ask_to_buy op)
Asked w ctx m (body.PathPaymentStrictReceive op) =
    (w.inv.Asks → AreEntriesLegal ctx.id_pool m) × IsPathNamed w.inv op.send_asset op.path op.dest_asset
    × DoesArriveBy w (λ atoms. receiving.answer (got_code.Success
    (arrived atoms (account_of op.destination) op.dest_asset op.dest_amount)))
Asked w ctx m (body.PathPaymentStrictSend op) =
    (w.inv.Asks → AreEntriesLegal ctx.id_pool m) × IsPathNamed w.inv op.send_asset op.path op.dest_asset
    × ((amount : ℤ) → DoesArriveBy w (λ atoms. sending.answer (sent_code.Success
    (arrived atoms (account_of op.destination) op.dest_asset amount))))
Asked w ctx m (body.ChangeTrust op) = DoesTrustFit w.inv ctx op.limit op.line
Asked w ctx m (body.AllowTrust op) = FlagAsked w ctx m op.trustor
Asked w ctx m (body.SetTrustLineFlags op) = FlagAsked w ctx m op.trustor
Asked w ctx m (body.CreateClaimableBalance op) =
    w.inv.of.Sponsor (Some ctx.op_source) × ((clawback : Bool) → Fits w.inv.of (balances.new_balance ctx op clawback))
    × w.answers.Answer (balances.answer (create.Success (balances.new_id ctx)))
Asked w ctx m (body.BeginSponsoringFutureReserves op) = w.inv.of.Sponsor (Some ctx.op_source)
Asked w ctx m other = Unit {0}

-- ---- the walk

module _ (w : Logic) (ctx : Ctx) (m : EntryMap) (before : Before w ctx m) where
  asked_left : (of : Kind) (ask : Ask) → IsFormed ask → OfferAsked w ctx m of ask
      → Left w (done_of ctx m (attempt_of_managed ctx (answer_of of) (managed ctx ask m)))
  asked_left of ask formed asked =
      done_left w ctx m (attempt_of_managed ctx (answer_of of) (managed ctx ask m)) before
      (offer_managed w ctx m before of asked.2 ask asked.0 formed asked.1)

  pub any_left : (of : OperationBody) → Asked w ctx m of → Left w (any_operation ctx of m)
  unfolding any_operation account_operation options_operation payment_operation trust_operation flags_operation
      claim_operation sponsor_operation offers_operation pool_operation
  any_left (body.CreateAccount op) asked =
      done_left w ctx m (creating.create_account ctx op m) before (account_created w ctx op m before asked)
  any_left (body.AccountMerge op) asked =
      done_left w ctx m (merging.account_merge ctx op m) before (account_merged w ctx op m before asked)
  any_left (body.BumpSequence op) asked =
      done_left w ctx m (bumping.bump_sequence ctx op m) before (sequence_bumped w ctx op m before)
  any_left (body.ManageSellOffer op) asked =
      asked_left kind.Sell (ask_to_sell op) (record { sells = refl; buys = tt; flags = omega arith }) asked
  any_left (body.CreatePassiveSellOffer op) asked =
      asked_left kind.Passive (ask_passively op) (record { sells = refl; buys = tt; flags = omega arith }) asked
  any_left (body.ManageBuyOffer op) asked =
      asked_left kind.Buy (ask_to_buy op) (record { sells = tt; buys = refl; flags = omega arith }) asked
  any_left (body.SetOptions op) asked =
      done_left w ctx m (options.set_options ctx op m) before (options_set w ctx op m before asked.0 asked.1)
  any_left (body.ManageData op) asked =
      done_left w ctx m (managing.manage_data ctx op m) before (data_managed w ctx op m before asked)
  any_left (body.Payment op) asked =
      done_left w ctx m (paying.payment ctx op m) before (payment_made w ctx op m before)
  any_left (body.PathPaymentStrictReceive op) asked =
      done_left w ctx m (receiving.path_payment_strict_receive ctx op m) before
      (path_received w ctx op m before asked.0 asked.1 asked.2)
  any_left (body.PathPaymentStrictSend op) asked =
      done_left w ctx m (sending.path_payment_strict_send ctx op m) before
      (path_sent w ctx op m before asked.0 asked.1 asked.2)
  any_left (body.ChangeTrust op) asked =
      done_left w ctx m (change_trust ctx op m) before (trust_changed w ctx op m op.line before asked)
  any_left (body.AllowTrust op) asked =
      done_left w ctx m (allowing.allow_trust ctx op m) before
      (trust_allowed w ctx m before op asked.0 asked.1 asked.2)
  any_left (body.SetTrustLineFlags op) asked =
      done_left w ctx m (flagging.set_trust_line_flags ctx op m) before
      (flags_set w ctx m before op asked.0 asked.1 asked.2)
  any_left (body.CreateClaimableBalance op) asked =
      done_left w ctx m (balances.create_claimable_balance ctx op m) before
      (balance_created w ctx op m before asked.0 asked.1 asked.2)
  any_left (body.ClaimClaimableBalance op) asked =
      done_left w ctx m (claiming.claim_claimable_balance ctx op m) before (balance_claimed w ctx op m before)
  any_left (body.Clawback op) asked =
      done_left w ctx m (clawing.clawback ctx op m) before (clawed_back w ctx op m before)
  any_left (body.ClawbackClaimableBalance op) asked =
      done_left w ctx m (taking.clawback_claimable_balance ctx op m) before (balance_clawed_back w ctx op m before)
  any_left (body.BeginSponsoringFutureReserves op) asked =
      done_left w ctx m (beginning.begin_sponsoring ctx op m) before (sponsoring_begun w ctx op m before asked)
  any_left body.EndSponsoringFutureReserves asked =
      done_left w ctx m (ending.end_sponsoring ctx m) before (sponsoring_ended w ctx m before)
  any_left (body.RevokeSponsorship op) asked =
      done_left w ctx m (revoking.revoke_sponsorship ctx op m) before (sponsorship_revoked w ctx m before op)
  any_left (body.LiquidityPoolDeposit op) asked =
      done_left w ctx m (depositing.liquidity_pool_deposit ctx op m) before (deposited w ctx op m before)
  any_left (body.LiquidityPoolWithdraw op) asked =
      done_left w ctx m (withdrawing.liquidity_pool_withdraw ctx op m) before (withdrawn_from w ctx op m before)
  any_left body.Inflation asked =
      record { entries = before.entries; context = before.context; answer = w.answers.not_supported }

-- What a walk asks of an operation where a logic is of accounts alone: nothing is asked of other entries, of sponsors,
-- of assets and of results, and no fact of the state at hand is needed.
use Rattle.entry_map.specs.EntryMap.{EntryMap}
use Rattle.ledger_types.specs.declared.account.AccountEntry.{AccountEntry}
use Rattle.ledger_types.specs.declared.asset.Asset.{Asset}
use Rattle.ledger_types.specs.declared.asset.ChangeTrustAsset.{ChangeTrustAsset}
use Rattle.ledger_types.specs.declared.claimable_balance.ClaimableBalanceEntry.{ClaimableBalanceEntry}
use Rattle.ledger_types.specs.declared.data_entry.DataEntry.{DataEntry}
use Rattle.ledger_types.specs.declared.ids.AccountId.{AccountId}
use Rattle.ledger_types.specs.declared.liquidity_pool.LiquidityPoolEntry.{LiquidityPoolEntry}
use Rattle.ledger_types.specs.declared.offer.OfferEntry.{OfferEntry}
use Rattle.ledger_types.specs.declared.signer.Signer.{Signer}
use Rattle.ledger_types.specs.declared.trust_line.TrustLineEntry.{TrustLineEntry}
use Rattle.op_laws.proofs.AllSteps.{Asked, FlagAsked, OfferAsked}
use Rattle.op_flags.proofs.RevokedHold.{DoBalancesFit}
use Rattle.op_form.proofs.Walks.{Logic}
use Rattle.op_offers.specs.Asked.{ask_passively, ask_to_buy, ask_to_sell}
use Rattle.op_offers.specs.declared.answers.Kind.{Kind}
use Rattle.op_offers.specs.declared.ask.Ask.{Ask}
use Rattle.op_payment.proofs.PathSteps.{IsPathNamed}
use Rattle.op_trust.proofs.ShareTrustSteps.{DoesTrustFit}
use Rattle.op_types.specs.declared.operation.OperationBody.{OperationBody}
use Rattle.op_types.specs.declared.operation_result.OperationResult.{OperationResult}
use Rattle.sponsor_rules.specs.declared.context.Ctx.{Ctx}
use Rattle.std.proofs.lemmas.List.Elements.{All-cons, All-nil}
use Rattle.std.specs.Prelude.{All, List, Option, Some, [], false, ℤ, ◌∷◌, ◌≡◌}
use Rattle.ledger_types.specs.declared.asset.ChangeTrustAsset.TheVariants as asked
use Rattle.ledger_types.specs.declared.key.LedgerKey.TheVariants as key
use Rattle.op_account.specs.CreateAccount as creating
use Rattle.op_offers.specs.declared.answers.Kind.TheVariants as kind
use Rattle.op_options.specs.OptionTests as tests
use Rattle.op_options.specs.SetOptions as options
use Rattle.op_types.specs.declared.operation.OperationBody.TheVariants as body

pub record IsOfAccounts (w : Logic) : Type 0 where
  pub line : (t : TrustLineEntry) → w.inv.of.Line t
  pub offer : (o : OfferEntry) → w.inv.of.Offer o
  pub data_entry : (d : DataEntry) → w.inv.of.Data d
  pub balance : (b : ClaimableBalanceEntry) → w.inv.of.Balance b
  pub pool : (p : LiquidityPoolEntry) → w.inv.of.Pool p
  pub sponsor : (one : Option AccountId) → w.inv.of.Sponsor one
  pub named : (of : Asset) → w.inv.of.Named of
  pub answer : (of : OperationResult) → w.answers.Answer of
  pub asks : w.inv.Asks → ⊥

-- what is still asked, of accounts
abbrev pub AccountAsked : Logic → Ctx → OperationBody → Type 0
AccountAsked w ctx (body.CreateAccount op) = w.inv.of.Account (creating.new_account ctx op)
AccountAsked w ctx (body.AccountMerge op) = w.inv.Goes (key.Account ctx.op_source)
AccountAsked w ctx (body.SetOptions op) =
    (tests.is_bad_signer ctx op.signer ≡ false → (one : Signer) → op.signer ≡ Some one → w.inv.of.Key one.key)
    × (tests.is_out_of_range op ≡ false → (a : AccountEntry) → w.inv.of.Account a
    → w.inv.of.Account (options.with_options op a))
AccountAsked w ctx other = Unit {0}

module _ (w : Logic) (free : IsOfAccounts w) (ctx : Ctx) (m : EntryMap) where
  offer_asked : (of : Kind) (ask : Ask) → OfferAsked w ctx m of ask
  offer_asked of ask = (
    λ asks. absurd (free.asks asks),
    record { new = λ within. free.offer _; old = λ was fits. free.offer _ },
    record { removed = free.answer _; traded = λ what asked done sold fits flags. free.answer _ },
  )

  balances_fit : (trustor : AccountId) → DoBalancesFit w.inv ctx trustor
  balances_fit trustor =
      λ pool payer held amount m asset few. record { body = free.balance _; sponsor = free.sponsor _ }

  flags_asked : (trustor : AccountId) → FlagAsked w ctx m trustor
  flags_asked trustor = (balances_fit trustor, free.sponsor (Some trustor), λ asks. absurd (free.asks asks))

  trust_asked : (limit : ℤ) (of : ChangeTrustAsset) → DoesTrustFit w.inv ctx limit of
  trust_asked limit (asked.PoolShare params) = (
    record { body = free.line _; sponsor = free.sponsor _ },
    record { body = free.pool _; sponsor = free.sponsor _ },
  )
  trust_asked limit other = λ issuer. record { body = free.line _; sponsor = free.sponsor _ }

  all_named : (path : List Asset) → All w.inv.of.Named path
  all_named [] = All-nil w.inv.of.Named
  all_named (first ∷ path) = All-cons w.inv.of.Named first path (free.named first) (all_named path)

  path_named : (first : Asset) (path : List Asset) (last : Asset) → IsPathNamed w.inv first path last
  path_named first path last = record {
    from = free.named first;
    between = all_named path;
    few = λ asks. absurd (free.asks asks);
    to = free.named last;
  }

  pub of_accounts : (of : OperationBody) → AccountAsked w ctx of → Asked w ctx m of
  of_accounts (body.CreateAccount op) asked = asked
  of_accounts (body.AccountMerge op) asked = asked
  of_accounts (body.SetOptions op) asked = asked
  of_accounts (body.ManageData op) asked =
      λ value is. (record { body = free.data_entry _; sponsor = free.sponsor _ }, λ d fits. free.data_entry _)
  of_accounts (body.ManageSellOffer op) asked = offer_asked kind.Sell (ask_to_sell op)
  of_accounts (body.CreatePassiveSellOffer op) asked = offer_asked kind.Passive (ask_passively op)
  of_accounts (body.ManageBuyOffer op) asked = offer_asked kind.Buy (ask_to_buy op)
  of_accounts (body.PathPaymentStrictReceive op) asked = (
    λ asks. absurd (free.asks asks),
    path_named op.send_asset op.path op.dest_asset,
    λ atoms few reported. free.answer _,
  )
  of_accounts (body.PathPaymentStrictSend op) asked = (
    λ asks. absurd (free.asks asks),
    path_named op.send_asset op.path op.dest_asset,
    λ amount atoms few reported. free.answer _,
  )
  of_accounts (body.ChangeTrust op) asked = trust_asked op.limit op.line
  of_accounts (body.AllowTrust op) asked = flags_asked op.trustor
  of_accounts (body.SetTrustLineFlags op) asked = flags_asked op.trustor
  of_accounts (body.CreateClaimableBalance op) asked = (
    free.sponsor (Some ctx.op_source),
    λ clawback. record { body = free.balance _; sponsor = free.sponsor _ },
    free.answer _,
  )
  of_accounts (body.BeginSponsoringFutureReserves op) asked = free.sponsor (Some ctx.op_source)
  of_accounts other asked = tt

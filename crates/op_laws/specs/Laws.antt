-- The laws of operations: that each leaves a legal state, moves what its moves say and nothing else, makes and destroys
-- an amount where its issuer gives or takes it alone, and leaves each account at least 0 available, or what it had.
use Rattle.std.specs.Prelude.{◌≡◌, ◌≤◌, pos, ◌+ℤ◌, ◌≤ℤ◌, ◌⊎◌, length, Some, Ok}
use Rattle.op_flags.specs.ledger_types.declared.ids.AccountId.{AccountId}
use Rattle.op_flags.specs.ledger_types.declared.account.AccountEntry.{AccountEntry}
use Rattle.op_flags.specs.ledger_types.declared.asset.Asset.{Asset}
use Rattle.op_flags.specs.ledger_types.declared.asset.Asset.TheVariants as asset
use Rattle.op_flags.specs.op_types.declared.account_ops.BumpSequenceOp.{BumpSequenceOp}
use Rattle.op_flags.specs.op_types.declared.balance_ops.CreateClaimableBalanceOp.{CreateClaimableBalanceOp}
use Rattle.op_flags.specs.op_types.declared.operation.OperationBody.{OperationBody}
use Rattle.op_flags.specs.op_types.declared.operation.OperationBody.TheVariants as body
use Rattle.op_flags.specs.op_types.declared.trust_ops.ChangeTrustOp.{ChangeTrustOp}
use Rattle.op_flags.specs.entry_map.EntryMap.{EntryMap}
use Rattle.op_flags.specs.entry_slots.Accounts.{account_at, HasAccount}
use Rattle.op_flags.specs.entry_sums.Sums.{total}
use Rattle.op_pool.specs.reserve_rules.Reserve.{available, greatest_i64}
use Rattle.op_flags.specs.sponsor_rules.declared.context.Ctx.{Ctx}
use Rattle.op_flags.specs.legal_rules.Supply.{held}
use Rattle.op_flags.specs.op_form.Done.{Done, Attempt}
use Rattle.op_laws.specs.AnyOperation.{any_operation}
use Rattle.op_laws.specs.Underway.{IsUnderway, AreDrawn, KeepsTerms}
use Rattle.op_flags.specs.op_form.Done.{OfAccount}
use Rattle.op_laws.specs.Moves.{gained, issued, AreDescribed}
use Rattle.op_flags.specs.legal_rules.Supply.{lumens_at}

-- an account's available balance is at least 0, or at least what it was
abbrev pub IsCovered : Ctx → EntryMap → AccountEntry → Type 0
IsCovered ctx m account =
    (pos 0 ≤ℤ available account ctx.base_reserve)
    ⊎ ((was : AccountEntry) × (account_at m account.account_id ≡ Some was)
    × (available was ctx.base_reserve ≤ℤ available account ctx.base_reserve))

-- what holds after an operation, by what held before
pub record IsLawful (ctx : Ctx) (m : EntryMap) (done : Done) : Type 0 where
  -- the next operation can begin
  pub legal : IsUnderway done.ctx done.entries
  pub terms : KeepsTerms ctx done.ctx
  pub ids : AreDrawn 1 ctx.id_pool done.ctx.id_pool
  -- each account has what it had and what the moves give it
  pub lumens : (id : AccountId)
      → lumens_at done.entries id ≡ lumens_at m id +ℤ gained asset.Native (OfAccount id) done.moves
  -- and so has each holder of each asset
  pub described : AreDescribed m done.entries done.moves
  -- the supply changes by what is issued and redeemed
  pub supply : (x : Asset) → total (held x) done.entries ≡ total (held x) m +ℤ issued x done.moves
  pub reserves : (id : AccountId) (account : AccountEntry) → account_at done.entries id ≡ Some account
      → IsCovered ctx m account

-- each success of operations of one type that are as P says
abbrev pub AreLawfulWhere : {O : Type 0} → (O → Type 0) → (Ctx → O → EntryMap → Attempt) → Type 0
AreLawfulWhere {O} P attempt =
    (ctx : Ctx) (op : O) (m : EntryMap) (done : Done) → P op → IsUnderway ctx m → HasAccount m ctx.op_source
    → attempt ctx op m ≡ Ok done → IsLawful ctx m done

-- each success of operations of one type
abbrev pub AreLawful : {O : Type 0} → (Ctx → O → EntryMap → Attempt) → Type 0
AreLawful {O} attempt =
    (ctx : Ctx) (op : O) (m : EntryMap) (done : Done) → IsUnderway ctx m → HasAccount m ctx.op_source
    → attempt ctx op m ≡ Ok done → IsLawful ctx m done

-- the number that a sequence number is raised to, which no test bounds, is an int64 (SequenceNumber in
-- Stellar-ledger-entries.x)
abbrev pub IsBumpFit : BumpSequenceOp → Type 0
IsBumpFit op = op.bump_to ≤ℤ greatest_i64

-- a limit, which no test bounds, is an int64 (ChangeTrustOp in Stellar-transaction.x)
abbrev pub IsLimitFit : ChangeTrustOp → Type 0
IsLimitFit op = op.limit ≤ℤ greatest_i64

-- there are at most 10 claimants (CreateClaimableBalanceOp in Stellar-transaction.x)
abbrev pub AreClaimantsFew : CreateClaimableBalanceOp → Type 0
AreClaimantsFew op = length op.claimants ≤ 10

-- what no test of an operation says of its numbers and lists, and their types do
abbrev pub IsFit : OperationBody → Type 0
IsFit (body.BumpSequence op) = IsBumpFit op
IsFit (body.ChangeTrust op) = IsLimitFit op
IsFit (body.CreateClaimableBalance op) = AreClaimantsFew op
IsFit other = Unit {0}

-- any operation, whether it succeeds or fails
abbrev pub AllLawful : Type 0
AllLawful =
    (ctx : Ctx) (of : OperationBody) (m : EntryMap) → IsFit of → IsUnderway ctx m → HasAccount m ctx.op_source
    → IsLawful ctx m (any_operation ctx of m)

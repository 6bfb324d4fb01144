-- What is shown of operations step by step: of the entries, of the context, of what is answered and of trades.
use Rattle.entry_map.specs.EntryMap.{EntryMap}
use Rattle.ledger_types.specs.declared.ids.AccountId.{AccountId}
use Rattle.op_form.specs.Done.{Attempt, Done, Move, done_of}
use Rattle.op_types.specs.declared.operation_result.OperationResult.{OperationResult}
use Rattle.op_types.specs.declared.operation_result.OperationResultTr.{OperationResultTr}
use Rattle.sponsor_rules.specs.Payers.{open_sponsor}
use Rattle.sponsor_rules.specs.SeqNums.{new_extension_v3}
use Rattle.sponsor_rules.specs.declared.context.Ctx.{Ctx}
use Rattle.sponsor_rules.specs.declared.context.Sponsorship.{Sponsorship}
use Rattle.std.proofs.Common.{subst}
use Rattle.std.specs.List.{remove}
use Rattle.std.specs.Prelude.{Err, List, Ok, Option, Result, Some, [], ℕ, ◌++◌, ◌∷◌, ◌≡◌}
use Rattle.sponsor_rules.proofs.Changes.{HoldsIf, HoldsIfSome}
use Rattle.sponsor_rules.proofs.Entries.{Invariant}
use Rattle.op_form.proofs.Steps.{Answering, Ends, IsBare}
use Rattle.op_types.specs.declared.operation_result.OperationResult.TheVariants.{Inner}

pub record Logic : Type 1 where
  pub inv : Invariant
  pub answers : Answering
  pub Context : Ctx → Type 0
  pub sponsor : (ctx : Ctx) (id : AccountId) → Context ctx → inv.of.Sponsor (open_sponsor ctx id)
  pub extension : (ctx : Ctx) → Context ctx → inv.of.Extension (new_extension_v3 ctx)
  -- sponsorships that are opened and closed, and ids that are drawn
  pub opened : (ctx : Ctx) (one : Sponsorship) → inv.of.Sponsor (Some one.sponsor) → Context ctx
      → Context (record ctx { sponsorships = ctx.sponsorships ++ one ∷ [] })
  pub closed : (ctx : Ctx) (index : ℕ) → Context ctx
      → Context (record ctx { sponsorships = remove ctx.sponsorships index })
  pub drawn : (ctx : Ctx) (id_pool : ℕ) → Context ctx → Context (record ctx { id_pool = id_pool })

-- what holds before an operation
pub record Before (w : Logic) (ctx : Ctx) (m : EntryMap) : Type 0 where
  pub entries : w.inv.Holds m
  pub context : w.Context ctx

-- and after it
pub record Left (w : Logic) (done : Done) : Type 0 where
  pub entries : w.inv.Holds done.entries
  pub context : w.Context done.ctx
  pub answer : w.answers.Answer done.result

-- what succeeds
abbrev pub succeeded : Ctx → OperationResult → EntryMap → List Move → Done
succeeded ctx result m moves = record { result = result; entries = m; ctx = ctx; moves = moves }

pub left : {w : Logic} {ctx : Ctx} {m new : EntryMap} {moves : List Move} (of : OperationResultTr) → IsBare of
    → Before w ctx m → w.inv.Holds new → Left w (succeeded ctx (Inner of) new moves)
left {w = w} of bare before holds =
    record { entries = holds; context = before.context; answer = w.answers.bare of bare }

abbrev pub Leaves : Logic → Attempt → Type 0
Leaves w attempt = Ends w.answers (Left w) attempt

-- the map that a step makes, and the one that it finds
pub made_holds : {F : Type 0} (v : Invariant) (made : Result EntryMap F) (m : EntryMap) → made ≡ Ok m → HoldsIf v made
    → v.Holds m
made_holds v made m is holds = (subst (HoldsIf v) is holds).holds

pub found_holds : (v : Invariant) (found : Option EntryMap) (m : EntryMap) → found ≡ Some m → HoldsIfSome v found
    → v.Holds m
found_holds v found m is holds = (subst (HoldsIfSome v) is holds).holds

-- an operation that fails leaves what it began with
pub done_left : (w : Logic) (ctx : Ctx) (m : EntryMap) (attempt : Attempt) → Before w ctx m → Leaves w attempt
    → Left w (done_of ctx m attempt)
done_left w ctx m (Ok done) was leaves = leaves.ends
done_left w ctx m (Err found) was leaves =
    record { entries = was.entries; context = was.context; answer = leaves.ends }

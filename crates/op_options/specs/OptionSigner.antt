-- The signer of SET_OPTIONS: added, given another weight, or removed (SetOptionsOpFrame in stellar-core).
use Rattle.std.specs.Prelude.{ℕ, ◌∷◌, [], nat_eq, nat_le, length, slice_set, Option, Some, None, Result, Ok}
use Rattle.std.specs.Prelude.{if◌then◌else◌}
use Rattle.ledger_types.specs.declared.signer.Signer.{Signer}
use Rattle.ledger_types.specs.declared.account.AccountEntry.{AccountEntry}
use Rattle.op_types.specs.declared.account_results.SetOptionsResult.TheVariants as set
use Rattle.op_types.specs.declared.operation_result.OperationResult.{OperationResult}
use Rattle.entry_map.specs.EntryMap.{EntryMap}
use Rattle.entry_slots.specs.Accounts.{with_account}
use Rattle.entry_slots.specs.Tests.{Tests}
use Rattle.sponsor_rules.specs.declared.context.Ctx.{Ctx}
use Rattle.sponsor_rules.specs.declared.signer_index.FoundSigner.{FoundSigner}
use Rattle.sponsor_rules.specs.SignerIndex.{found_signer}
use Rattle.sponsor_rules.specs.Signers.{map_after_adding_signer, map_after_removing_signer}
use Rattle.op_form.specs.Steps.{unless_refused, after_charge}
use Rattle.op_options.specs.OptionTests.{answer}

-- an account whose signer at an index is this one, with a weight of its own
abbrev pub with_signer_set : ℕ → Signer → AccountEntry → AccountEntry
with_signer_set index signer account = record account { signers = slice_set account.signers index signer }

-- an account has 20 signers at most
abbrev pub count_tests : AccountEntry → Tests OperationResult
count_tests account = (nat_le 20 (length account.signers), answer set.TooManySigners) ∷ []

-- a new signer is added
abbrev pub map_after_new_signer : Ctx → Signer → AccountEntry → EntryMap → Result EntryMap OperationResult
map_after_new_signer ctx signer account m =
    unless_refused (count_tests account)
    (after_charge (map_after_adding_signer ctx ctx.op_source signer m) (answer set.LowReserve) (λ signed. Ok signed))

-- a signer that is there gets its weight
abbrev pub map_after_weighing : Ctx → Signer → AccountEntry → EntryMap → Option FoundSigner
    → Result EntryMap OperationResult
map_after_weighing ctx signer account m None = map_after_new_signer ctx signer account m
map_after_weighing ctx signer account m (Some found) =
    Ok (with_account m ctx.op_source (with_signer_set found.index signer))

-- a signer of weight 0 is removed, where it is there
abbrev pub map_after_signer : Ctx → AccountEntry → EntryMap → Option Signer → Result EntryMap OperationResult
map_after_signer ctx account m None = Ok m
map_after_signer ctx account m (Some signer) =
    if nat_eq signer.weight 0 then Ok (map_after_removing_signer ctx.op_source signer.key m)
    else map_after_weighing ctx signer account m (found_signer signer.key (Some account))

-- SET_OPTIONS (SetOptionsOpFrame in stellar-core).
use Rattle.std.specs.Prelude.{ℕ, ◌∷◌, [], List, slice_index, unwrap_or, Option, Some, None}
use Rattle.ledger_types.specs.declared.account.AccountEntry.{AccountEntry}
use Rattle.op_types.specs.declared.account_ops.SetOptionsOp.{SetOptionsOp}
use Rattle.op_types.specs.declared.account_results.SetOptionsResult.TheVariants as set
use Rattle.op_types.specs.declared.operation_result.OperationResult.TheVariants.{NoAccount}
use Rattle.entry_map.specs.EntryMap.{EntryMap}
use Rattle.entry_slots.specs.Accounts.{account_at, with_account}
use Rattle.sponsor_rules.specs.declared.context.Ctx.{Ctx}
use Rattle.op_form.specs.Done.{Attempt}
use Rattle.op_form.specs.Steps.{unless_refused, after, after_some, success}
use Rattle.op_options.specs.OptionSigner.{map_after_signer}
use Rattle.op_options.specs.OptionTests.{answer, given_tests, inflation_tests, new_flags, source_tests}

-- ---- the account

-- what is given, or else what was
abbrev pub given_or : {A : Type 0} → Option A → Option A → Option A
given_or None was = was
given_or (Some given) was = Some given

-- the weight of the account's own key and the three thresholds
abbrev pub new_thresholds : SetOptionsOp → List ℕ → List ℕ
new_thresholds set_op was =
    unwrap_or set_op.master_weight (slice_index was 0)
    ∷ unwrap_or set_op.low_threshold (slice_index was 1)
    ∷ unwrap_or set_op.med_threshold (slice_index was 2)
    ∷ unwrap_or set_op.high_threshold (slice_index was 3)
    ∷ []

-- an account with all that is given but the signer
abbrev pub with_options : SetOptionsOp → AccountEntry → AccountEntry
with_options set_op account =
    record account {
      inflation_dest = given_or set_op.inflation_dest account.inflation_dest;
      flags = new_flags set_op account.flags;
      home_domain = unwrap_or set_op.home_domain account.home_domain;
      thresholds = new_thresholds set_op account.thresholds;
    }

-- ---- the operation

-- the signer first, since it may fail, and then the rest
abbrev pub options_set : Ctx → SetOptionsOp → AccountEntry → EntryMap → Attempt
options_set ctx set_op account m =
    after (map_after_signer ctx account m set_op.signer)
    (λ signed. success ctx (answer set.Success) (with_account signed ctx.op_source (with_options set_op)) [])

abbrev pub options_of : Ctx → SetOptionsOp → EntryMap → Option AccountEntry → Attempt
options_of ctx set_op m source =
    after_some source NoAccount
    (λ account. unless_refused (source_tests set_op account) (options_set ctx set_op account m))

abbrev pub set_options : Ctx → SetOptionsOp → EntryMap → Attempt
set_options ctx set_op m =
    unless_refused (given_tests ctx set_op)
    (unless_refused (inflation_tests set_op m) (options_of ctx set_op m (account_at m ctx.op_source)))

-- SET_OPTIONS and MANAGE_DATA, step by step.
use Rattle.entry_map.specs.EntryMap.{EntryMap}
use Rattle.entry_slots.specs.Accounts.{account_at, with_account}
use Rattle.entry_slots.specs.DataEntries.{data_at, with_data}
use Rattle.ledger_types.specs.declared.account.AccountEntry.{AccountEntry}
use Rattle.ledger_types.specs.declared.data_entry.DataEntry.{DataEntry}
use Rattle.ledger_types.specs.declared.signer.Signer.{Signer}
use Rattle.op_form.specs.Done.{Done}
use Rattle.op_types.specs.declared.account_ops.ManageDataOp.{ManageDataOp}
use Rattle.op_types.specs.declared.account_ops.SetOptionsOp.{SetOptionsOp}
use Rattle.op_types.specs.declared.account_results.ManageDataResult.{ManageDataResult}
use Rattle.op_types.specs.declared.account_results.SetOptionsResult.{SetOptionsResult}
use Rattle.sponsor_rules.specs.Adding.{map_after_adding}
use Rattle.sponsor_rules.specs.Removing.{map_after_removing}
use Rattle.sponsor_rules.specs.SignerIndex.{found_signer}
use Rattle.sponsor_rules.specs.Signers.{map_after_adding_signer, map_after_removing_signer}
use Rattle.sponsor_rules.specs.declared.context.Ctx.{Ctx}
use Rattle.sponsor_rules.specs.declared.signer_index.FoundSigner.{FoundSigner}
use Rattle.std.proofs.Common.{refl}
use Rattle.std.proofs.lemmas.Bool.{not-false}
use Rattle.std.specs.Prelude.{List, None, Ok, Option, Some, [], false, is_some, nat_eq, not, true, ℕ, ◌∷◌, ◌≡◌}
use Rattle.sponsor_rules.proofs.Changes.{account_changed, data_changed}
use Rattle.sponsor_rules.proofs.Charges.{adding_signer, adding_subentry, removing_holds, removing_signer}
use Rattle.sponsor_rules.proofs.Entries.{Fits}
use Rattle.op_form.proofs.Steps.{AllPass, Answering, Ends, done_so, either_ends, past, past_charge, past_part}
use Rattle.op_form.proofs.Steps.{past_some}
use Rattle.op_form.proofs.Walks.{Before, Leaves, Left, Logic, left, made_holds, succeeded}
use Rattle.ledger_types.specs.declared.key.LedgerKey.TheVariants as key
use Rattle.op_options.specs.ManageData as managing
use Rattle.op_options.specs.OptionSigner as signers
use Rattle.op_options.specs.OptionTests as tests
use Rattle.op_options.specs.SetOptions as options
use Rattle.op_types.specs.declared.account_results.ManageDataResult.TheVariants as manage
use Rattle.op_types.specs.declared.account_results.SetOptionsResult.TheVariants as set
use Rattle.op_types.specs.declared.operation_result.OperationResult.TheVariants.{NoAccount}
use Rattle.op_types.specs.declared.operation_result.OperationResultTr.TheVariants as tr

-- ---- SET_OPTIONS

module _ (x : Answering) where
  code : (c : SetOptionsResult) → x.Answer (tests.answer c)
  code c = x.bare (tr.SetOptions c) tt

-- what holds of the entries once the signer is added, weighed or removed, if one is given
pub record SignerSuccesses (P : EntryMap → Type 0) (ctx : Ctx) (m : EntryMap) (o : Option Signer) : Type 0 where
  pub same : P m
  pub removed : (one : Signer) → o ≡ Some one → P (map_after_removing_signer ctx.op_source one.key m)
  pub added : (one : Signer) (new : EntryMap) → o ≡ Some one → map_after_adding_signer ctx ctx.op_source one m ≡ Ok new
      → P new
  pub weighed : (one : Signer) (index : ℕ) → o ≡ Some one
      → P (with_account m ctx.op_source (signers.with_signer_set index one))

module _ (x : Answering) (P : EntryMap → Type 0) (ctx : Ctx) (m : EntryMap) (account : AccountEntry) where
  by_found : (one : Signer) (o : Option FoundSigner) → SignerSuccesses P ctx m (Some one)
      → Ends x P (signers.map_after_weighing ctx one account m o)
  by_found one None done =
      past (signers.count_tests account) _ (code x set.TooManySigners, tt)
      (λ few. past_charge (map_after_adding_signer ctx ctx.op_source one m) (tests.answer set.LowReserve) _
      (code x set.LowReserve) (λ new is. record { ends = done.added one new refl is }))
  by_found one (Some found) done = record { ends = done.weighed one found.index refl }

  signer_steps : (o : Option Signer) → SignerSuccesses P ctx m o → Ends x P (signers.map_after_signer ctx account m o)
  signer_steps None done = record { ends = done.same }
  signer_steps (Some one) done =
      let found = found_signer one.key (Some account) in
      either_ends (nat_eq one.weight 0) (Ok (map_after_removing_signer ctx.op_source one.key m))
      (signers.map_after_weighing ctx one account m found) (λ none. record { ends = done.removed one refl })
      (λ some. by_found one found done)

pub options_steps : (x : Answering) (Q : Done → Type 0) (ctx : Ctx) (op : SetOptionsOp) (m : EntryMap)
    → ((account : AccountEntry) (signed : EntryMap) → AllPass (tests.given_tests ctx op)
    → account_at m ctx.op_source ≡ Some account → AllPass (tests.source_tests op account)
    → signers.map_after_signer ctx account m op.signer ≡ Ok signed
    → Q (succeeded ctx (tests.answer set.Success) (with_account signed ctx.op_source (options.with_options op)) []))
    → Ends x Q (options.set_options ctx op m)
options_steps x Q ctx op m done =
    past (tests.given_tests ctx op) _ (
      code x set.UnknownFlag,
      (
        code x set.BadFlags,
        (code x set.ThresholdOutOfRange, (code x set.BadSigner, (code x set.InvalidHomeDomain, tt))),
      ),
    )
    (λ given. past (tests.inflation_tests op m) (options.options_of ctx op m (account_at m ctx.op_source))
    (code x set.InvalidInflation, tt)
    (λ paid. past_some (account_at m ctx.op_source) NoAccount _ x.no_account
    (λ account there. past (tests.source_tests op account) (options.options_set ctx op account m)
    (code x set.CantChange, (code x set.AuthRevocableRequired, tt))
    (λ may. past_part (λ now. Unit {0}) (signers.map_after_signer ctx account m op.signer) _
    (signer_steps x (λ now. Unit {0}) ctx m account op.signer (record {
      same = tt;
      removed = λ one is. tt;
      added = λ one new is made. tt;
      weighed = λ one index is. tt;
    }))
    (λ signed is nothing. record { ends = done account signed given there may is })))))

pub options_set : (w : Logic) (ctx : Ctx) (op : SetOptionsOp) (m : EntryMap) → Before w ctx m
    → (tests.is_bad_signer ctx op.signer ≡ false → (one : Signer) → op.signer ≡ Some one → w.inv.of.Key one.key)
    → (tests.is_out_of_range op ≡ false → (a : AccountEntry) → w.inv.of.Account a
    → w.inv.of.Account (options.with_options op a))
    → Leaves w (options.set_options ctx op m)
options_set w ctx op m before key keep =
    options_steps w.answers (Left w) ctx op m (λ account signed given there may is.
    left (tr.SetOptions set.Success) tt before
    (account_changed w.inv (options.with_options op) (keep given.1.1.0) signed
    ctx.op_source (done_so w.answers w.inv.Holds (signers.map_after_signer ctx account m op.signer) signed
    (signer_steps w.answers w.inv.Holds ctx m account op.signer (record {
      same = before.entries;
      removed = λ one is. removing_signer w.inv ctx.op_source one.key m before.entries;
      added = λ one new is made. made_holds w.inv _ new made (adding_signer w.inv ctx ctx.op_source one m
          (key given.1.1.1.0 one is) (w.sponsor ctx ctx.op_source before.context) before.entries);
      weighed = λ one index is. account_changed w.inv (signers.with_signer_set index one)
          (λ a fits. w.inv.weighed index one (key given.1.1.1.0 one is) a fits) m ctx.op_source before.entries;
    })) is)))

-- ---- MANAGE_DATA

-- what holds of what MANAGE_DATA leaves
pub record DataSuccesses (Q : Done → Type 0) (ctx : Ctx) (op : ManageDataOp) (m : EntryMap) : Type 0 where
  pub removed : AllPass (managing.name_tests op.data_name) → op.data_value ≡ None
      → is_some (data_at m ctx.op_source op.data_name) ≡ true
      → Q (succeeded ctx (managing.answer manage.Success)
      (map_after_removing (key.Data ctx.op_source op.data_name) m) [])
  pub added : (value : List ℕ) (new : EntryMap) → AllPass (managing.name_tests op.data_name)
      → op.data_value ≡ Some value → data_at m ctx.op_source op.data_name ≡ None
      → map_after_adding ctx ctx.op_source (managing.new_data ctx op.data_name value) m ≡ Ok new
      → Q (succeeded ctx (managing.answer manage.Success) new [])
  pub changed : (value : List ℕ) (was : DataEntry) → AllPass (managing.name_tests op.data_name)
      → op.data_value ≡ Some value → data_at m ctx.op_source op.data_name ≡ Some was
      → Q (succeeded ctx (managing.answer manage.Success)
      (with_data m ctx.op_source op.data_name (managing.with_value value)) [])

module _ (x : Answering) (Q : Done → Type 0) (ctx : Ctx) (op : ManageDataOp) (m : EntryMap)
    (done : DataSuccesses Q ctx op m) where
  data_code : (c : ManageDataResult) → x.Answer (managing.answer c)
  data_code c = x.bare (tr.ManageData c) tt

  by_was : AllPass (managing.name_tests op.data_name) → (value : List ℕ) → op.data_value ≡ Some value
      → (o : Option DataEntry) → data_at m ctx.op_source op.data_name ≡ o
      → Ends x Q (managing.valued ctx op.data_name value m o)
  by_was pass value given None is =
      past_charge (map_after_adding ctx ctx.op_source (managing.new_data ctx op.data_name value) m)
      (managing.answer manage.LowReserve) _ (data_code manage.LowReserve)
      (λ new made. record { ends = done.added value new pass given is made })
  by_was pass value given (Some was) is = record { ends = done.changed value was pass given is }

  by_value : AllPass (managing.name_tests op.data_name) → (o : Option (List ℕ)) → op.data_value ≡ o
      → Ends x Q (managing.managed ctx op.data_name m o)
  by_value pass None none =
      past ((not (is_some (data_at m ctx.op_source op.data_name)), managing.answer manage.NameNotFound) ∷ []) _
      (data_code manage.NameNotFound, tt)
      (λ there. record {
        ends = done.removed pass none (not-false (is_some (data_at m ctx.op_source op.data_name)) there.0);
      })
  by_value pass (Some value) given = by_was pass value given (data_at m ctx.op_source op.data_name) refl

  pub data_steps : Ends x Q (managing.manage_data ctx op m)
  data_steps =
      past (managing.name_tests op.data_name) (managing.managed ctx op.data_name m op.data_value)
      (data_code manage.InvalidName, tt) (λ pass. by_value pass op.data_value refl)

pub data_managed : (w : Logic) (ctx : Ctx) (op : ManageDataOp) (m : EntryMap) → Before w ctx m
    → ((value : List ℕ) → op.data_value ≡ Some value → Fits w.inv.of (managing.new_data ctx op.data_name value)
    × ((d : DataEntry) → w.inv.of.Data d → w.inv.of.Data (managing.with_value value d)))
    → Leaves w (managing.manage_data ctx op m)
data_managed w ctx op m before fits =
    data_steps w.answers (Left w) ctx op m (record {
      removed = λ pass none there. left (tr.ManageData manage.Success) tt before
          (removing_holds w.inv (key.Data ctx.op_source op.data_name) m (w.inv.others _ tt) before.entries);
      added = λ value new pass given is made. left (tr.ManageData manage.Success) tt before
          (made_holds w.inv _ new made (adding_subentry w.inv ctx ctx.op_source
          (managing.new_data ctx op.data_name value) 1 m (fits value given).0
          (w.sponsor ctx ctx.op_source before.context)
          before.entries));
      changed = λ value was pass given is. left (tr.ManageData manage.Success) tt before
          (data_changed w.inv (managing.with_value value) (fits value given).1 m ctx.op_source op.data_name
          before.entries);
    })

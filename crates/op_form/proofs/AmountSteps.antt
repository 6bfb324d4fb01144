-- Amounts that are given and taken, in a map of which an invariant holds.
use Rattle.entry_map.specs.EntryMap.{EntryMap}
use Rattle.entry_slots.specs.Accounts.{account_at}
use Rattle.entry_slots.specs.Lines.{line_at}
use Rattle.ledger_types.proofs.Booleans.{if_either}
use Rattle.ledger_types.specs.declared.account.AccountEntry.{AccountEntry}
use Rattle.ledger_types.specs.declared.asset.Asset.{Asset}
use Rattle.ledger_types.specs.declared.asset.TrustLineAsset.{TrustLineAsset}
use Rattle.ledger_types.specs.declared.ids.AccountId.{AccountId}
use Rattle.ledger_types.specs.declared.trust_line.TrustLineEntry.{TrustLineEntry}
use Rattle.op_form.specs.Assets.{is_issued_by, line_asset_of}
use Rattle.sponsor_rules.specs.declared.context.Ctx.{Ctx}
use Rattle.std.proofs.Common.{refl}
use Rattle.std.specs.Option.{ok_or}
use Rattle.std.specs.Prelude.{None, Ok, Option, Some, ℤ}
use Rattle.sponsor_rules.proofs.Changes.{HoldsIf, HoldsIfSome, account_changed, line_changed, some_unless, unless_holds}
use Rattle.sponsor_rules.proofs.Entries.{Invariant}
use Rattle.ledger_types.specs.declared.asset.Asset.TheVariants as asset
use Rattle.op_form.specs.Amounts as amounts
use Rattle.op_form.specs.Lumens as lumens

module _ (v : Invariant) where
  -- ---- lumens

  lumens_given : (ctx : Ctx) (id : AccountId) (n : ℤ) (m : EntryMap) (o : Option AccountEntry) → v.Holds m
      → HoldsIfSome v (lumens.map_after_lumens_debit_of ctx id n m o)
  lumens_given ctx id n m None holds = record { holds = tt }
  lumens_given ctx id n m (Some a) holds =
      some_unless v _ _ (account_changed v (lumens.with_less_lumens n) (λ a. v.numbered _ _ a) m id holds)

  pub lumens_debit_holds : (ctx : Ctx) (id : AccountId) (n : ℤ) (m : EntryMap) → v.Holds m
      → HoldsIfSome v (lumens.map_after_lumens_debit ctx id n m)
  lumens_debit_holds ctx id n m holds = lumens_given ctx id n m (account_at m id) holds

  lumens_taken : (id : AccountId) (n : ℤ) (m : EntryMap) (o : Option AccountEntry) → v.Holds m
      → HoldsIfSome v (lumens.map_after_lumens_credit_of id n m o)
  lumens_taken id n m None holds = record { holds = tt }
  lumens_taken id n m (Some a) holds =
      some_unless v _ _ (account_changed v (lumens.with_more_lumens n) (λ a. v.numbered _ _ a) m id holds)

  pub lumens_credit_holds : (id : AccountId) (n : ℤ) (m : EntryMap) → v.Holds m
      → HoldsIfSome v (lumens.map_after_lumens_credit id n m)
  lumens_credit_holds id n m holds = lumens_taken id n m (account_at m id) holds

  -- ---- any asset

  found_holds : {F : Type 0} (found : Option EntryMap) (fault : F) → HoldsIfSome v found → HoldsIf v (ok_or found fault)
  found_holds None fault found = record { holds = tt }
  found_holds (Some m) fault found = record { holds = found.holds }

  module _ (id : AccountId) (n : ℤ) (m : EntryMap) (holds : v.Holds m) where
    line_taken : (held : TrustLineAsset) (o : Option TrustLineEntry)
        → HoldsIf v (amounts.map_after_line_credit_of id held n m o)
    line_taken held None = record { holds = tt }
    line_taken held (Some t) =
        unless_holds v _ _ (line_changed v (amounts.with_more n)
        (λ t fits. v.same_line t _ refl refl fits) m id held holds)

    line_given : (held : TrustLineAsset) (o : Option TrustLineEntry)
        → HoldsIf v (amounts.map_after_line_debit_of id held n m o)
    line_given held None = record { holds = tt }
    line_given held (Some t) =
        unless_holds v _ _ (line_changed v (amounts.with_less n)
        (λ t fits. v.same_line t _ refl refl fits) m id held holds)

    issued_taken : (held : Asset) → HoldsIf v (amounts.map_after_issued_credit id held n m)
    issued_taken held =
        let index = line_asset_of held in
        if_either (HoldsIf v) (is_issued_by held id) (Ok m) (amounts.map_after_line_credit id index n m)
        (record { holds = holds }) (line_taken index (line_at m id index))

    issued_given : (held : Asset) → HoldsIf v (amounts.map_after_issued_debit id held n m)
    issued_given held =
        let index = line_asset_of held in
        if_either (HoldsIf v) (is_issued_by held id) (Ok m) (amounts.map_after_line_debit id index n m)
        (record { holds = holds }) (line_given index (line_at m id index))

    pub credit_holds : (held : Asset) → HoldsIf v (amounts.map_after_credit id held n m)
    credit_holds asset.Native = found_holds _ _ (lumens_credit_holds id n m holds)
    credit_holds (asset.Alphanum4 code issuer) = issued_taken (asset.Alphanum4 code issuer)
    credit_holds (asset.Alphanum12 code issuer) = issued_taken (asset.Alphanum12 code issuer)

    pub debit_holds : (ctx : Ctx) (held : Asset) → HoldsIf v (amounts.map_after_debit ctx id held n m)
    debit_holds ctx asset.Native = found_holds _ _ (lumens_debit_holds ctx id n m holds)
    debit_holds ctx (asset.Alphanum4 code issuer) = issued_given (asset.Alphanum4 code issuer)
    debit_holds ctx (asset.Alphanum12 code issuer) = issued_given (asset.Alphanum12 code issuer)

use Rattle.std.proofs.Common.{◌≡◌, ◌∙◌, sym, ap, subst, Option, Some, IfSome}
use Rattle.std.proofs.lemmas.Result.{on_ok_weaker}
use Rattle.entry_map.specs.Undo.{with_current}
use Rattle.entry_slots.specs.declared.accounts.AccountSlot.{AccountSlot}
use Rattle.entry_slots.specs.Accounts.{account_of_slot}
use Rattle.sponsor_rules.specs.Keeping.{IsLoaded}
use Rattle.sponsor_rules.proofs.AccountMaps.{stored_as}
use Rattle.op_options.specs.SetOptions.{with_options}
use Rattle.op_options.proofs.set_options.change_account.Goals as goal

pub returns : goal.returns
returns g c =
    let m = c.args.entries.now.current in
    let id = c.args.id.now in
    let slot = c.in-Some.slot in
    let named : slot.account.account_id ≡ id =
    subst (λ (o : Option AccountSlot). IfSome o (λ s. s.account.account_id ≡ id)) c.in-Some.is
    c.in_ok-slot.ensures.keyed in
    let loaded : IsLoaded m id (Some slot) = record {
      slot_is = sym c.in-Some.is ∙ c.in_ok-slot.ensures.slot;
      account_is = c.in_ok-slot.ensures.account ∙ ap account_of_slot c.in-Some.is;
      named = λ s same.
          let equal : slot ≡ s = cc in
          subst (λ (x : AccountSlot). x.account.account_id ≡ id) equal named;
    } in
    on_ok_weaker c.store_account.result
    (λ is. is ∙ ap (with_current c.args.entries.now)
    (stored_as m id (with_options c.args.op.now) slot c.set_on.new.account loaded c.in_ok-set_on.ensures))
    c.store_account.ensures

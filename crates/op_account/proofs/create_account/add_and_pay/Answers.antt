use Rattle.std.proofs.Common.{◌≡◌, ◌≢◌, ap, subst, sym, Some}
use Rattle.ledger_types.specs.Keys.{key_of}
use Rattle.entry_map.specs.EntryMap.{EntryMap}
use Rattle.entry_map.specs.Undo.{Undo}
use Rattle.entry_slots.specs.Accounts.{account_at}
use Rattle.ledger_types.specs.declared.key.LedgerKey.TheVariants as key
use Rattle.sponsor_rules.proofs.Ids.{apart_accounts}
use Rattle.op_form.proofs.Ranges.{range_kept}
use Rattle.op_account.proofs.create_account.add_and_pay.Goals as goal

pub add_entry-requires : goal.add_entry-requires
add_entry-requires g c = c.new_entry.ensures.ready c.child.new.self.current

pub debit_lumens-requires-clause-range : goal.debit_lumens-requires-clause-range
debit_lumens-requires-clause-range g c =
    let id = c.args.ctx.now.op_source in
    let was = c.requires.source.0 in
    let same_map : c.args.entries.now.current ≡ c.child.new.self.current =
    ap (λ (u : Undo). u.current) (sym c.in_ok-child.ensures) in
    let exists : account_at c.child.new.self.current id ≡ Some was =
    subst (λ (m : EntryMap). account_at m id ≡ Some was) same_map c.requires.source.1 in
    let named : key_of c.new_entry.result ≡ key.Account c.args.op.now.destination =
    ap key_of c.new_entry.ensures.value in
    let apart : c.args.op.now.destination ≢ id = apart_accounts c.args.op.now.destination id c.requires.apart in
    range_kept _ id was (c.in-Ok.ensures.core.kept id was (λ same. apart (cc (same, named))) exists)
    (c.requires.in_range.in_range id was c.requires.source.1)

use Rattle.probe.proofs.Prelude.{◌≡◌, true, rules, sym, subst, put, IsReadyLedger}
use Rattle.entry_map.specs.Undo.{Undo, with_current}
use Rattle.op_form.proofs.Balances.{balances_put}
use Rattle.op_form.proofs.Premises.{ready_with}
use Rattle.probe.proofs.Amounts.{amounts_put}
use Rattle.probe.proofs.Plain.{plain_put}
use Rattle.probe.proofs.ready.put.Goals as goal

pub returns-in-Ok : goal.returns-in-Ok
returns-in-Ok c =
    let fine : c.is_fine.result ≡ true = search rules in
    let plain = c.are_still_plain-plain.ensures in
    let is : c.put.new.self ≡ with_current c.args.entries.now (put c.args.entries.now.current c.args.entry) =
    search rules in
    subst (λ (u : Undo). IsReadyLedger c.are_still_plain-plain.result u.current) (sym is) (record {
      ready = ready_with c.args.entries.now.current c.args.entry (c.is_fine.ensures.ready fine) c.requires.ready;
      in_range = balances_put c.args.entries.now.current c.args.entry (record {
        account = c.is_fine.ensures.range fine;
        line = c.is_fine.ensures.lines fine;
      }) c.requires.in_range;
      amounts = amounts_put c.args.entries.now.current c.args.entry (c.is_fine.ensures.amounts fine) c.requires.amounts;
      plain = λ so. plain_put c.args.entries.now.current c.args.entry (plain.entry so)
          (c.requires.plain (plain.before so));
    })

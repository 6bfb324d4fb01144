use Rattle.tx_apply.proofs.Prelude.{ℕ, ◌*◌, List, All, length, sym, subst, rules, transaction_envelope}
use Rattle.tx_apply.proofs.Prelude.{envelopes_within, CanDraw, setting_of}
use Rattle.tx_apply.proofs.Drawing.{ids_of_set}
use Rattle.tx_apply.proofs.Conserving.{set_conserved, set_lawful}
use Rattle.tx_apply.proofs.EachConserved.{each_conserved}
use Rattle.fee_rules.proofs.Ordered.{indices_exist}
use Rattle.tx_apply.proofs.set.apply_set_in_order.Goals as goal

pub all_numbers_fit-requires : goal.all_numbers_fit-requires
all_numbers_fit-requires g c =
    subst (λ xs. All (λ envelope. transaction_envelope.within envelope) xs) (sym c.as_slice-envelopes.ensures)
    (envelopes_within c.args.set.now c.requires.within)

pub missing_among-requires : goal.missing_among-requires
missing_among-requires g c =
    let exist = indices_exist c.args.set.now in
    let order = c.requires.order in
    search (rules, exist, order)

pub apply_in_order-requires-clause-indices : goal.apply_in_order-requires-clause-indices
apply_in_order-requires-clause-indices g c =
    let exist = indices_exist c.args.set.now in
    let order = c.requires.order in
    search (rules, exist, order)

pub apply_in_order-requires-clause-ids : goal.apply_in_order-requires-clause-ids
apply_in_order-requires-clause-ids g c =
    subst (λ (order : List ℕ). CanDraw (100 * length order) c.args.setting.now.header.now.id_pool)
    (sym c.requires.order)
    (ids_of_set c.args.setting.now.header.now c.args.entries.now.current c.args.set.now c.requires.legal c.requires.seq
    c.requires.few)

pub returns-clause-conserved : goal.returns-clause-conserved
returns-clause-conserved g c =
    set_conserved c.transaction_laws.ensures c.legal_settles.ensures
    (setting_of c.args.setting.now) c.args.set.now c.args.entries.now.current
    (record { legal = c.requires.legal; seq = c.requires.seq; fit = search rules })

pub returns-clause-each : goal.returns-clause-each
returns-clause-each g c =
    each_conserved c.transaction_laws.ensures c.legal_settles.ensures
    (setting_of c.args.setting.now) c.args.set.now c.args.entries.now.current
    (record { legal = c.requires.legal; seq = c.requires.seq; fit = search rules })

pub returns-clause-lawful : goal.returns-clause-lawful
returns-clause-lawful g c =
    set_lawful c.transaction_laws.ensures c.legal_settles.ensures
    (setting_of c.args.setting.now) c.args.set.now c.args.entries.now.current
    (record { legal = c.requires.legal; seq = c.requires.seq; fit = search rules })

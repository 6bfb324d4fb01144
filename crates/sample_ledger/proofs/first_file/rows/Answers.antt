use Rattle.sample_ledger.proofs.Prelude.{◌≡◌, ℕ, ◌-◌, ◌<◌, Some, map, ap, sym, subst, ◌∙◌, arith, entries, AccountId}
use Rattle.sample_ledger.proofs.Prelude.{LedgerEntry, account_cmp, changed, account_id, ledger_entry, changes_of}
use Rattle.sample_ledger.proofs.Prelude.{as_change, AreEncodable}
use Rattle.sample_ledger.proofs.Entries.{item_encodable}
use Rattle.sample_ledger.proofs.Rows.{changes_rise, next_row, encodable_more, no_changes}
use Rattle.sample_ledger.proofs.first_file.rows.Goals as goal

pub loop-done-init : goal.loop-done-init
loop-done-init c = record {
  rows = ap (map as_change) c.empty-rows.ensures ∙ sym (no_changes c.args.accounts.now 9);
  encodable = subst AreEncodable (sym c.empty-rows.ensures) tt;
}

pub put-requires : goal.put-requires
put-requires c =
    changes_rise c.args.accounts.now (9 - c.loop-done.done) c.loop-done.done c.loop-done.rows c.loop-done.invariant.rows

pub loop-done-preserved : goal.loop-done-preserved
loop-done-preserved c =
    let seed = c.args.accounts.now in
    let row = c.loop-done.rows in
    let account = 9 - 1 - c.loop-done.done in
    let below : account < 9 = omega arith in
    let is : c.in_ok-rows.rows ≡ changed account_cmp (account_id seed account) (Some (ledger_entry seed account)) row =
    c.in_ok-rows.ensures
    ∙ ap (λ (kept : AccountId × LedgerEntry). changed account_cmp kept.0 (Some kept.1) row) c.in_ok-kept.ensures
    ∙ (λ i. changed account_cmp (c.id.ensures i) (Some (c.in_ok-entry.ensures i)) row) in
    record {
      rows = next_row seed c.loop-done.done row c.in_ok-rows.rows c.loop-done-test.true c.loop-done.invariant.rows is;
      encodable = subst AreEncodable (sym is)
          (encodable_more (account_id seed account) (ledger_entry seed account) row (item_encodable seed account below)
          c.loop-done.invariant.encodable);
    }

pub returns-clause-rows : goal.returns-clause-rows
returns-clause-rows c =
    let last : c.loop-done.done ≡ 9 = omega arith in
    c.loop-done.invariant.rows ∙ ap (λ (n : ℕ). entries (changes_of c.args.accounts.now (9 - n) n)) last

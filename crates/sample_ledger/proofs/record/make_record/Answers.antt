use Rattle.sample_ledger.proofs.Prelude.{ℕ, List, ◌+◌, ◌*◌, None, ap, sym, subst, ◌∙◌, Hash, transaction_set}
use Rattle.sample_ledger.proofs.Prelude.{close_record, hash_of_set}
use Rattle.op_types.specs.declared.transaction.TransactionSet.{TransactionSet}
use Rattle.xdr_header.specs.declared.record.CloseRecord.{CloseRecord}
use Rattle.sample_ledger.proofs.Envelopes.{set_short, record_short}
use Rattle.sample_ledger.proofs.record.make_record.Goals as goal

abbrev closing : ℕ → ℕ → TransactionSet → Hash → List (List ℕ) → CloseRecord
closing k wide set digest upgrades = record {
  ledger_seq = k + 1;
  tx_set = set;
  scp_value = record { tx_set_hash = digest; close_time = 1000 + 5 * wide; upgrades = upgrades; ext = None };
  vouches = None;
}

pub set_hash-requires : goal.set_hash-requires
set_hash-requires c =
    subst (λ (set : TransactionSet). transaction_set.within set) (sym c.in_ok-tx_set.ensures)
    (set_short c.args.seed c.args.k c.args.header.now c.ranges.seed.fits c.requires.few).within

pub returns-clause-made : goal.returns-clause-made
returns-clause-made c =
    let set = c.in_ok-tx_set.ensures in
    let digest = c.in_ok-tx_set_hash.ensures ∙ ap hash_of_set set in
    λ i. closing c.args.k (c.from.ensures i) (set i) (digest i) (c.new.ensures i)

pub returns-clause-within : goal.returns-clause-within
returns-clause-within c =
    subst (λ (made : CloseRecord). close_record.within made) (sym (returns-clause-made c))
    (record_short c.args.seed c.args.k c.args.header.now c.ranges.seed.fits c.requires.few).within

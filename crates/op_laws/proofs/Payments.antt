-- Lumens that are paid, and sequence numbers: what they leave settled.
use Rattle.op_laws.proofs.Prelude.{refl, sym, ◌∙◌, [], arith, ints, ℤ, pos, ◌≤ℤ◌, ◌<ℤ◌, Asset, with_account, total}
use Rattle.op_laws.proofs.Prelude.{held, view, nothing_owed, account_legal, view_of, FeesSettle, SeqNumsSettle}
use Rattle.op_laws.proofs.Prelude.{none_more, account_same, entries_legal, owing_of}
use Rattle.op_flags.specs.ledger_types.declared.asset.Asset.TheVariants as asset
use Rattle.op_flags.specs.entry_slots.AccountExtensions.{with_seq_num}
use Rattle.op_flags.proofs.legal_rules_proofs.Paid.{debit_legal}
use Rattle.op_flags.proofs.legal_rules_proofs.SeqNums.{seq_num_aggregates, seq_num_balance, seq_num_legal}
use Rattle.op_laws.proofs.Issued.{none_moved}
use Rattle.op_laws.proofs.Described.{described_by, describes_nothing}

-- ---- fees

pub fees_settle : FeesSettle
fees_settle id_pool m id a fee settled exists low le =
    let legal = λ (x : Asset). debit_legal (view_of x m) id_pool nothing_owed (total (held x) m) m id fee a
    (owing_of x id_pool m settled.legal) exists low le in (
      record {
        legal = entries_legal (view m) id_pool _ _ (legal asset.Native);
      },
      λ x. (legal x).supply,
    )

-- ---- sequence numbers

seq_num_low : (s n : ℤ) → pos 0 ≤ℤ s → s <ℤ n → pos 0 ≤ℤ n
seq_num_low s n low below = omega (arith, ints)

pub seq_nums_settle : SeqNumsSettle
seq_nums_settle id_pool m id a n ext settled exists more high =
    let r = (account_legal (view m) id_pool nothing_owed (total (held asset.Native) m) m id a settled.legal
    exists).range
    in
    let low = seq_num_low a.seq_num n r.seq_num more in
    let legal = λ (x : Asset). seq_num_legal (view_of x m) id_pool (total (held x) m) m id (with_seq_num n ext) a n ext
    refl (owing_of x id_pool m settled.legal) exists low (high r.greatest_seq_num) in
    record {
      settled = record {
        legal = entries_legal (view m) id_pool _ _ (legal asset.Native);
      };
      supply = λ x. (legal x).supply ∙ sym (none_moved x (total (held x) m));
      described = described_by none_more m (with_account m id (with_seq_num n ext)) []
          (account_same m settled.legal.keyed id (with_seq_num n ext) a exists (seq_num_aggregates n a ext).id
          (seq_num_balance n a ext)) describes_nothing;
    }

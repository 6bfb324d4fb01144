use Rattle.entry_table.proofs.Prelude.{refl, Batch}
use Rattle.entry_table.specs.AfterBatch.{after_batch}
use Rattle.entry_table.proofs.AfterBatch.{batch_becomes, left_keyed}
use Rattle.entry_table.proofs.Batches.{next_entries, exact_batch}
use Rattle.entry_table.proofs.Stamped.{next_index}
use Rattle.entry_table.proofs.next.stamp_batch.Goals as goal

pub returns-clause-next : goal.returns-clause-next
returns-clause-next c = λ before worked keyed b.
    let old = c.args.batch.now in
    let new : Batch = record {
      init = c.stamp_list.new.entries;
      live = c.stamp_list-2.new.entries;
      dead = old.dead;
    } in
    let becomes = batch_becomes c.args.seq before old new c.stamp_list.ensures c.stamp_list-2.ensures refl in (
      next_entries c.args.seq before worked (after_batch before new) old new keyed b c.stamp_list.ensures
          c.stamp_list-2.ensures refl becomes,
      exact_batch c.args.seq before worked (after_batch before new) old new keyed b c.stamp_list.ensures
          c.stamp_list-2.ensures refl becomes,
    )

pub returns-clause-keyed : goal.returns-clause-keyed
returns-clause-keyed c = λ before keyed. left_keyed before _ keyed

pub returns-clause-index : goal.returns-clause-index
returns-clause-index c = λ before worked offers keyed index b.
    let old = c.args.batch.now in
    let new : Batch = record {
      init = c.stamp_list.new.entries;
      live = c.stamp_list-2.new.entries;
      dead = old.dead;
    } in
    let becomes = batch_becomes c.args.seq before old new c.stamp_list.ensures c.stamp_list-2.ensures refl in
    next_index c.args.seq before worked (after_batch before new) offers index
    (next_entries c.args.seq before worked (after_batch before new) old new index.keyed b c.stamp_list.ensures
    c.stamp_list-2.ensures refl becomes) (left_keyed before new keyed)

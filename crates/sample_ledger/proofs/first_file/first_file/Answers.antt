use Rattle.sample_ledger.proofs.Prelude.{ℕ, List, ◌++◌, ap, sym, ◌∙◌, flat_map, record_of}
use Rattle.ledger_types.specs.declared.bucket.BucketEntry.TheVariants as item
use Rattle.sample_ledger.proofs.Entries.{meta_encodable}
use Rattle.sample_ledger.proofs.Rows.{init_record, file_is, has_file}
use Rattle.sample_ledger.proofs.first_file.first_file.Goals as goal

pub write_meta-requires : goal.write_meta-requires
write_meta-requires c = meta_encodable

pub returns-clause-file : goal.returns-clause-file
returns-clause-file c =
    let row = c.in_ok-rows.rows in
    c.finish.ensures ∙ c.in_ok-write_items.ensures
    ∙ ap (λ (t : List ℕ). t ++ flat_map (λ x. init_record x.1) row)
    (c.in_ok-write_meta.ensures ∙ ap (λ (t : List ℕ). t ++ record_of (item.Meta 18)) c.new-file.ensures)
    ∙ sym (file_is c.args.accounts.now row c.in_ok-rows.ensures.rows)

pub returns-clause-has : goal.returns-clause-has
returns-clause-has c =
    has_file c.args.accounts.now c.in_ok-rows.rows c.in_ok-rows.ensures.rows c.in_ok-rows.ensures.encodable

use Rattle.bucket_merge.proofs.Prelude.{◌∙◌, greater_version, changes_of, merge_of}
use Rattle.bucket_merge.proofs.Merging.{merge_has_file}
use Rattle.bucket_merge.proofs.Sides.{file_written}
use Rattle.bucket_merge.proofs.merge.merge.Goals as goal

pub of_file-requires : goal.of_file-requires
of_file-requires g c =
    let a = c.args.curr.now in
    let b = c.args.snap.now in (
      merge_of c.args.level a b,
      merge_has_file c.args.level a b c.cursor.ensures.file c.cursor-2.ensures.file,
      file_written c.args.level a b c.greater_version.result c.in_ok-file.file.items c.write_meta.new.file.items
          c.merge_sides.new.file.items c.in_ok-file.ensures.items c.in_ok-write_meta.ensures
          (c.greater_version.ensures ∙ (λ i. greater_version (c.version.ensures i) (c.version-2.ensures i)))
          (c.in_ok-merge_sides.ensures.items (changes_of a) (changes_of b)
          (c.side_of-older.ensures.items a c.cursor.ensures.file c.cursor.ensures.items)
          (c.side_of-newer.ensures.items b c.cursor-2.ensures.file c.cursor-2.ensures.items)),
    )

pub returns-clause-merge : goal.returns-clause-merge
returns-clause-merge g c =
    let a = c.args.curr.now in
    let b = c.args.snap.now in
    c.of_file.ensures (merge_of c.args.level a b)
    (merge_has_file c.args.level a b c.cursor.ensures.file c.cursor-2.ensures.file)
    (file_written c.args.level a b c.greater_version.result c.in_ok-file.file.items c.write_meta.new.file.items
    c.merge_sides.new.file.items c.in_ok-file.ensures.items c.in_ok-write_meta.ensures
    (c.greater_version.ensures ∙ (λ i. greater_version (c.version.ensures i) (c.version-2.ensures i)))
    (c.in_ok-merge_sides.ensures.items (changes_of a) (changes_of b)
    (c.side_of-older.ensures.items a c.cursor.ensures.file c.cursor.ensures.items)
    (c.side_of-newer.ensures.items b c.cursor-2.ensures.file c.cursor-2.ensures.items)))

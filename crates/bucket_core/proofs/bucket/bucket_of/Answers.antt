use Rattle.bucket_core.proofs.Prelude.{ap, ◌∙◌, file_hash}
use Rattle.std.specs.Prelude.{List, ℕ}
use Rattle.std.proofs.Common.{subst}
use Rattle.bucket_core.specs.Index.{AreOffsets, IsFilter, row_at}
use Rattle.bucket_core.proofs.bucket.bucket_of.Goals as goal

pub invariant_of-result : goal.invariant_of-result
invariant_of-result c = record {
  stated = record { file = c.requires; hashed = c.hash_of_file-hash.ensures ∙ ap file_hash c.as_slice-4.ensures.value };
  index = subst (λ (t : List ℕ). AreOffsets t c.in_ok-offsets.offsets.items) c.as_slice.ensures.value
      c.in_ok-offsets.ensures;
  filter = subst (λ (t : List ℕ). IsFilter c.in_ok-words.words.items (row_at c.args.bytes.items t))
      c.as_slice-3.ensures.value
      (subst (λ (t : List ℕ). IsFilter c.in_ok-words.words.items (row_at t c.as_slice-3.result.now))
      c.as_slice-2.ensures.value c.in_ok-words.ensures);
}

-- How long a record is.
use Rattle.archive_files.proofs.Prelude.{List, ap, length, length-append, max_record_len, wide4, ℕ, ◌+◌, ◌∙◌, ◌≡◌}
use Rattle.std.specs.Int.{bytes_high_first}
use Rattle.xdr_core.specs.Leaves.{mark, mark_word}

pub record_len : (text : List ℕ) → length ((mark max_record_len).encoding text) ≡ 4 + length text
unfolding mark
record_len text =
    let word = mark_word (length text) in
    length-append (bytes_high_first 4 word) text ∙ ap (λ (n : ℕ). n + length text) (wide4.len word)

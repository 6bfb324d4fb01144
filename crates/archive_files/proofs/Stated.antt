-- The pieces of a history in one text.
use Rattle.archive_files.proofs.Prelude.{[], ap, append_assoc, sym, ℕ, Hash, List, ◌++◌, ◌∙◌, ◌≡◌}
use Rattle.std.specs.Prelude.{pos}
use Rattle.xdr_core.specs.Leaves.{u32}
use Rattle.xdr_core.specs.Xdr.{tag}
use Rattle.xdr_core.proofs.FormatLaws.{tag_laws, u32_laws, written}
use Rattle.xdr_entries.proofs.BasicLaws.{hash_laws}
use Rattle.xdr_entries.specs.Basic.{hash}
use Rattle.xdr_header.specs.Image.{file}
use Rattle.archive_files.specs.Form.{stated_history}
use Rattle.archive_files.specs.Stating.{PiecesAreStated, stated_file, stated_head}
use Rattle.archive_files.specs.declared.form.StatedHistory.{StatedHistory}

regrouped : (a b c d : List ℕ) → a ++ (b ++ (c ++ d)) ≡ ((a ++ b) ++ c) ++ d
regrouped a b c d =
    sym (append_assoc a b (c ++ d)) ∙ sym (append_assoc (a ++ b) c d)

pub pieces_are_stated : PiecesAreStated
unfolding stated_history file
pieces_are_stated h =
    regrouped ((tag (pos 0x534C4831)).encoding tt) (hash.encoding h.before) (u32.encoding h.first)
    (stated_file h.history.headers ++ (stated_file h.history.sets ++ stated_file h.history.results))

-- what stands before the files, written part by part
pub head_written : (start marked hashed text : List ℕ) (before : Hash) (first : ℕ) → start ≡ []
    → marked ≡ (tag (pos 0x534C4831)).onto start tt → hashed ≡ hash.onto marked before → text ≡ u32.onto hashed first
    → text ≡ stated_head before first
head_written start marked hashed text before first nothing of_mark of_hash of_first =
    let mark : marked ≡ (tag (pos 0x534C4831)).encoding tt =
    of_mark ∙ written (tag_laws (pos 0x534C4831) tt) start tt
    ∙ ap (λ (t : List ℕ). t ++ (tag (pos 0x534C4831)).encoding tt) nothing in
    let hashes : hashed ≡ (tag (pos 0x534C4831)).encoding tt ++ hash.encoding before =
    of_hash ∙ written hash_laws marked before ∙ ap (λ (t : List ℕ). t ++ hash.encoding before) mark in
    of_first ∙ written u32_laws hashed first ∙ ap (λ (t : List ℕ). t ++ u32.encoding first) hashes

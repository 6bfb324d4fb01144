-- The form of a history in one text, this project's own: what stands before the chain, and the three files.
use Rattle.std.specs.Prelude.{ℕ, pos, List, refl}
use Rattle.xdr_core.specs.Leaves.{u32}
use Rattle.xdr_core.specs.Combinators.{◌⨾◌, Fields, struct_of, marked}
use Rattle.xdr_core.specs.Xdr.{Xdr, tag}
use Rattle.ledger_types.specs.declared.ids.Hash.{Hash}
use Rattle.xdr_entries.specs.Basic.{hash}
use Rattle.xdr_header.specs.Image.{file}
use Rattle.archive_files.specs.declared.history.History.{History}
use Rattle.archive_files.specs.declared.form.StatedHistory.{StatedHistory}
use Rattle.archive_files.specs.Added.{max_file_len}

-- the hash of the ledger before the chain, the number of its first ledger, and the files
abbrev pub stated_fields : Fields (Hash × (ℕ × (List ℕ × (List ℕ × List ℕ)))) StatedHistory
stated_fields = record {
  to = λ (before, (first, (headers, (sets, results)))). record {
    before = before;
    first = first;
    history = record { headers = headers; sets = sets; results = results };
  };
  from = λ h. (h.before, (h.first, (h.history.headers, (h.history.sets, h.history.results))));
  there = λ _. refl;
  back = λ _. refl;
}

-- the bytes `SLH1`, and these; each file after its length
unfoldable pub stated_history : Xdr StatedHistory
stated_history =
    struct_of stated_fields
    (marked (tag (pos 0x534C4831)) (hash ⨾ u32 ⨾ file max_file_len ⨾ file max_file_len ⨾ file max_file_len))

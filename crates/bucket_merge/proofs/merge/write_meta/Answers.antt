use Rattle.bucket_merge.proofs.Prelude.{ℕ, List, ◌++◌, Option, ap, sym, ◌∙◌, on_ok_weaker, big_bytes, meta_of}
use Rattle.bucket_merge.proofs.Sides.{meta_record}
use Rattle.bucket_merge.proofs.merge.write_meta.Goals as goal

pub returns-in_ok-put_number-in-Some-3 : goal.returns-in_ok-put_number-in-Some-3
returns-in_ok-put_number-in-Some-3 c =
    let file = c.args.file.now.items in
    let mark = c.in_ok-put_number-in-Some.ensures in
    let kind = c.in_ok-put_number-in-Some-2.ensures ∙ ap (λ (t : List ℕ). t ++ big_bytes 4 4294967295) mark in
    let version = c.in_ok-put_number-in-Some-3.ensures ∙ ap (λ (t : List ℕ). t ++ big_bytes 4 c.in-Some.version) kind in
    on_ok_weaker c.put_number-in-Some-3.result
    (λ w. w ∙ ap (λ (t : List ℕ). t ++ big_bytes 4 0) version ∙ meta_record c.in-Some.version file
    ∙ ap (λ (o : Option ℕ). file ++ meta_of o) (sym c.in-Some.is)) c.put_number-in-Some-3.ensures

use Rattle.bucket_core.proofs.Prelude.{◌≡◌, ap, subst, ◌∙◌, Contents, file_of, file_hash}
use Rattle.std.proofs.Common.{IfSome}
use Rattle.ledger_types.specs.declared.ids.Hash.{Hash}
use Rattle.bucket_core.proofs.bucket.Bucket.hash.Goals as goal

pub returns-in-Some : goal.returns-in-Some
returns-in-Some c =
    let kept : c.in-Some.hash ≡ file_hash c.self.inside.bytes.items =
    subst (λ o. IfSome o (λ (h : Hash). h ≡ file_hash c.self.inside.bytes.items)) c.in-Some.is
    c.self.invariant.stated.hashed in
    kept ∙ ap file_hash c.self.invariant.stated.file.is
    ∙ ap (λ (contents : Contents). file_hash (file_of contents)) c.self.view_is

pub returns-in-None : goal.returns-in-None
returns-in-None c =
    c.hash_of_file.ensures ∙ ap file_hash c.as_slice.ensures.value ∙ ap file_hash c.self.invariant.stated.file.is
    ∙ ap (λ (contents : Contents). file_hash (file_of contents)) c.self.view_is

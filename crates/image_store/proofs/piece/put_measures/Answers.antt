use Rattle.image_store.proofs.Prelude.{ap, ◌∙◌, Hash}
use Rattle.image_store.proofs.Pieces.{measured}
use Rattle.image_store.proofs.piece.put_measures.Goals as goal

pub returns-clause-put : goal.returns-clause-put
returns-clause-put c =
    measured c.args.piece.now c.split_at_mut-rest.result.0.now c.split_at_mut-rest.result.1.now
    c.split_at_mut-measures.result.0.now c.split_at_mut-measures.result.1.now c.write_u64.new.buf
    c.split_at_mut-digest.result.0.now c.copy_from_slice.new.self c.requires c.split_at_mut-rest.ensures.front
    c.split_at_mut-rest.ensures.back c.split_at_mut-measures.ensures.front c.split_at_mut-measures.ensures.back
    c.write_u64.ensures c.split_at_mut-digest.ensures.front
    (c.copy_from_slice.ensures.after ∙ ap (λ (h : Hash). h.0) c.hash.ensures)

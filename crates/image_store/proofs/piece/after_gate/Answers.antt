use Rattle.image_store.proofs.Prelude.{◌≡◌, sym, ap, subst, ◌∙◌, ℕ, List, ◌++◌, ◌+◌, ◌-◌, ◌≤◌, length, take, drop}
use Rattle.image_store.proofs.Prelude.{take-append_seam, big_bytes, sha256, top_bit, IsBytes, start_image}
use Rattle.image_store.proofs.Pieces.{long_enough, patched, last_bytes, image_sized}
use Rattle.image_store.proofs.piece.after_gate.Goals as goal

pub put_measures-requires : goal.put_measures-requires
put_measures-requires c = subst (λ (l : List ℕ). 80 ≤ length l) (sym c.as_mut_slice.ensures.value)
    (long_enough c.args.epoch c.args.network.now.0 (start_image.encoding c.args.image.now) c.in_ok-piece.ensures.network
    c.in_ok-piece.piece.items c.in_ok-piece.ensures.piece)

pub returns-clause-piece : goal.returns-clause-piece
returns-clause-piece c =
    let old : List ℕ = c.in_ok-piece.piece.items in
    let new : List ℕ = c.put_measures.new.piece in
    let same = c.as_mut_slice.ensures.value in
    let put : new ≡ take 40 old ++ big_bytes 8 (length old - 80) ++ sha256 (drop 80 old) ++ drop 80 old =
    c.put_measures.ensures.put
    ∙ (λ i. take 40 (same i) ++ big_bytes 8 (length (same i) - 80) ++ sha256 (drop 80 (same i)) ++ drop 80 (same i)) in
    ap (λ n. take n (new ++ drop (length new) old)) (sym (c.put_measures.ensures.len ∙ c.as_mut_slice.ensures.len))
    ∙ take-append_seam new (drop (length new) old)
    ∙ patched c.args.epoch c.args.network.now.0 (start_image.encoding c.args.image.now)
    c.in_ok-piece.ensures.network old c.in_ok-piece.ensures.piece new put

pub returns-clause-sized : goal.returns-clause-sized
returns-clause-sized c =
    let text : List ℕ = start_image.encoding c.args.image.now in
    image_sized c.args.image.now c.requires.within
    (last_bytes
    (big_bytes 8 (top_bit + c.args.epoch) ++ c.args.network.now.0 ++ big_bytes 8 (length text) ++ sha256 text) text
    (subst IsBytes (c.as_bytes.ensures.same ∙ c.as_slice.ensures.value ∙ returns-clause-piece c)
    c.as_bytes.ensures.bytes))

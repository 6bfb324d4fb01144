use Rattle.hash_ids.proofs.Prelude.{Ok, sym, ap, ◌≡◌, ◌++◌, ◌∙◌, List, ℕ, Result, take, flat_map}
use Rattle.std.specs.declared.alloc.AllocError.{AllocError}
use Rattle.std.proofs.lemmas.List.{take_all}
use Rattle.sha2.specs.Sha256.{sha256}
use Rattle.ledger_types.specs.declared.ids.Hash.{Hash}
use Rattle.hash_ids.proofs.Pieces.{flat_map-map}
use Rattle.hash_ids.proofs.transaction.set_hash.Goals as goal

abbrev answered : List ℕ → Result Hash AllocError
answered digest = Ok (record { 0 = digest })

pub returns : goal.returns
returns g c =
    let entire : take c.loop-envelope.envelope-index c.args.envelopes.now
    ≡ c.args.envelopes.now =
    take_all c.loop-envelope.envelope-index c.args.envelopes.now c.loop-envelope-test.false in
    let text = ap (flat_map (λ e. g.T.AsSlice.items e)) entire
    ∙ sym (flat_map-map (λ e. g.T.AsSlice.items e) c.args.envelopes.now) in
    ap answered (c.finalize.ensures _ c.loop-envelope.invariant ∙ ap (λ t. sha256 (c.args.previous.now.0 ++ t)) text)

use Rattle.bucket_levels.proofs.Prelude.{◌≡◌, ℕ, List, sym, ap, ◌∙◌, take, flat_map, take_all, flat_map-map, LevelPair}
use Rattle.bucket_levels.proofs.Prelude.{Pair, pair_of, level_hash}
use Rattle.sha2.specs.Sha256.{sha256}
use Rattle.ledger_types.specs.declared.ids.Hash.{Hash}
use Rattle.bucket_levels.proofs.hash.hash_of_levels.Goals as goal

abbrev hashed : List ℕ → Hash
hashed digest = record { 0 = digest }

abbrev text_of : LevelPair → List ℕ
text_of pair = (level_hash (pair_of pair)).0

pub returns : goal.returns
returns c =
    let entire : take c.loop-pair.pair-index c.args.pairs.now ≡ c.args.pairs.now =
    take_all c.loop-pair.pair-index c.args.pairs.now c.loop-pair-test.false in
    let text = ap (flat_map text_of) entire
    ∙ sym (flat_map-map (λ (pair : Pair). (level_hash pair).0) pair_of c.args.pairs.now) in
    ap hashed (c.finalize.ensures _ c.loop-pair.invariant ∙ ap sha256 text)

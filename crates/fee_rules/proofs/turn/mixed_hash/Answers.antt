use Rattle.fee_rules.proofs.Prelude.{◌≡◌, List, ℕ, [], ◌∷◌, ◌++◌, take, take_all, length, ap, ◌∙◌, sym, arith}
use Rattle.fee_rules.proofs.Prelude.{take_more_set, length-set, bit_xor, slice_index, mixed_bytes}
use Rattle.fee_rules.proofs.Longer.{mixed_more}
use Rattle.fee_rules.proofs.turn.mixed_hash.Goals as goal

pub loop-i-preserved : goal.loop-i-preserved
loop-i-preserved c =
    let i = c.loop-i.i in
    let mixed = bit_xor (slice_index c.args.a.now.0 i) (slice_index c.args.b.now.0 i) in
    let so_far = c.loop-i.invariant in
    let long : length c.loop-i.bytes ≡ 32 = so_far.1 in (
      take_more_set c.loop-i.bytes i mixed (omega (arith, long))
          ∙ ap (λ (zs : List ℕ). zs ++ mixed ∷ []) so_far.0
          ∙ sym (mixed_more c.args.a.now.0 c.args.b.now.0 i),
      length-set c.loop-i.bytes i mixed ∙ long,
    )

pub returns : goal.returns
returns c =
    let so_far = c.loop-i.invariant in
    let long : length c.loop-i.bytes ≡ 32 = so_far.1 in
    let all : c.loop-i.i ≡ 32 = omega arith in
    ap (λ (k : List ℕ). record { 0 = k })
    (sym (take_all 32 c.loop-i.bytes (omega (arith, long))) ∙ ap (λ n. take n c.loop-i.bytes) (sym all) ∙ so_far.0
    ∙ ap (mixed_bytes c.args.a.now.0 c.args.b.now.0) all)

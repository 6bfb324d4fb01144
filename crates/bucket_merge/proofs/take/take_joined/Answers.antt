use Rattle.bucket_merge.proofs.Prelude.{subst, States}
use Rattle.bucket_merge.proofs.Stepping.{hand_states, advanced}
use Rattle.bucket_merge.proofs.take.take_joined.Goals as goal

pub returns-clause-items : goal.returns-clause-items
returns-clause-items g c = λ x y xs ys has_old has_new same.
    let old = hand_states c.args.older.now x xs c.in-Some.item has_old c.in-Some.is in
    let new = hand_states c.args.newer.now y ys c.in-Some-hand.item has_new c.in-Some-hand.is in (
      advanced c.args.older.now c.advance.new.self x xs has_old c.advance.ensures.items,
      advanced c.args.newer.now c.advance-2.new.self y ys has_new c.advance-2.ensures.items,
      c.in_ok-write_joined.ensures y.0 x.1 y.1 (subst (λ k. States c.in-Some.item k x.1) same old) new,
    )

use Rattle.bucket_merge.proofs.Prelude.{◌++◌, refl, arith, walk, records_of}
use Rattle.bucket_merge.proofs.Sides.{stepped, step_shortens, left_over, none_over, all_written, all_taken}
use Rattle.bucket_merge.proofs.merge.merge_sides.Goals as goal

pub loop-older-init : goal.loop-older-init
loop-older-init g c = record {
  goes = λ old new h k. record { old = old; new = new; has_old = h; has_new = k; rest = refl };
  steps = refl;
}

pub take_first_key-requires : goal.take_first_key-requires
take_first_key-requires g c =
    let r = c.requires in
    let f = c.loop-older.invariant.goes r.0 r.1 r.2 r.3 in (
      f.old,
      f.new,
      f.has_old,
      f.has_new,
      left_over f.old f.new c.are_empty.result (c.are_empty.ensures f.old f.new f.has_old f.has_new)
          c.loop-older-test.true,
    )

pub loop-older-preserved : goal.loop-older-preserved
loop-older-preserved g c = record {
  goes = λ old new h k.
      let f = c.loop-older.invariant.goes old new h k in
      let some = left_over f.old f.new c.are_empty.result (c.are_empty.ensures f.old f.new f.has_old f.has_new)
      c.loop-older-test.true in
      stepped c.args.level (c.args.file.now.items ++ records_of (walk c.args.level old new)) c.loop-older.file.items
      c.take_first_key.new.file.items c.loop-older.older c.loop-older.newer c.take_first_key.new.older
      c.take_first_key.new.newer f (c.in_ok-take_first_key.ensures.items f.old f.new f.has_old f.has_new some);
  steps = omega (arith, c.loop-older.invariant.steps, c.in_ok-take_first_key.ensures.steps);
}

pub loop-older-smaller : goal.loop-older-smaller
loop-older-smaller g c =
    let r = c.requires in
    let f = c.loop-older.invariant.goes r.0 r.1 r.2 r.3 in
    let some = left_over f.old f.new c.are_empty.result (c.are_empty.ensures f.old f.new f.has_old f.has_new)
    c.loop-older-test.true in
    step_shortens c.args.level _ c.loop-older.file.items c.take_first_key.new.file.items c.loop-older.older
    c.loop-older.newer c.take_first_key.new.older c.take_first_key.new.newer f
    (c.in_ok-take_first_key.ensures.items f.old f.new f.has_old f.has_new some)

pub returns-clause-items : goal.returns-clause-items
returns-clause-items g c = λ old new h k.
    let f = c.loop-older.invariant.goes old new h k in
    all_written c.args.level _ c.loop-older.file.items c.loop-older.older c.loop-older.newer f
    (none_over f.old f.new c.are_empty.result (c.are_empty.ensures f.old f.new f.has_old f.has_new)
    c.loop-older-test.false)

pub returns-clause-exact : goal.returns-clause-exact
returns-clause-exact g c =
    let r = c.requires in
    let f = c.loop-older.invariant.goes r.0 r.1 r.2 r.3 in
    let t = all_taken c.args.level _ c.loop-older.file.items c.loop-older.older c.loop-older.newer f
    (none_over f.old f.new c.are_empty.result (c.are_empty.ensures f.old f.new f.has_old f.has_new)
    c.loop-older-test.false) in
    omega (arith, c.loop-older.invariant.steps, t.0, t.1)

pub returns-clause-most : goal.returns-clause-most
returns-clause-most g c = omega (arith, c.loop-older.invariant.steps)

use Rattle.bucket_merge.proofs.Prelude.{sym, ◌∙◌}
use Rattle.bucket_merge.proofs.Stepping.{took_older, took_newer, took_both, older_first, newer_first, both_first}
use Rattle.bucket_merge.proofs.take.take_first_key.Goals as goal

pub take_kept-requires : goal.take_kept-requires
take_kept-requires g c =
    let r = c.requires in
    older_first c.args.older.now r.0 r.1 (sym c.in-Less.is ∙ c.first_in_hand.ensures r.0 r.1 r.2 r.3) r.2

pub take_joined-requires : goal.take_joined-requires
take_joined-requires g c =
    let r = c.requires in
    both_first c.args.older.now c.args.newer.now r.0 r.1
    (sym c.in-Equal.is ∙ c.first_in_hand.ensures r.0 r.1 r.2 r.3) r.4 r.2 r.3

pub take_kept-requires-in-Greater : goal.take_kept-requires-in-Greater
take_kept-requires-in-Greater g c =
    let r = c.requires in
    newer_first c.args.newer.now r.0 r.1 (sym c.in-Greater.is ∙ c.first_in_hand.ensures r.0 r.1 r.2 r.3) r.3

pub returns-in-Less-clause-items : goal.returns-in-Less-clause-items
returns-in-Less-clause-items g c = λ old new h k some.
    took_older c.take_kept.result c.args.level old new c.args.file.now.items c.take_kept.new.file.items c.args.older.now
    c.take_kept.new.side c.args.newer.now (sym c.in-Less.is ∙ c.first_in_hand.ensures old new h k) h k
    c.take_kept.ensures.items

pub returns-in-Equal-clause-items : goal.returns-in-Equal-clause-items
returns-in-Equal-clause-items g c = λ old new h k some.
    took_both c.take_joined.result c.args.level old new c.args.file.now.items c.take_joined.new.file.items
    c.args.older.now c.args.newer.now c.take_joined.new.older c.take_joined.new.newer
    (sym c.in-Equal.is ∙ c.first_in_hand.ensures old new h k) some h k c.take_joined.ensures.items

pub returns-in-Greater-clause-items : goal.returns-in-Greater-clause-items
returns-in-Greater-clause-items g c = λ old new h k some.
    took_newer c.take_kept-in-Greater.result c.args.level old new c.args.file.now.items
    c.take_kept-in-Greater.new.file.items c.args.newer.now c.args.older.now c.take_kept-in-Greater.new.side
    (sym c.in-Greater.is ∙ c.first_in_hand.ensures old new h k) h k c.take_kept-in-Greater.ensures.items

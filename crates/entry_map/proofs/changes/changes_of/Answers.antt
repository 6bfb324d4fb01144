use Rattle.entry_map.proofs.Prelude.{rules, [], ◌∷◌, ◌++◌, sym, ap, subst, ◌∙◌, append_assoc, into_iter_items, key_of}
use Rattle.entry_map.proofs.Prelude.{under, under_one, IsNew, IsChanged, IsGone, AreChangedKeys}
use Rattle.entry_map.proofs.Batches.{picks_more, batch_is, all_yielded}
use Rattle.entry_map.proofs.changes.changes_of.Goals as goal

pub loop-key-preserved : goal.loop-key-preserved
loop-key-preserved g c =
    let before = g.B.Base.entries c.args.base.now in
    let after = under_one (under before c.args.lower.now) c.args.top.now in
    record {
      keys = subst (AreChangedKeys c.args.lower.now c.args.top.now)
          (ap (λ ks. c.loop-key.yielded ++ ks) c.in-Some.ensures.steps.0
          ∙ sym (append_assoc c.loop-key.yielded (c.in-Some.key ∷ []) (into_iter_items c.next.new.self)))
          c.loop-key.invariant.keys;
      init = picks_more key_of
          (IsNew before after) c.loop-key.yielded c.in-Some.key c.loop-key.batch.init c.note_at.new.batch.init
          c.loop-key.invariant.init c.in_ok-note_at.ensures.init;
      live = picks_more key_of
          (IsChanged before after) c.loop-key.yielded c.in-Some.key c.loop-key.batch.live c.note_at.new.batch.live
          c.loop-key.invariant.live c.in_ok-note_at.ensures.live;
      dead = picks_more (λ q. q)
          (IsGone before after) c.loop-key.yielded c.in-Some.key c.loop-key.batch.dead c.note_at.new.batch.dead
          c.loop-key.invariant.dead c.in_ok-note_at.ensures.dead;
    }

pub returns : goal.returns
returns g c = batch_is (g.B.Base.entries c.args.base.now) c.args.lower.now c.args.top.now c.loop-key.yielded
    (subst (AreChangedKeys c.args.lower.now c.args.top.now) (all_yielded c.loop-key.yielded
    (into_iter_items c.loop-key.key-iterator) (search rules)) c.loop-key.invariant.keys)
    c.loop-key.batch c.loop-key.invariant.init c.loop-key.invariant.live c.loop-key.invariant.dead

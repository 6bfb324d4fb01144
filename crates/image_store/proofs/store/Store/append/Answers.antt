use Rattle.image_store.proofs.Prelude.{◌≡◌, refl, sym, ap, subst, ◌∙◌, ◌+◌, ◌%◌, Disk, JournalState, StoreState}
use Rattle.image_store.proofs.Prelude.{IsSettled}
use Rattle.image_store.proofs.Keeping.{journal_settled, grown_settled, append_runs}
use Rattle.image_store.proofs.store.Store.append.Goals as goal

pub returns-in-Ok-clause-ok : goal.returns-in-Ok-clause-ok
returns-in-Ok-clause-ok g c = λ reported kept settled.
    let old : Disk = g.V.Volume.disk c.args.vol.now in
    let new : Disk = g.V.Volume.disk c.append.new.vol in
    let j : JournalState = c.self.inside.journal in
    let before : StoreState = record {
      epoch = c.self.inside.epoch;
      end = j.end;
      network = c.self.inside.network;
      failed = c.self.inside.failed;
    } in
    let s = subst (λ (x : StoreState). IsSettled x old kept) (sym c.self.view_is) settled in
    let js = journal_settled j before old kept c.self.invariant.0 refl (c.self.invariant.1 c.if-self.false) s in
    let same : c.append.new.self.file ≡ j.file = c.append.ensures.file in
    grown_settled c.append.new.self before _ old new kept c.args.buf s (same ∙ c.self.invariant.0)
    (λ i. record {
      epoch = c.self.inside.epoch;
      end = c.append.new.self.end;
      network = c.self.inside.network;
      failed = c.if-self.false i;
    })
    (c.in-Ok.ensures.ok reported kept.records js) c.in-Ok.ensures.safe
    (λ k other. (c.in-Ok.ensures.written reported kept.records js).others k (λ is. other (is ∙ sym same)))

pub returns-in-Ok-clause-runs : goal.returns-in-Ok-clause-runs
returns-in-Ok-clause-runs g c = λ reported kept settled.
    let old : Disk = g.V.Volume.disk c.args.vol.now in
    let j : JournalState = c.self.inside.journal in
    let before : StoreState = record {
      epoch = c.self.inside.epoch;
      end = j.end;
      network = c.self.inside.network;
      failed = c.self.inside.failed;
    } in
    let s = subst (λ (x : StoreState). IsSettled x old kept) (sym c.self.view_is) settled in
    let js = journal_settled j before old kept c.self.invariant.0 refl (c.self.invariant.1 c.if-self.false) s in
    append_runs kept c.args.buf j.file (c.self.invariant.0 ∙ ap (λ n. 2 + n % 2) s.epoch) old
    (g.V.Volume.disk c.append.new.vol) (c.append.ensures.runs reported kept.records js)

pub returns-in-Err-clause-runs : goal.returns-in-Err-clause-runs
returns-in-Err-clause-runs g c = λ reported kept settled.
    let old : Disk = g.V.Volume.disk c.args.vol.now in
    let j : JournalState = c.self.inside.journal in
    let before : StoreState = record {
      epoch = c.self.inside.epoch;
      end = j.end;
      network = c.self.inside.network;
      failed = c.self.inside.failed;
    } in
    let s = subst (λ (x : StoreState). IsSettled x old kept) (sym c.self.view_is) settled in
    let js = journal_settled j before old kept c.self.invariant.0 refl (c.self.invariant.1 c.if-self.false) s in
    append_runs kept c.args.buf j.file (c.self.invariant.0 ∙ ap (λ n. 2 + n % 2) s.epoch) old
    (g.V.Volume.disk c.append.new.vol) (c.append.ensures.runs reported kept.records js)

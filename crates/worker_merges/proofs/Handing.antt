-- How a ledger is handed in one merge more.
use Rattle.worker_merges.proofs.Prelude.{◌≡◌, List, [], ◌∷◌, ◌++◌, Result, Ok, Err, refl, sym, subst, ◌∙◌, ap}
use Rattle.worker_merges.proofs.Prelude.{append_assoc, append-nil, inl, inr, OnOk, IfErr, Job, TakesIn, IsRefusedFor}
use Rattle.worker_merges.proofs.Prelude.{LedgerAt, levels_at, Grew, IsHandedIn, AreHandedIn, Adopts}
use Rattle.ledger_close.specs.bucket_levels.declared.hand_in.HandInBack.{HandInBack}
use Rattle.merge_board.specs.declared.log.Sent.{Sent}
use Rattle.merge_board.specs.declared.posted.PostedJob.{PostedJob}

handed_more : (outs : List Sent) (sent : Sent) (a b c : LedgerAt) → AreHandedIn outs a b → IsHandedIn sent.out.job b c
    → AreHandedIn (outs ++ sent ∷ []) a c
handed_more [] sent a b c same one = (c, subst (λ (x : LedgerAt). IsHandedIn sent.out.job x c) same one, refl)
handed_more (first ∷ outs) sent a b c (mid, is, more) one = (mid, is, handed_more outs sent mid b c more one)

pub none_adopted : (got : List Sent) (l : LedgerAt) → Adopts got got l l
none_adopted got l = record { outs = []; grew = sym (append-nil got); handed_in = refl }

pub handed : (result : Result (Unit {0}) HandInBack) (out : Job) (old new : LedgerAt)
    → OnOk result (TakesIn (levels_at old) out (levels_at new)) → new.state ≡ old.state
    → IfErr result (λ _. new ≡ old) → IfErr result (λ back. IsRefusedFor (levels_at old) out back.fault)
    → IsHandedIn out old new
handed (Ok done) out old new taken state kept refused = inl (taken, state)
handed (Err back) out old new taken state kept refused = inr (back.fault, refused, kept)

pub one_more : (before mid after : List Sent) (posted : PostedJob) (old between new : LedgerAt)
    → Adopts before mid old between → Grew mid posted after → IsHandedIn posted.job between new
    → Adopts before after old new
one_more before mid after posted old between new a (worker, grew) is =
    let sent : Sent = record { worker = worker; out = posted } in
    record {
      outs = a.outs ++ sent ∷ [];
      grew = grew ∙ ap (λ (xs : List Sent). xs ++ sent ∷ []) a.grew ∙ append_assoc before a.outs (sent ∷ []);
      handed_in = handed_more a.outs sent old between new a.handed_in is;
    }

use Rattle.replay.proofs.Prelude.{◌≡◌, ◌∙◌, subst, List, [], ◌++◌, ℕ, length, arith, rules, take-append_seam, All-same}
use Rattle.replay.proofs.Prelude.{HasEnded, Appends-nil, Consumes-nil, Seen, seen, ClosingState, DiskFailed, Disk}
use Rattle.std.proofs.Math.ListN.{take}
use Rattle.std.specs.List.{All}
use Rattle.stored_outcome.specs.run_outcome.declared.status.Status.TheVariants as status
use Rattle.replay.proofs.Turning.{nothing_followed}
use Rattle.replay.proofs.Keeping.{nothing_kept, stays_either}
use Rattle.replay.proofs.beside.close_beside.Goals as goal

pub returns-in_default : goal.returns-in_default
returns-in_default g c =
    let s : ClosingState = c.args.opened.now.closing.ledger.state in
    let input : Seen = seen g.I.Source.left g.I.Source.faults c.args.input.now c.args.input.now in
    let out : Seen = seen g.O.Sink.taken g.O.Sink.faults c.args.out.now c.args.out.now in
    let failed : Type 0 = DiskFailed (Unit {0}) (g.V.Volume.faults c.args.vol.now) (g.V.Volume.faults c.args.vol.now) in
    let received = Appends-nil (g.O.Sink.taken c.args.out.now) in
    record {
      followed = nothing_followed s 0 [] input out failed received;
      vol_later = omega arith;
      kept = λ st te.
          let r = c.requires.open.ready te in
          let disk : Disk = g.V.Volume.disk c.args.vol.now in
          nothing_kept s 0 [] input out disk disk status.NoMemory tt r.safe r.opens (stays_either s s disk)
          (Consumes-nil (g.I.Source.left c.args.input.now)) received;
    }

-- what is written over an entire slice is what is in it
written : {X : Type 0} (P : X → Type 0) (count : ℕ) (new rest : List X) → length new ≡ count → All P new
    → All P (take count (new ++ rest))
written P count new rest len all =
    All-same P (take count (new ++ rest)) new
    (subst (λ n. take n (new ++ rest) ≡ new) len (take-append_seam new rest)) all

pub gather-requires-clause-ended : goal.gather-requires-clause-ended
gather-requires-clause-ended g c =
    let room = c.in-Ok.shop.room in
    let left = c.serve_beside-end.ensures in
    let len = left.count ∙ c.as_mut_slice.ensures.len in (room, written (HasEnded room) _ _ _ len left.ended)

pub settle-account-requires : goal.settle-account-requires
settle-account-requires g c =
    let room = c.in-Ok.shop.room in
    let left = c.serve_beside-end.ensures in
    let len = left.count ∙ c.as_mut_slice.ensures.len in
    let count = c.gather.ensures.count in
    let all = c.in-Ok.ensures.count in
    record {
      board_in = left.side.board;
      board_has = search (rules, left.side.board_has, count, all);
      each = c.gather.ensures.each room (written (HasEnded room) _ _ _ len left.ended);
      collector_in = left.side.collector;
      collector_has = search (rules, left.side.collector_has, count, all);
    }

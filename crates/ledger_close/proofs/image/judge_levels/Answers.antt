use Rattle.ledger_close.proofs.Prelude.{List, subst, inl, inr, Pair, Lists, IsMarksFault}
use Rattle.ledger_close.proofs.image.judge_levels.Goals as goal

pub returns-in-Err : goal.returns-in-Err
returns-in-Err c =
    inl (subst (λ (l : List Pair). IsMarksFault l c.in-Err.fault) c.requires.same c.in-Err.ensures.bad)

pub returns-in-Err-judge_entries : goal.returns-in-Err-judge_entries
returns-in-Err-judge_entries c =
    inr (
      c.in-Ok.placed,
      subst (λ (l : List Pair). Lists l c.in-Ok.placed) c.requires.same c.in-Ok.ensures.ok,
      c.in-Err-judge_entries.ensures,
    )

pub returns : goal.returns
returns c = (
  c.in-Ok.placed,
  record {
    exists = subst (λ (l : List Pair). Lists l c.in-Ok.placed) c.requires.same c.in-Ok.ensures.ok;
    judged = c.in-Ok-judge_entries.ensures;
  },
  record { index = c.in_ok-offers.ensures; count = c.len.ensures.count },
)

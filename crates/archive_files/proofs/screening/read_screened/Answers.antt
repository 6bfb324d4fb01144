use Rattle.archive_files.proofs.Prelude.{[], start_of, sym, ◌++◌, ◌∷◌}
use Rattle.archive_files.specs.Records.{fact_at}
use Rattle.archive_files.proofs.Reading.{facts_more, record_shortens}
use Rattle.archive_files.proofs.screening.read_screened.Goals as goal

pub loop-ahead-init : goal.loop-ahead-init
loop-ahead-init g c = record {
  kept = c.new-screened.ensures.kept;
  screened = record {
    all = [];
    facts = sym c.new-ahead.ensures;
    screened = λ heads are. c.new-screened.ensures.none heads;
  };
}

pub loop-ahead-smaller : goal.loop-ahead-smaller
loop-ahead-smaller g c =
    record_shortens g.K.RecordKind.format g.K.RecordKind.fact_of c.loop-ahead.ahead c.read_record.new.cursor
    c.in_ok-fact.fact c.in_ok-fact.ensures

pub loop-ahead-preserved : goal.loop-ahead-preserved
loop-ahead-preserved g c =
    let read = fact_at g.K.RecordKind.format g.K.RecordKind.fact_of in
    let before = c.loop-ahead.invariant.screened in
    record {
      kept = c.in_ok-add.ensures.kept;
      screened = record {
        all = before.all ++ c.in_ok-fact.fact ∷ [];
        facts = facts_more read before.all c.in_ok-fact.fact (start_of c.args.file.now) c.loop-ahead.ahead
            c.read_record.new.cursor before.facts c.in_ok-fact.ensures;
        screened = λ heads are. c.in_ok-add.ensures.screened heads before.all are (before.screened heads are);
      };
    }

pub returns-clause-facts : goal.returns-clause-facts
returns-clause-facts g c = λ heads are.
    let s = c.loop-ahead.invariant.screened in
    record {
      all = s.all;
      facts = record {
        end = c.loop-ahead.ahead;
        facts = s.facts;
        all = c.is_at_end.ensures.0 c.loop-ahead-test.false;
      };
      screened = s.screened heads are;
    }

use Rattle.image_rules.proofs.Prelude.{on_ok_weaker, LedgerEntry}
use Rattle.close_rules.specs.legal_rules.Bounds.{AreSubentriesFew, DoReservesFit, IsFilledOrEmpty}
use Rattle.image_rules.specs.Surveys.{HasNeeded}
use Rattle.image_rules.proofs.Surveying.{tested_too}
use Rattle.image_rules.proofs.survey.walk_over.Goals as goal

pub returns : goal.returns
returns c =
    let old = c.args.survey.now in
    let e = c.args.entry.now in
    on_ok_weaker c.add_to_all.result (λ tallies. record {
      owned = tested_too old.owned c.in_ok-owned.owned c.both-survey.result (HasNeeded c.args.entries.now e)
          c.both-survey.ensures c.in_ok-owned.ensures.answer;
      apart = c.in_ok-survey.ensures;
      few = tested_too old.few c.are_subentries_few.result c.both-survey-2.result (AreSubentriesFew e.body)
          c.both-survey-2.ensures c.are_subentries_few.ensures;
      fitting = tested_too old.fitting c.do_reserves_fit.result c.both-survey-3.result (DoReservesFit e.body)
          c.both-survey-3.ensures c.do_reserves_fit.ensures;
      filled = tested_too old.filled c.is_filled_or_empty.result c.both-survey-4.result (IsFilledOrEmpty e.body)
          c.both-survey-4.ensures c.is_filled_or_empty.ensures;
      known = c.in_ok-owned.ensures.known;
      tallies = tallies;
    }) c.add_to_all.ensures

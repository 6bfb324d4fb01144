use Rattle.archive_files.proofs.Prelude.{AreJudged, AreScreened, HasFacts, HasFault, IfSome, IsFirstFault, ap, arith}
use Rattle.archive_files.proofs.Prelude.{cause_of, header_at, header_fact, length, results_at, set_at, subst, sym, ◌≡◌}
use Rattle.archive_files.specs.Entries.{ledger_header_history_entry}
use Rattle.archive_files.proofs.Judged.{judged, results_unread, screened_of}
use Rattle.archive_files.proofs.Reading.{few_records}
use Rattle.archive_files.proofs.verifying.verify.Goals as goal

pub returns-in-Err-read_screened-2 : goal.returns-in-Err-read_screened-2
returns-in-Err-read_screened-2 c =
    let h = c.args.history.now in
    let heads = c.in-Ok.headers.items in
    let failure = c.in-Err-read_screened-2.failure in
    let headers = subst (λ l. HasFacts header_at l heads) c.as_slice.ensures c.in-Ok.ensures.facts in
    let sets =
    screened_of set_at h.sets c.as_slice-4.result.now heads c.as_slice-2.result.now c.in_ok-numbers.numbers.items
    c.as_slice-3.result.now c.in-Ok-read_screened.sets c.as_slice-4.ensures c.as_slice-2.ensures.value
    c.as_slice-3.ensures.value c.in_ok-numbers.ensures c.in-Ok-read_screened.ensures.facts in
    subst (IsFirstFault h c.args.before.now c.args.first) (sym c.unread-in-Err-read_screened-2.ensures)
    (results_unread h c.args.before.now c.args.first heads sets.all failure headers sets.facts
    (subst (λ l. IfSome (cause_of failure) (HasFault results_at l)) c.as_slice-6.ensures
    c.in-Err-read_screened-2.ensures.fault))

pub judge-requires-clause-count : goal.judge-requires-clause-count
judge-requires-clause-count c =
    let few = few_records ledger_header_history_entry header_fact c.in-Ok.headers.items c.as_slice.result.now
    c.in-Ok.ensures.facts in
    let len : length c.as_slice.result.now ≡ length c.args.history.now.headers =
    ap (λ l. length l) c.as_slice.ensures in
    let same : length c.as_slice-7.result.now ≡ length c.in-Ok.headers.items =
    ap (λ l. length l) c.as_slice-7.ensures.value in
    omega (arith, few, len, same, c.requires)

pub returns : goal.returns
returns c =
    let h = c.args.history.now in
    let before = c.args.before.now in
    let first = c.args.first in
    let heads = c.in-Ok.headers.items in
    let headers = subst (λ l. HasFacts header_at l heads) c.as_slice.ensures c.in-Ok.ensures.facts in
    let sets =
    screened_of set_at h.sets c.as_slice-4.result.now heads c.as_slice-2.result.now c.in_ok-numbers.numbers.items
    c.as_slice-3.result.now c.in-Ok-read_screened.sets c.as_slice-4.ensures c.as_slice-2.ensures.value
    c.as_slice-3.ensures.value c.in_ok-numbers.ensures c.in-Ok-read_screened.ensures.facts in
    let results =
    screened_of results_at h.results c.as_slice-6.result.now heads c.as_slice-2.result.now
    c.in_ok-numbers.numbers.items c.as_slice-5.result.now c.in-Ok-read_screened-2.results c.as_slice-6.ensures
    c.as_slice-2.ensures.value c.as_slice-5.ensures.value c.in_ok-numbers.ensures
    c.in-Ok-read_screened-2.ensures.facts in
    let are = c.as_slice-7.ensures.value in
    judged h before first heads sets.all results.all
    (record { headers_read = headers; sets_read = sets.facts; results_read = results.facts }) c.judge.result
    (subst (λ l. AreJudged l sets.all results.all before first c.judge.result) are
    (c.judge.ensures sets.all results.all
    (subst (λ l. AreScreened l sets.all c.in-Ok-read_screened.sets) (sym are) sets.screened)
    (subst (λ l. AreScreened l results.all c.in-Ok-read_screened-2.results) (sym are) results.screened)))

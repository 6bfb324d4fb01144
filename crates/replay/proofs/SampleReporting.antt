-- What a sample leaves, once its end is written.
use Rattle.replay.proofs.Prelude.{◌≡◌, ℕ, List, [], take, length, refl, sym, subst, ◌∙◌, arith, inl, inr, take_all}
use Rattle.replay.proofs.Prelude.{Seen, Failed, Received, Status, status_line, IsCutShort, Outcome, IsReported}
use Rattle.replay.proofs.Prelude.{Answered, IsSampled, IsSamplePrefix, IsSampleEnd, DidSample, Wrote, Samples}
use Rattle.replay.proofs.Prelude.{IsReportedOrRefused, IsReportedSo}
use Rattle.stored_outcome.specs.run_outcome.declared.status.Status.TheVariants as status

abbrev Answers : (seed ledgers : ℕ) → Seen → Status → Type 0
Answers seed ledgers out end = Answered (IsSampled seed ledgers) (IsSamplePrefix seed ledgers) out end

-- ---- the text

cut_short : (seed ledgers : ℕ) (out : Seen) (prefix : List ℕ) (end : Status) → IsCutShort end → Received out prefix
    → IsSamplePrefix seed ledgers prefix → Answers seed ledgers out end
cut_short seed ledgers out prefix end short received is = (prefix, received, inr (short, is))

wrote_answer : (seed ledgers : ℕ) (out : Seen) (end : Status) (o : Outcome) → IsSampled seed ledgers o
    → Wrote out o.text o.status end → Answers seed ledgers out end
wrote_answer seed ledgers out end o is (inl (e, received)) = (o.text, received, inl (o, is, e, refl))
wrote_answer seed ledgers out end o is (inr (inl (e, failed, (n, low, received)))) =
    cut_short seed ledgers out (take n o.text) end (subst IsCutShort (sym e) tt) received
    (inr (o, is, (n, low, refl)))
wrote_answer seed ledgers out end o is (inr (inr (e, received))) =
    cut_short seed ledgers out [] end (subst IsCutShort (sym e) tt) received (inl refl)

answers : (seed ledgers : ℕ) (out : Seen) (end : Status) → Samples seed ledgers out end → Answers seed ledgers out end
answers seed ledgers out end (inl (o, is, wrote)) = wrote_answer seed ledgers out end o is wrote
answers seed ledgers out end (inr (e, received)) =
    cut_short seed ledgers out [] end (subst IsCutShort (sym e) tt) received (inl refl)

-- what was received is a prefix, whatever comes of the line
prefix_at : (seed ledgers : ℕ) (out : Seen) (end after : Status) → IsCutShort after → Answers seed ledgers out end
    → Answers seed ledgers out after
prefix_at seed ledgers out end after short (text, received, inl (o, is, e, text_is)) =
    cut_short seed ledgers out text after short received
    (inr (o, is, (length o.text, omega arith, text_is ∙ sym (take_all (length o.text) o.text (omega arith)))))
prefix_at seed ledgers out end after short (text, received, inr (was, prefix)) =
    cut_short seed ledgers out text after short received prefix

-- ---- the end

complete_end : (seed ledgers : ℕ) (o : Outcome) → IsSampled seed ledgers o → IsSampleEnd o.status
complete_end seed ledgers o (inl (now, closed, is)) = subst (λ (x : Outcome). IsSampleEnd x.status) (sym is) tt
complete_end seed ledgers o (inr (k, below, (now, closed, wrong, refused, is))) =
    subst (λ (x : Outcome). IsSampleEnd x.status) (sym is) tt

wrote_end : (out : Seen) (text : List ℕ) (entire end : Status) → IsSampleEnd entire → Wrote out text entire end
    → IsSampleEnd end
wrote_end out text entire end is (inl (e, received)) = subst IsSampleEnd (sym e) is
wrote_end out text entire end is (inr (inl (e, failed, prefix))) = subst IsSampleEnd (sym e) tt
wrote_end out text entire end is (inr (inr (e, received))) = subst IsSampleEnd (sym e) tt

sample_end : (seed ledgers : ℕ) (out : Seen) (end : Status) → Samples seed ledgers out end → IsSampleEnd end
sample_end seed ledgers out end (inl (o, is, wrote)) =
    wrote_end out o.text o.status end (complete_end seed ledgers o is) wrote
sample_end seed ledgers out end (inr (e, received)) = subst IsSampleEnd (sym e) tt

complete_is_taken : (seed ledgers : ℕ) (o : Outcome) → IsSampled seed ledgers o → o.status ≡ status.WriteFault → ⊥
complete_is_taken seed ledgers o (inl (now, closed, is)) same =
    let no : status.Done ≡ status.WriteFault = sym (λ i. (is i).status) ∙ same in absurd cc
complete_is_taken seed ledgers o (inr (k, below, (now, closed, wrong, refused, is))) same =
    let no : status.Refused ≡ status.WriteFault = sym (λ i. (is i).status) ∙ same in absurd cc

write_failed : (seed ledgers : ℕ) (out : Seen) (end : Status) → Samples seed ledgers out end
    → end ≡ status.WriteFault → Failed out
write_failed seed ledgers out end (inl (o, is, inl (e, received))) same =
    absurd (complete_is_taken seed ledgers o is (sym e ∙ same))
write_failed seed ledgers out end (inl (o, is, inr (inl (e, failed, prefix)))) same = failed
write_failed seed ledgers out end (inl (o, is, inr (inr (e, received)))) same =
    let no : status.NoMemory ≡ status.WriteFault = sym e ∙ same in absurd cc
write_failed seed ledgers out end (inr (e, received)) same =
    let no : status.NoMemory ≡ status.WriteFault = sym e ∙ same in absurd cc

-- ---- the line

module _ (seed ledgers : ℕ) (out err : Seen) (end : Status) (s : Samples seed ledgers out end) where
  as_reported : Received err (status_line end) → DidSample seed ledgers out err end
  as_reported line = record {
    answered = answers seed ledgers out end s;
    write_fault = λ e. inl (write_failed seed ledgers out end s e);
    is_end = sample_end seed ledgers out end s;
    reported = inl line;
  }

  -- its line wasn't taken
  as_untold : Failed err → DidSample seed ledgers out err status.WriteFault
  as_untold failed = record {
    answered = prefix_at seed ledgers out end status.WriteFault tt (answers seed ledgers out end s);
    write_fault = λ e. inr failed;
    is_end = tt;
    reported = inr (refl, failed);
  }

  -- memory was refused for its line, which is the end then
  as_refused : Received err (status_line status.NoMemory) → DidSample seed ledgers out err status.NoMemory
  as_refused line = record {
    answered = prefix_at seed ledgers out end status.NoMemory tt (answers seed ledgers out end s);
    write_fault = λ e. absurd cc;
    is_end = tt;
    reported = inl line;
  }

  reported_as : (after : Status) → IsReported end err after → DidSample seed ledgers out err after
  reported_as after (inl (e, line)) = subst (DidSample seed ledgers out err) (sym e) (as_reported line)
  reported_as after (inr (e, failed)) = subst (DidSample seed ledgers out err) (sym e) (as_untold failed)

  reported_or_refused : (after : Status) → IsReportedOrRefused end err after → DidSample seed ledgers out err after
  reported_or_refused after (inl reported) = reported_as after reported
  reported_or_refused after (inr (inl (e, line))) = subst (DidSample seed ledgers out err) (sym e) (as_refused line)
  reported_or_refused after (inr (inr (e, failed))) = subst (DidSample seed ledgers out err) (sym e) (as_untold failed)

pub did_sample : (seed ledgers : ℕ) (out err : Seen) (end after : Status) → Samples seed ledgers out end
    → IsReportedSo end err after → DidSample seed ledgers out err after
did_sample seed ledgers out err (status.BadStore file offset) after s reported =
    reported_or_refused seed ledgers out err (status.BadStore file offset) s after reported
did_sample seed ledgers out err (status.BadInput at) after s reported =
    reported_or_refused seed ledgers out err (status.BadInput at) s after reported
did_sample seed ledgers out err (status.BadImage rule) after s reported =
    reported_or_refused seed ledgers out err (status.BadImage rule) s after reported
did_sample seed ledgers out err status.Done after s reported =
    reported_as seed ledgers out err status.Done s after reported
did_sample seed ledgers out err status.Usage after s reported =
    reported_as seed ledgers out err status.Usage s after reported
did_sample seed ledgers out err status.Refused after s reported =
    reported_as seed ledgers out err status.Refused s after reported
did_sample seed ledgers out err status.ReadFault after s reported =
    reported_as seed ledgers out err status.ReadFault s after reported
did_sample seed ledgers out err status.WriteFault after s reported =
    reported_as seed ledgers out err status.WriteFault s after reported
did_sample seed ledgers out err status.DiskFault after s reported =
    reported_as seed ledgers out err status.DiskFault s after reported
did_sample seed ledgers out err status.NoMemory after s reported =
    reported_as seed ledgers out err status.NoMemory s after reported
did_sample seed ledgers out err status.Missing after s reported =
    reported_as seed ledgers out err status.Missing s after reported
did_sample seed ledgers out err status.AlreadyThere after s reported =
    reported_as seed ledgers out err status.AlreadyThere s after reported
did_sample seed ledgers out err status.TooLarge after s reported =
    reported_as seed ledgers out err status.TooLarge s after reported

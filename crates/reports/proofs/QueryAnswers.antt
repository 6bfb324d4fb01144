-- A query's answer, put together: what was asked, what was found, and what was written of it.
use Rattle.std.proofs.Common.{◌≡◌, ◌<◌, ◌≤◌, refl, sym, ap, subst, ◌∙◌, ℕ, List, [], ◌++◌, length}
use Rattle.std.proofs.Common.{Option, Some, None, Result, Ok, Err, IfSome, inl, inr, arith, append-nil, take}
use Rattle.std.specs.Prelude.{IfOk}
use Rattle.std.specs.Io.KnownBytes.{IsAtEnd, Appends}
use Rattle.std.proofs.KnownBytes.{Appends-nil}
use Rattle.std.proofs.lemmas.List.{length-append}
use Rattle.outside.specs.Streams.{GaveAll, GaveMore}
use Rattle.run_outcome.specs.close_rules.State.{ClosingState}
use Rattle.run_outcome.specs.run_streams.Seen.{Seen, Failed, IsUntouched, Received, ReceivedPrefix}
use Rattle.run_outcome.specs.declared.status.Status.{Status}
use Rattle.run_outcome.specs.declared.status.Status.TheVariants as status
use Rattle.run_outcome.specs.Outcome.{Outcome, silent}
use Rattle.run_outcome.specs.PathRun.{IsPathAnswer, IsPathAnswerOf, IsQueryAnswered, IsPathless, IsPathEnd}
use Rattle.run_outcome.specs.PathRun.{path_outcome, max_query_len, query_context}
use Rattle.run_outcome.specs.Statuses.{IsCutShort}
use Rattle.xdr_core.specs.Position.{start_of}
use Rattle.path_finder.specs.declared.query.PathQuery.{PathQuery}
use Rattle.path_finder.specs.declared.query.PathFault.{PathFault}
use Rattle.path_finder.specs.declared.query.PathFault.TheVariants as fault
use Rattle.path_finder.specs.declared.query.Found.{Found}
use Rattle.path_finder.specs.Encoding.{path_query}
use Rattle.path_finder.specs.Query.{IsJudged, candidates_of}
use Rattle.path_finder.specs.Costs.{cost_of}
use Rattle.path_finder.specs.Cheapest.{IsCheapestPath}
use Rattle.reports.specs.Answering.{IsUnread, IsQueryIn, IsAsked, IsQueryRead, Finds, WroteAnswer, AnswersQuery}
use Rattle.reports.specs.Ends.{Wrote}

-- ---- the input

-- a short input is answered as it is read, and a long one isn't read
answer_of_short : (s : ClosingState) (bytes : List ℕ) (o : Outcome) → length bytes ≤ max_query_len
    → IsPathAnswerOf s (path_query.read (start_of bytes)) o → IsPathAnswer s bytes o
answer_of_short s bytes o short it = inr (short, it)

answer_of_long : (s : ClosingState) (bytes : List ℕ) → max_query_len < length bytes
    → IsPathAnswer s bytes (silent (status.BadInput max_query_len))
answer_of_long s bytes long = inl (long, refl)

-- what a source gave to its end is all that it had
entire : (before now : Option (List ℕ)) (text : List ℕ) (P : List ℕ → Type 0) → GaveAll before now max_query_len text
    → (length text ≤ max_query_len → P text) → IfSome before P
entire None now text P gave its = tt
entire (Some bytes) None text P gave its = absurd gave.given
entire (Some bytes) (Some rest) text P gave its =
    let is : bytes ≡ text = gave.given ∙ ap (λ l. text ++ l) gave.ended ∙ append-nil text in
    subst P (sym is) (its gave.fits)

-- what gave more is longer
longer : (before now : Option (List ℕ)) (P : List ℕ → Type 0) → GaveMore before now max_query_len
    → ((bytes : List ℕ) → max_query_len < length bytes → P bytes) → IfSome before P
longer None now P gave its = tt
longer (Some bytes) None P (text, given, more) its = absurd given
longer (Some bytes) (Some rest) P (text, given, more) its =
    its bytes (omega (arith, more, ap length given, length-append text rest))

-- a query of which nothing is left over is what each ledger answers
asked : (text : List ℕ) (query : PathQuery) → length text ≤ max_query_len → IsQueryIn text (Ok query)
    → IsAsked query text
asked text query short (at, reads) s found finds =
    answer_of_short s text (path_outcome found) short
    (subst (λ r. IsPathAnswerOf s r (path_outcome found)) (sym reads) (found, finds, refl))

-- the text that was read to its end is a query or none
pub read_entirely : (input : Seen) (text : List ℕ) → GaveAll input.before input.now max_query_len text
    → (r : Result PathQuery Status) → IsQueryIn text r → IsQueryRead input r
read_entirely input text gave (Ok query) its = (
  gave.ended,
  entire input.before input.now text (λ bytes. IsAsked query bytes) gave
      (λ short. asked text query short its),
)
read_entirely input text gave (Err (status.BadInput at)) its =
    entire input.before input.now text
    (λ bytes. (s : ClosingState) → IsPathAnswer s bytes (silent (status.BadInput at))) gave
    (λ short s. answer_of_short s text (silent (status.BadInput at)) short (its s))
read_entirely input text gave (Err status.NoMemory) its = tt
read_entirely input text gave (Err status.ReadFault) its = absurd its
read_entirely input text gave (Err status.Done) its = absurd its
read_entirely input text gave (Err status.Usage) its = absurd its
read_entirely input text gave (Err status.Refused) its = absurd its
read_entirely input text gave (Err status.WriteFault) its = absurd its
read_entirely input text gave (Err status.DiskFault) its = absurd its
read_entirely input text gave (Err (status.BadStore file offset)) its = absurd its
read_entirely input text gave (Err (status.BadImage rule)) its = absurd its
read_entirely input text gave (Err status.Missing) its = absurd its
read_entirely input text gave (Err status.AlreadyThere) its = absurd its
read_entirely input text gave (Err status.TooLarge) its = absurd its

pub unread : (input : Seen) (end : Status) → IsUnread input end → IsQueryRead input (Err end)
unread input (status.BadInput at) its =
    subst (λ (n : ℕ). IfSome input.before
    (λ bytes. (s : ClosingState) → IsPathAnswer s bytes (silent (status.BadInput n))))
    (sym its.0)
    (longer input.before input.now
    (λ bytes. (s : ClosingState) → IsPathAnswer s bytes (silent (status.BadInput max_query_len))) its.1
    (λ bytes long s. answer_of_long s bytes long))
unread input status.ReadFault its = its
unread input status.NoMemory its = tt
unread input status.Done its = absurd its
unread input status.Usage its = absurd its
unread input status.Refused its = absurd its
unread input status.WriteFault its = absurd its
unread input status.DiskFault its = absurd its
unread input (status.BadStore file offset) its = absurd its
unread input (status.BadImage rule) its = absurd its
unread input status.Missing its = absurd its
unread input status.AlreadyThere its = absurd its
unread input status.TooLarge its = absurd its

-- ---- an answer, put together

each : {P Q : List ℕ → Type 0} (o : Option (List ℕ)) → ((x : List ℕ) → P x → Q x) → IfSome o P → IfSome o Q
each None f h = tt
each (Some x) f h = f x h

any : {Q : List ℕ → Type 0} (o : Option (List ℕ)) → ((x : List ℕ) → Q x) → IfSome o Q
any None f = tt
any (Some x) f = f x

module _ (s : ClosingState) (input out : Seen) where
  -- nothing was written, for an end that may cut an answer short
  cut : (end : Status) → IsCutShort end → Received out [] → IsQueryAnswered s input out end
  cut end h none = any input.before (λ bytes. ([], none, inr (h, inl refl)))

  module _ (same : IsUntouched out) where
    none : Received out []
    none = subst (λ (now : Option (List ℕ)). Appends out.before now []) (sym same.0) (Appends-nil out.before)

    -- no query was read
    pub unanswered : (end : Status) → IsQueryRead input (Err end) → AnswersQuery s input out end
    unanswered (status.BadInput at) read = record {
      answered = each input.before
          (λ bytes its. ([], none, inl (silent (status.BadInput at), its s, refl, refl))) read;
      ended = λ e. absurd (cc);
      unwritten = λ _. none;
      read_fault = λ e. absurd (cc);
      write_fault = λ e. absurd (cc);
      is_end = tt;
    }
    unanswered status.ReadFault read = record {
      answered = cut status.ReadFault tt none;
      ended = λ e. absurd (cc);
      unwritten = λ _. none;
      read_fault = λ _. read;
      write_fault = λ e. absurd (cc);
      is_end = tt;
    }
    unanswered status.NoMemory read = record {
      answered = cut status.NoMemory tt none;
      ended = λ e. absurd (cc);
      unwritten = λ _. none;
      read_fault = λ e. absurd (cc);
      write_fault = λ e. absurd (cc);
      is_end = tt;
    }
    unanswered status.Done read = absurd read
    unanswered status.Usage read = absurd read
    unanswered status.Refused read = absurd read
    unanswered status.WriteFault read = absurd read
    unanswered status.DiskFault read = absurd read
    unanswered (status.BadStore file offset) read = absurd read
    unanswered (status.BadImage rule) read = absurd read
    unanswered status.Missing read = absurd read
    unanswered status.AlreadyThere read = absurd read
    unanswered status.TooLarge read = absurd read

  module _ (at_end : IsAtEnd input.now) where
    -- memory was refused before anything was written
    refused_memory : (end : Status) → end ≡ status.NoMemory → Received out [] → AnswersQuery s input out end
    refused_memory end e none = subst (λ (x : Status). AnswersQuery s input out x) (sym e) (record {
      answered = cut status.NoMemory tt none;
      ended = λ _. at_end;
      unwritten = λ h. absurd h;
      read_fault = λ e. absurd (cc);
      write_fault = λ e. absurd (cc);
      is_end = tt;
    })

    -- a write failed
    failed_write : (o : Outcome) → IfSome input.before (λ bytes. IsPathAnswer s bytes o) → (end : Status)
        → end ≡ status.WriteFault → Failed out → ReceivedPrefix out o.text → AnswersQuery s input out end
    failed_write o its end e failed (n, few, prefix) =
        subst (λ (x : Status). AnswersQuery s input out x) (sym e) (record {
          answered = each input.before
              (λ bytes is. (take n o.text, prefix, inr (tt, inr (o, is, (n, few, refl))))) its;
          ended = λ _. at_end;
          unwritten = λ h. absurd h;
          read_fault = λ e. absurd (cc);
          write_fault = λ _. failed;
          is_end = tt;
        })

    -- a text was written, with its end
    abbrev IsWhole : Status → Type 0
    IsWhole end =
        (IsPathless end → ⊥) × (end ≡ status.ReadFault → ⊥) × (end ≡ status.WriteFault → ⊥) × IsPathEnd end

    entire_write : (o : Outcome) → IfSome input.before (λ bytes. IsPathAnswer s bytes o) → IsWhole o.status
        → Received out o.text → AnswersQuery s input out o.status
    entire_write o its (no_silence, no_read, no_write, is_end) received = record {
      answered = each input.before (λ bytes is. (o.text, received, inl (o, is, refl, refl))) its;
      ended = λ _. at_end;
      unwritten = λ h. absurd (no_silence h);
      read_fault = λ e. absurd (no_read e);
      write_fault = λ e. absurd (no_write e);
      is_end = is_end;
    }

    wrote_so : (o : Outcome) → IfSome input.before (λ bytes. IsPathAnswer s bytes o) → IsWhole o.status → (end : Status)
        → Wrote out o.text o.status end → AnswersQuery s input out end
    wrote_so o its is_whole end (inl (e, received)) =
        subst (λ (x : Status). AnswersQuery s input out x) (sym e) (entire_write o its is_whole received)
    wrote_so o its is_whole end (inr (inl (e, failed, prefix))) = failed_write o its end e failed prefix
    wrote_so o its is_whole end (inr (inr (e, received))) = refused_memory end e received

  done_whole : (IsPathless status.Done → ⊥) × (status.Done ≡ status.ReadFault → ⊥)
      × (status.Done ≡ status.WriteFault → ⊥) × IsPathEnd status.Done
  done_whole = ((λ h. h), (λ e. absurd (cc)), (λ e. absurd (cc)), tt)

  refused_whole : (IsPathless status.Refused → ⊥) × (status.Refused ≡ status.ReadFault → ⊥)
      × (status.Refused ≡ status.WriteFault → ⊥) × IsPathEnd status.Refused
  refused_whole = ((λ h. h), (λ e. absurd (cc)), (λ e. absurd (cc)), tt)

  -- a query was read, and what was found of it written
  pub answered : (query : PathQuery) → IsQueryRead input (Ok query) → (found : Result (Option Found) PathFault)
      → Finds s query found → (end : Status) → WroteAnswer found out end → AnswersQuery s input out end
  answered query read (Ok found) finds end wrote =
      wrote_so read.0 (path_outcome (Ok found)) (each input.before (λ bytes its. its s (Ok found) finds) read.1)
      done_whole end wrote
  answered query read (Err fault.NoMemory) finds end (e, same) = refused_memory read.0 end e (none same)
  answered query read (Err (fault.BadQuery index)) finds end wrote =
      wrote_so read.0 (path_outcome (Err (fault.BadQuery index)))
      (each input.before (λ bytes its. its s (Err (fault.BadQuery index)) finds) read.1) refused_whole end wrote
  answered query read (Err (fault.TooMany given)) finds end wrote =
      wrote_so read.0 (path_outcome (Err (fault.TooMany given)))
      (each input.before (λ bytes its. its s (Err (fault.TooMany given)) finds) read.1) refused_whole end wrote

-- ---- what is found

pub finds : (s : ClosingState) (query : PathQuery) (found : Result (Option Found) PathFault) → IsJudged found query
    → IfOk found (IsCheapestPath (cost_of (query_context s.header query) query s.entries) (candidates_of query))
    → Finds s query found
finds s query (Ok found) judged cheapest = (judged, cheapest, (λ e. absurd (cc)))
finds s query (Err fault.NoMemory) judged cheapest = tt
finds s query (Err (fault.BadQuery index)) judged cheapest = (judged, tt, (λ e. absurd (cc)))
finds s query (Err (fault.TooMany given)) judged cheapest = (judged, tt, (λ e. absurd (cc)))

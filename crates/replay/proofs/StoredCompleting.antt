-- What runs over a store answer, what `init` does, and that a volume that is opened again is sound.
use Rattle.replay.proofs.Prelude.{◌≡◌, ℕ, List, [], ◌++◌, Option, Some, None, IfSome, Result, Ok, Err, refl, sym, ap}
use Rattle.replay.proofs.Prelude.{subst, ◌∙◌, append-nil, inl, inr, ◌⊎◌, IsAtEnd, Seen, Failed, Gave, Received}
use Rattle.replay.proofs.Prelude.{SeenVolume, VolumeFailed, Hash, XdrFault, Position, Reading, start_of, StartImage}
use Rattle.replay.proofs.Prelude.{network_id_of, ImageFault, ImageRule, ClosingState, IsJudged, images_are_one, Status}
use Rattle.replay.proofs.Prelude.{IsCutShort, end_line, Outcome, frames, IsRun, Disk, IsImage, HoldsNothing, OpensTo}
use Rattle.replay.proofs.Prelude.{OpensOn, IsSound, AnsweredAfter, OpensInRun, DidRun, IsLedgerImage, IsBadInput}
use Rattle.replay.proofs.Prelude.{IsBadImage, DidInit, IsSoundAgain, IsSoundInRun, OpeningsAreOne, NothingFailed}
use Rattle.replay.proofs.Prelude.{StoredRuns, IsRunComplete, IsRunDone, IsRunAnswered, Inits, IsInputFault, IsInitFault}
use Rattle.replay.proofs.Prelude.{IsBadInputAnswered, IsBadImageAnswered, IsImageAnswered, images_same}
use Rattle.stored_outcome.specs.close_rules.declared.image_fault.ImageFault.TheVariants as image
use Rattle.stored_outcome.specs.run_outcome.declared.status.Status.TheVariants as status
use Rattle.replay.proofs.OneOutcome.{runs_are_one}
use Rattle.replay.proofs.OneState.{opens_to_one, opens_not_missing, opens_not_bad, missing_not_bad, bad_at_one}
use Rattle.replay.proofs.Surviving.{after_on}

-- ---- opening again

pub sound_again : (old new : Disk) → IsSoundAgain old new
sound_again old new c sound may again =
    let opens = sound.crash c may in
    record {
      network = sound.network;
      crash = λ d left. subst (OpensOn sound.network) (sym (again.safe d left ∙ again.reads)) opens;
      reads = subst (OpensOn sound.network) (sym again.reads) opens;
    }

pub sound_in_run : (vol : SeenVolume) (again : Disk) → IsSoundInRun vol again
sound_in_run vol again s given text end c v sound might reopened = by (v.moments c might)
  where
    on : (network : Hash) → OpensOn network c → IsSound again
    on network opens = record {
      network = network;
      crash = λ d left. subst (OpensOn network) (sym (reopened.safe d left ∙ reopened.reads)) opens;
      reads = subst (OpensOn network) (sym reopened.reads) opens;
    }

    by : OpensInRun s given vol c → IsSound again
    by (inl may) = on sound.network (sound.crash c may)
    by (inr (k, opens)) = on s.network (after_on s given k c opens)

pub openings_are_one : OpeningsAreOne
openings_are_one = record {
  states = opens_to_one;
  faults = bad_at_one;
  no_fault = opens_not_bad;
  some = opens_not_missing;
  no_store = missing_not_bad;
}

-- ---- runs

-- why an end cut a run short
abbrev Failing : (input out err : Seen) (vol : SeenVolume) → (end : Status) → Type 0
Failing input out err vol end =
    ((end ≡ status.ReadFault) × Failed input)
    ⊎ ((end ≡ status.WriteFault) × (Failed out ⊎ Failed err))
    ⊎ ((end ≡ status.DiskFault) × VolumeFailed vol)
    ⊎ (end ≡ status.NoMemory)

failing : (input out err : Seen) (vol : SeenVolume) (end : Status) → DidRun input out err vol end → IsCutShort end
    → Failing input out err vol end
failing input out err vol status.ReadFault did short = inl (refl, did.read_fault refl)
failing input out err vol status.WriteFault did short = inr (inl (refl, did.write_fault refl))
failing input out err vol status.DiskFault did short = inr (inr (inl (refl, did.disk_fault refl)))
failing input out err vol status.NoMemory did short = inr (inr (inr refl))
failing input out err vol status.Done did short = absurd short
failing input out err vol status.Usage did short = absurd short
failing input out err vol status.Refused did short = absurd short
failing input out err vol (status.BadStore file offset) did short = absurd short
failing input out err vol status.Missing did short = absurd short
failing input out err vol status.AlreadyThere did short = absurd short
failing input out err vol status.TooLarge did short = absurd short
failing input out err vol (status.BadInput at) did short = absurd short
failing input out err vol (status.BadImage rule) did short = absurd short

answered_after : (s : ClosingState) (bytes : List ℕ) (input out err : Seen) (vol : SeenVolume) (end : Status)
    → DidRun input out err vol end → vol.reports → OpensTo vol.before.reads s → input.before ≡ Some bytes
    → AnsweredAfter s bytes out end
answered_after s bytes input out err vol end did te opens reported =
    subst (λ (before : Option (List ℕ)). IfSome before (λ given. AnsweredAfter s given out end)) reported
    (did.opened te s opens).answered

answered_own : (s : ClosingState) (bytes : List ℕ) (input out err : Seen) (vol : SeenVolume) (end : Status)
    (o : Outcome) → DidRun input out err vol end → AnsweredAfter s bytes out end → IsRun s (start_of bytes) o
    → ((end ≡ o.status) × Received out o.text) ⊎ Failing input out err vol end
answered_own s bytes input out err vol end o did (text, h, inl (x, run, e, are)) other =
    let same = runs_are_one s (start_of bytes) x o run other in
    inl (subst (λ (z : Outcome). (end ≡ z.status) × Received out z.text) same (e, subst (Received out) are h))
answered_own s bytes input out err vol end o did (text, h, inr (short, f)) other =
    inr (failing input out err vol end did short)

pub stored_answered : (vol : SeenVolume) → StoredRuns vol (IsRunAnswered vol)
stored_answered vol s bytes input out err end did te opens reported o run =
    answered_own s bytes input out err vol end o did
    (answered_after s bytes input out err vol end did te opens reported) run

only_memory : (input out err : Seen) (vol : SeenVolume) (end : Status) → NothingFailed input out err vol
    → Failing input out err vol end → end ≡ status.NoMemory
only_memory input out err vol end none (inl (e, failed)) = absurd (none.streams.no_read failed)
only_memory input out err vol end none (inr (inl (e, inl failed))) = absurd (none.streams.no_write failed)
only_memory input out err vol end none (inr (inl (e, inr failed))) = absurd (none.streams.no_line failed)
only_memory input out err vol end none (inr (inr (inl (e, failed)))) = absurd (none.no_disk failed)
only_memory input out err vol end none (inr (inr (inr e))) = e

complete : (s : ClosingState) (bytes : List ℕ) (input out err : Seen) (vol : SeenVolume) (end : Status)
    → DidRun input out err vol end → NothingFailed input out err vol → AnsweredAfter s bytes out end
    → ((o : Outcome) × IsRun s (start_of bytes) o × (end ≡ o.status) × Received out o.text) ⊎ (end ≡ status.NoMemory)
complete s bytes input out err vol end did none (text, h, inl (o, run, e, are)) =
    inl (o, run, e, subst (Received out) are h)
complete s bytes input out err vol end did none (text, h, inr (short, f)) =
    inr (only_memory input out err vol end none (failing input out err vol end did short))

pub stored_complete : (vol : SeenVolume) → StoredRuns vol (IsRunComplete vol)
stored_complete vol s bytes input out err end did te opens reported none =
    complete s bytes input out err vol end did none (answered_after s bytes input out err vol end did te opens reported)

done : (input out err : Seen) (vol : SeenVolume) (end : Status) (text : List ℕ) → NothingFailed input out err vol
    → ((end ≡ status.Done) × Received out text) ⊎ Failing input out err vol end
    → ((end ≡ status.Done) × Received out text) ⊎ (end ≡ status.NoMemory)
done input out err vol end text none (inl h) = inl h
done input out err vol end text none (inr failed) = inr (only_memory input out err vol end none failed)

pub stored_done : (vol : SeenVolume) → StoredRuns vol (IsRunDone vol)
stored_done vol s bytes input out err end did te opens reported records lines now cut short closed none =
    done input out err vol end (lines ++ end_line now.header) none
    (stored_answered vol s bytes input out err end did te opens reported
    (record { status = status.Done; text = lines ++ end_line now.header })
    (record {
      records = records;
      rest = [];
      cut = cut ∙ sym (append-nil (frames records));
      short = short;
      lines = lines;
      state = now;
      closed = closed;
      last = record { status = status.Done; text = end_line now.header };
      ends = refl;
      is = refl;
    }))

-- ---- `init`

-- the input is the image of a ledger
abbrev IsAnImage : Hash → List ℕ → Type 0
IsAnImage network bytes = (start : StartImage) × (s : ClosingState) × IsLedgerImage network bytes start s

-- what `init` yielded
abbrev Yielded : (passphrase bytes : List ℕ) → (input err : Seen) → SeenVolume → Status → Type 0
Yielded passphrase bytes input err vol end =
    ((end ≡ status.Done) × IsAnImage (network_id_of passphrase) bytes × (vol.reports → HoldsNothing vol.before.reads))
    ⊎ ((end ≡ status.AlreadyThere) × IsAnImage (network_id_of passphrase) bytes
    × (vol.reports → HoldsNothing vol.before.reads → ⊥))
    ⊎ ((at : ℕ) × (end ≡ status.BadInput at) × IsBadInput bytes at)
    ⊎ ((rule : ImageRule) × (end ≡ status.BadImage rule) × IsBadImage (network_id_of passphrase) bytes rule)
    ⊎ IsInputFault input err end
    ⊎ ((end ≡ status.DiskFault) × VolumeFailed vol × IsAnImage (network_id_of passphrase) bytes)

-- a source that was read to its end gave all that it had
all_given : (input : Seen) (bytes given : List ℕ) → input.before ≡ Some bytes → Gave input given → IsAtEnd input.now
    → given ≡ bytes
all_given input bytes given reported gave ended = from input.before input.now reported gave ended
  where
    from : (before now : Option (List ℕ)) → before ≡ Some bytes → Gave (record {
      before = before;
      now = now;
      faults_before = input.faults_before;
      faults_now = input.faults_now;
    }) given → IsAtEnd now → given ≡ bytes
    from None now reported gave ended = absurd cc
    from (Some x) None reported gave ended = absurd gave
    from (Some x) (Some y) reported gave ended =
        let same : x ≡ bytes = cc in
        sym (append-nil given) ∙ ap (λ (t : List ℕ). given ++ t) (sym ended) ∙ sym gave ∙ same

yielded : (passphrase bytes : List ℕ) (input err : Seen) (vol : SeenVolume) (end : Status)
    → DidInit passphrase input err vol end → input.before ≡ Some bytes → Yielded passphrase bytes input err vol end
yielded passphrase bytes input err vol status.Done did reported =
    let d = did.left.done refl in
    let a = d.0 in
    inl (
      refl,
      (
        a.start,
        a.state,
        subst (λ (t : List ℕ). IsLedgerImage (network_id_of passphrase) t a.start a.state)
            (all_given input bytes a.given reported a.gave a.ended) a.entire,
      ),
      λ te. (d.1 te).nothing,
    )
yielded passphrase bytes input err vol status.AlreadyThere did reported =
    let d = did.left.already refl in
    let a = d.0 in
    inr (inl (
      refl,
      (
        a.start,
        a.state,
        subst (λ (t : List ℕ). IsLedgerImage (network_id_of passphrase) t a.start a.state)
            (all_given input bytes a.given reported a.gave a.ended) a.entire,
      ),
      λ te. (d.1 te).0,
    ))
yielded passphrase bytes input err vol (status.BadInput at) did reported = inr (inr (inl (
  at,
  refl,
  subst (λ (before : Option (List ℕ)). IfSome before (λ t. IsBadInput t at)) reported (did.left.bad_input at refl).1,
)))
yielded passphrase bytes input err vol (status.BadImage rule) did reported = inr (inr (inr (inl (
  rule,
  refl,
  subst (λ (before : Option (List ℕ)). IfSome before (λ t. IsBadImage (network_id_of passphrase) t rule)) reported
      (did.left.bad_image rule refl).1,
))))
yielded passphrase bytes input err vol status.ReadFault did reported =
    inr (inr (inr (inr (inl (inl (refl, (did.left.read_fault refl).0))))))
yielded passphrase bytes input err vol status.WriteFault did reported =
    inr (inr (inr (inr (inl (inr (inl (refl, did.write_fault refl)))))))
yielded passphrase bytes input err vol status.DiskFault did reported =
    let d = did.left.disk_fault refl in
    let a = d.0 in
    inr (inr (inr (inr (inr (
      refl,
      d.1,
      (
        a.start,
        a.state,
        subst (λ (t : List ℕ). IsLedgerImage (network_id_of passphrase) t a.start a.state)
            (all_given input bytes a.given reported a.gave a.ended) a.entire,
      ),
    )))))
yielded passphrase bytes input err vol status.NoMemory did reported = inr (inr (inr (inr (inl (inr (inr refl))))))
yielded passphrase bytes input err vol status.Usage did reported = absurd did.left.is_end
yielded passphrase bytes input err vol status.Refused did reported = absurd did.left.is_end
yielded passphrase bytes input err vol (status.BadStore file offset) did reported = absurd did.left.is_end
yielded passphrase bytes input err vol status.Missing did reported = absurd did.left.is_end
yielded passphrase bytes input err vol status.TooLarge did reported = absurd did.left.is_end

abbrev reading : Reading XdrFault StartImage → Reading XdrFault StartImage
reading r = r

one_fault : (a b : XdrFault) → reading (Err a) ≡ Err b → a ≡ b
one_fault a b e = cc

one_cut : (a b : StartImage × Position) → reading (Ok a) ≡ Ok b → a ≡ b
one_cut a b e = cc

not_both : (a : StartImage × Position) (b : XdrFault) → reading (Ok a) ≡ Err b → ⊥
not_both a b e = absurd cc

-- an input has one fault, and with it no image
one_bad_input : (bytes : List ℕ) (a b : ℕ) → IsBadInput bytes a → IsBadInput bytes b → a ≡ b
one_bad_input bytes a b (inl (wrong, reads, at)) (inl (other, again, offset)) =
    at ∙ ap (λ (w : XdrFault). w.at) (one_fault wrong other (sym reads ∙ again)) ∙ sym offset
one_bad_input bytes a b (inl (wrong, reads, at)) (inr (start, p, again, some, offset)) =
    absurd (not_both (start, p) wrong (sym again ∙ reads))
one_bad_input bytes a b (inr (start, p, reads, some, at)) (inl (wrong, again, offset)) =
    absurd (not_both (start, p) wrong (sym reads ∙ again))
one_bad_input bytes a b (inr (start, p, reads, some, at)) (inr (other, q, again, more, offset)) =
    at ∙ ap (λ (x : StartImage × Position). x.1.at) (one_cut (start, p) (other, q) (sym reads ∙ again)) ∙ sym offset

not_bad_input : (bytes : List ℕ) (at : ℕ) (start : StartImage) → IsBadInput bytes at → IsImage bytes start → ⊥
not_bad_input bytes at start (inl (wrong, reads, is)) (end, again, empty) =
    not_both (start, end) wrong (sym again ∙ reads)
not_bad_input bytes at start (inr (other, p, reads, some, is)) (end, again, empty) =
    some (ap (λ (x : StartImage × Position). x.1.rest) (one_cut (other, p) (start, end) (sym reads ∙ again)) ∙ empty)

not_bad_image : (network : Hash) (bytes : List ℕ) (rule : ImageRule) (start : StartImage) (s : ClosingState)
    → IsBadImage network bytes rule → IsLedgerImage network bytes start s → ⊥
not_bad_image network bytes rule start s (other, are, judged) entire =
    let same = images_same bytes other start are entire.are in
    let both = images_are_one network start (Ok s) (Err (image.BadImage rule)) entire.judged
    (subst (λ (x : StartImage). IsJudged network x (Err (image.BadImage rule))) same judged) in
    absurd cc

abbrev judgement : Result ClosingState ImageFault → Result ClosingState ImageFault
judgement r = r

one_rule : (network : Hash) (bytes : List ℕ) (a b : ImageRule) → IsBadImage network bytes a
    → IsBadImage network bytes b → a ≡ b
one_rule network bytes a b (start, are, judged) (other, also, again) =
    let same = images_same bytes other start also are in
    let both : judgement (Err (image.BadImage a)) ≡ Err (image.BadImage b) =
    images_are_one network start (Err (image.BadImage a)) (Err (image.BadImage b)) judged
    (subst (λ (x : StartImage). IsJudged network x (Err (image.BadImage b))) same again) in
    cc

pub bad_inputs_answered : (vol : SeenVolume) → Inits vol IsBadInputAnswered
bad_inputs_answered vol passphrase bytes input err end did reported at bad =
    by (yielded passphrase bytes input err vol end did reported)
  where
    by : Yielded passphrase bytes input err vol end → (end ≡ status.BadInput at) ⊎ IsInputFault input err end
    by (inl (e, (start, s, entire), nothing)) = absurd (not_bad_input bytes at start bad entire.are)
    by (inr (inl (e, (start, s, entire), some))) = absurd (not_bad_input bytes at start bad entire.are)
    by (inr (inr (inl (offset, e, other)))) =
        inl (e ∙ ap (λ (n : ℕ). status.BadInput n) (one_bad_input bytes offset at other bad))
    by (inr (inr (inr (inl (rule, e, (start, are, judged)))))) = absurd (not_bad_input bytes at start bad are)
    by (inr (inr (inr (inr (inl failed))))) = inr failed
    by (inr (inr (inr (inr (inr (e, failed, (start, s, entire))))))) =
        absurd (not_bad_input bytes at start bad entire.are)

pub bad_images_answered : (vol : SeenVolume) → Inits vol IsBadImageAnswered
bad_images_answered vol passphrase bytes input err end did reported rule bad =
    by (yielded passphrase bytes input err vol end did reported)
  where
    network : Hash
    network = network_id_of passphrase

    by : Yielded passphrase bytes input err vol end → (end ≡ status.BadImage rule) ⊎ IsInputFault input err end
    by (inl (e, (start, s, entire), nothing)) = absurd (not_bad_image network bytes rule start s bad entire)
    by (inr (inl (e, (start, s, entire), some))) = absurd (not_bad_image network bytes rule start s bad entire)
    by (inr (inr (inl (offset, e, other)))) = absurd (not_bad_input bytes offset bad.0 other bad.1)
    by (inr (inr (inr (inl (other, e, also))))) =
        inl (e ∙ ap (λ (r : ImageRule). status.BadImage r) (one_rule network bytes other rule also bad))
    by (inr (inr (inr (inr (inl failed))))) = inr failed
    by (inr (inr (inr (inr (inr (e, failed, (start, s, entire))))))) =
        absurd (not_bad_image network bytes rule start s bad entire)

pub images_answered : (vol : SeenVolume) → Inits vol (IsImageAnswered vol)
images_answered vol passphrase bytes input err end did reported start s entire te =
    by (yielded passphrase bytes input err vol end did reported)
  where
    network : Hash
    network = network_id_of passphrase

    by : Yielded passphrase bytes input err vol end
        → (HoldsNothing vol.before.reads → (end ≡ status.Done) ⊎ IsInitFault input err vol end)
        × ((HoldsNothing vol.before.reads → ⊥) → (end ≡ status.AlreadyThere) ⊎ IsInitFault input err vol end)
    by (inl (e, is, nothing)) = (λ none. inl e, λ some. absurd (some (nothing te)))
    by (inr (inl (e, is, some))) = (λ none. absurd (some te none), λ more. inl e)
    by (inr (inr (inl (offset, e, bad)))) = absurd (not_bad_input bytes offset start bad entire.are)
    by (inr (inr (inr (inl (rule, e, bad))))) = absurd (not_bad_image network bytes rule start s bad entire)
    by (inr (inr (inr (inr (inl failed))))) = (λ none. inr (inl failed), λ some. inr (inl failed))
    by (inr (inr (inr (inr (inr (e, failed, is)))))) = (λ none. inr (inr (e, failed)), λ some. inr (inr (e, failed)))

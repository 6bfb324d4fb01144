-- What a history at the start of an input yields.
use Rattle.std.proofs.Common.{◌≡◌, ℕ, ◌<◌, ◌≤◌, List, [], ◌∷◌, ◌++◌, length, drop, Option, Some, IfSome}
use Rattle.std.proofs.Common.{Result, Ok, Err, refl, sym, ap, subst, ◌∙◌, append_assoc, append-nil, zero-add, arith}
use Rattle.std.proofs.Common.{inl, inr}
use Rattle.std.proofs.KnownBytes.{Consumes-trans}
use Rattle.std.proofs.lemmas.List.{drop_at, length-append}
use Rattle.std.specs.Io.KnownBytes.{Consumes, IsAtEnd}
use Rattle.record_stream.specs.Filling.{Grown}
use Rattle.record_stream.specs.Measured.{end_by}
use Rattle.xdr_core.specs.declared.fault.XdrFault.{XdrFault}
use Rattle.xdr_core.specs.declared.fault.XdrKind.TheVariants.{Short}
use Rattle.xdr_core.specs.Format.{IsBytes, Encodes}
use Rattle.xdr_core.specs.Position.{Position, Reading, start_of}
use Rattle.xdr_core.proofs.FormatLaws.{faults_located}
use Rattle.xdr_header.specs.Image.{file}
use Rattle.archive_files.specs.declared.form.StatedHistory.{StatedHistory}
use Rattle.archive_files.specs.Form.{stated_history}
use Rattle.archive_files.proofs.FormLaws.{stated_history_laws}
use Rattle.archive_files.specs.Stated.{IsStatedLength}
use Rattle.run_outcome.specs.run_streams.Seen.{Seen}
use Rattle.run_outcome.specs.declared.status.Status.{Status}
use Rattle.run_outcome.specs.declared.status.Status.TheVariants as status
use Rattle.run_outcome.specs.Outcome.{silent}
use Rattle.run_outcome.specs.VerifyRun.{IsVerdict, IsVerdictAt, IsVerdictOf}
use Rattle.reports.specs.EndOfInput.{IsEnded, IsFollowed, IsUnended}
use Rattle.reports.specs.HistoryInput.{history_end, IsUnread, IsPrefix, IsText, IsEntire}
use Rattle.reports.proofs.Streams.{rose_before, reported_prefix, nothing_after_end, short_or_not}

abbrev pub read_stated : List ℕ → Reading XdrFault StatedHistory
read_stated text = stated_history.read (start_of text)

abbrev read : Reading XdrFault StatedHistory → Reading XdrFault StatedHistory
read r = r

-- ---- where it ends

abbrev ended : Result ℕ XdrFault → Result ℕ XdrFault
ended r = r

pub length_is : (text : List ℕ) (r : Result ℕ XdrFault) → IsStatedLength text r → r ≡ history_end text
length_is text (Ok end) s =
    subst (λ (n : ℕ). ended (Ok n) ≡ history_end text) (sym s.is)
    (sym (ap (λ (r : Reading XdrFault StatedHistory). end_by r) s.reads))
length_is text (Err wrong) e = sym (ap (λ (r : Reading XdrFault StatedHistory). end_by r) e)

end_ok : (r : Reading XdrFault StatedHistory) (end : ℕ) → end_by r ≡ Ok end
    → (x : StatedHistory × Position) × (r ≡ Ok x) × (x.1.at ≡ end)
end_ok (Ok x) end e = (x, refl, cc)
end_ok (Err wrong) end e = absurd cc

end_err : (r : Reading XdrFault StatedHistory) (wrong : XdrFault) → end_by r ≡ Err wrong → r ≡ Err wrong
end_err (Ok x) wrong e = absurd cc
end_err (Err other) wrong e = cc

-- a text begins with a history, and this is what follows it
pub record Parts (text : List ℕ) (at : ℕ) : Type 0 where
  pub history : StatedHistory
  pub after : Position
  pub reads : read_stated text ≡ Ok (history, after)
  pub encodes : Encodes stated_history (start_of text) after history
  pub is : after.at ≡ at
  pub rest : drop at text ≡ after.rest
  pub low : at ≤ length text

pub parts_of : (text : List ℕ) (at : ℕ) → IsBytes text → history_end text ≡ Ok at → Parts text at
parts_of text at fits e =
    let x = end_ok (read_stated text) at e in
    let s = stated_history_laws.lawful.takes (start_of text) x.0.1 x.0.0 fits x.1 in
    let own : List ℕ = stated_history.encoding x.0.0 in
    let len : at ≡ length own = sym x.2 ∙ s.taken.at ∙ zero-add (length own) in
    record {
      history = x.0.0;
      after = x.0.1;
      reads = x.1;
      encodes = s;
      is = x.2;
      rest = ap (drop at) s.taken.parts ∙ drop_at own x.0.1.rest at (sym len);
      low = omega (arith, len, ap length s.taken.parts, length-append own x.0.1.rest);
    }

-- the history is read so, whatever follows the text
read_on : (text : List ℕ) (at : ℕ) (p : Parts text at) (more : List ℕ)
    → read_stated (text ++ more) ≡ Ok (p.history, record { at = at; rest = p.after.rest ++ more })
read_on text at p more =
    let own : List ℕ = stated_history.encoding p.history in
    let s = p.encodes in
    let len : length own ≡ at = sym (zero-add (length own)) ∙ sym s.taken.at ∙ p.is in
    ap read_stated (ap (λ (t : List ℕ). t ++ more) s.taken.parts ∙ append_assoc own p.after.rest more)
    ∙ stated_history_laws.lawful.again 0 p.history (p.after.rest ++ more) s.within s.sized
    ∙ ap (λ (n : ℕ). Ok (p.history, record { at = n; rest = p.after.rest ++ more })) (zero-add (length own) ∙ len)

-- ---- no history

bad_verdict : (bytes : List ℕ) (wrong : XdrFault) → read_stated bytes ≡ Err wrong
    → IsVerdict bytes (silent (status.BadInput wrong.at))
bad_verdict bytes wrong e =
    subst (λ (r : Reading XdrFault StatedHistory). IsVerdictOf r (silent (status.BadInput wrong.at))) (sym e) refl

-- a fault stays where more bytes follow, if they can
fault_stays : (new others : List ℕ) (now : Option (List ℕ)) (wrong : XdrFault) → IsBytes new
    → read_stated new ≡ Err wrong → (wrong.kind ≡ Short → IsAtEnd now) → now ≡ Some others
    → read_stated (new ++ others) ≡ Err wrong
fault_stays new others now wrong fits e at_end reported = elim (short_or_not wrong.kind) [
  | inl short ↦ ap (λ (t : List ℕ). read_stated (new ++ t)) (nothing_after_end now others (at_end short) reported)
      ∙ ap read_stated (append-nil new) ∙ e
  | inr other ↦ (faults_located stated_history_laws).stays (start_of new) wrong others fits e other
]

pub unread_bad : (input : Seen) (new : List ℕ) (wrong : XdrFault) → Grown input.before input.now [] new → IsBytes new
    → history_end new ≡ Err wrong → (wrong.kind ≡ Short → IsAtEnd input.now)
    → IsUnread input (status.BadInput wrong.at)
unread_bad input new wrong grown fits measured at_end =
    let end : Status = status.BadInput wrong.at in
    reported_prefix input.before input.now grown.given (λ bytes. IsVerdict bytes (silent end)) grown.gave
    (λ others reported. subst (λ (t : List ℕ). IsVerdict (t ++ others) (silent end)) grown.grown
    (bad_verdict (new ++ others) wrong
    (fault_stays new others input.now wrong fits (end_err (read_stated new) wrong measured) at_end reported)))

pub found : (input : Seen) (new : List ℕ) (at : ℕ) → Grown input.before input.now [] new → history_end new ≡ Ok at
    → input.faults_before ≤ input.faults_now → IsPrefix at new input
found input new at grown ends later = record {
  gave = subst (λ (t : List ℕ). Consumes input.before input.now t) (sym grown.grown) grown.gave;
  ends = ends;
  later = later;
}

-- ---- bytes that follow

left_over : (h : StatedHistory) (at : ℕ) (rest : List ℕ) → 0 < length rest
    → IsVerdictAt h at rest (silent (status.BadInput at))
left_over h at [] some = absurd (omega arith)
left_over h at (byte ∷ rest) some = refl

abbrev over : (before now : Option (List ℕ)) (faults faults_now : ℕ) → Seen
over before now faults faults_now =
    record { before = before; now = now; faults_before = faults; faults_now = faults_now }

module _ (before mid now : Option (List ℕ)) (faults faults_mid faults_now : ℕ) (text : List ℕ) (at : ℕ)
    (fits : IsBytes text) (prefix : IsPrefix at text (over before mid faults faults_mid)) where
  -- nothing follows
  pub entire : IsEnded (drop at text) (over mid now faults_mid faults_now)
      → IsEntire text (over before now faults faults_now)
  entire e =
      let p : Parts text at = parts_of text at fits prefix.ends in
      record {
        gave = subst (λ (t : List ℕ). Consumes before now t) (append-nil text)
            (Consumes-trans before mid now text [] prefix.gave e.gave);
        ended = e.ended;
        history = p.history;
        is = (
          p.after.at,
          p.reads ∙ ap (λ (t : List ℕ). Ok (p.history, record { at = p.after.at; rest = t })) (sym p.rest ∙ e.none),
        );
        within = p.encodes.within;
      }

  followed : IsFollowed (drop at text) (over mid now faults_mid faults_now)
      → IfSome before (λ bytes. IsVerdict bytes (silent (status.BadInput at)))
  followed f =
      let p : Parts text at = parts_of text at fits prefix.ends in
      reported_prefix before now (text ++ f.more) (λ bytes. IsVerdict bytes (silent (status.BadInput at)))
      (Consumes-trans before mid now text f.more prefix.gave f.gave)
      (λ others reported.
      let more : List ℕ = f.more ++ others in
      let rest : List ℕ = p.after.rest ++ more in
      let some : 0 < length rest =
      omega (
        arith,
        f.some,
        ap length p.rest,
        length-append (drop at text) f.more,
        length-append p.after.rest more,
        length-append f.more others,
      ) in
      subst (λ (r : Reading XdrFault StatedHistory). IsVerdictOf r (silent (status.BadInput at)))
      (sym (ap read_stated (append_assoc text f.more others) ∙ read_on text at p more))
      (left_over p.history at rest some))

  pub unended : (end : Status) → IsUnended at (drop at text) (over mid now faults_mid faults_now) end
      → IsUnread (over before now faults faults_now) end
  unended (status.BadInput offset) h =
      subst (λ (n : ℕ). IsUnread (over before now faults faults_now) (status.BadInput n)) (sym h.0) (followed h.1)
  unended status.ReadFault h = rose_before faults faults_mid faults_now prefix.later h
  unended status.Done h = absurd h
  unended status.Usage h = absurd h
  unended status.Refused h = absurd h
  unended status.WriteFault h = absurd h
  unended status.DiskFault h = absurd h
  unended (status.BadStore file offset) h = absurd h
  unended status.NoMemory h = absurd h
  unended (status.BadImage rule) h = absurd h
  unended status.Missing h = absurd h
  unended status.AlreadyThere h = absurd h
  unended status.TooLarge h = absurd h

-- ---- a text that is one

ok_is : (a b : StatedHistory × Position) → read (Ok a) ≡ Ok b → a ≡ b
ok_is a b e = cc

no_fault : (wrong : XdrFault) (b : StatedHistory × Position) → read (Err wrong) ≡ Ok b → ⊥
no_fault wrong b e = cc

pub text_is : (h x : StatedHistory) (text : List ℕ) (p q : Position) → p ≡ start_of text
    → stated_history.read p ≡ Ok (x, q) → IsText h text → x ≡ h
text_is h x text p q e reads is =
    ap (λ (y : StatedHistory × Position). y.0)
    (ok_is (x, q) (h, record { at = is.0; rest = [] })
    (sym reads ∙ ap (λ (z : Position). stated_history.read z) e ∙ is.1))

pub text_has_no_fault : (h : StatedHistory) (text : List ℕ) (p : Position) (wrong : XdrFault) → p ≡ start_of text
    → stated_history.read p ≡ Err wrong → IsText h text → ⊥
text_has_no_fault h text p wrong e reads is =
    no_fault wrong (h, record { at = is.0; rest = [] })
    (sym reads ∙ ap (λ (z : Position). stated_history.read z) e ∙ is.1)

-- ---- its bounds

pub headers_fit : (h : StatedHistory) → stated_history.within h → length h.history.headers ≤ 268435456
unfolding stated_history file
headers_fit h (mark, (before, (first, (headers, others)))) = headers

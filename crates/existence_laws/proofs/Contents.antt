-- A content of files that are bytes opens to a ledger, has a fault, or has no store.
use Rattle.existence_laws.proofs.Prelude as prelude
use prelude.{◌≡◌, ℕ, ◌+◌, ◌%◌, ◌≤◌, List, [], ◌∷◌, ◌++◌, length, Result, Ok, Err, refl, ap, subst, append_assoc, inl}
use prelude.{inr, ◌⊎◌, All-head, All-tail, IsBytes, start_of, start_image_laws, CloseFault, ImageFault, ClosingState}
use prelude.{IsClosingState, PreparedClose, IsClose, IsJudged, TakenIsClosable, NextIsClosing, installed_state}
use prelude.{max_record_len, lines_of, AreClosed, EachClose, EachImage, Opened, EachContent}
use Rattle.std.specs.Prelude.{All}
use Rattle.std.proofs.lemmas.List.Elements.{All-nil, All-cons}
use Rattle.byteorder.specs.Endian.{big_bytes}
use Rattle.replay.proofs.xdr_core_proofs.Steps.{IsBytes-drop}
use Rattle.image_store.specs.outside.Disk.{Image}
use Rattle.image_store.specs.gate_journal.Records.{block, blocks}
use Rattle.image_store.specs.gate_journal.declared.fault.StoreFault.{StoreFault}
use Rattle.image_store.specs.gate_journal.declared.fault.StoreFault.TheVariants as store
use Rattle.image_store.specs.ImageFiles.{image_offset, format_in, image_in}
use Rattle.image_store.proofs.Pieces.{last_bytes}
use Rattle.image_store.specs.Laws.{EachOpens}
use Rattle.image_store.specs.Opening.{Kept, Holds, IsOpening}
use Rattle.replay.specs.stored_outcome.Opening.{BreaksRule, MayHold, IsRefusedIn}
use Rattle.replay.proofs.Forms.{may_hold_or}
use Rattle.existence_laws.proofs.Starting.{judged_state, header_bytes, files_bytes}
use Rattle.image_store.proofs.Pieces.{first_bytes}

-- ---- bytes

-- each of these records is bytes, as many as it may have
abbrev AreRecords : List (List ℕ) → Type 0
AreRecords [] = Unit {0}
AreRecords (bytes ∷ records) = IsBytes bytes × (length bytes ≤ max_record_len) × AreRecords records

records_are : (records : List (List ℕ)) (after : List ℕ) → IsBytes (blocks records ++ after)
    → All (λ bytes. length bytes ≤ max_record_len) records → AreRecords records
records_are [] after are short = tt
records_are (w ∷ ws) after are short =
    let text = subst IsBytes (append_assoc (block w) (blocks ws) after) are in (
      last_bytes (1 ∷ big_bytes 4 (length w)) w (first_bytes (block w) (blocks ws ++ after) text),
      All-head (λ bytes. length bytes ≤ max_record_len) w ws short,
      records_are ws after (last_bytes (block w) (blocks ws ++ after) text)
          (All-tail (λ bytes. length bytes ≤ max_record_len) w ws short),
    )

-- ---- records, one after another

-- an epoch of this format may hold all, and they close ledgers
record Closed (format : ℕ) (s : ClosingState) (records : List (List ℕ)) : Type 0 where
  pub held : All (MayHold format) records
  pub lines : List ℕ
  pub now : ClosingState
  pub closed : AreClosed s records lines now
  pub closing : IsClosingState now

-- one is refused after those before it
record Refused (format : ℕ) (s : ClosingState) (records : List (List ℕ)) : Type 0 where
  pub prefix : List (List ℕ)
  pub bytes : List ℕ
  pub others : List (List ℕ)
  pub cut : records ≡ prefix ++ bytes ∷ others
  pub held : All (MayHold format) prefix
  pub lines : List ℕ
  pub state : ClosingState
  pub closed : AreClosed s prefix lines state
  pub refused : IsRefusedIn format state bytes

-- the first is refused
first_refused : (format : ℕ) (s : ClosingState) (bytes : List ℕ) (records : List (List ℕ))
    → IsRefusedIn format s bytes → Refused format s (bytes ∷ records)
first_refused format s bytes records refused = record {
  prefix = [];
  bytes = bytes;
  others = records;
  cut = refl;
  held = All-nil (MayHold format);
  lines = [];
  state = s;
  closed = (refl, refl);
  refused = refused;
}

module _ (each : EachClose) (closable : TakenIsClosable) (next : NextIsClosing) where
  close_all : (format : ℕ) (records : List (List ℕ)) (s : ClosingState) → IsClosingState s → AreRecords records
      → Closed format s records ⊎ Refused format s records
  close_all format [] s closing are =
      inl (record { held = All-nil (MayHold format); lines = []; now = s; closed = (refl, refl); closing = closing })
  close_all format (w ∷ ws) s closing are = elim (may_hold_or format w) [
    | inl held ↦ by held (λ c closes. close_all format ws c.state closes are.2) (each s w closing are.0 are.1)
    | inr form ↦ inr (first_refused format s w ws (inl form))
  ]
    where
      after : (c : PreparedClose) → MayHold format w → IsClose s w (Ok c)
          → Closed format c.state ws ⊎ Refused format c.state ws
          → Closed format s (w ∷ ws) ⊎ Refused format s (w ∷ ws)
      after c held close (inl all) = inl (record {
        held = All-cons (MayHold format) w ws held all.held;
        lines = lines_of c ++ all.lines;
        now = all.now;
        closed = (c, all.lines, close, all.closed, refl);
        closing = all.closing;
      })
      after c held close (inr one) = inr (record {
        prefix = w ∷ one.prefix;
        bytes = one.bytes;
        others = one.others;
        cut = ap (λ (rest : List (List ℕ)). w ∷ rest) one.cut;
        held = All-cons (MayHold format) w one.prefix held one.held;
        lines = lines_of c ++ one.lines;
        state = one.state;
        closed = (c, one.lines, close, one.closed, refl);
        refused = one.refused;
      })

      by : MayHold format w
          → ((c : PreparedClose) → IsClosingState c.state → Closed format c.state ws ⊎ Refused format c.state ws)
          → (answer : Result PreparedClose CloseFault) × IsClose s w answer
          → Closed format s (w ∷ ws) ⊎ Refused format s (w ∷ ws)
      by held later (Ok c, close) =
          after c held close (later c (installed_state closable next s c closing (w, close, are.1)))
      by held later (Err wrong, close) = inr (first_refused format s w ws (inr (wrong, close)))

  -- ---- a content

  opened_records : (c : Image) (k : Kept) (start : ClosingState) → Holds c k → IsJudged k.network k.image (Ok start)
      → Closed k.format start k.records ⊎ Refused k.format start k.records → Opened c
  opened_records c k start holds judged (inl all) = inl (
    all.now,
    all.closing,
    (
      k,
      holds,
      record { start = start; judged = judged; held = all.held; lines = all.lines; closed = all.closed },
    ),
  )
  opened_records c k start holds judged (inr one) = inr (inr (
    2 + k.epoch % 2,
    length (blocks one.prefix),
    inr (
      k,
      holds,
      inr (record {
        start = start;
        judged = judged;
        prefix = one.prefix;
        bytes = one.bytes;
        others = one.others;
        records = one.cut;
        held = one.held;
        lines = one.lines;
        state = one.state;
        closed = one.closed;
        refused = one.refused;
        in_file = refl;
        at = refl;
      }),
    ),
  ))

  opened_kept : (c : Image) (k : Kept) → ((file : ℕ) → IsBytes (c file)) → (h : Holds c k)
      → (judged : Result ClosingState ImageFault) → IsJudged k.network k.image judged → Opened c
  opened_kept c k are h (Err wrong) judged =
      let broken : BreaksRule k (k.epoch % 2) (image_offset k.format) =
      record { wrong = wrong; judged = judged; in_file = refl; at = refl } in
      inr (inr (k.epoch % 2, image_offset k.format, inr (k, h, inl broken)))
  opened_kept c k are h (Ok start) judged =
      let text : IsBytes (image_in (c h.number)) =
      IsBytes-drop (image_offset (format_in (c h.number))) (c h.number) (are h.number) in
      let encoded = start_image_laws.lawful.takes (start_of (image_in (c h.number))) h.image.0 k.image text h.image.1 in
      let exist = h.journal.1 in
      let bytes = subst IsBytes exist.cut (are (2 + h.number)) in
      opened_records c k start h judged
      (close_all k.format k.records start
      (judged_state k.network k.image start (header_bytes k.image encoded.sized) judged)
      (records_are k.records h.journal.0 bytes exist.short))

  opened : EachImage → (c : Image) → ((file : ℕ) → IsBytes (c file)) → (opening : Result Kept StoreFault)
      → IsOpening c opening → Opened c
  opened images c are (Ok k) h =
      let text : IsBytes (image_in (c h.number)) =
      IsBytes-drop (image_offset (format_in (c h.number))) (c h.number) (are h.number) in
      let encoded = start_image_laws.lawful.takes (start_of (image_in (c h.number))) h.image.0 k.image text h.image.1 in
      let found = images k.network k.image (files_bytes k.image encoded.within encoded.sized) in
      opened_kept c k are h found.0 found.1
  opened images c are (Err store.Missing) h = inr (inl h)
  opened images c are (Err (store.BadStore file index)) h = inr (inr (file, index, inl h))
  opened images c are (Err store.DiskFault) h = absurd h
  opened images c are (Err store.Failed) h = absurd h
  opened images c are (Err store.AlreadyThere) h = absurd h
  opened images c are (Err store.NoMemory) h = absurd h

  pub each_content : EachImage → EachOpens → EachContent
  each_content images opens c are = let o = opens c in opened images c are o.0 o.1

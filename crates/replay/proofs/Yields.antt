-- What is kept yields a state: one record more, and a new image; and its format.
use Rattle.replay.proofs.Prelude.{◌≡◌, ◌≢◌, ◌^◌, ℕ, List, [], ◌∷◌, ◌++◌, Ok, refl, sym, ap, subst, ◌∙◌, ◌⊎◌, inl, inr}
use Rattle.replay.proofs.Prelude.{Hash}
use Rattle.replay.proofs.Prelude.{StartImage, ClosingState, PreparedClose, IsClose, IsJudged, AreClosed, lines_of}
use Rattle.replay.proofs.Prelude.{Image, Disk, Runs, StoreState, Kept, grown, rolled, Holds, IsSettled, HoldsEither}
use Rattle.replay.proofs.Prelude.{Yields, OpensTo, MayHold, Ready, OpensEither, IsStored, All-nil, All-push}
use Rattle.std.proofs.lemmas.Bool.{cases_lt}
use Rattle.image_store.specs.ImageFiles.{word_in}
use Rattle.image_store.proofs.Words.{format_low, format_high}
use Rattle.image_store.proofs.gate_journal_proofs.Moments.{widened_from}

-- one record more at the end
pub closed_more : (s : ClosingState) (records : List (List ℕ)) (lines : List ℕ) (now : ClosingState) (bytes : List ℕ)
    (c : PreparedClose) → AreClosed s records lines now → IsClose now bytes (Ok c)
    → (more : List ℕ) × AreClosed s (records ++ bytes ∷ []) more c.state
closed_more s [] lines now bytes c closed closes =
    let here = subst (λ (x : ClosingState). IsClose x bytes (Ok c)) closed.1 closes in
    (lines_of c ++ [], (c, [], here, (refl, refl), refl))
closed_more s (w ∷ ws) lines now bytes c closed closes =
    let rest = closed_more closed.0.state ws closed.1 now bytes c closed.3 closes in
    (lines_of closed.0 ++ rest.0, (closed.0, rest.0, closed.2, rest.1, refl))

-- an epoch of format 2 may hold each record
may_hold : (format : ℕ) (bytes : List ℕ) → format ≡ 2 → MayHold format bytes
may_hold format bytes second first form = absurd (cc)

pub yields_more : (k : Kept) (s : ClosingState) (bytes : List ℕ) (c : PreparedClose) → k.format ≡ 2 → Yields k s
    → IsClose s bytes (Ok c)
    → Yields (grown k bytes) c.state
yields_more k s bytes c second yields closes =
    let more = closed_more yields.start k.records yields.lines s bytes c yields.closed closes in
    record {
      start = yields.start;
      judged = yields.judged;
      held = All-push (MayHold k.format) k.records bytes yields.held (may_hold k.format bytes second);
      lines = more.0;
      closed = more.1;
    }

-- the network stays
close_network : (s : ClosingState) (bytes : List ℕ) (c : PreparedClose) → IsClose s bytes (Ok c)
    → c.state.network ≡ s.network
close_network s bytes c h = h.1.closes.network

judged_network : (network : Hash) (image : StartImage) (s : ClosingState) → IsJudged network image (Ok s)
    → s.network ≡ network
judged_network network image s h = ap (λ (x : ClosingState). x.network) h.5

pub closed_network : (s : ClosingState) (records : List (List ℕ)) (lines : List ℕ) (now : ClosingState)
    → AreClosed s records lines now → now.network ≡ s.network
closed_network s [] lines now closed = ap (λ (x : ClosingState). x.network) closed.1
closed_network s (w ∷ ws) lines now closed =
    closed_network closed.0.state ws closed.1 now closed.3 ∙ close_network s w closed.0 closed.2

pub yields_network : (k : Kept) (s : ClosingState) → Yields k s → s.network ≡ k.network
yields_network k s yields =
    closed_network yields.start k.records yields.lines s yields.closed
    ∙ judged_network k.network k.image yields.start yields.judged

pub yields_rolled : (k : Kept) (s : ClosingState) (image : StartImage) → Yields k s
    → IsJudged s.network image (Ok s) → Yields (rolled k image) s
yields_rolled k s image yields judged = record {
  start = s;
  judged = subst (λ (n : Hash). IsJudged n image (Ok s)) (yields_network k s yields) judged;
  held = All-nil (MayHold (rolled k image).format);
  lines = [];
  closed = (refl, refl);
}

-- ---- contents

pub ready_of : (format : ℕ) (store : StoreState) (disk : Disk) (s : ClosingState) → (i : IsStored format store disk s)
    → Ready (IsStored format store disk s) disk s
ready_of format store disk s i = record {
  kept = i;
  safe = i.settled.safe;
  opens = (i.kept, i.settled.holds, i.yields);
}

held_either : (k next : Kept) (s t : ClosingState) (c : Image) → Yields k s → Yields next t
    → Holds c k ⊎ Holds c next → OpensTo c s ⊎ OpensTo c t
held_either k next s t c yields goes (inl h) = inl (k, h, yields)
held_either k next s t c yields goes (inr h) = inr (next, h, goes)

pub stored_runs : (format : ℕ) (store : StoreState) (old new : Disk) (next : Kept) (s t : ClosingState)
    → (i : IsStored format store old s) → Yields next t → Runs (HoldsEither i.kept next) old new
    → Runs (OpensEither s t) old new
stored_runs format store old new next s t i goes runs =
    widened_from {step = HoldsEither i.kept next} {wider = OpensEither s t} old new
    (λ d e may step o. held_either i.kept next s t e i.yields goes
    (step (subst (λ (x : Image). Holds x i.kept) (sym (i.settled.safe d may)) i.settled.holds)))
    runs

-- ---- one record more

pub stored_more : (store after : StoreState) (old new : Disk) (s : ClosingState) (bytes : List ℕ)
    (c : PreparedClose) → (i : IsStored 2 store old s) → IsClose s bytes (Ok c)
    → IsSettled after new (grown i.kept bytes) → Ready (IsStored 2 after new c.state) new c.state
stored_more store after old new s bytes c i closes settled =
    ready_of 2 after new c.state (record {
      kept = grown i.kept bytes;
      settled = settled;
      yields = yields_more i.kept s bytes c i.is_format i.yields closes;
      is_format = i.is_format;
    })

pub stored_more_runs : (store : StoreState) (old new : Disk) (s : ClosingState) (bytes : List ℕ)
    (c : PreparedClose) → (i : IsStored 2 store old s) → IsClose s bytes (Ok c)
    → Runs (HoldsEither i.kept (grown i.kept bytes)) old new → Runs (OpensEither s c.state) old new
stored_more_runs store old new s bytes c i closes runs =
    stored_runs 2 store old new (grown i.kept bytes) s c.state i
    (yields_more i.kept s bytes c i.is_format i.yields closes) runs

-- ---- a new image

-- it is of format 2, whatever the one before it was
pub stored_rolled : (format : ℕ) (store after : StoreState) (old new : Disk) (s : ClosingState) (image : StartImage)
    → (i : IsStored format store old s) → IsJudged s.network image (Ok s) → IsSettled after new (rolled i.kept image)
    → Ready (IsStored 2 after new s) new s
stored_rolled format store after old new s image i judged settled =
    ready_of 2 after new s (record {
      kept = rolled i.kept image;
      settled = settled;
      yields = yields_rolled i.kept s image i.yields judged;
      is_format = refl;
    })

pub stored_rolled_runs : (format : ℕ) (store : StoreState) (old new : Disk) (s : ClosingState) (image : StartImage)
    → (i : IsStored format store old s) → IsJudged s.network image (Ok s)
    → Runs (HoldsEither i.kept (rolled i.kept image)) old new → Runs (OpensEither s s) old new
stored_rolled_runs format store old new s image i judged runs =
    stored_runs format store old new (rolled i.kept image) s s i (yields_rolled i.kept s image i.yields judged) runs

-- ---- the format

-- an image that isn't of format 1 is of format 2
second_format : (c : Image) (k : Kept) → Holds c k → k.format ≢ 1 → k.format ≡ 2
second_format c k h other = elim (cases_lt (word_in (c h.number)) (2 ^ 63)) [
  | inl low ↦ absurd (other (h.format ∙ format_low (word_in (c h.number)) low))
  | inr high ↦ h.format ∙ format_high (word_in (c h.number)) high
]

pub stored_second : (format : ℕ) (store : StoreState) (disk : Disk) (s : ClosingState) → format ≢ 1
    → (i : IsStored format store disk s) → Ready (IsStored 2 store disk s) disk s
stored_second format store disk s other i =
    ready_of 2 store disk s (record {
      kept = i.kept;
      settled = i.settled;
      yields = i.yields;
      is_format = second_format disk.reads i.kept i.settled.holds (λ first. other (sym i.is_format ∙ first));
    })

-- A content opens to one state, and to no fault beside it.
use Rattle.replay.proofs.Prelude.{◌≡◌, refl, sym, ap, subst, ◌∙◌, ℕ, length, List, [], ◌∷◌, ◌++◌, Result, Ok, Err, ◌⊎◌}
use Rattle.replay.proofs.Prelude.{inl, inr, ImageFault, ClosingState, PreparedClose, IsClose}
use Rattle.replay.proofs.Prelude.{images_are_one, AreClosed, Image, blocks, StoreFault, Kept, Holds, HoldsNoStore}
use Rattle.replay.proofs.Prelude.{HoldsNothing, openings_are_one, Yields, OpensTo, BreaksRule, RefusesRecord}
use Rattle.replay.proofs.Prelude.{IsBadStore, MayHold, IsRefusedIn, All, All-head, All-tail}
use Rattle.image_store.specs.gate_journal.declared.fault.StoreFault.TheVariants as fault
use Rattle.replay.proofs.Runs.{same_close, not_both}

-- ---- what is kept

abbrev opening : Result Kept StoreFault → Result Kept StoreFault
opening r = r

pub one_kept : (c : Image) (k other : Kept) → Holds c k → Holds c other → k ≡ other
one_kept c k other holds holds_other =
    let same : opening (Ok k) ≡ Ok other = openings_are_one c (Ok k) (Ok other) holds holds_other in cc

-- ---- what it yields

one_end : (s : ClosingState) (records : List (List ℕ)) (lines others : List ℕ) (now end : ClosingState)
    → AreClosed s records lines now → AreClosed s records others end → now ≡ end
one_end s [] lines others now end a b = a.1 ∙ sym b.1
one_end s (bytes ∷ records) lines others now end a b =
    let same : b.0 ≡ a.0 = same_close s bytes b.0 a.0 b.2 a.2 in
    one_end a.0.state records a.1 b.1 now end a.3
    (subst (λ (x : PreparedClose). AreClosed x.state records b.1 end) same b.3)

abbrev judged : Result ClosingState ImageFault → Result ClosingState ImageFault
judged r = r

pub yields_one : (k : Kept) (s t : ClosingState) → Yields k s → Yields k t → s ≡ t
yields_one k s t a b =
    let same : judged (Ok b.start) ≡ Ok a.start =
    images_are_one k.network k.image (Ok b.start) (Ok a.start) b.judged a.judged in
    let start : b.start ≡ a.start = cc in
    one_end a.start k.records a.lines b.lines s t a.closed
    (subst (λ (x : ClosingState). AreClosed x k.records b.lines t) start b.closed)

pub opens_to_one : (c : Image) (s t : ClosingState) → OpensTo c s → OpensTo c t → s ≡ t
opens_to_one c s t (k, holds, yields) (other, holds_other, yields_other) =
    yields_one k s t yields
    (subst (λ x. Yields x t) (sym (one_kept c k other holds holds_other)) yields_other)

-- ---- no fault beside it

pub opens_not_missing : (c : Image) (s : ClosingState) → OpensTo c s → HoldsNothing c → ⊥
opens_not_missing c s (k, holds, yields) none =
    let same : opening (Ok k) ≡ Err fault.Missing = openings_are_one c (Ok k) (Err fault.Missing) holds none in
    absurd (cc)

-- a record that was held and closed wasn't refused
not_refused_here : (format : ℕ) (s : ClosingState) (bytes : List ℕ) (c : PreparedClose) → MayHold format bytes
    → IsClose s bytes (Ok c) → IsRefusedIn format s bytes → ⊥
not_refused_here format s bytes c held closes (inl (first, form)) = held first form
not_refused_here format s bytes c held closes (inr (wrong, refused)) = not_both s bytes c wrong closes refused

not_refused : (format : ℕ) (s : ClosingState) (prefix : List (List ℕ)) (bytes : List ℕ) (others : List (List ℕ))
    (lines : List ℕ) (now : ClosingState) (prefix_lines : List ℕ) (state : ClosingState)
    → All (MayHold format) (prefix ++ bytes ∷ others) → AreClosed s (prefix ++ bytes ∷ others) lines now
    → AreClosed s prefix prefix_lines state → IsRefusedIn format state bytes → ⊥
not_refused format s [] bytes others lines now prefix_lines state held closed ahead refused =
    not_refused_here format s bytes closed.0 (All-head (MayHold format) bytes others held) closed.2
    (subst (λ (x : ClosingState). IsRefusedIn format x bytes) ahead.1 refused)
not_refused format s (first ∷ prefix) bytes others lines now prefix_lines state held closed ahead refused =
    let same : ahead.0 ≡ closed.0 = same_close s first ahead.0 closed.0 ahead.2 closed.2 in
    not_refused format closed.0.state prefix bytes others closed.1 now ahead.1 state
    (All-tail (MayHold format) first (prefix ++ bytes ∷ others) held) closed.3
    (subst (λ (x : PreparedClose). AreClosed x.state prefix ahead.1 state) same ahead.3) refused

not_broken : (k : Kept) (s : ClosingState) (file offset : ℕ) → Yields k s → BreaksRule k file offset → ⊥
not_broken k s file offset yields broken =
    let same : judged (Ok yields.start) ≡ Err broken.wrong =
    images_are_one k.network k.image (Ok yields.start) (Err broken.wrong) yields.judged broken.judged in
    absurd (cc)

never_refused : (k : Kept) (s : ClosingState) (file offset : ℕ) → Yields k s → RefusesRecord k file offset → ⊥
never_refused k s file offset yields r =
    let same : judged (Ok r.start) ≡ Ok yields.start =
    images_are_one k.network k.image (Ok r.start) (Ok yields.start) r.judged yields.judged in
    let start : r.start ≡ yields.start = cc in
    not_refused k.format yields.start r.prefix r.bytes r.others yields.lines s r.lines r.state
    (subst (All (MayHold k.format)) r.records yields.held)
    (subst (λ records. AreClosed yields.start records yields.lines s) r.records yields.closed)
    (subst (λ (x : ClosingState). AreClosed x r.prefix r.lines r.state) start r.closed) r.refused

no_fault : (k : Kept) (s : ClosingState) (file offset : ℕ) → Yields k s
    → BreaksRule k file offset ⊎ RefusesRecord k file offset → ⊥
no_fault k s file offset yields (inl broken) = not_broken k s file offset yields broken
no_fault k s file offset yields (inr refused) = never_refused k s file offset yields refused

pub opens_not_bad : (c : Image) (s : ClosingState) (file offset : ℕ) → OpensTo c s → IsBadStore c file offset → ⊥
opens_not_bad c s file offset (k, holds, yields) (inl bad) =
    let same : opening (Ok k) ≡ Err (fault.BadStore file offset) =
    openings_are_one c (Ok k) (Err (fault.BadStore file offset)) holds bad in
    absurd (cc)
opens_not_bad c s file offset (k, holds, yields) (inr (other, holds_other, bad)) =
    no_fault k s file offset yields
    (subst (λ x. BreaksRule x file offset ⊎ RefusesRecord x file offset)
    (sym (one_kept c k other holds holds_other)) bad)

-- ---- one fault

-- a store has no fault of its form
holds_not_bad : (c : Image) (k : Kept) (file offset : ℕ) → Holds c k → HoldsNoStore c file offset → ⊥
holds_not_bad c k file offset holds bad =
    let same : opening (Ok k) ≡ Err (fault.BadStore file offset) =
    openings_are_one c (Ok k) (Err (fault.BadStore file offset)) holds bad in
    absurd (cc)

pub missing_not_bad : (c : Image) (file offset : ℕ) → HoldsNothing c → IsBadStore c file offset → ⊥
missing_not_bad c file offset none (inl bad) =
    let same : opening (Err fault.Missing) ≡ Err (fault.BadStore file offset) =
    openings_are_one c (Err fault.Missing) (Err (fault.BadStore file offset)) none bad in
    absurd (cc)
missing_not_bad c file offset none (inr (k, holds, bad)) =
    let same : opening (Err fault.Missing) ≡ Ok k = openings_are_one c (Err fault.Missing) (Ok k) none holds in
    absurd (cc)

-- the record that is refused first is one
one_refused : (format : ℕ) (s : ClosingState) (prefix : List (List ℕ)) (bytes : List ℕ) (others : List (List ℕ))
    (lines : List ℕ) (now : ClosingState) (prefix' : List (List ℕ)) (bytes' : List ℕ) (others' : List (List ℕ))
    (lines' : List ℕ) (now' : ClosingState) → prefix ++ bytes ∷ others ≡ prefix' ++ bytes' ∷ others'
    → All (MayHold format) prefix → AreClosed s prefix lines now → IsRefusedIn format now bytes
    → All (MayHold format) prefix' → AreClosed s prefix' lines' now' → IsRefusedIn format now' bytes'
    → prefix ≡ prefix'
one_refused format s [] bytes others lines now [] bytes' others' lines' now' same h a b h' a' b' = refl
one_refused format s [] bytes others lines now (x ∷ prefix') bytes' others' lines' now' same h a b h' a' b' =
    let first : bytes ≡ x = cc in
    absurd (not_refused_here format s x a'.0 (All-head (MayHold format) x prefix' h') a'.2
    (subst (IsRefusedIn format s) first (subst (λ (t : ClosingState). IsRefusedIn format t bytes) a.1 b)))
one_refused format s (x ∷ prefix) bytes others lines now [] bytes' others' lines' now' same h a b h' a' b' =
    let first : bytes' ≡ x = cc in
    absurd (not_refused_here format s x a.0 (All-head (MayHold format) x prefix h) a.2
    (subst (IsRefusedIn format s) first (subst (λ (t : ClosingState). IsRefusedIn format t bytes') a'.1 b')))
one_refused format s (x ∷ prefix) bytes others lines now (y ∷ prefix') bytes' others' lines' now' same h a b h' a' b' =
    let first : y ≡ x = cc in
    let rest : prefix ++ bytes ∷ others ≡ prefix' ++ bytes' ∷ others' = cc in
    let closed : a'.0 ≡ a.0 = same_close s x a'.0 a.0 (subst (λ w. IsClose s w (Ok a'.0)) first a'.2) a.2 in
    let tails = one_refused format a.0.state prefix bytes others a.1 now prefix' bytes' others' a'.1 now' rest
    (All-tail (MayHold format) x prefix h) a.3 b (All-tail (MayHold format) y prefix' h')
    (subst (λ (t : PreparedClose). AreClosed t.state prefix' a'.1 now') closed a'.3) b' in
    λ i. sym first i ∷ tails i

rule_not_refused : (k : Kept) (file offset other at : ℕ) → BreaksRule k file offset → RefusesRecord k other at → ⊥
rule_not_refused k file offset other at broken r =
    let same : judged (Ok r.start) ≡ Err broken.wrong =
    images_are_one k.network k.image (Ok r.start) (Err broken.wrong) r.judged broken.judged in
    absurd (cc)

refused_at_one : (k : Kept) (file offset other at : ℕ) → RefusesRecord k file offset → RefusesRecord k other at
    → (file ≡ other) × (offset ≡ at)
refused_at_one k file offset other at a b =
    let same : judged (Ok b.start) ≡ Ok a.start =
    images_are_one k.network k.image (Ok b.start) (Ok a.start) b.judged a.judged in
    let start : b.start ≡ a.start = cc in
    let prefix : a.prefix ≡ b.prefix =
    one_refused k.format a.start a.prefix a.bytes a.others a.lines a.state b.prefix b.bytes b.others b.lines b.state
    (sym a.records ∙ b.records) a.held a.closed a.refused b.held
    (subst (λ (x : ClosingState). AreClosed x b.prefix b.lines b.state) start b.closed) b.refused in
    (a.in_file ∙ sym b.in_file, a.at ∙ ap (λ f. length (blocks f)) prefix ∙ sym b.at)

one_fault : (k : Kept) (file offset other at : ℕ) → BreaksRule k file offset ⊎ RefusesRecord k file offset
    → BreaksRule k other at ⊎ RefusesRecord k other at → (file ≡ other) × (offset ≡ at)
one_fault k file offset other at (inl a) (inl b) = (a.in_file ∙ sym b.in_file, a.at ∙ sym b.at)
one_fault k file offset other at (inl a) (inr b) = absurd (rule_not_refused k file offset other at a b)
one_fault k file offset other at (inr a) (inl b) = absurd (rule_not_refused k other at file offset b a)
one_fault k file offset other at (inr a) (inr b) = refused_at_one k file offset other at a b

-- a store has its fault at one offset
pub bad_at_one : (c : Image) (file offset other at : ℕ) → IsBadStore c file offset → IsBadStore c other at
    → (file ≡ other) × (offset ≡ at)
bad_at_one c file offset other at (inl a) (inl b) =
    let same : opening (Err (fault.BadStore file offset)) ≡ Err (fault.BadStore other at) =
    openings_are_one c (Err (fault.BadStore file offset)) (Err (fault.BadStore other at)) a b in
    (cc, cc)
bad_at_one c file offset other at (inl a) (inr (k, holds, b)) = absurd (holds_not_bad c k file offset holds a)
bad_at_one c file offset other at (inr (k, holds, a)) (inl b) = absurd (holds_not_bad c k other at holds b)
bad_at_one c file offset other at (inr (k, holds, a)) (inr (l, holds_other, b)) =
    one_fault k file offset other at a
    (subst (λ x. BreaksRule x other at ⊎ RefusesRecord x other at) (sym (one_kept c k l holds holds_other)) b)

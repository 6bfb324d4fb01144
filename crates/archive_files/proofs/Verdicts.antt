-- A history has one verdict.
use Rattle.archive_files.proofs.Prelude.{AreFacts, AreInPlace, AreLinked, AreRead, Err, HasFacts, HasFault, HasStray}
use Rattle.archive_files.proofs.Prelude.{Hash, HeaderFact, History, HistoryFault, IsBroken, IsFirstFault, IsJudged}
use Rattle.archive_files.proofs.Prelude.{IsLinked, IsVerified, IsWrong, List, None, Ok, Option, Position, Reading}
use Rattle.archive_files.proofs.Prelude.{RecordFact, Result, Some, Verified, Xdr, XdrFault, [], ap, arith, header_at}
use Rattle.archive_files.proofs.Prelude.{header_fact, inl, inr, last_hash, length, refl, results_at, results_fact}
use Rattle.archive_files.proofs.Prelude.{results_hash_for, set_at, set_fact, set_hash_for, start_of, subst, suc, sym}
use Rattle.archive_files.proofs.Prelude.{transaction_history_entry, ℕ, ◌+◌, ◌∙◌, ◌∷◌, ◌≡◌}
use Rattle.std.proofs.Common.{zero, ◌⊎◌}
use Rattle.std.specs.Prelude.{◌≢◌}
use Rattle.xdr_core.specs.declared.fault.XdrKind.{XdrKind}
use Rattle.archive_files.specs.Chain.{IsRefused, IsRefusedFor, IsStray, IsUnread}
use Rattle.archive_files.specs.Entries.{ledger_header_history_entry, transaction_history_result_entry}
use Rattle.archive_files.specs.Laws.{ChainsHaveNoFault, VerdictsAreOne}
use Rattle.archive_files.specs.Records.{fact_at}
use Rattle.archive_files.proofs.Reading.{record_shortens}
use Rattle.archive_files.specs.declared.history.HistoryFault.TheVariants as fault

-- ---- reading is a function of the file

module _ {V X : Type 0} (f : Xdr V) (fact_of : ℕ → V → X) where
  abbrev read : Position → Reading XdrFault X
  read = fact_at f fact_of

  -- no record is read there
  record Stops (q : Position) : Type 0 where
    pub none : (x : X) (m : Position) → read q ≡ Ok (x, m) → ⊥

  stops_at_end : (q : Position) → q.rest ≡ [] → Stops q
  stops_at_end q end = record { none = λ x m e. omega (arith, record_shortens f fact_of q m x e, ap length end) }

  stops_at_fault : (q : Position) (d : XdrFault) → read q ≡ Err d → Stops q
  stops_at_fault q d fails = record { none = λ x m e. cc (fails, e) }

  same_facts : (xs ys : List X) (p q r : Position) → AreFacts read xs p q → AreFacts read ys p r → Stops q → Stops r
      → (xs ≡ ys) × (q ≡ r)
  same_facts [] [] p q r a b at_q at_r = (refl, sym a ∙ b)
  same_facts [] (y ∷ ys) p q r a b at_q at_r = absurd (at_q.none y b.0 (ap read (sym a) ∙ b.1))
  same_facts (x ∷ xs) [] p q r a b at_q at_r = absurd (at_r.none x a.0 (ap read (sym b) ∙ a.1))
  same_facts (x ∷ xs) (y ∷ ys) p q r a b at_q at_r =
      let first : (x, a.0) ≡ (y, b.0) = cc (a.1, b.1) in
      let moved = ap (λ (z : X × Position). z.1) (sym first) in
      let others = same_facts xs ys a.0 q r a.2 (subst (λ m. AreFacts read ys m r) moved b.2) at_q at_r in
      (ap (λ z. z ∷ xs) (ap (λ (z : X × Position). z.0) first) ∙ ap (λ l. y ∷ l) others.0, others.1)

  pub one_facts : (file : List ℕ) (xs ys : List X) → HasFacts read file xs → HasFacts read file ys → xs ≡ ys
  one_facts file xs ys a b = (same_facts xs ys (start_of file) a.end b.end a.facts b.facts
      (stops_at_end a.end a.all) (stops_at_end b.end b.all)).0

  pub no_fault : (file : List ℕ) (xs : List X) (d : XdrFault) → HasFacts read file xs → HasFault read file d → ⊥
  no_fault file xs d a b =
      let same = same_facts xs b.before (start_of file) a.end b.position a.facts b.facts
      (stops_at_end a.end a.all) (stops_at_fault b.position d b.fails) in
      b.more (ap (λ (p : Position). p.rest) (sym same.1) ∙ a.all)

  pub one_fault : (file : List ℕ) (d e : XdrFault) → HasFault read file d → HasFault read file e → d ≡ e
  one_fault file d e a b =
      let same = (same_facts a.before b.before (start_of file) a.position b.position a.facts b.facts
      (stops_at_fault a.position d a.fails) (stops_at_fault b.position e b.fails)).1 in
      cc (ap read same, a.fails, b.fails)

-- ---- stray records

not_stray : (heads : List HeaderFact) (before : Option ℕ) (rs : List RecordFact) (at : ℕ)
    → AreInPlace heads before rs → HasStray heads before rs at → ⊥
not_stray heads before [] at are h = h
not_stray heads before (r ∷ rs) at are (inl h) = h.0 are.0
not_stray heads before (r ∷ rs) at are (inr h) = not_stray heads (Some r.seq) rs at are.1 h.1

one_stray : (heads : List HeaderFact) (before : Option ℕ) (rs : List RecordFact) (at also : ℕ)
    → HasStray heads before rs at → HasStray heads before rs also → at ≡ also
one_stray heads before [] at also g h = absurd g
one_stray heads before (r ∷ rs) at also (inl g) (inl h) = g.1 ∙ sym h.1
one_stray heads before (r ∷ rs) at also (inl g) (inr h) = absurd (g.0 h.0)
one_stray heads before (r ∷ rs) at also (inr g) (inl h) = absurd (h.0 g.0)
one_stray heads before (r ∷ rs) at also (inr g) (inr h) = one_stray heads (Some r.seq) rs at also g.1 h.1

-- ---- headers

-- the first of some claims that is false
abbrev FirstFalse : List (Type 0) → ℕ → Type 0
FirstFalse [] k = ⊥
FirstFalse (P ∷ Ps) zero = P → ⊥
FirstFalse (P ∷ Ps) (suc k) = P × FirstFalse Ps k

one_first : (Ps : List (Type 0)) (j k : ℕ) → FirstFalse Ps j → FirstFalse Ps k → j ≡ k
one_first [] j k a b = absurd a
one_first (P ∷ Ps) zero zero a b = refl
one_first (P ∷ Ps) zero (suc k) a b = absurd (a b.0)
one_first (P ∷ Ps) (suc j) zero a b = absurd (b a.0)
one_first (P ∷ Ps) (suc j) (suc k) a b = ap suc (one_first Ps j k a.1 b.1)

module _ (sets results : List RecordFact) (want : ℕ) (last : Hash) (h : HeaderFact) where
  abbrev tests : List (Type 0)
  tests = (h.seq ≡ want) ∷ (h.stated ≡ h.own) ∷ (h.previous ≡ last) ∷ (h.set ≡ set_hash_for sets h)
      ∷ (h.results ≡ results_hash_for results h) ∷ []

  -- the fault of a test
  abbrev fault_of : ℕ → HistoryFault
  fault_of zero = fault.Seq h.at want h.seq
  fault_of (suc zero) = fault.HeaderHash h.at
  fault_of (suc (suc zero)) = fault.Link h.at
  fault_of (suc (suc (suc zero))) = fault.SetHash h.at
  fault_of (suc (suc (suc (suc k)))) = fault.ResultHash h.at

  first_false : (wrong : HistoryFault) → IsWrong sets results want last h wrong
      → (k : ℕ) × FirstFalse tests k × (wrong ≡ fault_of k)
  first_false (fault.Seq at w g) p = (0, p.0, cc (p.1, p.2, p.3))
  first_false (fault.HeaderHash at) p = (1, (p.0, p.1), ap fault.HeaderHash p.2)
  first_false (fault.Link at) p = (2, (p.0, (p.1, p.2)), ap fault.Link p.3)
  first_false (fault.SetHash at) p = (3, (p.0, (p.1, (p.2, p.3))), ap fault.SetHash p.4)
  first_false (fault.ResultHash at) p = (4, (p.0, (p.1, (p.2, (p.3, p.4)))), ap fault.ResultHash p.5)
  first_false (fault.Xdr f at k) p = absurd p
  first_false (fault.Stray f at) p = absurd p
  first_false fault.NoMemory p = absurd p

  one_wrong : (wrong other : HistoryFault) → IsWrong sets results want last h wrong
      → IsWrong sets results want last h other → wrong ≡ other
  one_wrong wrong other a b =
      let p = first_false wrong a in
      let q = first_false other b in
      p.2 ∙ ap fault_of (one_first tests p.0 q.0 p.1 q.1) ∙ sym q.2

  all_true : (k : ℕ) → IsLinked sets results want last h → FirstFalse tests k → ⊥
  all_true zero l a = a l.number
  all_true (suc zero) l a = a.1 l.own
  all_true (suc (suc zero)) l a = a.1.1 l.link
  all_true (suc (suc (suc zero))) l a = a.1.1.1 l.same_set
  all_true (suc (suc (suc (suc zero)))) l a = a.1.1.1.1 l.same_results
  all_true (suc (suc (suc (suc (suc k))))) l a = a.1.1.1.1.1

  not_wrong : (wrong : HistoryFault) → IsLinked sets results want last h → IsWrong sets results want last h wrong → ⊥
  not_wrong wrong l a =
      let p = first_false wrong a in
      all_true p.0 l p.1

not_broken : (sets results : List RecordFact) (want : ℕ) (last : Hash) (hs : List HeaderFact) (wrong : HistoryFault)
    → AreLinked sets results want last hs → IsBroken sets results want last hs wrong → ⊥
not_broken sets results want last [] wrong are b = b
not_broken sets results want last (h ∷ hs) wrong are (inl b) = not_wrong sets results want last h wrong are.0 b
not_broken sets results want last (h ∷ hs) wrong are (inr b) =
    not_broken sets results (want + 1) h.stated hs wrong are.1 b.1

one_break : (sets results : List RecordFact) (want : ℕ) (last : Hash) (hs : List HeaderFact)
    (wrong other : HistoryFault) → IsBroken sets results want last hs wrong
    → IsBroken sets results want last hs other → wrong ≡ other
one_break sets results want last [] wrong other a b = absurd a
one_break sets results want last (h ∷ hs) wrong other (inl a) (inl b) =
    one_wrong sets results want last h wrong other a b
one_break sets results want last (h ∷ hs) wrong other (inl a) (inr b) =
    absurd (not_wrong sets results want last h wrong b.0 a)
one_break sets results want last (h ∷ hs) wrong other (inr a) (inl b) =
    absurd (not_wrong sets results want last h other a.0 b)
one_break sets results want last (h ∷ hs) wrong other (inr a) (inr b) =
    one_break sets results (want + 1) h.stated hs wrong other a.1 b.1

-- ---- what was read is refused for one reason

-- the stray record of a fault
stray_form : (headers : List HeaderFact) (sets results : List RecordFact) (wrong : HistoryFault)
    → IsStray headers sets results wrong
    → (file : ℕ) × (at : ℕ) × (wrong ≡ fault.Stray file at) × IsStray headers sets results (fault.Stray file at)
stray_form headers sets results (fault.Stray file at) h = (file, at, refl, h)
stray_form headers sets results (fault.Xdr f at k) h = absurd h
stray_form headers sets results (fault.Seq at w g) h = absurd h
stray_form headers sets results (fault.HeaderHash at) h = absurd h
stray_form headers sets results (fault.Link at) h = absurd h
stray_form headers sets results (fault.SetHash at) h = absurd h
stray_form headers sets results (fault.ResultHash at) h = absurd h
stray_form headers sets results fault.NoMemory h = absurd h

module _ (headers : List HeaderFact) (sets results : List RecordFact) (before : Hash) (first : ℕ) where
  one_stray_fault : (file at file2 at2 : ℕ) → IsStray headers sets results (fault.Stray file at)
      → IsStray headers sets results (fault.Stray file2 at2) → fault.Stray file at ≡ fault.Stray file2 at2
  one_stray_fault file at file2 at2 (inl a) (inl b) = cc (a.0, b.0, one_stray headers None sets at at2 a.1 b.1)
  one_stray_fault file at file2 at2 (inl a) (inr b) = absurd (not_stray headers None sets at b.1 a.1)
  one_stray_fault file at file2 at2 (inr a) (inl b) = absurd (not_stray headers None sets at2 a.1 b.1)
  one_stray_fault file at file2 at2 (inr a) (inr b) =
      cc (a.0, b.0, one_stray headers None results at at2 a.2 b.2)

  none_stray : (wrong : HistoryFault) → AreInPlace headers None sets → AreInPlace headers None results
      → IsStray headers sets results wrong → ⊥
  none_stray wrong s r h =
      let form = stray_form headers sets results wrong h in
      elim form.3 [
        | inl a ↦ not_stray headers None sets form.1 s a.1
        | inr a ↦ not_stray headers None results form.1 r a.2
      ]

  one_reason : (wrong other : HistoryFault) → IsRefusedFor headers sets results before first wrong
      → IsRefusedFor headers sets results before first other → wrong ≡ other
  one_reason wrong other (inl a) (inl b) =
      let p = stray_form headers sets results wrong a in
      let q = stray_form headers sets results other b in
      p.2 ∙ one_stray_fault p.0 p.1 q.0 q.1 p.3 q.3 ∙ sym q.2
  one_reason wrong other (inl a) (inr b) = absurd (none_stray wrong b.0 b.1 a)
  one_reason wrong other (inr a) (inl b) = absurd (none_stray other a.0 a.1 b)
  one_reason wrong other (inr a) (inr b) = one_break sets results first before headers wrong other a.2 b.2

  none_refused : (wrong : HistoryFault) → AreInPlace headers None sets → AreInPlace headers None results
      → AreLinked sets results first before headers → IsRefusedFor headers sets results before first wrong → ⊥
  none_refused wrong s r l (inl a) = none_stray wrong s r a
  none_refused wrong s r l (inr a) = not_broken sets results first before headers wrong l a.2

-- ---- the files

one_headers : (file : List ℕ) (xs ys : List HeaderFact) → HasFacts header_at file xs → HasFacts header_at file ys
    → xs ≡ ys
one_headers file xs ys a b = one_facts ledger_header_history_entry header_fact file xs ys a b

one_sets : (file : List ℕ) (xs ys : List RecordFact) → HasFacts set_at file xs → HasFacts set_at file ys → xs ≡ ys
one_sets file xs ys a b = one_facts transaction_history_entry set_fact file xs ys a b

one_results : (file : List ℕ) (xs ys : List RecordFact) → HasFacts results_at file xs → HasFacts results_at file ys
    → xs ≡ ys
one_results file xs ys a b = one_facts transaction_history_result_entry results_fact file xs ys a b

headers_fault : (file : List ℕ) (xs : List HeaderFact) (d : XdrFault) → HasFacts header_at file xs
    → HasFault header_at file d → ⊥
headers_fault file xs d a b = no_fault ledger_header_history_entry header_fact file xs d a b

sets_fault : (file : List ℕ) (xs : List RecordFact) (d : XdrFault) → HasFacts set_at file xs → HasFault set_at file d
    → ⊥
sets_fault file xs d a b = no_fault transaction_history_entry set_fact file xs d a b

results_fault : (file : List ℕ) (xs : List RecordFact) (d : XdrFault) → HasFacts results_at file xs
    → HasFault results_at file d → ⊥
results_fault file xs d a b = no_fault transaction_history_result_entry results_fact file xs d a b

-- a fault, as one of a text
abbrev text_fault : ℕ → XdrKind → XdrFault
text_fault at kind = record { at = at; kind = kind }

-- one fault at one offset of one file
same_fault : (file at : ℕ) (kind : XdrKind) (file2 at2 : ℕ) (kind2 : XdrKind) → file ≡ file2
    → text_fault at kind ≡ text_fault at2 kind2 → fault.Xdr file at kind ≡ fault.Xdr file2 at2 kind2
same_fault file at kind file2 at2 kind2 files faults =
    let offsets : at ≡ at2 = ap (λ (d : XdrFault). d.at) faults in
    let kinds : kind ≡ kind2 = ap (λ (d : XdrFault). d.kind) faults in
    cc (files, offsets, kinds)

unread_form : (h : History) (wrong : HistoryFault) → IsUnread h wrong
    → (file : ℕ) × (at : ℕ) × (kind : XdrKind) × (wrong ≡ fault.Xdr file at kind) × IsUnread h (fault.Xdr file at kind)
unread_form h (fault.Xdr file at kind) u = (file, at, kind, refl, u)
unread_form h (fault.Stray f at) u = absurd u
unread_form h (fault.Seq at w g) u = absurd u
unread_form h (fault.HeaderHash at) u = absurd u
unread_form h (fault.Link at) u = absurd u
unread_form h (fault.SetHash at) u = absurd u
unread_form h (fault.ResultHash at) u = absurd u
unread_form h fault.NoMemory u = absurd u

module _ (h : History) where
  one_unread : (file at : ℕ) (kind : XdrKind) (file2 at2 : ℕ) (kind2 : XdrKind)
      → IsUnread h (fault.Xdr file at kind) → IsUnread h (fault.Xdr file2 at2 kind2)
      → fault.Xdr file at kind ≡ fault.Xdr file2 at2 kind2
  one_unread file at kind file2 at2 kind2 (inl a) (inl b) =
      same_fault file at kind file2 at2 kind2 (a.0 ∙ sym b.0)
      (one_fault ledger_header_history_entry header_fact h.headers _ _ a.1 b.1)
  one_unread file at kind file2 at2 kind2 (inl a) (inr (inl b)) =
      absurd (headers_fault h.headers b.1.0 _ b.1.1 a.1)
  one_unread file at kind file2 at2 kind2 (inl a) (inr (inr b)) =
      absurd (headers_fault h.headers b.1.0 _ b.1.1 a.1)
  one_unread file at kind file2 at2 kind2 (inr (inl a)) (inl b) =
      absurd (headers_fault h.headers a.1.0 _ a.1.1 b.1)
  one_unread file at kind file2 at2 kind2 (inr (inr a)) (inl b) =
      absurd (headers_fault h.headers a.1.0 _ a.1.1 b.1)
  one_unread file at kind file2 at2 kind2 (inr (inl a)) (inr (inl b)) =
      same_fault file at kind file2 at2 kind2 (a.0 ∙ sym b.0)
      (one_fault transaction_history_entry set_fact h.sets _ _ a.2 b.2)
  one_unread file at kind file2 at2 kind2 (inr (inl a)) (inr (inr b)) = absurd (sets_fault h.sets b.2.0 _ b.2.1 a.2)
  one_unread file at kind file2 at2 kind2 (inr (inr a)) (inr (inl b)) = absurd (sets_fault h.sets a.2.0 _ a.2.1 b.2)
  one_unread file at kind file2 at2 kind2 (inr (inr a)) (inr (inr b)) =
      same_fault file at kind file2 at2 kind2 (a.0 ∙ sym b.0)
      (one_fault transaction_history_result_entry results_fact h.results _ _ a.3 b.3)

  read_through : (headers : List HeaderFact) (sets results : List RecordFact) (file at : ℕ) (kind : XdrKind)
      → AreRead h headers sets results → IsUnread h (fault.Xdr file at kind) → ⊥
  read_through headers sets results file at kind is (inl a) = headers_fault h.headers headers _ is.headers_read a.1
  read_through headers sets results file at kind is (inr (inl a)) = sets_fault h.sets sets _ is.sets_read a.2
  read_through headers sets results file at kind is (inr (inr a)) =
      results_fault h.results results _ is.results_read a.3

  not_unread : (headers : List HeaderFact) (sets results : List RecordFact) (wrong : HistoryFault)
      → AreRead h headers sets results → IsUnread h wrong → ⊥
  not_unread headers sets results wrong is u =
      let form = unread_form h wrong u in
      read_through headers sets results form.0 form.1 form.2 is form.4

  -- the facts of one reading are those of another
  moved : (P : List HeaderFact → List RecordFact → List RecordFact → Type 0) (hs hs2 : List HeaderFact)
      (ss ss2 rs rs2 : List RecordFact) → AreRead h hs ss rs → AreRead h hs2 ss2 rs2 → P hs ss rs → P hs2 ss2 rs2
  moved P hs hs2 ss ss2 rs rs2 a b p =
      subst (λ x. P x ss2 rs2) (one_headers h.headers hs hs2 a.headers_read b.headers_read)
      (subst (λ x. P hs x rs2) (one_sets h.sets ss ss2 a.sets_read b.sets_read)
      (subst (λ x. P hs ss x) (one_results h.results rs rs2 a.results_read b.results_read) p))

  module _ (before : Hash) (first : ℕ) where
    cause : (wrong : HistoryFault) → wrong ≢ fault.NoMemory → IsFirstFault h before first wrong
        → IsUnread h wrong ⊎ IsRefused h before first wrong
    cause (fault.Xdr f at k) some w = w
    cause (fault.Stray f at) some w = w
    cause (fault.Seq at v g) some w = w
    cause (fault.HeaderHash at) some w = w
    cause (fault.Link at) some w = w
    cause (fault.SetHash at) some w = w
    cause (fault.ResultHash at) some w = w
    cause fault.NoMemory some w = absurd (some refl)

    chain_has_no_fault : (v : Verified) (wrong : HistoryFault) → IsVerified h before first v
        → wrong ≢ fault.NoMemory → IsFirstFault h before first wrong → ⊥
    chain_has_no_fault v wrong ok some w =
        let c = ok.chain in
        elim (cause wrong some w) [
          | inl u ↦ not_unread ok.headers c.sets c.results wrong c.read u
          | inr r ↦ none_refused ok.headers c.sets c.results before first wrong c.sets_in_place c.results_in_place
              c.linked
              (moved (λ hs ss rs. IsRefusedFor hs ss rs before first wrong) r.headers ok.headers r.sets c.sets r.results
              c.results r.read c.read r.why)
        ]

    one_cause : (wrong other : HistoryFault) → IsUnread h wrong ⊎ IsRefused h before first wrong
        → IsUnread h other ⊎ IsRefused h before first other → wrong ≡ other
    one_cause wrong other (inl a) (inl b) =
        let p = unread_form h wrong a in
        let q = unread_form h other b in
        p.3 ∙ one_unread p.0 p.1 p.2 q.0 q.1 q.2 p.4 q.4 ∙ sym q.3
    one_cause wrong other (inl a) (inr b) = absurd (not_unread b.headers b.sets b.results wrong b.read a)
    one_cause wrong other (inr a) (inl b) = absurd (not_unread a.headers a.sets a.results other a.read b)
    one_cause wrong other (inr a) (inr b) =
        one_reason b.headers b.sets b.results before first wrong other
        (moved (λ hs ss rs. IsRefusedFor hs ss rs before first wrong) a.headers b.headers a.sets b.sets a.results
        b.results a.read b.read a.why) b.why

    one_verdict : (one other : Result Verified HistoryFault) → IsJudged h before first one
        → IsJudged h before first other → one ≢ Err fault.NoMemory → other ≢ Err fault.NoMemory → one ≡ other
    one_verdict (Ok v) (Ok w) a b some_a some_b =
        let same : a.headers ≡ b.headers =
        one_headers h.headers a.headers b.headers a.chain.read.headers_read b.chain.read.headers_read in
        let closes : v.closes ≡ w.closes = a.closes ∙ ap length same ∙ sym b.closes in
        let last : v.last ≡ w.last = a.last ∙ ap (last_hash before) same ∙ sym b.last in
        λ i. Ok (record { closes = closes i; last = last i })
    one_verdict (Ok v) (Err wrong) a b some_a some_b =
        absurd (chain_has_no_fault v wrong a (λ e. some_b (ap Err e)) b)
    one_verdict (Err wrong) (Ok v) a b some_a some_b =
        absurd (chain_has_no_fault v wrong b (λ e. some_a (ap Err e)) a)
    one_verdict (Err wrong) (Err other) a b some_a some_b =
        ap Err (one_cause wrong other (cause wrong (λ e. some_a (ap Err e)) a) (cause other (λ e. some_b (ap Err e)) b))

pub chains_have_no_fault : ChainsHaveNoFault
chains_have_no_fault = chain_has_no_fault

pub verdicts_are_one : VerdictsAreOne
verdicts_are_one = one_verdict

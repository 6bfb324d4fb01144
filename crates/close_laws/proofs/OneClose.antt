-- A close has one answer.
use Rattle.close_laws.proofs.Prelude.{◌≡◌, inl, inr, ℕ, zero, suc, ◌+◌, ◌<◌, ◌≤◌, refl, sym, ap, subst, ◌∙◌, List}
use Rattle.close_laws.proofs.Prelude.{Option, Some, None, Result, Ok, Err, Bool, true, false, arith, same_lists, get}
use Rattle.close_laws.proofs.Prelude.{same_map, LedgerEntry, LedgerKey, keys_total, keys_exact, XdrFault, CloseRecord}
use Rattle.close_laws.proofs.Prelude.{EntryMap, IsNextAt, AreNextEntries, Change, Filled, Contents, change_at}
use Rattle.close_laws.proofs.Prelude.{version_of, list_hash, file_total, Pair, empty_pair, pair_at, finished}
use Rattle.close_laws.proofs.Prelude.{same_inside, ClosingState, max_file_total, record_in, record_fault, PreparedClose}
use Rattle.close_laws.proofs.Prelude.{upgraded_header, applied_in, IsClosed, IsClose, ClosesAreOne}
use Rattle.bucket_levels.specs.bucket_merge.Merge.{IsMerge}
use Rattle.bucket_levels.specs.Fresh.{IsFresh}
use Rattle.bucket_levels.specs.Spills.{level_count, spills}
use Rattle.bucket_levels.specs.Step.{base_at, IsMergedIf, IsCurrAfter, IsPairAfter, IsStep}
use Rattle.close_rules.specs.declared.close_fault.CloseFault.{CloseFault}
use Rattle.close_rules.specs.declared.close_fault.CloseFault.TheVariants as fault

-- ---- entries

next_one : (seq : ℕ) (before worked x y : Option LedgerEntry) → IsNextAt seq before worked x
    → IsNextAt seq before worked y → x ≡ y
next_one seq None None x y a b = a ∙ sym b
next_one seq (Some was) None x y a b = a ∙ sym b
next_one seq None (Some e) x y a b = a ∙ sym b
next_one seq (Some was) (Some e) x y (inl a) (inl b) = a.1 ∙ sym b.1
next_one seq (Some was) (Some e) x y (inl a) (inr b) = absurd (b.0 a.0)
next_one seq (Some was) (Some e) x y (inr a) (inl b) = absurd (a.0 b.0)
next_one seq (Some was) (Some e) x y (inr a) (inr b) = a.1 ∙ sym b.1

entries_one : (seq : ℕ) (before worked m n : EntryMap) → AreNextEntries seq before worked m
    → AreNextEntries seq before worked n → m ≡ n
entries_one seq before worked m n a b = same_map keys_total keys_exact m n
    (λ k. next_one seq (get before k) (get worked k) (get m k) (get n k) (a.each k) (b.each k))

-- ---- buckets

version_one : (a b : Filled) → Some a.version ≡ Some b.version → a.version ≡ b.version
version_one a b e = cc

-- contents that say the same, in the same version
contents_one : (a b : Contents) → version_of a ≡ version_of b
    → ((k : LedgerKey) → change_at a k ≡ change_at b k) → a ≡ b
contents_one None None version same = refl
contents_one None (Some b) version same = absurd (cc)
contents_one (Some a) None version same = absurd (cc)
contents_one (Some a) (Some b) version same =
    let number = version_one a b version in
    let changes = same_map keys_total keys_exact a.changes b.changes same in
    λ i. Some (record { version = number i; changes = changes i })

merge_one : (level : ℕ) (older newer a b : Contents) → IsMerge level older newer a → IsMerge level older newer b → a ≡ b
merge_one level older newer a b x y =
    contents_one a b (x.version ∙ sym y.version) (λ k. x.changes k ∙ sym (y.changes k))

-- what one fresh bucket says of a key, the other says too
shown_too : (before after : EntryMap) (a b : Contents) (k : LedgerKey) (change : Change) → IsFresh before after a
    → IsFresh before after b → change_at a k ≡ Some change → change_at b k ≡ Some change
shown_too before after a b k change x y says = (y.changes k change).1 ((x.changes k change).0 says)

shown_one : (before after : EntryMap) (a b : Contents) (k : LedgerKey) (x y : Option Change) → IsFresh before after a
    → IsFresh before after b → change_at a k ≡ x → change_at b k ≡ y → x ≡ y
shown_one before after a b k None None f g is too = refl
shown_one before after a b k (Some x) y f g is too = sym (shown_too before after a b k x f g is) ∙ too
shown_one before after a b k None (Some y) f g is too = sym is ∙ shown_too before after b a k y g f too

fresh_one : (before after : EntryMap) (a b : Contents) → IsFresh before after a → IsFresh before after b
    → version_of a ≡ version_of b → a ≡ b
fresh_one before after a b x y version =
    contents_one a b version (λ k. shown_one before after a b k (change_at a k) (change_at b k) x y refl refl)

-- ---- levels

merged_one : (b : Bool) (level : ℕ) (older newer was x y : Contents) → IsMergedIf b level older newer was x
    → IsMergedIf b level older newer was y → x ≡ y
merged_one true level older newer was x y a b = merge_one level older newer x y a b
merged_one false level older newer was x y a b = a ∙ sym b

curr_one : (seq : ℕ) (fresh : Contents) (old : List Pair) (i : ℕ) (x y : Contents) → IsCurrAfter seq fresh old i x
    → IsCurrAfter seq fresh old i y → x ≡ y
curr_one seq fresh old zero x y a b = merge_one 0 (base_at seq old 0) fresh x y a b
curr_one seq fresh old (suc i) x y a b =
    merged_one (spills i seq) (suc i) (base_at seq old (suc i)) (pair_at old i).snap (pair_at old (suc i)).curr x y a b

pair_one : (seq : ℕ) (fresh : Contents) (old : List Pair) (i : ℕ) (x y : Pair) → IsPairAfter seq fresh old i x
    → IsPairAfter seq fresh old i y → x ≡ y
pair_one seq fresh old i x y a b =
    let curr = curr_one seq fresh old i x.curr y.curr a.curr b.curr in
    let snap = a.snap ∙ sym b.snap in
    λ j. record { curr = curr j; snap = snap j }

levels_one : (seq : ℕ) (fresh : Contents) (old m n : List Pair) → IsStep seq fresh old m → IsStep seq fresh old n
    → m ≡ n
levels_one seq fresh old m n a b = same_lists m n (a.count ∙ sym b.count)
    (λ k d within. same_inside m k d empty_pair within
    ∙ pair_one seq fresh old k (pair_at m k) (pair_at n k) (a.pairs k (first within a.count))
    (b.pairs k (first within a.count))
    ∙ sym (same_inside n k d empty_pair (second within a.count b.count)))
  where
    first : {k l : ℕ} → k < l → l ≡ level_count → k < level_count
    first lt is = omega arith

    second : {k l o : ℕ} → k < l → l ≡ level_count → o ≡ level_count → k < o
    second lt is same = omega arith

-- ---- closes

closed_one : (s : ClosingState) (closing : CloseRecord) (a b : PreparedClose) → IsClosed s closing a
    → IsClosed s closing b
    → a ≡ b
closed_one s closing a b x y =
    let seq = s.header.ledger_seq + 1 in
    let results = x.results ∙ sym y.results in
    let network = x.network ∙ sym y.network in
    let entries = entries_one seq s.entries (applied_in s closing).entries a.state.entries b.state.entries x.entries
    y.entries in
    let recorded = subst (λ (m : EntryMap). IsFresh s.entries m x.fresh) entries x.recorded.changes in
    let fresh = fresh_one s.entries b.state.entries x.fresh y.fresh recorded y.recorded.changes
    (x.recorded.meta ∙ sym y.recorded.meta) in
    let levels = levels_one seq y.fresh s.levels a.state.levels b.state.levels
    (subst (λ (f : Contents). IsStep seq f s.levels a.state.levels) fresh x.levels) y.levels in
    let header = x.header ∙ ap (λ (l : List Pair). finished (upgraded_header s closing) (list_hash l)) levels
    ∙ sym y.header in
    λ i. record {
      results = results i;
      state = record { network = network i; header = header i; entries = entries i; levels = levels i };
    }

-- ---- answers

-- which of the four kinds an answer is of
pub data Said (s : ClosingState) (bytes : List ℕ) : Result PreparedClose CloseFault → Type 0 where
  Unread : (wrong : XdrFault) → record_in bytes ≡ Err wrong → Said s bytes (Err (fault.BadXdr wrong.at wrong.kind))
  Refused : (closing : CloseRecord) (wrong : CloseFault) → record_in bytes ≡ Ok closing
      → record_fault s closing ≡ Some wrong → Said s bytes (Err wrong)
  Fits : (closing : CloseRecord) (closed : PreparedClose) → record_in bytes ≡ Ok closing → record_fault s closing ≡ None
      → IsClosed s closing closed → file_total closed.state.levels ≤ max_file_total → Said s bytes (Ok closed)
  Full : (closing : CloseRecord) (closed : PreparedClose) (total : ℕ) → record_in bytes ≡ Ok closing
      → record_fault s closing ≡ None → IsClosed s closing closed → total ≡ file_total closed.state.levels
      → max_file_total < total → Said s bytes (Err (fault.LedgerFull total))

close_is_said : (s : ClosingState) (bytes : List ℕ) (a : Result PreparedClose CloseFault) → IsClose s bytes a
    → Said s bytes a
close_is_said s bytes (Ok closed) h =
    let taken = h.1.taken in
    Fits taken.closing closed taken.reads taken.unrefused h.1.closes
    (subst (λ (n : ℕ). n ≤ max_file_total) h.1.files h.2)
close_is_said s bytes (Err (fault.BadXdr at kind)) h = Unread (record { at = at; kind = kind }) h
close_is_said s bytes (Err (fault.LedgerFull total)) h =
    let taken = h.1.taken in
    Full taken.closing h.0 total taken.reads taken.unrefused h.1.closes h.1.files h.2
close_is_said s bytes (Err fault.NoMemory) h = absurd h
close_is_said s bytes (Err wrong) h = Refused h.0 wrong h.1 h.2

-- ---- one answer

same_record : (bytes : List ℕ) (a b : CloseRecord) → record_in bytes ≡ Ok a → record_in bytes ≡ Ok b → a ≡ b
same_record bytes a b e f = ok_is (sym e ∙ f)
  where
    ok_is : ◌≡◌ {A = Result CloseRecord XdrFault} (Ok a) (Ok b) → a ≡ b
    ok_is h = cc

not_both : {A : Type 0} (bytes : List ℕ) (wrong : XdrFault) (closing : CloseRecord) → record_in bytes ≡ Err wrong
    → record_in bytes ≡ Ok closing → A
not_both bytes wrong closing e f = absurd (apart (sym e ∙ f))
  where
    apart : ◌≡◌ {A = Result CloseRecord XdrFault} (Err wrong) (Ok closing) → ⊥
    apart h = cc

same_fault : (s : ClosingState) (a b : CloseRecord) (x y : Option CloseFault) → a ≡ b → record_fault s a ≡ x
    → record_fault s b ≡ y → x ≡ y
same_fault s a b x y same e f = sym e ∙ ap (record_fault s) same ∙ f

not_refused : {A : Type 0} (wrong : CloseFault) → Some wrong ≡ None → A
not_refused wrong h = absurd (cc)

fault_is : (a b : CloseFault) → Some a ≡ Some b → a ≡ b
fault_is a b h = cc

same_closed : (s : ClosingState) (c d : CloseRecord) (a b : PreparedClose) → c ≡ d → IsClosed s c a → IsClosed s d b
    → a ≡ b
same_closed s c d a b same x y =
    closed_one s d a b (subst (λ (closing : CloseRecord). IsClosed s closing a) same x) y

not_full : {A : Type 0} (a b : PreparedClose) (total : ℕ) → a ≡ b → file_total a.state.levels ≤ max_file_total
    → total ≡ file_total b.state.levels → max_file_total < total → A
not_full a b total same fits is more =
    absurd (too_many (file_total a.state.levels) (file_total b.state.levels)
    (ap (λ (closed : PreparedClose). file_total closed.state.levels) same) fits is more)
  where
    too_many : (m n : ℕ) → m ≡ n → m ≤ max_file_total → total ≡ n → max_file_total < total → ⊥
    too_many m n e le h lt = omega arith

one_answer : (s : ClosingState) (bytes : List ℕ) (a b : Result PreparedClose CloseFault) → Said s bytes a
    → Said s bytes b
    → a ≡ b
one_answer s bytes a b (Unread v e) (Unread w f) =
    ap (λ (x : XdrFault). Err (fault.BadXdr x.at x.kind)) (err_is (sym e ∙ f))
  where
    err_is : ◌≡◌ {A = Result CloseRecord XdrFault} (Err v) (Err w) → v ≡ w
    err_is h = cc
one_answer s bytes a b (Unread v e) (Refused d w f g) = not_both bytes v d e f
one_answer s bytes a b (Unread v e) (Fits d y f n h le) = not_both bytes v d e f
one_answer s bytes a b (Unread v e) (Full d y t f n h is more) = not_both bytes v d e f
one_answer s bytes a b (Refused c v e g) (Unread w f) = not_both bytes w c f e
one_answer s bytes a b (Refused c v e g) (Refused d w f h) =
    ap (λ (x : CloseFault). Err x) (fault_is v w (same_fault s c d (Some v) (Some w) (same_record bytes c d e f) g h))
one_answer s bytes a b (Refused c v e g) (Fits d y f n h le) =
    not_refused v (same_fault s c d (Some v) None (same_record bytes c d e f) g n)
one_answer s bytes a b (Refused c v e g) (Full d y t f n h is more) =
    not_refused v (same_fault s c d (Some v) None (same_record bytes c d e f) g n)
one_answer s bytes a b (Fits c x e m g le) (Unread w f) = not_both bytes w c f e
one_answer s bytes a b (Fits c x e m g le) (Refused d w f h) =
    not_refused w (same_fault s d c (Some w) None (same_record bytes d c f e) h m)
one_answer s bytes a b (Fits c x e m g le) (Fits d y f n h less) =
    ap (λ (closed : PreparedClose). Ok closed) (same_closed s c d x y (same_record bytes c d e f) g h)
one_answer s bytes a b (Fits c x e m g le) (Full d y t f n h is more) =
    not_full x y t (same_closed s c d x y (same_record bytes c d e f) g h) le is more
one_answer s bytes a b (Full c x t e m g is more) (Unread w f) = not_both bytes w c f e
one_answer s bytes a b (Full c x t e m g is more) (Refused d w f h) =
    not_refused w (same_fault s d c (Some w) None (same_record bytes d c f e) h m)
one_answer s bytes a b (Full c x t e m g is more) (Fits d y f n h le) =
    not_full y x t (same_closed s d c y x (same_record bytes d c f e) h g) le is more
one_answer s bytes a b (Full c x t e m g is more) (Full d y u f n h same most) =
    ap (λ (n : ℕ). Err (fault.LedgerFull n))
    (is ∙ ap (λ (closed : PreparedClose). file_total closed.state.levels)
    (same_closed s c d x y (same_record bytes c d e f) g h) ∙ sym same)

pub closes_are_one : ClosesAreOne
closes_are_one s bytes a b x y = one_answer s bytes a b (close_is_said s bytes a x) (close_is_said s bytes b y)

-- What is known of a stream from one use to the next, and of the bytes that are ahead.
use Rattle.reports.proofs.Prelude.{◌≡◌, ℕ, ◌<◌, ◌≤◌, List, [], ◌∷◌, ◌++◌, length, Option, Some, None, IfSome, Ok, Err}
use Rattle.reports.proofs.Prelude.{refl}
use Rattle.reports.proofs.Prelude.{sym, ap, subst, ◌∙◌, append_assoc, append-nil, arith, inl, inr, ◌⊎◌, ◌≢◌, Consumes}
use Rattle.reports.proofs.Prelude.{IsAtEnd, Seen, Rose, XdrFault, XdrKind, Reading, start_of, IsBytes, end_by}
use Rattle.reports.proofs.Prelude.{max_record_len, faults_located, mark_laws}
use Rattle.xdr_core.specs.declared.fault.XdrKind.TheVariants as kind
use Rattle.reports.proofs.Marking.{read_mark}

-- ---- one use after another

abbrev pub over : (before now : Option (List ℕ)) (faults_before faults_now : ℕ) → Seen
over before now faults_before faults_now =
    record { before = before; now = now; faults_before = faults_before; faults_now = faults_now }

-- a stream's two uses as one
abbrev pub joined : Seen → Seen → Seen
joined first second = over first.before second.now first.faults_before second.faults_now

pub rose_before : (a b c : ℕ) → a ≤ b → Rose b c → Rose a c
rose_before a b c le h = omega arith

-- ---- what a source reports

pub if_some : (o : Option (List ℕ)) (P Q : List ℕ → Type 0) → ((x : List ℕ) → P x → Q x) → IfSome o P → IfSome o Q
if_some None P Q f h = tt
if_some (Some x) P Q f h = f x h

-- what a source reported begins with what it gave
pub reported_prefix : (before now : Option (List ℕ)) (given : List ℕ) (P : List ℕ → Type 0) → Consumes before now given
    → ((others : List ℕ) → now ≡ Some others → P (given ++ others)) → IfSome before P
reported_prefix None now given P gave h = tt
reported_prefix (Some x) None given P gave h = absurd gave
reported_prefix (Some x) (Some y) given P gave h = subst P (sym gave) (h y refl)

-- what is known of what is left, known of what was there before
pub known_before : (before now : Option (List ℕ)) (given : List ℕ) (P Q : List ℕ → Type 0) → Consumes before now given
    → ((others : List ℕ) → P others → Q (given ++ others)) → IfSome now P → IfSome before Q
known_before None now given P Q gave f h = tt
known_before (Some x) None given P Q gave f h = absurd gave
known_before (Some x) (Some y) given P Q gave f h = subst Q (sym gave) (f y h)

abbrev some : List ℕ → Option (List ℕ)
some x = Some x

some_is : (a b : List ℕ) → some a ≡ Some b → a ≡ b
some_is a b e = cc

pub nothing_after_end : (now : Option (List ℕ)) (others : List ℕ) → IsAtEnd now → now ≡ Some others → others ≡ []
nothing_after_end None others h e = absurd cc
nothing_after_end (Some x) others h e = let same : x ≡ others = some_is x others e in sym same ∙ h

-- ---- what is ahead

pub empty_or_some : (text : List ℕ) → (length text ≡ 0) ⊎ (0 < length text)
empty_or_some [] = inl refl
empty_or_some (byte ∷ rest) = inr (omega arith)

-- the text from an offset on is what is ahead, and more
pub text_of : (ahead new given others : List ℕ) → new ≡ ahead ++ given → ahead ++ (given ++ others) ≡ new ++ others
text_of ahead new given others e = sym (append_assoc ahead given others) ∙ ap (λ (t : List ℕ). t ++ others) (sym e)

pub prefix_text : (ahead new given prefix rest others : List ℕ) → new ≡ ahead ++ given → new ≡ prefix ++ rest
    → ahead ++ (given ++ others) ≡ prefix ++ (rest ++ others)
prefix_text ahead new given prefix rest others e cut =
    text_of ahead new given others e ∙ ap (λ (t : List ℕ). t ++ others) cut ∙ append_assoc prefix rest others

-- ---- a mark that doesn't read

pub short_or_not : (k : XdrKind) → (k ≡ kind.Short) ⊎ (k ≢ kind.Short)
short_or_not kind.Short = inl refl
short_or_not kind.Padding = inr (λ e. cc)
short_or_not kind.BadEnum = inr (λ e. cc)
short_or_not kind.BadFlag = inr (λ e. cc)
short_or_not kind.TooLong = inr (λ e. cc)
short_or_not kind.BadMark = inr (λ e. cc)
short_or_not kind.Trailing = inr (λ e. cc)
short_or_not kind.TooDeep = inr (λ e. cc)

pub end_err : (r : Reading XdrFault (List ℕ)) (wrong : XdrFault) → end_by r ≡ Err wrong → r ≡ Err wrong
end_err (Ok x) wrong e = absurd cc
end_err (Err other) wrong e = cc

pub mark_stays : (new others : List ℕ) (now : Option (List ℕ)) (wrong : XdrFault) → IsBytes new
    → read_mark (start_of new) ≡ Err wrong → (wrong.kind ≡ kind.Short → IsAtEnd now) → now ≡ Some others
    → read_mark (start_of (new ++ others)) ≡ Err wrong
mark_stays new others now wrong fits e at_end reported = elim (short_or_not wrong.kind) [
  | inl short ↦ ap (λ (t : List ℕ). read_mark (start_of (new ++ t)))
      (nothing_after_end now others (at_end short) reported)
      ∙ ap (λ (t : List ℕ). read_mark (start_of t)) (append-nil new) ∙ e
  | inr other ↦ (faults_located (mark_laws max_record_len (omega arith))).stays (start_of new) wrong others fits e other
]

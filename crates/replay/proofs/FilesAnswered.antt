-- What runs answer that write a file.
use Rattle.replay.proofs.Prelude.{◌≡◌, ◌⊎◌, ℕ, List, Option, Some, IfSome, refl, subst, inl, inr, Seen, Failed, Status}
use Rattle.stored_outcome.specs.run_outcome.declared.status.Status.TheVariants as status
use Rattle.stored_outcome.specs.run_outcome.FileRun.{DidWriteFile, FileKind, FileOutcome, IsFileAnswer, IsFileCut}
use Rattle.stored_outcome.specs.run_outcome.FileRun.{IsFileOutcome}
use Rattle.reports.proofs.OneKind.{IsDetermined}
use Rattle.replay.specs.Completeness.{NoneFailed}
use Rattle.replay.specs.FileLaws.{IsAnsweredWith, IsWritingAnswered, IsWritingComplete, IsWritingFault, Writings}
use Rattle.replay.proofs.OneFile.{one_outcome}

cut_by : (end : Status) → IsFileCut end → (end ≡ status.WriteFault) ⊎ (end ≡ status.NoMemory)
cut_by status.WriteFault cut = inl refl
cut_by status.NoMemory cut = inr refl
cut_by status.Done cut = absurd cut
cut_by status.Usage cut = absurd cut
cut_by status.Refused cut = absurd cut
cut_by status.ReadFault cut = absurd cut
cut_by status.DiskFault cut = absurd cut
cut_by (status.BadStore file offset) cut = absurd cut
cut_by (status.BadInput at) cut = absurd cut
cut_by (status.BadImage rule) cut = absurd cut
cut_by status.Missing cut = absurd cut
cut_by status.AlreadyThere cut = absurd cut
cut_by status.TooLarge cut = absurd cut

-- the answer to what the input was
answer_of : (kind : FileKind) (passphrase bytes : List ℕ) (input out err : Seen) (end : Status)
    → DidWriteFile kind passphrase input out err end → input.before ≡ Some bytes
    → IsFileAnswer (IsFileOutcome kind passphrase bytes) out err end
answer_of kind passphrase bytes input out err end did reported =
    subst (λ (before : Option (List ℕ)). IfSome before
    (λ x. IsFileAnswer (IsFileOutcome kind passphrase x) out err end)) reported did.answered

-- a fault of a stream is answered only where its count rose
pub record HasCauses (input out err : Seen) (end : Status) : Type 0 where
  pub read_fault : end ≡ status.ReadFault → Failed input
  pub write_fault : end ≡ status.WriteFault → Failed out ⊎ Failed err

pub complete_by : (IsOne : FileOutcome → Type 0) (input out err : Seen) (end : Status) → HasCauses input out err end
    → NoneFailed input out err → IsFileAnswer IsOne out err end
    → ((o : FileOutcome) × IsOne o × IsAnsweredWith o out err end) ⊎ (end ≡ status.NoMemory)
complete_by IsOne input out err end has none (inl (o, is, e, text, line)) = inl (o, is, (e, text, line))
complete_by IsOne input out err end has none (inr (inl h)) = absurd (none.no_read (has.read_fault h.0))
complete_by IsOne input out err end has none (inr (inr h)) = elim (cut_by end h.0) [
  | inl e ↦ elim (has.write_fault e) [
    | inl failed ↦ absurd (none.no_write failed)
    | inr failed ↦ absurd (none.no_line failed)
  ]
  | inr e ↦ inr e
]

causes_of : (kind : FileKind) (passphrase : List ℕ) (input out err : Seen) (end : Status)
    → DidWriteFile kind passphrase input out err end → HasCauses input out err end
causes_of kind passphrase input out err end did =
    record { read_fault = did.read_fault; write_fault = did.write_fault }

pub writings_complete : (kind : FileKind) → Writings kind (IsWritingComplete kind)
writings_complete kind passphrase bytes input out err end did reported none =
    complete_by (IsFileOutcome kind passphrase bytes) input out err end
    (causes_of kind passphrase input out err end did) none
    (answer_of kind passphrase bytes input out err end did reported)

pub answered_by : (IsOne : FileOutcome → Type 0) → ((a b : FileOutcome) → IsOne a → IsOne b → a ≡ b)
    → (input out err : Seen) (end : Status) → HasCauses input out err end → (o : FileOutcome) → IsOne o
    → IsFileAnswer IsOne out err end → IsAnsweredWith o out err end ⊎ IsWritingFault input out err end
answered_by IsOne same input out err end has o one (inl (p, is, e, text, line)) =
    inl (subst (λ (x : FileOutcome). IsAnsweredWith x out err end) (same p o is one) (e, text, line))
answered_by IsOne same input out err end has o one (inr (inl h)) = inr (inl (h.0, has.read_fault h.0))
answered_by IsOne same input out err end has o one (inr (inr h)) = elim (cut_by end h.0) [
  | inl e ↦ inr (inr (inl (e, has.write_fault e)))
  | inr e ↦ inr (inr (inr e))
]

pub writings_answered : (kind : FileKind) → IsDetermined kind → Writings kind (IsWritingAnswered kind)
writings_answered kind det passphrase bytes input out err end did reported o one =
    answered_by (IsFileOutcome kind passphrase bytes)
    (λ a b h i. one_outcome kind det passphrase bytes a b h i) input out err end
    (causes_of kind passphrase input out err end did) o one
    (answer_of kind passphrase bytes input out err end did reported)

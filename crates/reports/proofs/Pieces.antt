-- A text that is written in pieces.
use Rattle.reports.proofs.Prelude.{◌≡◌, ℕ, ◌+◌, ◌≤◌, List, ◌++◌, length, take, Option, Result, Ok, Err, sym, subst}
use Rattle.reports.proofs.Prelude.{arith}
use Rattle.reports.proofs.Prelude.{length-append, take-append-add, take-append-le, Appends, Appends-trans, Seen, Failed}
use Rattle.reports.proofs.Prelude.{Received, ReceivedPrefix}
use Rattle.std.specs.Prelude.{OnOk}
use Rattle.outside.specs.Streams.{HasCause}
use Rattle.reports.specs.Files.{IsWritten}
use Rattle.reports.proofs.Streams.{over, rose_before}

-- one write
pub written : {E : Type 0} (text : List ℕ) (out : Seen) (r : Result (Unit {0}) E) → OnOk r (Received out text)
    → ReceivedPrefix out text → HasCause out.faults_before out.faults_now r → IsWritten text out r
written text out (Ok x) entire prefix cause = (entire, cause.later)
written text out (Err failed) entire prefix cause = (cause.failed, prefix)

-- the first of two texts wasn't written entirely
pub written_off : {E : Type 0} (a b : List ℕ) (out : Seen) (failed : E) → IsWritten {E = E} a out (Err failed)
    → Failed out × ReceivedPrefix out (a ++ b)
written_off a b out failed (why, (n, le, h)) = (
  why,
  (
    n,
    omega (arith, le, length-append a b),
    subst (Appends out.before out.now) (sym (take-append-le n a b le)) h,
  ),
)

-- it was, and then the second, or a prefix of it
pub written_on : {E : Type 0} (a b : List ℕ) (before mid now : Option (List ℕ))
    (faults_before faults_mid faults_now : ℕ) (r : Result (Unit {0}) E)
    → Appends before mid a → faults_before ≤ faults_mid → IsWritten b (over mid now faults_mid faults_now) r
    → IsWritten (a ++ b) (over before now faults_before faults_now) r
written_on a b before mid now fb fm fn (Ok x) first later (h, last) =
    (Appends-trans before mid now a b first h, omega (arith, later, last))
written_on a b before mid now fb fm fn (Err failed) first later (why, (n, le, h)) = (
  rose_before fb fm fn later why,
  (
    length a + n,
    omega (arith, le, length-append a b),
    subst (Appends before now) (sym (take-append-add a b n)) (Appends-trans before mid now a (take n b) first h),
  ),
)

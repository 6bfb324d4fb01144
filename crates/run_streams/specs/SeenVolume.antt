-- What was seen of a volume before a run and after it.
use Rattle.std.specs.Prelude.{◌≡◌, ℕ}
use Rattle.outside.specs.Streams.{Rose}
use Rattle.outside.specs.Disk.{Image, Disk}

pub record SeenVolume : Type 1 where
  -- inhabited where the volume reports its bytes
  pub reports : Type 0
  pub before : Disk
  pub now : Disk
  pub faults_before : ℕ
  pub faults_now : ℕ
  -- it is the very value that it was: no call changed it
  pub same : Type 0

abbrev pub seen_volume : {V : Type 0} → (reports : Type 0) → (V → Disk) → (V → ℕ) → V → V → SeenVolume
seen_volume reports disk faults old new =
    record {
      reports = reports;
      before = disk old;
      now = disk new;
      faults_before = faults old;
      faults_now = faults new;
      same = new ≡ old;
    }

abbrev pub VolumeFailed : SeenVolume → Type 0
VolumeFailed vol = Rose vol.faults_before vol.faults_now

-- what a crash at some moment of the run might have left
abbrev pub MightLeave : SeenVolume → Image → Type 0
MightLeave vol c = vol.now.left_since vol.before.moment c

-- What the parts of `init` yield, and what a run of it leaves.
use Rattle.replay.proofs.Prelude as prelude
use prelude.{◌≡◌, ℕ, ◌<◌, List, [], ◌++◌, length, Option, Some, None, IfSome, Ok, Err, refl, sym, ap, subst, ◌∙◌}
use prelude.{append_assoc, append-nil, arith, ◌⊎◌, inl, inr, Consumes, Consumes-trans, length-append, Hash, Position}
use prelude.{start_of, StartImage, start_image, network_id_of, ImageRule, ClosingState, IsJudged, Image, Disk, Runs}
use prelude.{Seen, Failed, SeenVolume, StoreFault, StoreState, IsImage, Holds, HoldsNothing, IsSettled, first_kept}
use prelude.{Creates, IsCreated, IsCreateFault, Status, IsReported, OpensTo, OpensOn, IsSound, IsBadInput, IsBadImage}
use prelude.{MomentsOfInit, Asked, Stored, IsInitEnd, InitLeft, DidInit, Begins, Cut, IsFaulty, IsUncut, IsJudgedSo}
use prelude.{IsReportedOrRefused, IsReportedSo, status_of, IsEnded, IsFollowed, IsUnended, IsInput, IsUnread, IsLedgers}
use prelude.{IsStoringEnd, Storing, All-nil, MayHold}
use Rattle.std.proofs.Common.{◌≢◌}
use Rattle.stored_outcome.specs.close_rules.declared.image_fault.ImageFault.TheVariants as image_fault
use Rattle.image_store.specs.gate_journal.declared.fault.StoreFault.TheVariants as fault
use Rattle.stored_outcome.specs.run_outcome.declared.status.Status.TheVariants as status
use Rattle.replay.specs.Initing.{Keeps}
use Rattle.reports.proofs.Streams.{nothing_after_end, reported_prefix, rose_before}

-- ---- the input

-- nothing is left where nothing more was given
ended_prefix : (prefix : List ℕ) (image : StartImage) → Begins prefix image → IsImage prefix image
ended_prefix prefix image begins =
    let p : Position = record { at = length prefix; rest = [] } in (
      p,
      subst (λ (t : List ℕ). start_image.read (start_of t) ≡ Ok (image, p)) (append-nil prefix) (begins []),
      refl,
    )

pub input_is : (before mid now : Option (List ℕ)) (faults faults_mid faults_now : ℕ) (image : StartImage) (at : ℕ)
    (ahead : List ℕ)
    → Cut image at ahead (record { before = before; now = mid; faults_before = faults; faults_now = faults_mid })
    → IsEnded ahead (record { before = mid; now = now; faults_before = faults_mid; faults_now = faults_now })
    → IsInput image (record { before = before; now = now; faults_before = faults; faults_now = faults_now })
input_is before mid now faults faults_mid faults_now image at ahead c e =
    let all : (c.prefix ++ ahead) ++ [] ≡ c.prefix =
    append-nil (c.prefix ++ ahead) ∙ ap (λ (t : List ℕ). c.prefix ++ t) e.none ∙ append-nil c.prefix in
    record {
      given = c.prefix;
      gave = subst (λ (t : List ℕ). Consumes before now t) all
          (Consumes-trans before mid now (c.prefix ++ ahead) [] c.gave e.gave);
      ended = e.ended;
      are = ended_prefix c.prefix image c.begins;
      within = c.within;
    }

some_rest : (ahead more others : List ℕ) → 0 < length (ahead ++ more) → ahead ++ (more ++ others) ≢ []
some_rest ahead more others some e =
    let n : length (ahead ++ (more ++ others)) ≡ 0 = ap length e in
    omega (arith, some, n, length-append ahead (more ++ others), length-append more others, length-append ahead more)

input_goes_on : (before mid now : Option (List ℕ)) (faults faults_mid faults_now : ℕ) (image : StartImage)
    (at offset : ℕ) (ahead : List ℕ)
    → Cut image at ahead (record { before = before; now = mid; faults_before = faults; faults_now = faults_mid })
    → offset ≡ at
    → IsFollowed ahead (record { before = mid; now = now; faults_before = faults_mid; faults_now = faults_now })
    → IfSome before (λ bytes. IsBadInput bytes offset)
input_goes_on before mid now faults faults_mid faults_now image at offset ahead c same f =
    reported_prefix before now ((c.prefix ++ ahead) ++ f.more) (λ bytes. IsBadInput bytes offset)
    (Consumes-trans before mid now (c.prefix ++ ahead) f.more c.gave f.gave)
    (λ others reported.
    let rest : List ℕ = ahead ++ (f.more ++ others) in
    let text : ((c.prefix ++ ahead) ++ f.more) ++ others ≡ c.prefix ++ rest =
    append_assoc (c.prefix ++ ahead) f.more others ∙ append_assoc c.prefix ahead (f.more ++ others) in
    inr (
      image,
      record { at = length c.prefix; rest = rest },
      ap (λ (t : List ℕ). start_image.read (start_of t)) text ∙ c.begins rest,
      some_rest ahead f.more others f.some,
      same ∙ c.len,
    ))

pub input_unended : (before mid now : Option (List ℕ)) (faults faults_mid faults_now : ℕ) (image : StartImage)
    (at : ℕ) (ahead : List ℕ) (end : Status)
    → Cut image at ahead (record { before = before; now = mid; faults_before = faults; faults_now = faults_mid })
    → IsUnended at ahead (record { before = mid; now = now; faults_before = faults_mid; faults_now = faults_now }) end
    → IsUnread (record { before = before; now = now; faults_before = faults; faults_now = faults_now }) end
input_unended before mid now faults faults_mid faults_now image at ahead (status.BadInput offset) c h =
    input_goes_on before mid now faults faults_mid faults_now image at offset ahead c h.0 h.1
input_unended before mid now faults faults_mid faults_now image at ahead status.ReadFault c h =
    rose_before faults faults_mid faults_now c.later h
input_unended before mid now faults faults_mid faults_now image at ahead status.Done c h = absurd h
input_unended before mid now faults faults_mid faults_now image at ahead status.Usage c h = absurd h
input_unended before mid now faults faults_mid faults_now image at ahead status.Refused c h = absurd h
input_unended before mid now faults faults_mid faults_now image at ahead status.WriteFault c h = absurd h
input_unended before mid now faults faults_mid faults_now image at ahead status.DiskFault c h = absurd h
input_unended before mid now faults faults_mid faults_now image at ahead (status.BadStore file offset) c h = absurd h
input_unended before mid now faults faults_mid faults_now image at ahead status.NoMemory c h = absurd h
input_unended before mid now faults faults_mid faults_now image at ahead (status.BadImage rule) c h = absurd h
input_unended before mid now faults faults_mid faults_now image at ahead status.Missing c h = absurd h
input_unended before mid now faults faults_mid faults_now image at ahead status.AlreadyThere c h = absurd h
input_unended before mid now faults faults_mid faults_now image at ahead status.TooLarge c h = absurd h

faulty_is_bad : (before : Option (List ℕ)) (at : ℕ) → IfSome before (IsFaulty at)
    → IfSome before (λ bytes. IsBadInput bytes at)
faulty_is_bad None at h = tt
faulty_is_bad (Some bytes) at h = inl h

-- the source was not read on
pub uncut_unread : (input : Seen) (end : Status) → IsUncut input end → IsUnread input end
uncut_unread input (status.BadInput at) h = faulty_is_bad input.before at h
uncut_unread input status.ReadFault h = h.0
uncut_unread input status.NoMemory h = tt
uncut_unread input status.Done h = absurd h
uncut_unread input status.Usage h = absurd h
uncut_unread input status.Refused h = absurd h
uncut_unread input status.WriteFault h = absurd h
uncut_unread input status.DiskFault h = absurd h
uncut_unread input (status.BadStore file offset) h = absurd h
uncut_unread input (status.BadImage rule) h = absurd h
uncut_unread input status.Missing h = absurd h
uncut_unread input status.AlreadyThere h = absurd h
uncut_unread input status.TooLarge h = absurd h

-- ---- the volume

first_opens : (network : Hash) (start : StartImage) (s : ClosingState) (c : Image) → Holds c (first_kept network start)
    → IsJudged network start (Ok s) → OpensTo c s
first_opens network start s c holds judged = (
  first_kept network start,
  holds,
  record {
    start = s;
    judged = judged;
    held = All-nil (MayHold (first_kept network start).format);
    lines = [];
    closed = (refl, refl);
  },
)

pub stored_of : (network : Hash) (start : StartImage) (s : ClosingState) (vol : SeenVolume) (store : StoreState)
    → HoldsNothing vol.before.reads → IsSettled store vol.now (first_kept network start)
    → IsJudged network start (Ok s) → Stored network start s vol
stored_of network start s vol store nothing settled judged =
    let opens = first_opens network start s vol.now.reads settled.holds judged in
    record {
      nothing = nothing;
      holds = settled.holds;
      opens = opens;
      safe = settled.safe;
      sound = record {
        network = s.network;
        crash = λ c may. (s, subst (λ (x : Image). OpensTo x s) (sym (settled.safe c may)) opens, refl);
        reads = (s, opens, refl);
      };
    }

moment_of : (network : Hash) (start : StartImage) (before : Disk) (c : Image)
    → ((x : Image) → before.left_since before.moment x → before.may_leave x)
    → before.left_since before.moment c ⊎ ((d : Image) × before.may_leave d × IsCreated network start d c)
    → before.may_leave c
    ⊎ ((d : Image) × before.may_leave d × HoldsNothing d × (HoldsNothing c ⊎ Holds c (first_kept network start)))
moment_of network start before c only (inl left) = inl (only c left)
moment_of network start before c only (inr (d, may, (inl same))) =
    inl (subst (λ (x : Image). before.may_leave x) (sym same) may)
moment_of network start before c only (inr (d, may, (inr made))) = inr (d, may, made.nothing, made.made)

pub moments_of : (network : Hash) (start : StartImage) (vol : SeenVolume)
    → ((x : Image) → vol.before.left_since vol.before.moment x → vol.before.may_leave x)
    → Runs (IsCreated network start) vol.before vol.now → MomentsOfInit network start vol
moments_of network start vol only runs = (
  runs.later,
  λ c left. moment_of network start vol.before c only (runs.since vol.before.moment c (omega arith) left),
)

-- a store stays as it is, and so does whatever a crash may leave of it
opens_still : (network of : Hash) (start : StartImage) (d c : Image) → OpensOn of d → IsCreated network start d c
    → OpensOn of c
opens_still network of start d c opens (inl same) = subst (OpensOn of) (sym same) opens
opens_still network of start d c opens (inr made) =
    let holds = opens.1.1 in
    absurd (made.nothing holds.number holds.chosen.image_file holds.chosen.is_open)

pub sound_still : (network : Hash) (start : StartImage) (before now : Disk) → now.may_leave now.reads
    → Runs (IsCreated network start) before now → IsSound before → IsSound now
sound_still network start before now here runs sound =
    let crash = λ (c : Image) (may : now.may_leave c).
    (let x = runs.crash c may in opens_still network sound.network start x.0 c (sound.crash x.0 x.1) x.2) in
    record { network = sound.network; crash = crash; reads = crash now.reads here }

-- what `create` answers, as `init` says it
pub storing_done : (network : Hash) (start : StartImage) (vol : SeenVolume) (store : StoreState)
    → (vol.reports → MomentsOfInit network start vol) → (vol.reports → IsSound vol.before → IsSound vol.now)
    → (vol.reports → Creates network start vol.before vol.now (Ok store)) → Storing network start vol status.Done
storing_done network start vol store moments sound creates = record {
  moments = moments;
  sound = sound;
  done = λ e te s judged. let made = creates te in stored_of network start s vol store made.0 made.1 judged;
  already = λ e. absurd cc;
  disk_fault = λ e. absurd cc;
  no_memory = λ e. absurd cc;
  is_end = tt;
}

pub storing_fault : (network : Hash) (start : StartImage) (vol : SeenVolume) (wrong : StoreFault)
    → (vol.reports → MomentsOfInit network start vol) → (vol.reports → IsSound vol.before → IsSound vol.now)
    → IsCreateFault vol.faults_before vol.faults_now wrong → (wrong ≡ fault.NoMemory → vol.same)
    → (vol.reports → Creates network start vol.before vol.now (Err wrong)) → Storing network start vol (status_of wrong)
storing_fault network start vol fault.DiskFault moments sound rose same creates = record {
  moments = moments;
  sound = sound;
  done = λ e. absurd cc;
  already = λ e. absurd cc;
  disk_fault = λ e. rose;
  no_memory = λ e. absurd cc;
  is_end = tt;
}
storing_fault network start vol fault.AlreadyThere moments sound rose same creates = record {
  moments = moments;
  sound = sound;
  done = λ e. absurd cc;
  already = λ e te. let there = creates te in (there.1, there.0);
  disk_fault = λ e. absurd cc;
  no_memory = λ e. absurd cc;
  is_end = tt;
}
storing_fault network start vol fault.NoMemory moments sound rose same creates = record {
  moments = moments;
  sound = sound;
  done = λ e. absurd cc;
  already = λ e. absurd cc;
  disk_fault = λ e. absurd cc;
  no_memory = λ e. same refl;
  is_end = tt;
}
storing_fault network start vol fault.Failed moments sound rose same creates = absurd rose
storing_fault network start vol (fault.BadStore file offset) moments sound rose same creates = absurd rose
storing_fault network start vol fault.Missing moments sound rose same creates = absurd rose

-- ---- a run

abbrev bad_input_at : ℕ → Status
bad_input_at at = status.BadInput at

abbrev bad_image_of : ImageRule → Status
bad_image_of rule = status.BadImage rule

same_offset : (at offset : ℕ) → bad_input_at at ≡ status.BadInput offset → at ≡ offset
same_offset at offset e = cc

same_rule : (rule other : ImageRule) → bad_image_of rule ≡ status.BadImage other → rule ≡ other
same_rule rule other e = cc

module _ (network : Hash) (input : Seen) (vol : SeenVolume) where
  -- the volume isn't asked
  no_memory : vol.same → InitLeft network input vol status.NoMemory
  no_memory same = record {
    left = inl same;
    done = λ e. absurd cc;
    bad_input = λ at e. absurd cc;
    bad_image = λ rule e. absurd cc;
    already = λ e. absurd cc;
    read_fault = λ e. absurd cc;
    disk_fault = λ e. absurd cc;
    no_memory = λ e. same;
    is_end = tt;
  }

  read_failed : vol.same → Failed input → InitLeft network input vol status.ReadFault
  read_failed same failed = record {
    left = inl same;
    done = λ e. absurd cc;
    bad_input = λ at e. absurd cc;
    bad_image = λ rule e. absurd cc;
    already = λ e. absurd cc;
    read_fault = λ e. (failed, same);
    disk_fault = λ e. absurd cc;
    no_memory = λ e. absurd cc;
    is_end = tt;
  }

  bad_input : vol.same → (at : ℕ) → IfSome input.before (λ bytes. IsBadInput bytes at)
      → InitLeft network input vol (status.BadInput at)
  bad_input same at bad = record {
    left = inl same;
    done = λ e. absurd cc;
    bad_input = λ offset e. (
      same,
      subst (λ (n : ℕ). IfSome input.before (λ bytes. IsBadInput bytes n)) (same_offset at offset e) bad,
    );
    bad_image = λ rule e. absurd cc;
    already = λ e. absurd cc;
    read_fault = λ e. absurd cc;
    disk_fault = λ e. absurd cc;
    no_memory = λ e. absurd cc;
    is_end = tt;
  }

  bad_image : vol.same → (rule : ImageRule) → IfSome input.before (λ bytes. IsBadImage network bytes rule)
      → InitLeft network input vol (status.BadImage rule)
  bad_image same rule bad = record {
    left = inl same;
    done = λ e. absurd cc;
    bad_input = λ at e. absurd cc;
    bad_image = λ other e. (
      same,
      subst (λ (r : ImageRule). IfSome input.before (λ bytes. IsBadImage network bytes r)) (same_rule rule other e)
          bad,
    );
    already = λ e. absurd cc;
    read_fault = λ e. absurd cc;
    disk_fault = λ e. absurd cc;
    no_memory = λ e. absurd cc;
    is_end = tt;
  }

  -- ends before the image is judged
  pub unread_made : vol.same → (end : Status) → IsUnread input end → InitLeft network input vol end
  unread_made same (status.BadInput at) h = bad_input same at h
  unread_made same status.ReadFault h = read_failed same h
  unread_made same status.NoMemory h = no_memory same
  unread_made same status.Done h = absurd h
  unread_made same status.Usage h = absurd h
  unread_made same status.Refused h = absurd h
  unread_made same status.WriteFault h = absurd h
  unread_made same status.DiskFault h = absurd h
  unread_made same (status.BadStore file offset) h = absurd h
  unread_made same (status.BadImage rule) h = absurd h
  unread_made same status.Missing h = absurd h
  unread_made same status.AlreadyThere h = absurd h
  unread_made same status.TooLarge h = absurd h

  -- ends of judging it
  broken : (image : StartImage) (rule : ImageRule) → IsInput image input
      → IsJudged network image (Err (image_fault.BadImage rule))
      → IfSome input.before (λ bytes. IsBadImage network bytes rule)
  broken image rule i judged =
      reported_prefix input.before input.now i.given (λ bytes. IsBadImage network bytes rule) i.gave
      (λ others reported. subst (λ (t : List ℕ). IsBadImage network t rule)
      (sym (ap (λ (t : List ℕ). i.given ++ t) (nothing_after_end input.now others i.ended reported)
      ∙ append-nil i.given))
      (image, i.are, judged))

  unjudged_made : vol.same → (image : StartImage) (end : Status) → IsInput image input
      → IsJudgedSo network image (Err end) → InitLeft network input vol end
  unjudged_made same image (status.BadImage rule) i h = bad_image same rule (broken image rule i h)
  unjudged_made same image status.NoMemory i h = no_memory same
  unjudged_made same image (status.BadInput at) i h = absurd cc
  unjudged_made same image status.ReadFault i h = absurd cc
  unjudged_made same image status.Done i h = absurd cc
  unjudged_made same image status.Usage i h = absurd cc
  unjudged_made same image status.Refused i h = absurd cc
  unjudged_made same image status.WriteFault i h = absurd cc
  unjudged_made same image status.DiskFault i h = absurd cc
  unjudged_made same image (status.BadStore file offset) i h = absurd cc
  unjudged_made same image status.Missing i h = absurd cc
  unjudged_made same image status.AlreadyThere i h = absurd cc
  unjudged_made same image status.TooLarge i h = absurd cc

  -- ends of storing it
  storing_end : (end : Status) → IsStoringEnd end → IsInitEnd end
  storing_end status.Done h = tt
  storing_end status.DiskFault h = tt
  storing_end status.NoMemory h = tt
  storing_end status.AlreadyThere h = tt
  storing_end status.TooLarge h = absurd h
  storing_end (status.BadInput at) h = absurd h
  storing_end status.ReadFault h = absurd h
  storing_end status.Usage h = absurd h
  storing_end status.Refused h = absurd h
  storing_end status.WriteFault h = absurd h
  storing_end (status.BadStore file offset) h = absurd h
  storing_end (status.BadImage rule) h = absurd h
  storing_end status.Missing h = absurd h

  stored_made : (image : StartImage) (end : Status) → IsInput image input → IsLedgers network image
      → Storing network image vol end → InitLeft network input vol end
  stored_made image end i ledgers stores =
      let asked : Asked network input vol = record {
        given = i.given;
        gave = i.gave;
        ended = i.ended;
        start = image;
        state = ledgers.0;
        entire = record { are = i.are; judged = ledgers.1 };
        moments = stores.moments;
        sound = stores.sound;
      } in
      record {
        left = inr asked;
        done = λ e. (asked, λ te. stores.done e te ledgers.0 ledgers.1);
        bad_input = λ at e. absurd (subst IsStoringEnd e stores.is_end);
        bad_image = λ rule e. absurd (subst IsStoringEnd e stores.is_end);
        already = λ e. (asked, stores.already e);
        read_fault = λ e. absurd (subst IsStoringEnd e stores.is_end);
        disk_fault = λ e. (asked, stores.disk_fault e);
        no_memory = stores.no_memory;
        is_end = storing_end end stores.is_end;
      }

  -- the line isn't written
  as_write : (end : Status) → InitLeft network input vol end → InitLeft network input vol status.WriteFault
  as_write end m = record {
    left = m.left;
    done = λ e. absurd cc;
    bad_input = λ at e. absurd cc;
    bad_image = λ rule e. absurd cc;
    already = λ e. absurd cc;
    read_fault = λ e. absurd cc;
    disk_fault = λ e. absurd cc;
    no_memory = λ e. absurd cc;
    is_end = tt;
  }

-- the image is kept, where it is judged to be that of a ledger
pub kept_made : (network : Hash) (input : Seen) (vol : SeenVolume) (image : StartImage) (end : Status)
    → IsInput image input → Keeps network image vol end → InitLeft network input vol end
kept_made network input vol image end i (inl (same, judged)) = unjudged_made network input vol same image end i judged
kept_made network input vol image end i (inr (ledgers, stores)) =
    stored_made network input vol image end i ledgers stores

-- nothing was written yet
pub kept_no_write : (network : Hash) (image : StartImage) (vol : SeenVolume) (end : Status)
    → Keeps network image vol end → end ≢ status.WriteFault
kept_no_write network image vol end (inl (same, judged)) e =
    let none : IsJudgedSo network image (Err status.WriteFault) =
    subst (λ (x : Status). IsJudgedSo network image (Err x)) e judged in
    absurd cc
kept_no_write network image vol end (inr (ledgers, stores)) e = subst IsStoringEnd e stores.is_end

pub unread_no_write : (input : Seen) (end : Status) → IsUnread input end → end ≢ status.WriteFault
unread_no_write input end h e = subst (IsUnread input) e h

-- ---- a run with its line on standard error

module _ (passphrase : List ℕ) (input err : Seen) (vol : SeenVolume) where
  reported_as : (end after : Status) → InitLeft (network_id_of passphrase) input vol end → end ≢ status.WriteFault
      → IsReported end err after → DidInit passphrase input err vol after
  reported_as end after m no_write (inl (e, h)) = subst (DidInit passphrase input err vol) (sym e) (record {
    left = m;
    write_fault = λ w. absurd (no_write w);
    reported = inl h;
  })
  reported_as end after m no_write (inr (e, failed)) = subst (DidInit passphrase input err vol) (sym e) (record {
    left = as_write (network_id_of passphrase) input vol end m;
    write_fault = λ w. failed;
    reported = inr (refl, failed);
  })

  -- memory may be refused for the line
  shown_or : (end after : Status) → InitLeft (network_id_of passphrase) input vol end → end ≢ status.WriteFault
      → vol.same → IsReportedOrRefused end err after → DidInit passphrase input err vol after
  shown_or end after m no_write same (inl reported) = reported_as end after m no_write reported
  shown_or end after m no_write same (inr reported) =
      reported_as status.NoMemory after (no_memory (network_id_of passphrase) input vol same) (λ e. cc) reported

  pub did_init : (end after : Status) → InitLeft (network_id_of passphrase) input vol end → end ≢ status.WriteFault
      → IsReportedSo end err after → DidInit passphrase input err vol after
  did_init (status.BadInput at) after m no_write reported =
      shown_or (status.BadInput at) after m no_write (m.bad_input at refl).0 reported
  did_init (status.BadImage rule) after m no_write reported =
      shown_or (status.BadImage rule) after m no_write (m.bad_image rule refl).0 reported
  did_init (status.BadStore file offset) after m no_write reported = absurd m.is_end
  did_init status.Done after m no_write reported = reported_as status.Done after m no_write reported
  did_init status.Usage after m no_write reported = absurd m.is_end
  did_init status.Refused after m no_write reported = absurd m.is_end
  did_init status.ReadFault after m no_write reported = reported_as status.ReadFault after m no_write reported
  did_init status.WriteFault after m no_write reported = absurd (no_write refl)
  did_init status.DiskFault after m no_write reported = reported_as status.DiskFault after m no_write reported
  did_init status.NoMemory after m no_write reported = reported_as status.NoMemory after m no_write reported
  did_init status.Missing after m no_write reported = absurd m.is_end
  did_init status.AlreadyThere after m no_write reported = reported_as status.AlreadyThere after m no_write reported
  did_init status.TooLarge after m no_write reported = reported_as status.TooLarge after m no_write reported

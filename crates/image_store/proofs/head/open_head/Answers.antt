use Rattle.image_store.proofs.Prelude.{◌≡◌, subst, rules, ℕ, List, take, Image, IsHashed}
use Rattle.image_store.proofs.Heads.{unsaid, hashed_head, unhashed_head}
use Rattle.image_store.proofs.head.open_head.Goals as goal

pub returns-in-Err-clause-reported : goal.returns-in-Err-clause-reported
returns-in-Err-clause-reported g c = λ reported.
    let file : List ℕ = (g.V.Volume.disk c.args.vol.now).reads c.args.file in
    let first : c.read_exact.new.buf ≡ take 49 file = search rules in
    unsaid c.args.file file c.read_exact.new.buf c.args.size first (c.requires.is_open reported)
    (c.requires.size reported) c.in-Err.wrong c.in-Err.ensures.reported

pub returns-in-Ok-true-clause-reported : goal.returns-in-Ok-true-clause-reported
returns-in-Ok-true-clause-reported g c = λ reported.
    let file : List ℕ = (g.V.Volume.disk c.args.vol.now).reads c.args.file in
    let first : c.read_exact.new.buf ≡ take 49 file = search rules in
    let hashed = rw c.in-Ok-true.field-0-test at (c.in-Ok-true.ensures.hashed reported) in
    hashed_head c.args.file file c.read_exact.new.buf c.args.size first (c.requires.is_open reported)
    (c.requires.size reported) c.in-Ok-judged.head c.in-Ok-judged.ensures.reported
    (subst (λ (image : Image). IsHashed (image c.args.file)) c.in-Ok.ensures.stays.reads hashed)

pub returns-in-Ok-false-clause-reported : goal.returns-in-Ok-false-clause-reported
returns-in-Ok-false-clause-reported g c = λ reported.
    let file : List ℕ = (g.V.Volume.disk c.args.vol.now).reads c.args.file in
    let first : c.read_exact.new.buf ≡ take 49 file = search rules in
    let wrong = rw c.in-Ok-false.field-0-test at (c.in-Ok-false.ensures.hashed reported) in
    unhashed_head c.args.file file c.read_exact.new.buf c.args.size first (c.requires.is_open reported)
    (c.requires.size reported) c.in-Ok-judged.head c.in-Ok-judged.ensures.reported
    (subst (λ (image : Image). IsHashed (image c.args.file) → ⊥) c.in-Ok.ensures.stays.reads wrong)

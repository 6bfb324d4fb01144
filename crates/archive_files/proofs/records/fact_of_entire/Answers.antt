use Rattle.archive_files.proofs.Prelude.{IsBytes, get_or, subst, sym, ℕ, ◌∙◌}
use Rattle.std.proofs.Common.{w8}
use Rattle.std.proofs.Math.Facts.{Fits-lt-pow}
use Rattle.archive_files.proofs.Reading.{entire_is}
use Rattle.archive_files.proofs.records.fact_of_entire.Goals as goal

pub fact-requires : goal.fact-requires
fact-requires g c =
    let fits = λ (i : ℕ). Fits-lt-pow {w = w8} {n = get_or c.args.text.now i 0} (c.type_inv.text i) in
    let is = entire_is g.K.RecordKind.format c.args.inner.now c.in_ok-value.value g.K.RecordKind.lawful
    (subst IsBytes (sym c.requires) fits) c.in_ok-value.ensures.entire in
    record { within = is.within; encoded = sym c.requires ∙ is.encoded }

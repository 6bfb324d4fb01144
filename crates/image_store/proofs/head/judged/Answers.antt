use Rattle.image_store.proofs.Prelude.{◌≡◌, sym, ap, ◌∙◌, refl, ◌+◌, inl, inr, arith, rules, image_offset, format_in}
use Rattle.image_store.proofs.Prelude.{length_in}
use Rattle.image_store.proofs.Heads.{number_of, no_number, low_epoch, too_short, other_len}
use Rattle.image_store.proofs.head.judged.Goals.{then-size-offset-via-then-size-offset}
use Rattle.image_store.proofs.head.judged.Goals.{then-size-offset-via-else-size-offset+then-size-offset-2}
use Rattle.image_store.proofs.head.judged.Goals as goal

pub returns-then-not-is_of_file-clause-reported : goal.returns-then-not-is_of_file-clause-reported
returns-then-not-is_of_file-clause-reported c = (
  refl,
  inl (
    refl,
    no_number c.args.file c.numbered-format.result.0 c.numbered-format.result.1 c.args.head.now
        c.numbered-format.ensures.format c.numbered-format.ensures.epoch c.if-not-is_of_file.ensures,
  ),
)

said_size : (c : goal.Joined-then-size-offset) → c.image_offset-offset.result + c.u64_in-len.result
    ≡ image_offset (format_in c.args.head.now) + length_in c.args.head.now
said_size c =
    let offset : c.image_offset-offset.result ≡ image_offset (format_in c.args.head.now) =
    c.image_offset-offset.ensures ∙ ap image_offset c.numbered-format.ensures.format in
    let len : c.u64_in-len.result ≡ length_in c.args.head.now = search rules in
    λ i. offset i + len i

pub returns-then-size-offset-clause-reported : goal.returns-then-size-offset-clause-reported
returns-then-size-offset-clause-reported c = (
  refl,
  inr (
    refl,
    number_of c.args.file c.numbered-format.result.0 c.numbered-format.result.1 c.args.head.now
        c.numbered-format.ensures.format c.numbered-format.ensures.epoch c.if-not-is_of_file.ensures,
    elim c.then-size-offset.branch [
      | then-size-offset-via-then-size-offset w ↦ λ same. too_short c.args.size c.image_offset-offset.result
          c.u64_in-len.result w.if-size-offset.true (same ∙ sym (said_size c))
      | then-size-offset-via-else-size-offset+then-size-offset-2 w ↦ λ same. other_len c.args.size
          c.image_offset-offset.result c.u64_in-len.result w.if-size-offset.false w.if-size-offset-2.true
          (same ∙ sym (said_size c))
    ],
  ),
)

pub returns-clause-fits : goal.returns-clause-fits
returns-clause-fits c =
    let offset = c.image_offset-offset.ensures in
    record {
      parity = c.if-not-is_of_file.ensures.parity;
      epoch = low_epoch c.args.file c.numbered-format.result.0 c.numbered-format.result.1 c.args.head.now
          c.numbered-format.ensures.format c.numbered-format.ensures.epoch;
      low = c.if-not-is_of_file.ensures.low;
      len = omega (arith, offset, c.if-size-offset.false, c.if-size-offset-2.false);
    }

pub returns-clause-reported : goal.returns-clause-reported
returns-clause-reported c =
    let offset = c.image_offset-offset.ensures in
    record {
      numbered = number_of c.args.file c.numbered-format.result.0 c.numbered-format.result.1 c.args.head.now
          c.numbered-format.ensures.format c.numbered-format.ensures.epoch c.if-not-is_of_file.ensures;
      format = c.numbered-format.ensures.format;
      epoch = c.numbered-format.ensures.epoch;
      network = c.network_of.ensures;
      len = search rules;
      whole = omega (arith, offset, c.if-size-offset.false, c.if-size-offset-2.false);
    }

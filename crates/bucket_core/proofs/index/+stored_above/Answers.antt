use Rattle.std.proofs.Common.{rules, arith, ◌≡◌, ◌++◌, ◌∷◌, Option, Some, ap, sym, ◌∙◌}
use Rattle.std.specs.Option.{option_or}
use Rattle.ledger_types.specs.declared.key.LedgerKey.{LedgerKey}
use Rattle.ledger_types.specs.declared.bucket.BucketEntry.{BucketEntry}
use Rattle.ledger_types.specs.KeyOrder.{key_cmp}
use Rattle.std.proofs.Common.{drop}
use Rattle.bucket_core.specs.Stored.{stored_in}
use Rattle.bucket_core.proofs.Halving.{halves, above_it, above_same, above_or}
use Rattle.bucket_core.proofs.index.+stored_above.Goals as goal

pub stored_at-item-requires : goal.stored_at-item-requires
stored_at-item-requires t c =
    let is : c.args.offsets.now ≡ c.split_at.result.0.now ++ c.in-Some.offset.now ∷ c.in-Some.later.now =
    search (rules, c.split_at.ensures, c.in-Some.ensures) in
    (halves c.args.file.now c.args.offsets.now c.split_at.result.0.now c.in-Some.offset.now c.in-Some.later.now is
    c.requires.exist c.requires.rises).here

pub stored_above-requires : goal.stored_above-requires
stored_above-requires t c =
    let is : c.args.offsets.now ≡ c.split_at.result.0.now ++ c.in-Some.offset.now ∷ c.in-Some.later.now =
    search (rules, c.split_at.ensures, c.in-Some.ensures) in
    let h = halves c.args.file.now c.args.offsets.now c.split_at.result.0.now c.in-Some.offset.now c.in-Some.later.now
    is c.requires.exist c.requires.rises in
    let less = h.later_shorter in
    let exist = h.after in
    let sorted = h.rows.after_sorted in
    search (rules, arith, less, exist, sorted)

pub stored_above-requires-in-Equal : goal.stored_above-requires-in-Equal
stored_above-requires-in-Equal t c =
    let is : c.args.offsets.now ≡ c.split_at.result.0.now ++ c.in-Some.offset.now ∷ c.in-Some.later.now =
    search (rules, c.split_at.ensures, c.in-Some.ensures) in
    let h = halves c.args.file.now c.args.offsets.now c.split_at.result.0.now c.in-Some.offset.now c.in-Some.later.now
    is c.requires.exist c.requires.rises in
    let less = h.later_shorter in
    let exist = h.after in
    let sorted = h.rows.after_sorted in
    search (rules, arith, less, exist, sorted)

pub stored_above-requires-in-Greater : goal.stored_above-requires-in-Greater
stored_above-requires-in-Greater t c =
    let is : c.args.offsets.now ≡ c.split_at.result.0.now ++ c.in-Some.offset.now ∷ c.in-Some.later.now =
    search (rules, c.split_at.ensures, c.in-Some.ensures) in
    let h = halves c.args.file.now c.args.offsets.now c.split_at.result.0.now c.in-Some.offset.now c.in-Some.later.now
    is c.requires.exist c.requires.rises in
    let less = h.earlier_shorter in
    let exist = h.before in
    let sorted = h.rows.before_sorted in
    search (rules, arith, less, exist, sorted)

pub returns-in-Less : goal.returns-in-Less
returns-in-Less t c = λ k text.
    let is : c.args.offsets.now ≡ c.split_at.result.0.now ++ c.in-Some.offset.now ∷ c.in-Some.later.now =
    search (rules, c.split_at.ensures, c.in-Some.ensures) in
    let h = halves c.args.file.now c.args.offsets.now c.split_at.result.0.now c.in-Some.offset.now c.in-Some.later.now
    is c.requires.exist c.requires.rises in
    let order = sym (c.order.ensures k text) ∙ c.in-Less.is in
    c.stored_above.ensures k text ∙ sym (above_it k h
    (ap (λ (x : LedgerKey × BucketEntry). key_cmp x.0 k) (sym c.stored_at-item.ensures) ∙ order))

pub returns-in-Equal : goal.returns-in-Equal
returns-in-Equal t c = λ k text.
    let is : c.args.offsets.now ≡ c.split_at.result.0.now ++ c.in-Some.offset.now ∷ c.in-Some.later.now =
    search (rules, c.split_at.ensures, c.in-Some.ensures) in
    let h = halves c.args.file.now c.args.offsets.now c.split_at.result.0.now c.in-Some.offset.now c.in-Some.later.now
    is c.requires.exist c.requires.rises in
    let order = sym (c.order.ensures k text) ∙ c.in-Equal.is in
    c.stored_above-in-Equal.ensures k text ∙ sym (above_same k h
    (ap (λ (x : LedgerKey × BucketEntry). key_cmp x.0 k) (sym c.stored_at-item.ensures) ∙ order))

pub returns-in-None : goal.returns-in-None
returns-in-None t c = λ k text.
    let is : c.args.offsets.now ≡ c.split_at.result.0.now ++ c.in-Some.offset.now ∷ c.in-Some.later.now =
    search (rules, c.split_at.ensures, c.in-Some.ensures) in
    let h = halves c.args.file.now c.args.offsets.now c.split_at.result.0.now c.in-Some.offset.now c.in-Some.later.now
    is c.requires.exist c.requires.rises in
    let order = sym (c.order.ensures k text) ∙ c.in-Greater.is in
    ap Some c.stored_at-item.ensures ∙ ap (λ (o : Option (LedgerKey × BucketEntry)). option_or o
    (Some (stored_in (drop c.in-Some.offset.now c.args.file.now)))) (c.in-None.ensures k text)
    ∙ sym (above_or k h (ap (λ (x : LedgerKey × BucketEntry). key_cmp x.0 k) (sym c.stored_at-item.ensures) ∙ order))

pub returns-in-Some-stored_above : goal.returns-in-Some-stored_above
returns-in-Some-stored_above t c = λ k text.
    let is : c.args.offsets.now ≡ c.split_at.result.0.now ++ c.in-Some.offset.now ∷ c.in-Some.later.now =
    search (rules, c.split_at.ensures, c.in-Some.ensures) in
    let h = halves c.args.file.now c.args.offsets.now c.split_at.result.0.now c.in-Some.offset.now c.in-Some.later.now
    is c.requires.exist c.requires.rises in
    let order = sym (c.order.ensures k text) ∙ c.in-Greater.is in
    ap (λ (o : Option (LedgerKey × BucketEntry)). option_or o
    (Some (stored_in (drop c.in-Some.offset.now c.args.file.now))))
    (c.in-Some-stored_above.ensures k text)
    ∙ sym (above_or k h (ap (λ (x : LedgerKey × BucketEntry). key_cmp x.0 k) (sym c.stored_at-item.ensures) ∙ order))

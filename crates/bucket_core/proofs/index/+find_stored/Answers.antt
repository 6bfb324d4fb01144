use Rattle.std.proofs.Common.{rules, arith, ◌≡◌, ◌++◌, ◌∷◌, Some, ap, sym, ◌∙◌}
use Rattle.ledger_types.specs.declared.key.LedgerKey.{LedgerKey}
use Rattle.ledger_types.specs.declared.bucket.BucketEntry.{BucketEntry}
use Rattle.ledger_types.specs.KeyOrder.{key_cmp}
use Rattle.bucket_core.proofs.Halving.{halves, before_it, at_it, after_it}
use Rattle.bucket_core.proofs.index.+find_stored.Goals as goal

pub stored_at-item-requires : goal.stored_at-item-requires
stored_at-item-requires t c =
    let is : c.args.offsets.now ≡ c.split_at.result.0.now ++ c.in-Some.offset.now ∷ c.in-Some.later.now =
    search (rules, c.split_at.ensures, c.in-Some.ensures) in
    (halves c.args.file.now c.args.offsets.now c.split_at.result.0.now c.in-Some.offset.now c.in-Some.later.now is
    c.requires.exist c.requires.rises).here

pub find_stored-requires : goal.find_stored-requires
find_stored-requires t c =
    let is : c.args.offsets.now ≡ c.split_at.result.0.now ++ c.in-Some.offset.now ∷ c.in-Some.later.now =
    search (rules, c.split_at.ensures, c.in-Some.ensures) in
    let h = halves c.args.file.now c.args.offsets.now c.split_at.result.0.now c.in-Some.offset.now c.in-Some.later.now
    is c.requires.exist c.requires.rises in
    let less = h.later_shorter in
    let exist = h.after in
    let sorted = h.rows.after_sorted in
    search (rules, arith, less, exist, sorted)

pub find_stored-requires-in-Greater : goal.find_stored-requires-in-Greater
find_stored-requires-in-Greater t c =
    let is : c.args.offsets.now ≡ c.split_at.result.0.now ++ c.in-Some.offset.now ∷ c.in-Some.later.now =
    search (rules, c.split_at.ensures, c.in-Some.ensures) in
    let h = halves c.args.file.now c.args.offsets.now c.split_at.result.0.now c.in-Some.offset.now c.in-Some.later.now
    is c.requires.exist c.requires.rises in
    let less = h.earlier_shorter in
    let exist = h.before in
    let sorted = h.rows.before_sorted in
    search (rules, arith, less, exist, sorted)

pub returns-in-Less : goal.returns-in-Less
returns-in-Less t c = λ k text.
    let is : c.args.offsets.now ≡ c.split_at.result.0.now ++ c.in-Some.offset.now ∷ c.in-Some.later.now =
    search (rules, c.split_at.ensures, c.in-Some.ensures) in
    let h = halves c.args.file.now c.args.offsets.now c.split_at.result.0.now c.in-Some.offset.now c.in-Some.later.now
    is c.requires.exist c.requires.rises in
    let order = sym (c.order.ensures k text) ∙ c.in-Less.is in
    c.find_stored.ensures k text ∙ sym (after_it k h
    (ap (λ (x : LedgerKey × BucketEntry). key_cmp x.0 k) (sym c.stored_at-item.ensures) ∙ order))

pub returns-in-Equal : goal.returns-in-Equal
returns-in-Equal t c = λ k text.
    let is : c.args.offsets.now ≡ c.split_at.result.0.now ++ c.in-Some.offset.now ∷ c.in-Some.later.now =
    search (rules, c.split_at.ensures, c.in-Some.ensures) in
    let h = halves c.args.file.now c.args.offsets.now c.split_at.result.0.now c.in-Some.offset.now c.in-Some.later.now
    is c.requires.exist c.requires.rises in
    let order = sym (c.order.ensures k text) ∙ c.in-Equal.is in
    ap (λ (x : LedgerKey × BucketEntry). Some x.1) c.stored_at-item.ensures ∙ sym (at_it k h
    (ap (λ (x : LedgerKey × BucketEntry). key_cmp x.0 k) (sym c.stored_at-item.ensures) ∙ order))

pub returns-in-Greater : goal.returns-in-Greater
returns-in-Greater t c = λ k text.
    let is : c.args.offsets.now ≡ c.split_at.result.0.now ++ c.in-Some.offset.now ∷ c.in-Some.later.now =
    search (rules, c.split_at.ensures, c.in-Some.ensures) in
    let h = halves c.args.file.now c.args.offsets.now c.split_at.result.0.now c.in-Some.offset.now c.in-Some.later.now
    is c.requires.exist c.requires.rises in
    let order = sym (c.order.ensures k text) ∙ c.in-Greater.is in
    c.find_stored-in-Greater.ensures k text ∙ sym (before_it k h
    (ap (λ (x : LedgerKey × BucketEntry). key_cmp x.0 k) (sym c.stored_at-item.ensures) ∙ order))

use Rattle.std.proofs.Common.{rules, arith, length, ◌+◌, ◌≡◌, ◌++◌, ◌∷◌, ap, sym, ◌∙◌}
use Rattle.ledger_types.specs.declared.key.LedgerKey.{LedgerKey}
use Rattle.ledger_types.specs.declared.bucket.BucketEntry.{BucketEntry}
use Rattle.ledger_types.specs.KeyOrder.{key_cmp}
use Rattle.bucket_core.proofs.Halving.{halves}
use Rattle.bucket_core.proofs.IndexOf.{shift, index_after, index_here, index_before}
use Rattle.bucket_core.proofs.index.+index_of.Goals as goal

pub stored_at-item-requires : goal.stored_at-item-requires
stored_at-item-requires t c =
    let is : c.args.offsets.now ≡ c.split_at.result.0.now ++ c.in-Some.offset.now ∷ c.in-Some.later.now =
    search (rules, c.split_at.ensures, c.in-Some.ensures) in
    (halves c.args.file.now c.args.offsets.now c.split_at.result.0.now c.in-Some.offset.now c.in-Some.later.now is
    c.requires.exist c.requires.rises).here

pub index_of-requires : goal.index_of-requires
index_of-requires t c =
    let is : c.args.offsets.now ≡ c.split_at.result.0.now ++ c.in-Some.offset.now ∷ c.in-Some.later.now =
    search (rules, c.split_at.ensures, c.in-Some.ensures) in
    let h = halves c.args.file.now c.args.offsets.now c.split_at.result.0.now c.in-Some.offset.now c.in-Some.later.now
    is c.requires.exist c.requires.rises in
    let less = h.later_shorter in
    let exist = h.after in
    let sorted = h.rows.after_sorted in
    search (rules, arith, less, exist, sorted)

pub index_of-requires-in-Greater : goal.index_of-requires-in-Greater
index_of-requires-in-Greater t c =
    let is : c.args.offsets.now ≡ c.split_at.result.0.now ++ c.in-Some.offset.now ∷ c.in-Some.later.now =
    search (rules, c.split_at.ensures, c.in-Some.ensures) in
    let h = halves c.args.file.now c.args.offsets.now c.split_at.result.0.now c.in-Some.offset.now c.in-Some.later.now
    is c.requires.exist c.requires.rises in
    let less = h.earlier_shorter in
    let exist = h.before in
    let sorted = h.rows.before_sorted in
    search (rules, arith, less, exist, sorted)

pub returns-in-None-clause-index : goal.returns-in-None-clause-index
returns-in-None-clause-index t c = λ k text.
    let is : c.args.offsets.now ≡ c.split_at.result.0.now ++ c.in-Some.offset.now ∷ c.in-Some.later.now =
    search (rules, c.split_at.ensures, c.in-Some.ensures) in
    let h = halves c.args.file.now c.args.offsets.now c.split_at.result.0.now c.in-Some.offset.now c.in-Some.later.now
    is c.requires.exist c.requires.rises in
    let order = sym (c.order.ensures k text) ∙ c.in-Less.is in
    ap (shift (length c.split_at.result.0.now + 1)) (c.in-None.ensures.index k text)
    ∙ sym (index_after k h (ap (λ (x : LedgerKey × BucketEntry). key_cmp x.0 k) (sym c.stored_at-item.ensures) ∙ order))

pub returns-in-Some-index_of-clause-index : goal.returns-in-Some-index_of-clause-index
returns-in-Some-index_of-clause-index t c = λ k text.
    let is : c.args.offsets.now ≡ c.split_at.result.0.now ++ c.in-Some.offset.now ∷ c.in-Some.later.now =
    search (rules, c.split_at.ensures, c.in-Some.ensures) in
    let h = halves c.args.file.now c.args.offsets.now c.split_at.result.0.now c.in-Some.offset.now c.in-Some.later.now
    is c.requires.exist c.requires.rises in
    let order = sym (c.order.ensures k text) ∙ c.in-Less.is in
    ap (shift (length c.split_at.result.0.now + 1)) (c.in-Some-index_of.ensures.index k text)
    ∙ sym (index_after k h (ap (λ (x : LedgerKey × BucketEntry). key_cmp x.0 k) (sym c.stored_at-item.ensures) ∙ order))

pub returns-in-Equal-clause-index : goal.returns-in-Equal-clause-index
returns-in-Equal-clause-index t c = λ k text.
    let is : c.args.offsets.now ≡ c.split_at.result.0.now ++ c.in-Some.offset.now ∷ c.in-Some.later.now =
    search (rules, c.split_at.ensures, c.in-Some.ensures) in
    let h = halves c.args.file.now c.args.offsets.now c.split_at.result.0.now c.in-Some.offset.now c.in-Some.later.now
    is c.requires.exist c.requires.rises in
    let order = sym (c.order.ensures k text) ∙ c.in-Equal.is in
    sym (index_here k h (ap (λ (x : LedgerKey × BucketEntry). key_cmp x.0 k) (sym c.stored_at-item.ensures) ∙ order))

pub returns-in-Greater-clause-index : goal.returns-in-Greater-clause-index
returns-in-Greater-clause-index t c = λ k text.
    let is : c.args.offsets.now ≡ c.split_at.result.0.now ++ c.in-Some.offset.now ∷ c.in-Some.later.now =
    search (rules, c.split_at.ensures, c.in-Some.ensures) in
    let h = halves c.args.file.now c.args.offsets.now c.split_at.result.0.now c.in-Some.offset.now c.in-Some.later.now
    is c.requires.exist c.requires.rises in
    let order = sym (c.order.ensures k text) ∙ c.in-Greater.is in
    c.index_of-in-Greater.ensures.index k text
    ∙ sym (index_before k h
    (ap (λ (x : LedgerKey × BucketEntry). key_cmp x.0 k) (sym c.stored_at-item.ensures) ∙ order))

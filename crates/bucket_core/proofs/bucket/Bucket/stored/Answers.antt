use Rattle.std.proofs.Common.{rules, arith, ◌≡◌, ℕ, List, length, sym, ap, subst, ◌∙◌}
use Rattle.std.specs.Option.{option_map}
use Rattle.bucket_core.specs.Bucket.{Contents, change_at}
use Rattle.bucket_core.specs.File.{item_of}
use Rattle.bucket_core.specs.Filter.{may_contain, fingerprint}
use Rattle.bucket_core.specs.Index.{value_at, row_at, IsRising}
use Rattle.bucket_core.proofs.FileRows.{index_rises, index_tells, no_rows}
use Rattle.bucket_core.proofs.Containing.{none_there}
use Rattle.bucket_core.proofs.bucket.Bucket.stored.Goals as goal

pub find_stored-requires-clause-rises : goal.find_stored-requires-clause-rises
find_stored-requires-clause-rises c =
    subst (λ (t : List ℕ). IsRising (row_at c.as_slice-4.result.now t)) (sym c.as_slice-5.ensures.value)
    (subst (λ (t : List ℕ). IsRising (row_at t c.self.inside.offsets.items)) (sym c.as_slice-4.ensures.value)
    (index_rises _ _ c.self.invariant.stated.file c.self.invariant.index))

pub returns-then-is_empty : goal.returns-then-is_empty
returns-then-is_empty c = λ k text.
    let none : length c.self.inside.offsets.items ≡ 0 =
    search (rules, arith, c.as_slice.ensures, c.is_empty.ensures, c.if-is_empty.true) in
    ap (value_at k) (sym (no_rows c.self.inside.bytes.items c.self.inside.offsets.items none))
    ∙ (index_tells _ _ k c.self.invariant.stated.file c.self.invariant.index
    ∙ ap (λ (contents : Contents). option_map (λ change. item_of (k, change)) (change_at contents k)) c.self.view_is)

pub returns-then-not-may_contain : goal.returns-then-not-may_contain
returns-then-not-may_contain c = λ k text.
    sym (none_there c.self.inside.words.items (row_at c.self.inside.bytes.items c.self.inside.offsets.items) k
    c.self.invariant.filter.all
    (ap (may_contain c.self.inside.words.items) (ap fingerprint (sym text.encoded) ∙ sym c.requires)
    ∙ ap (λ (t : List ℕ). may_contain t c.args.fingerprint) (sym c.as_slice-2.ensures.value) ∙ sym c.may_contain.ensures
    ∙ search (rules, c.if-not-may_contain.true)))
    ∙ index_tells _ _ k c.self.invariant.stated.file c.self.invariant.index
    ∙ ap (λ (contents : Contents). option_map (λ change. item_of (k, change)) (change_at contents k)) c.self.view_is

pub returns : goal.returns
returns c = λ k text.
    c.find_stored.ensures k text
    ∙ ap (λ (t : List ℕ). value_at k (row_at c.as_slice-4.result.now t)) c.as_slice-5.ensures.value
    ∙ ap (λ (t : List ℕ). value_at k (row_at t c.self.inside.offsets.items)) c.as_slice-4.ensures.value
    ∙ index_tells _ _ k c.self.invariant.stated.file c.self.invariant.index
    ∙ ap (λ (contents : Contents). option_map (λ change. item_of (k, change)) (change_at contents k)) c.self.view_is

use Rattle.change_stream.proofs.Prelude.{KeyedChange, is_lt, key_cmp, keys_total, rules}
use Rattle.std.proofs.lemmas.List.Sorted.{answers_always, ranks_by}
use Rattle.change_stream.proofs.sorting.sort_by_key.Goals as goal

pub returns-clause-sorted : goal.returns-clause-sorted
returns-clause-sorted c =
    c.sort_unstable_by.ensures.sorted (λ (a b : KeyedChange). is_lt (key_cmp a.key b.key))
    (ranks_by keys_total (λ (k : KeyedChange). k.key)) (answers_always _ _ _ (λ f a r g called. search rules))

use Rattle.fee_rules.proofs.Prelude.{◌≡◌, IfOk, List, ℕ, map, sym, subst, ap, ◌∙◌, IsDistinct, IsPermutation, eq_by_cmp}
use Rattle.fee_rules.proofs.Prelude.{IsPermutation-trans, Queued, Turn, queued_cmp, no_tx, turn_of, turns_of}
use Rattle.fee_rules.proofs.Prelude.{indices_in_order}
use Rattle.fee_rules.proofs.Orders.{turns_total}
use Rattle.fee_rules.proofs.Indices.{apart_sorted, apart_turns, turns_moved}
use Rattle.fee_rules.proofs.Ranking.{sorted_is_ranked}
use Rattle.fee_rules.proofs.order.indices_in_order.Goals as goal

pub turns_of-requires-clause-apart : goal.turns_of-requires-clause-apart
turns_of-requires-clause-apart c =
    subst (λ (xs : List Queued). IsDistinct (eq_by_cmp queued_cmp) xs) (sym c.as_slice.ensures.value)
    (apart_sorted _ _ c.sort.ensures.permutation c.requires.apart)

pub returns : goal.returns
unfolding indices_in_order
returns c =
    let txs = c.args.queued.items in
    let sorted = c.sort.new.self.items in
    let set_hash = c.args.set_hash.now in
    let order = c.in_ok-order.order.items in
    let made : c.in_ok-turns.turns.items ≡ turns_of set_hash sorted =
    subst (λ (xs : List Queued). c.in_ok-turns.turns.items ≡ turns_of set_hash xs) c.as_slice.ensures.value
    c.in_ok-turns.ensures in
    let arranged : IsPermutation (turns_of set_hash sorted) order =
    subst (λ (ts : List Turn). IsPermutation ts order) made c.in_ok-order.ensures.all in
    let moved : IsPermutation (turns_of set_hash txs) order =
    IsPermutation-trans (turns_of set_hash txs) (turns_of set_hash sorted) order
    (turns_moved set_hash txs sorted c.sort.ensures.permutation) arranged in
    let is = sorted_is_ranked turns_total (turns_of set_hash txs) order moved c.in_ok-order.ensures.in_turn
    (apart_turns set_hash txs c.requires.apart) (turn_of set_hash txs no_tx) in
    subst (λ (zs : List ℕ). IfOk c.indices_of.result (λ indices. indices.items ≡ zs))
    (ap (map (λ (turn : Turn). turn.index)) (c.as_slice-2.ensures.value ∙ sym is)) c.indices_of.ensures

use Rattle.bucket_items.proofs.Prelude.{ℕ, ◌≤◌, get_or, length, take, ap, sym, ◌∙◌, subst, w8, Fits-lt-pow, key_seen}
use Rattle.bucket_items.proofs.Holding.{key_ends, prefix_is_key, prefix_no_fault}
use Rattle.bucket_items.proofs.item.prefix_key.Goals as goal

pub split_at-requires : goal.split_at-requires
split_at-requires c =
    let text = c.args.text.now in
    let fits = λ (i : ℕ). Fits-lt-pow {w = w8} {n = get_or text i 0} (c.type_inv.text i) in
    let e = key_ends text (key_seen c.in-Ok.field-0) _ c.read_key_ref.new.cursor fits c.new-ahead.ensures
    c.in-Ok.ensures in
    subst (λ (n : ℕ). n ≤ length text) (sym c.at.ensures) e

pub returns-in-Ok : goal.returns-in-Ok
returns-in-Ok c = λ k tail e within sized.
    let text = c.args.text.now in
    c.split_at.ensures.front
    ∙ ap (λ (n : ℕ). take n text) c.at.ensures
    ∙ prefix_is_key text k (key_seen c.in-Ok.field-0) tail _ c.read_key_ref.new.cursor e within sized
    c.new-ahead.ensures c.in-Ok.ensures

pub returns-in-Err : goal.returns-in-Err
returns-in-Err c = λ k tail e within sized.
    prefix_no_fault c.args.text.now k tail _ _ e within sized c.new-ahead.ensures c.in-Err.ensures.0

use Rattle.bucket_items.proofs.Prelude.{◌≡◌, item_type}
use Rattle.bucket_items.proofs.marked_item.shown.Goals as goal

pub returns-in-Some : goal.returns-in-Some
returns-in-Some c = λ p e at entire.
    let t : item_type e ≡ c.in-Some.mark = cc (c.in-Some.ensures p e at entire) in
    c.item_of.ensures p e at entire t

pub returns-in-None : goal.returns-in-None
returns-in-None c = λ p e at entire. absurd (cc (c.in-None.ensures p e at entire))

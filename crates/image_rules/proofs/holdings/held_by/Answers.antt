use Rattle.image_rules.proofs.Prelude.{◌≢◌, ◌∙◌, None, subst, get, keys_in, holder, AccountId}
use Rattle.entry_slots.specs.Lines.{line_of}
use Rattle.close_rules.specs.legal_rules.Legal.{IsAuthorized}
use Rattle.image_rules.specs.Holdings.{AreHeld}
use Rattle.image_rules.proofs.Naming.{both_iff}
use Rattle.image_rules.proofs.holdings.held_by.Goals as goal

pub returns-clause-held : goal.returns-clause-held
returns-clause-held c =
    let m = c.args.entries.now in
    let o = c.args.offer.now in
    let sold = keys_in (holder o.seller_id o.selling) in
    let bought = keys_in (holder o.seller_id o.buying) in
    let s : AreHeld m sold c.in_ok-sold.sold =
    subst (λ (id : AccountId). AreHeld m (keys_in (holder id o.selling)) c.in_ok-sold.sold) c.turn_to.ensures.seller
    c.in_ok-sold.ensures.held in
    let b : AreHeld m bought c.in_ok-bought.bought =
    subst (λ (id : AccountId). AreHeld m (keys_in (holder id o.buying)) c.in_ok-bought.bought)
    (c.held_in.ensures.seller ∙ c.turn_to.ensures.seller) c.in_ok-bought.ensures.held in
    record {
      there = both_iff (λ k. get m k ≢ None) c.in_ok-sold.sold.there c.in_ok-bought.bought.there c.both.result sold
          bought c.both.ensures s.there b.there;
      authorized = both_iff (λ k. IsAuthorized (line_of (get m k))) c.in_ok-sold.sold.authorized
          c.in_ok-bought.bought.authorized c.both-2.result sold bought c.both-2.ensures s.authorized b.authorized;
    }

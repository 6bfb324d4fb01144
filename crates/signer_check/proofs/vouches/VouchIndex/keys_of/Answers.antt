use Rattle.signer_check.proofs.Prelude.{◌≡◌, ℕ, [], List, Option, sym, ap, ◌∙◌}
use Rattle.std.specs.Prelude.{unwrap_or}
use Rattle.op_types.specs.declared.vouch.Vouch.{Vouch}
use Rattle.signer_check.specs.Groups.{group_at}
use Rattle.signer_check.specs.Weight.{vouched_keys}
use Rattle.signer_check.proofs.Grouped.{keys_of_group}
use Rattle.signer_check.proofs.vouches.VouchIndex.keys_of.Goals as goal

pub returns-in-None : goal.returns-in-None
returns-in-None c =
    let hash = c.args.hash.now in
    let s = c.in-Some.signature in
    let all = c.self.inside.vouches.now in
    let none : group_at c.self.inside.groups s ≡ [] = ap (λ (o : Option (List Vouch)). unwrap_or o [])
    (sym c.in-None.ensures.value) in
    let here : vouched_keys hash all s ≡ [] =
    sym (keys_of_group hash s all) ∙ ap (λ (l : List Vouch). vouched_keys hash l s) (sym (c.self.invariant s) ∙ none) in
    c.new.ensures
    ∙ sym (ap (λ (q : List ℕ). vouched_keys hash c.args.self.now q) (sym c.in-Some.ensures.some)
    ∙ ap (λ (l : List Vouch). vouched_keys hash l s) (sym c.self.view_is) ∙ here)

pub returns-in_ok-keys_among-in-Some-get : goal.returns-in_ok-keys_among-in-Some-get
returns-in_ok-keys_among-in-Some-get c =
    let hash = c.args.hash.now in
    let s = c.in-Some.signature in
    let all = c.self.inside.vouches.now in
    let group : group_at c.self.inside.groups s ≡ c.in-Some-get.group.now =
    ap (λ (o : Option (List Vouch)). unwrap_or o []) (sym c.in-Some-get.ensures.value) in
    let here : vouched_keys hash all s ≡ vouched_keys hash c.as_slice.result.now s =
    sym (keys_of_group hash s all)
    ∙ ap (λ (l : List Vouch). vouched_keys hash l s) (sym (c.self.invariant s) ∙ group ∙ sym c.as_slice.ensures) in
    c.from_vec-in-Some-get.ensures ∙ c.in_ok-keys_among-in-Some-get.ensures
    ∙ ap (λ (q : List ℕ). vouched_keys hash c.as_slice.result.now q) (sym c.in-Some.ensures.some) ∙ sym here
    ∙ ap (λ (l : List Vouch). vouched_keys hash l s) c.self.view_is
    ∙ ap (λ (q : List ℕ). vouched_keys hash c.args.self.now q) c.in-Some.ensures.some

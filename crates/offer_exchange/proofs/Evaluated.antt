-- The definitions evaluated, on rows that a program worked out that follows the branches of stellar-core.
use Rattle.offer_exchange.proofs.Prelude.{◌≡◌, refl, ℕ, Bool, true, false, ◌&&◌, nat_eq, not, if◌then◌else◌, Rounding}
use Rattle.offer_exchange.proofs.Prelude.{Normal, StrictSend, StrictReceive, Bounds, unlimited, wheat_stays, exchanged}
use Rattle.offer_exchange.proofs.Prelude.{adjusted, liabilities}

are_same : Bool → Bool → Bool
are_same a b = if a then b else not b

-- the bounds are of wheat that is sent and received, and of sheep; then come wheat, sheep, and whether wheat stays
abbrev gives : Rounding → (n d : ℕ) → ℕ × ℕ × ℕ × ℕ → (wheat sheep : ℕ) → Bool → Bool
gives rounding n d most wheat sheep stays =
    let b : Bounds = record {
      wheat_send = most.0;
      wheat_receive = most.1;
      sheep_send = most.2;
      sheep_receive = most.3;
    } in
    let a = exchanged rounding n d b in
    nat_eq a.wheat wheat && nat_eq a.sheep sheep && are_same (wheat_stays n d b) stays

abbrev adjusts : (n d send receive amount : ℕ) → Bool
adjusts n d send receive amount = nat_eq (adjusted n d send receive) amount

abbrev binds : (n d amount selling buying : ℕ) → Bool
binds n d amount selling buying =
    let a = liabilities n d amount in nat_eq a.wheat selling && nat_eq a.sheep buying

-- the rows of the table, the zero rules, and numbers near the greatest
exchanges : (gives Normal 7 5 (unlimited, 101, unlimited, unlimited) 101 142 true
    && gives Normal 5 7 (unlimited, 101, unlimited, unlimited) 100 72 true
    && gives StrictSend 7 5 (unlimited, 101, 150, unlimited) 101 150 true
    && gives StrictReceive 5 7 (unlimited, 101, unlimited, unlimited) 101 73 true
    && gives Normal 7 5 (101, unlimited, unlimited, unlimited) 101 141 false
    && gives Normal 5 7 (101, unlimited, unlimited, unlimited) 101 72 false
    && gives Normal 2 3 (50, unlimited, unlimited, 33) 50 33 false
    && gives Normal 2 3 (47, unlimited, unlimited, 31) 0 0 false
    && gives Normal 102 101 (unlimited, 50, 51, unlimited) 50 51 true
    && gives Normal 3 2 (unlimited, 33, 50, unlimited) 0 0 true
    && gives StrictSend 1 2 (unlimited, 97, 49, unlimited) 97 49 true
    && gives StrictSend 2 1 (unlimited, unlimited, 1, unlimited) 0 1 true
    && gives Normal 200995868 2028687212 (unlimited, 8220621215424424357, 416212461668357693, 2160036190762645816)
    4200906749295151862 416212461668357693 true
    && gives Normal 2 1 (2, unlimited, 3, unlimited) 1 2 true) ≡ true
unfolding exchanged wheat_stays are_same
exchanges = refl

-- an offer may need more room than it binds, and one that has more may give less
adjustings : (adjusts 3 2 35 90 35
    && adjusts 3 2 35 52 34
    && adjusts 2 3 4 3 3
    && adjusts 2 3 5 3 0) ≡ true
unfolding adjusted exchanged wheat_stays
adjustings = refl

-- an amount that is not adjusted may bind nothing
bindings : (binds 3 2 35 35 52
    && binds 2 3 4 3 2
    && binds 1 2 1 0 0
    && binds 1 2 2 2 1) ≡ true
unfolding liabilities wheat_stays
bindings = refl

-- One state with an entry of every kind.
use Rattle.legal_rules.proofs.Prelude.{◌≡◌, ◌≢◌, refl, ap, ℕ, ◌≤◌, Bool, true, false, [], ◌∷◌, All, Some, AccountId}
use Rattle.legal_rules.proofs.Prelude.{Signer, AllPairs, replicate, zero, suc, Option, None, inl, arith, ints, All-nil}
use Rattle.legal_rules.proofs.Prelude.{All-cons, ℤ, pos, ◌+ℤ◌, ◌-ℤ◌, ◌≤ℤ◌, if◌then◌else◌, is_eq, int_cmp, LedgerEntry}
use Rattle.legal_rules.proofs.Prelude.{key_of, is_valid_text, same_itself, Kind, Subentries, Sponsoring, Sponsored}
use Rattle.legal_rules.proofs.Prelude.{Selling, Buying, Shares, ShareLines, Uses, liabilities, wheat_stays, offer_with}
use Rattle.legal_rules.proofs.Prelude.{IsHeaderInRange, IsEntryLegal, weight, full_list, full_header, FullStateIsLegal}
use Rattle.legal_rules.proofs.Prelude.{pool_id, entry_by, issuer_account, owner_account, sponsor_account, sponsor}
use Rattle.legal_rules.proofs.Prelude.{dollars, shares, sale, note, promise, pool, issuer, owner, stranger, is_key}
use Rattle.hash_ids.specs.ledger_types.declared.signer.SignerKey.TheVariants as signer
use Rattle.hash_ids.specs.ledger_types.declared.claimable_balance.Claimant.{Claimant}
use Rattle.hash_ids.specs.ledger_types.declared.predicate.ClaimPredicate.TheVariants.{Unconditional}
use Rattle.hash_ids.specs.ledger_types.declared.predicate.ClaimPredicate.TheViews.{out-ClaimPredicate}
use Rattle.std.specs.Prelude.{get_or}
use Rattle.hash_ids.specs.ledger_types.declared.asset.Asset.TheVariants as asset
use Rattle.hash_ids.specs.ledger_types.declared.entry.LedgerEntryBody.TheVariants as body
use Rattle.hash_ids.specs.ledger_types.declared.key.LedgerKey.TheVariants as key
use Rattle.valid_values.specs.Assets.{is_valid_code, is_valid_asset}
use Rattle.valid_values.specs.Predicates.{is_valid_below, is_valid_stored_predicate}
use Rattle.legal_rules.proofs.Evaluated.{legal_in, needs_in, view_in, value, AreEven}

header : IsHeaderInRange full_header
header = record {
  version = (omega arith, omega arith);
  seq_low = omega arith;
  seq_high = omega arith;
  base_fee = omega arith;
  base_reserve = omega arith;
  total_coins = omega (arith, ints);
  fee_pool = omega (arith, ints);
  id_pool = omega arith;
  flags = omega arith;
}

one_at_most : (t : Bool) → ((pos 0 +ℤ (if t then pos 1 else pos 0)) -ℤ pos 0) ≤ℤ pos 1
one_at_most true = omega (arith, ints)
one_at_most false = omega (arith, ints)

offers : (id : ℤ) → value (offer_with id) full_list ≤ℤ pos 1
offers id = one_at_most (is_eq (int_cmp (pos 1) id))

same_pool : is_key (key.LiquidityPool pool_id) (key.LiquidityPool pool_id) ≡ true
same_pool = same_itself (key.LiquidityPool pool_id)

-- ---- each entry

abbrev the_sale : LedgerEntry
the_sale = entry_by None (body.Offer sale)

abbrev the_issuer : LedgerEntry
the_issuer = entry_by None (body.Account issuer_account)

abbrev the_owner : LedgerEntry
the_owner = entry_by (Some sponsor) (body.Account owner_account)

abbrev the_sponsor : LedgerEntry
the_sponsor = entry_by None (body.Account sponsor_account)

abbrev the_dollars : LedgerEntry
the_dollars = entry_by None (body.TrustLine dollars)

abbrev the_shares : LedgerEntry
the_shares = entry_by (Some sponsor) (body.TrustLine shares)

abbrev the_note : LedgerEntry
the_note = entry_by (Some sponsor) (body.Data note)

abbrev the_promise : LedgerEntry
the_promise = entry_by (Some sponsor) (body.ClaimableBalance promise)

abbrev the_pool : LedgerEntry
the_pool = entry_by None (body.LiquidityPool pool)

needs_of_sale : needs_in full_list the_sale ≡ true
needs_of_sale = refl

needs_of_issuer : needs_in full_list the_issuer ≡ true
needs_of_issuer = refl

needs_of_owner : needs_in full_list the_owner ≡ true
needs_of_owner = refl

needs_of_sponsor : needs_in full_list the_sponsor ≡ true
needs_of_sponsor = refl

needs_of_dollars : needs_in full_list the_dollars ≡ true
needs_of_dollars = refl

needs_of_shares : needs_in full_list the_shares ≡ true
needs_of_shares = rw same_pool refl

needs_of_note : needs_in full_list the_note ≡ true
needs_of_note = refl

needs_of_promise : needs_in full_list the_promise ≡ true
needs_of_promise = refl

needs_of_pool : needs_in full_list the_pool ≡ true
needs_of_pool = refl

needs : All (λ e. needs_in full_list e ≡ true) full_list
needs =
    All-cons (λ e. needs_in full_list e ≡ true) the_sale
    (the_issuer ∷ the_owner ∷ the_sponsor ∷ the_dollars ∷ the_shares ∷ the_note ∷ the_promise ∷ the_pool ∷ [])
    (needs_of_sale) (All-cons (λ e. needs_in full_list e ≡ true) the_issuer
    (the_owner ∷ the_sponsor ∷ the_dollars ∷ the_shares ∷ the_note ∷ the_promise ∷ the_pool ∷ []) (needs_of_issuer)
    (All-cons (λ e. needs_in full_list e ≡ true) the_owner
    (the_sponsor ∷ the_dollars ∷ the_shares ∷ the_note ∷ the_promise ∷ the_pool ∷ []) (needs_of_owner)
    (All-cons (λ e. needs_in full_list e ≡ true) the_sponsor
    (the_dollars ∷ the_shares ∷ the_note ∷ the_promise ∷ the_pool ∷ []) (needs_of_sponsor)
    (All-cons (λ e. needs_in full_list e ≡ true) the_dollars (the_shares ∷ the_note ∷ the_promise ∷ the_pool ∷ [])
    (needs_of_dollars) (All-cons (λ e. needs_in full_list e ≡ true) the_shares
    (the_note ∷ the_promise ∷ the_pool ∷ []) (needs_of_shares)
    (All-cons (λ e. needs_in full_list e ≡ true) the_note (the_promise ∷ the_pool ∷ []) (needs_of_note)
    (All-cons (λ e. needs_in full_list e ≡ true) the_promise (the_pool ∷ []) (needs_of_promise)
    (All-cons (λ e. needs_in full_list e ≡ true) the_pool ([]) (needs_of_pool)
    (All-nil (λ e. needs_in full_list e ≡ true))))))))))

-- what is counted for an entry that exists, less what it states
abbrev open_at : Kind → LedgerEntry → ℤ
open_at kind e = value (weight (view_in asset.Native full_list) kind (key_of e)) full_list

even_sale : (kind : Kind) → open_at kind the_sale ≡ pos 0
unfolding liabilities wheat_stays
even_sale Subentries = refl
even_sale Sponsoring = refl
even_sale Sponsored = refl
even_sale Selling = refl
even_sale Buying = refl
even_sale Shares = refl
even_sale ShareLines = refl
even_sale Uses = rw same_pool refl

even_issuer : (kind : Kind) → open_at kind the_issuer ≡ pos 0
unfolding liabilities wheat_stays
even_issuer Subentries = refl
even_issuer Sponsoring = refl
even_issuer Sponsored = refl
even_issuer Selling = refl
even_issuer Buying = refl
even_issuer Shares = refl
even_issuer ShareLines = refl
even_issuer Uses = rw same_pool refl

even_owner : (kind : Kind) → open_at kind the_owner ≡ pos 0
unfolding liabilities wheat_stays
even_owner Subentries = refl
even_owner Sponsoring = refl
even_owner Sponsored = refl
even_owner Selling = refl
even_owner Buying = refl
even_owner Shares = refl
even_owner ShareLines = refl
even_owner Uses = rw same_pool refl

even_sponsor : (kind : Kind) → open_at kind the_sponsor ≡ pos 0
unfolding liabilities wheat_stays
even_sponsor Subentries = refl
even_sponsor Sponsoring = refl
even_sponsor Sponsored = refl
even_sponsor Selling = refl
even_sponsor Buying = refl
even_sponsor Shares = refl
even_sponsor ShareLines = refl
even_sponsor Uses = rw same_pool refl

even_dollars : (kind : Kind) → open_at kind the_dollars ≡ pos 0
unfolding liabilities wheat_stays
even_dollars Subentries = refl
even_dollars Sponsoring = refl
even_dollars Sponsored = refl
even_dollars Selling = refl
even_dollars Buying = refl
even_dollars Shares = refl
even_dollars ShareLines = refl
even_dollars Uses = rw same_pool refl

even_shares : (kind : Kind) → open_at kind the_shares ≡ pos 0
unfolding liabilities wheat_stays
even_shares Subentries = rw same_pool refl
even_shares Sponsoring = rw same_pool refl
even_shares Sponsored = rw same_pool refl
even_shares Selling = rw same_pool refl
even_shares Buying = rw same_pool refl
even_shares Shares = rw same_pool refl
even_shares ShareLines = rw same_pool refl
even_shares Uses = rw same_pool refl

even_note : (kind : Kind) → open_at kind the_note ≡ pos 0
unfolding liabilities wheat_stays
even_note Subentries = refl
even_note Sponsoring = refl
even_note Sponsored = refl
even_note Selling = refl
even_note Buying = refl
even_note Shares = refl
even_note ShareLines = refl
even_note Uses = rw same_pool refl

even_promise : (kind : Kind) → open_at kind the_promise ≡ pos 0
unfolding liabilities wheat_stays
even_promise Subentries = refl
even_promise Sponsoring = refl
even_promise Sponsored = refl
even_promise Selling = refl
even_promise Buying = refl
even_promise Shares = refl
even_promise ShareLines = refl
even_promise Uses = rw same_pool refl

even_pool : (kind : Kind) → open_at kind the_pool ≡ pos 0
unfolding liabilities wheat_stays
even_pool Subentries = rw same_pool refl
even_pool Sponsoring = rw same_pool refl
even_pool Sponsored = rw same_pool refl
even_pool Selling = rw same_pool refl
even_pool Buying = rw same_pool refl
even_pool Shares = rw same_pool refl
even_pool ShareLines = rw same_pool refl
even_pool Uses = rw same_pool refl

full_list_is_even : (kind : Kind) → AreEven full_list asset.Native kind
full_list_is_even kind =
    All-cons (λ e. open_at kind e ≡ pos 0) the_sale
    (the_issuer ∷ the_owner ∷ the_sponsor ∷ the_dollars ∷ the_shares ∷ the_note ∷ the_promise ∷ the_pool ∷ [])
    (even_sale kind) (All-cons (λ e. open_at kind e ≡ pos 0) the_issuer
    (the_owner ∷ the_sponsor ∷ the_dollars ∷ the_shares ∷ the_note ∷ the_promise ∷ the_pool ∷ []) (even_issuer kind)
    (All-cons (λ e. open_at kind e ≡ pos 0) the_owner
    (the_sponsor ∷ the_dollars ∷ the_shares ∷ the_note ∷ the_promise ∷ the_pool ∷ []) (even_owner kind)
    (All-cons (λ e. open_at kind e ≡ pos 0) the_sponsor
    (the_dollars ∷ the_shares ∷ the_note ∷ the_promise ∷ the_pool ∷ []) (even_sponsor kind)
    (All-cons (λ e. open_at kind e ≡ pos 0) the_dollars (the_shares ∷ the_note ∷ the_promise ∷ the_pool ∷ [])
    (even_dollars kind) (All-cons (λ e. open_at kind e ≡ pos 0) the_shares (the_note ∷ the_promise ∷ the_pool ∷ [])
    (even_shares kind) (All-cons (λ e. open_at kind e ≡ pos 0) the_note (the_promise ∷ the_pool ∷ [])
    (even_note kind) (All-cons (λ e. open_at kind e ≡ pos 0) the_promise (the_pool ∷ []) (even_promise kind)
    (All-cons (λ e. open_at kind e ≡ pos 0) the_pool ([]) (even_pool kind)
    (All-nil (λ e. open_at kind e ≡ pos 0))))))))))

first_byte : Option AccountId → ℕ
first_byte None = 0
first_byte (Some id) = get_or id.0 0 0

not_owner : Some sponsor ≢ Some owner
unfolding first_byte
not_owner same = let wrong : ◌≡◌ {A = ℕ} 3 2 = ap first_byte same in absurd (omega arith)

not_issuer : issuer ≢ owner
unfolding first_byte
not_issuer same = let wrong : ◌≡◌ {A = ℕ} 1 2 = ap first_byte (ap Some same) in absurd (omega arith)

not_stranger : owner ≢ stranger
unfolding first_byte
not_stranger same = let wrong : ◌≡◌ {A = ℕ} 2 4 = ap first_byte (ap Some same) in absurd (omega arith)

abbrev the_signer : Signer
the_signer = record { key = signer.PreAuthTx (record { 0 = replicate 32 5 }); weight = 1 }

abbrev first_claimant : Claimant
first_claimant = record { destination = owner; predicate = Unconditional }

abbrev second_claimant : Claimant
second_claimant = record { destination = stranger; predicate = Unconditional }

two_apart : AllPairs (λ (x y : Claimant). x.destination ≢ y.destination) (first_claimant ∷ second_claimant ∷ [])
two_apart zero (suc zero) d below within = not_stranger
two_apart zero zero d below within = absurd (omega arith)
two_apart zero (suc (suc j)) d below within = absurd (omega arith)
two_apart (suc i) j d below within = absurd (omega arith)

legal_sale : IsEntryLegal 1 the_sale
unfolding liabilities wheat_stays is_valid_asset is_valid_code
legal_sale = record {
  range = record {
    body = record {
      amount = omega (arith, ints);
      n = omega (arith, ints);
      d = omega (arith, ints);
      wheat = omega arith;
      sheep = omega arith;
      id_low = omega (arith, ints);
      id_high = omega (arith, ints);
      selling = refl;
      buying = refl;
      assets = λ same. absurd (cc);
      flags = omega arith;
    };
    paid = λ some. absurd (some refl);
  };
  bound = tt;
  few = tt;
  fits = tt;
  filled = tt;
}

legal_issuer : IsEntryLegal 1 the_issuer
unfolding is_valid_text
legal_issuer = record {
  range = record {
    body = record {
      range = record {
        balance = omega (arith, ints);
        buying = omega (arith, ints);
        selling = omega (arith, ints);
        fits = omega (arith, ints);
      };
      seq_num = omega (arith, ints);
      greatest_seq_num = omega (arith, ints);
      flags = record { known = omega arith; clawback = λ set. refl };
      home_domain = refl;
      signers = record {
        few = omega arith;
        rising = λ i j d below within. absurd (omega arith);
        weights = λ k d within. absurd (omega arith);
        others = λ k d within. absurd (omega arith);
        items = refl;
        paid_by_others = λ k d within. absurd (omega arith);
      };
    };
    paid = λ some. absurd (some refl);
  };
  bound = tt;
  few = omega arith;
  fits = omega arith;
  filled = tt;
}

legal_owner : IsEntryLegal 1 the_owner
unfolding is_valid_text
legal_owner = record {
  range = record {
    body = record {
      range = record {
        balance = omega (arith, ints);
        buying = omega (arith, ints);
        selling = omega (arith, ints);
        fits = omega (arith, ints);
      };
      seq_num = omega (arith, ints);
      greatest_seq_num = omega (arith, ints);
      flags = record { known = omega arith; clawback = λ set. absurd (cc) };
      home_domain = refl;
      signers = record {
        few = omega arith;
        rising = λ i j d below within. absurd (omega arith);
        weights = All-cons (λ s. (1 ≤ s.weight) × (s.weight ≤ 255)) the_signer [] (omega arith, omega arith)
            (All-nil (λ s. (1 ≤ s.weight) × (s.weight ≤ 255)));
        others = All-cons (λ s. s.key ≢ signer.Ed25519 owner.0) the_signer [] (λ same. absurd (cc))
            (All-nil (λ s. s.key ≢ signer.Ed25519 owner.0));
        items = refl;
        paid_by_others = All-cons (λ s. s ≢ Some owner) (Some sponsor) [] not_owner (All-nil (λ s. s ≢ Some owner));
      };
    };
    paid = λ some same. not_owner same;
  };
  bound = tt;
  few = omega arith;
  fits = omega arith;
  filled = tt;
}

legal_sponsor : IsEntryLegal 1 the_sponsor
unfolding is_valid_text
legal_sponsor = record {
  range = record {
    body = record {
      range = record {
        balance = omega (arith, ints);
        buying = omega (arith, ints);
        selling = omega (arith, ints);
        fits = omega (arith, ints);
      };
      seq_num = omega (arith, ints);
      greatest_seq_num = omega (arith, ints);
      flags = record { known = omega arith; clawback = λ set. absurd (cc) };
      home_domain = refl;
      signers = record {
        few = omega arith;
        rising = λ i j d below within. absurd (omega arith);
        weights = λ k d within. absurd (omega arith);
        others = λ k d within. absurd (omega arith);
        items = refl;
        paid_by_others = λ k d within. absurd (omega arith);
      };
    };
    paid = λ some. absurd (some refl);
  };
  bound = tt;
  few = omega arith;
  fits = omega arith;
  filled = tt;
}

legal_dollars : IsEntryLegal 1 the_dollars
unfolding is_valid_code
legal_dollars = record {
  range = record {
    body = record {
      range = record {
        balance = omega (arith, ints);
        buying = omega (arith, ints);
        selling = omega (arith, ints);
        covered = omega (arith, ints);
        fits = omega (arith, ints);
      };
      limit = omega (arith, ints);
      greatest = omega (arith, ints);
      held = (refl, not_issuer);
      flags = (omega arith, λ same. absurd (cc));
      uses = omega (arith, ints);
    };
    paid = λ some. absurd (some refl);
  };
  bound = λ none. absurd (cc);
  few = tt;
  fits = tt;
  filled = tt;
}

legal_shares : IsEntryLegal 1 the_shares
legal_shares = record {
  range = record {
    body = record {
      range = record {
        balance = omega (arith, ints);
        buying = omega (arith, ints);
        selling = omega (arith, ints);
        covered = omega (arith, ints);
        fits = omega (arith, ints);
      };
      limit = omega (arith, ints);
      greatest = omega (arith, ints);
      held = tt;
      flags = refl;
      uses = omega (arith, ints);
    };
    paid = λ some same. not_owner same;
  };
  bound = λ none. (refl, refl);
  few = tt;
  fits = tt;
  filled = tt;
}

legal_note : IsEntryLegal 1 the_note
unfolding is_valid_text
legal_note = record {
  range = record { body = record { some = omega arith; name = refl }; paid = λ some same. not_owner same };
  bound = tt;
  few = tt;
  fits = tt;
  filled = tt;
}

legal_promise : IsEntryLegal 1 the_promise
unfolding is_valid_asset is_valid_below out-ClaimPredicate denote.Hole.Carrier.out
legal_promise = record {
  range = record {
    body = record {
      amount = omega (arith, ints);
      asset = refl;
      flags = omega arith;
      claimants = record {
        some = omega arith;
        few = omega arith;
        apart = two_apart;
        predicates = All-cons (λ c. is_valid_stored_predicate c.predicate ≡ true) first_claimant
            (second_claimant ∷ []) refl
            (All-cons (λ c. is_valid_stored_predicate c.predicate ≡ true) second_claimant [] refl
            (All-nil (λ c. is_valid_stored_predicate c.predicate ≡ true)));
      };
    };
    paid = λ none. absurd (cc);
  };
  bound = tt;
  few = tt;
  fits = tt;
  filled = tt;
}

legal_pool : IsEntryLegal 1 the_pool
unfolding pool_id
legal_pool = record {
  range = record {
    body = record {
      fee = refl;
      assets = refl;
      id = refl;
      reserve_a = omega (arith, ints);
      reserve_b = omega (arith, ints);
      shares = omega (arith, ints);
      lines = omega (arith, ints);
    };
    paid = refl;
  };
  bound = tt;
  few = tt;
  fits = tt;
  filled = inl (omega (arith, ints), omega (arith, ints), omega (arith, ints));
}

legal_entries : All (λ e. IsEntryLegal 1 e) full_list
legal_entries =
    All-cons (λ e. IsEntryLegal 1 e) the_sale
    (the_issuer ∷ the_owner ∷ the_sponsor ∷ the_dollars ∷ the_shares ∷ the_note ∷ the_promise ∷ the_pool ∷ [])
    (legal_sale) (All-cons (λ e. IsEntryLegal 1 e) the_issuer
    (the_owner ∷ the_sponsor ∷ the_dollars ∷ the_shares ∷ the_note ∷ the_promise ∷ the_pool ∷ []) (legal_issuer)
    (All-cons (λ e. IsEntryLegal 1 e) the_owner
    (the_sponsor ∷ the_dollars ∷ the_shares ∷ the_note ∷ the_promise ∷ the_pool ∷ []) (legal_owner)
    (All-cons (λ e. IsEntryLegal 1 e) the_sponsor
    (the_dollars ∷ the_shares ∷ the_note ∷ the_promise ∷ the_pool ∷ []) (legal_sponsor)
    (All-cons (λ e. IsEntryLegal 1 e) the_dollars (the_shares ∷ the_note ∷ the_promise ∷ the_pool ∷ [])
    (legal_dollars) (All-cons (λ e. IsEntryLegal 1 e) the_shares (the_note ∷ the_promise ∷ the_pool ∷ [])
    (legal_shares) (All-cons (λ e. IsEntryLegal 1 e) the_note (the_promise ∷ the_pool ∷ []) (legal_note)
    (All-cons (λ e. IsEntryLegal 1 e) the_promise (the_pool ∷ []) (legal_promise)
    (All-cons (λ e. IsEntryLegal 1 e) the_pool ([]) (legal_pool) (All-nil (λ e. IsEntryLegal 1 e))))))))))

pub full_state_is_legal : FullStateIsLegal
full_state_is_legal = legal_in full_header full_list header legal_entries needs offers full_list_is_even refl

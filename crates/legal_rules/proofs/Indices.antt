-- What is there after an account is changed.
use Rattle.legal_rules.proofs.Prelude.{◌≡◌, ◌≢◌, sym, ap, ◌∙◌, Some, None, arith, ints, ℤ, pos, ◌+ℤ◌, get, AccountId}
use Rattle.legal_rules.proofs.Prelude.{AccountEntry, LedgerEntry, LedgerKey, key_of, EntryMap, put, account_of}
use Rattle.legal_rules.proofs.Prelude.{account_at, with_account, EachEntry, total, part, total_put, offer_with}
use Rattle.legal_rules.proofs.Prelude.{put_there, option_map, accounts_exact, of_any, with_beside, with_there}
use Rattle.hash_ids.specs.ledger_types.declared.key.LedgerKey.TheVariants as key
use Rattle.legal_rules.proofs.Steps.{IsAccountEntry, account_entry, with_body, with_account_is, same_id_at, body_there}

module _ (m : EntryMap) (id : AccountId) (f : AccountEntry → AccountEntry) (a : AccountEntry)
    (keyed : EachEntry (λ k e. key_of e ≡ k) m) (exists : account_at m id ≡ Some a)
    (same : (f a).account_id ≡ a.account_id) where
  its_key : key.Account (f a).account_id ≡ key.Account id
  its_key = ap key.Account (same ∙ same_id_at m id a keyed exists)

  stays : (x : AccountEntry) → account_at m id ≡ Some x → key.Account (f x).account_id ≡ key.Account id
  stays = of_any (λ x. key.Account (f x).account_id ≡ key.Account id) (account_at m id) a exists its_key

  pub kept_elsewhere : (k : LedgerKey) → k ≢ key.Account id → get (with_account m id f) k ≡ get m k
  unfolding account_at with_account
  kept_elsewhere k apart =
      with_beside accounts_exact m (key.Account id) f k (λ x there here. apart (here ∙ stays x there))

  pub entry_after : (e : LedgerEntry) → IsAccountEntry m id a e
      → get (with_account m id f) (key.Account id) ≡ Some (with_body e (f a))
  entry_after e here =
      ap (λ n. get n (key.Account id)) (with_account_is m id f a e here)
      ∙ ap (get (put m (with_body e (f a)))) (sym its_key)
      ∙ put_there m (with_body e (f a))

  pub account_after : account_at (with_account m id f) id ≡ Some (f a)
  unfolding account_at with_account
  account_after = with_there accounts_exact m (key.Account id) f stays ∙ ap (option_map f) exists

  pub account_elsewhere : (other : AccountId) → other ≢ id
      → account_at (with_account m id f) other ≡ account_at m other
  unfolding account_at
  account_elsewhere other apart = ap account_of (kept_elsewhere (key.Account other) (λ same_key. apart (cc)))

  -- what exists nowhere still doesn't
  pub absent_after : (k : LedgerKey) → get m k ≡ None → get (with_account m id f) k ≡ None
  absent_after k none = kept_elsewhere k (λ here.
      let found = account_entry m id a exists in
      let there = found.1.there in
      let at : get m (key.Account id) ≡ None = ap (get m) (sym here) ∙ none in
      absurd (cc)) ∙ none

  -- a sum to which accounts add nothing stays
  pub same_offers : (n : ℤ) → total (offer_with n) (with_account m id f) ≡ total (offer_with n) m
  same_offers n =
      let found = account_entry m id a exists in
      let was = body_there m id a found.0 found.1 in
      ap (total (offer_with n)) (with_account_is m id f a found.0 found.1)
      ∙ still _ (part (offer_with n) (get m (key.Account (f a).account_id))) _
      (total_put (offer_with n) m (with_body found.0 (f a)))
      (ap (λ q. part (offer_with n) (get m q)) its_key ∙ ap (part (offer_with n)) was)
    where
      still : (new was old : ℤ) → (new +ℤ was) ≡ (old +ℤ pos 0) → was ≡ pos 0 → new ≡ old
      still new was old is none = omega (arith, ints)

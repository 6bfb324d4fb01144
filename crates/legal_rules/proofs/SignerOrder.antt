-- Signers that stay in range when one is added, taken away or given another sponsor.
use Rattle.legal_rules.proofs.Prelude as prelude
use prelude.{◌≡◌, ◌≢◌, ◌⊎◌, inl, inr, refl, sym, ap, subst, ◌∙◌, ℕ, ◌-◌, ◌<◌, ◌≤◌, true, false, List, length, get_or}
use prelude.{All, Option, Some, slice_set, arith, cases_lt, cases_eq, length-set, length-insert, length-remove}
use prelude.{get_or-insert_below, get_or-insert_at, get_or-insert_above, All-set, prefix_len-le-length}
use prelude.{prefix_len_passes, prefix_len_stops, insert, remove, AllPairs, is_lt, ordering_reverse, AccountId, Signer}
use prelude.{signer_key_cmp, signer_keys_total, signer_keys_exact, index_for, AreSignersInRange, IsNewSigner}
use prelude.{all_insert, all_remove}
use Rattle.std.specs.declared.cmp.Ordering.{Ordering}
use Rattle.std.specs.declared.cmp.Ordering.TheVariants.{Less, Equal, Greater}
use Rattle.std.proofs.lemmas.List.Quantifiers.{all_pairs_remove}
use Rattle.hash_ids.specs.ledger_types.declared.signer.SignerKey.TheVariants as signer
use Rattle.hash_ids.proofs.ledger_types_proofs.Booleans.{is_lt_true_Less}

abbrev IsBelow : Signer → Signer → Type 0
IsBelow x y = signer_key_cmp x.key y.key ≡ Less

less_from_turned : (o back : Ordering) → o ≡ ordering_reverse back → is_lt o ≡ false → (o ≡ Equal → ⊥) → back ≡ Less
less_from_turned o Less is not_less apart = refl
less_from_turned o Equal is not_less apart = absurd (apart is)
less_from_turned o Greater is not_less apart = absurd (let less : is_lt o ≡ true = ap is_lt is in cc)

-- a new key among rising ones
module _ (xs : List Signer) (y : Signer) (rising : AllPairs IsBelow xs) (new : All (λ s. s.key ≢ y.key) xs) where
  abbrev n : ℕ
  n = index_for y.key xs

  n_le : n ≤ length xs
  n_le = prefix_len-le-length (λ s. is_lt (signer_key_cmp s.key y.key)) xs

  below : (k : ℕ) (d : Signer) → k < n → IsBelow (get_or xs k d) y
  below k d lt = is_lt_true_Less _ (prefix_len_passes (λ s. is_lt (signer_key_cmp s.key y.key)) xs k d lt)

  at_index : (d : Signer) → n < length xs → IsBelow y (get_or xs n d)
  at_index d lt = less_from_turned (signer_key_cmp (get_or xs n d).key y.key) (signer_key_cmp y.key (get_or xs n d).key)
      (signer_keys_total.antisymm (get_or xs n d).key y.key)
      (prefix_len_stops (λ s. is_lt (signer_key_cmp s.key y.key)) xs d lt)
      (λ tied. new n d lt (signer_keys_exact (get_or xs n d).key y.key tied))

  above : (k : ℕ) (d : Signer) → n ≤ k → k < length xs → IsBelow y (get_or xs k d)
  above k d le lt = elim (cases_eq n k) [
    | inl same ↦ subst (λ i. IsBelow y (get_or xs i d)) same (at_index d (omega arith))
    | inr apart ↦ signer_keys_total.trans y.key (get_or xs n d).key (get_or xs k d).key (at_index d (omega arith))
        (rising n k d (before apart) lt)
  ]
    where
      before : (n ≡ k → ⊥) → n < k
      before apart = elim (cases_lt n k) [ inl lt ↦ lt | inr ge ↦ absurd (apart (omega arith)) ]

  abbrev more : List Signer
  more = insert xs n y

  kept_below : (k : ℕ) (d : Signer) → k < n → get_or more k d ≡ get_or xs k d
  kept_below k d lt = get_or-insert_below xs n y d k lt n_le

  kept_above : (k : ℕ) (d : Signer) → n < k → get_or more k d ≡ get_or xs (k - 1) d
  kept_above k d lt = ap (λ i. get_or more i d) (omega arith) ∙ get_or-insert_above xs n y d (k - 1) (omega arith) n_le

  abbrev BelowAt : ℕ → ℕ → Signer → Type 0
  BelowAt i j d = IsBelow (get_or more i d) (get_or more j d)

  as_kept : (i j : ℕ) (d x z : Signer) → get_or more i d ≡ x → get_or more j d ≡ z → IsBelow x z → BelowAt i j d
  as_kept i j d x z is also le = subst (λ s. IsBelow s (get_or more j d)) (sym is)
      (subst (λ s. IsBelow x s) (sym also) le)

  by_second : (i j : ℕ) (d : Signer) → i < j → j < length more → (i < n) ⊎ (n ≤ i) → (j < n) ⊎ (n ≤ j) → BelowAt i j d
  by_second i j d lt within first (inl low) =
      let le = n_le in
      as_kept i j d _ _ (kept_below i d (omega arith)) (kept_below j d low) (rising i j d lt (omega arith))
  by_second i j d lt within first (inr high) = elim (cases_eq n j) [
    | inl here ↦ as_kept i j d (get_or xs i d) y (kept_below i d (omega arith))
        (ap (λ k. get_or more k d) (sym here) ∙ get_or-insert_at xs n y d n_le) (below i d (omega arith))
    | inr apart ↦
        let longer = length-insert xs n y n_le in
        let past : n < j = after apart in
        elim first [
          | inl low ↦ as_kept i j d _ _ (kept_below i d low) (kept_above j d past)
              (rising i (j - 1) d (omega arith) (omega arith))
          | inr le ↦ elim (cases_eq n i) [
            | inl at ↦ as_kept i j d y (get_or xs (j - 1) d)
                (ap (λ k. get_or more k d) (sym at) ∙ get_or-insert_at xs n y d n_le) (kept_above j d past)
                (above (j - 1) d (omega arith) (omega arith))
            | inr differ ↦
                let later : n < i = also differ le in
                as_kept i j d _ _ (kept_above i d later) (kept_above j d past)
                (rising (i - 1) (j - 1) d (omega arith) (omega arith))
          ]
        ]
  ]
    where
      after : (n ≡ j → ⊥) → n < j
      after apart = elim (cases_lt n j) [ inl l ↦ l | inr ge ↦ absurd (apart (omega arith)) ]

      also : (n ≡ i → ⊥) → n ≤ i → n < i
      also differ le = elim (cases_lt n i) [ inl l ↦ l | inr ge ↦ absurd (differ (omega arith)) ]

  pub rising_inserted : AllPairs IsBelow more
  rising_inserted i j d lt within = by_second i j d lt within (cases_lt i n) (cases_lt j n)

module _ (id : AccountId) (signers : List Signer) (sponsors : List (Option AccountId))
    (was : AreSignersInRange id signers sponsors) where
  pub signers_with : (s : Signer) (sponsor : Option AccountId) → IsNewSigner id signers s → sponsor ≢ Some id
      → AreSignersInRange id (insert signers (index_for s.key signers) s)
      (insert sponsors (index_for s.key signers) sponsor)
  signers_with s sponsor fresh apart =
      let n = index_for s.key signers in
      let le : n ≤ length signers = prefix_len-le-length (λ x. is_lt (signer_key_cmp x.key s.key)) signers in
      let items = was.items in
      let more = length-insert signers n s le in
      let also = length-insert sponsors n sponsor (omega arith) in
      let room = fresh.room in
      record {
        few = omega arith;
        rising = rising_inserted signers s was.rising fresh.new;
        weights = all_insert (λ (x : Signer). (1 ≤ x.weight) × (x.weight ≤ 255)) signers n s was.weights fresh.weight;
        others = all_insert (λ (x : Signer). x.key ≢ signer.Ed25519 id.0) signers n s was.others fresh.other;
        items = omega arith;
        paid_by_others = all_insert (λ (x : Option AccountId). x ≢ Some id) sponsors n sponsor was.paid_by_others
            apart;
      }

  pub signers_without : (n : ℕ) → n < length signers
      → AreSignersInRange id (remove signers n) (remove sponsors n)
  signers_without n within =
      let items = was.items in
      let fewer = length-remove signers n within in
      let also = length-remove sponsors n (omega arith) in
      let few = was.few in
      record {
        few = omega arith;
        rising = all_pairs_remove IsBelow signers n within was.rising;
        weights = all_remove (λ (x : Signer). (1 ≤ x.weight) × (x.weight ≤ 255)) signers n was.weights;
        others = all_remove (λ (x : Signer). x.key ≢ signer.Ed25519 id.0) signers n was.others;
        items = omega arith;
        paid_by_others = all_remove (λ (x : Option AccountId). x ≢ Some id) sponsors n was.paid_by_others;
      }

  pub signers_moved : (n : ℕ) (sponsor : Option AccountId) → sponsor ≢ Some id
      → AreSignersInRange id signers (slice_set sponsors n sponsor)
  signers_moved n sponsor apart = record {
    few = was.few;
    rising = was.rising;
    weights = was.weights;
    others = was.others;
    items = length-set sponsors n sponsor ∙ was.items;
    paid_by_others = All-set (λ (x : Option AccountId). x ≢ Some id) sponsors n sponsor apart was.paid_by_others;
  }

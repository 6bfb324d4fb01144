-- Entries that are changed in their place, and that such changes may be joined and swapped.
use Rattle.trade_cross.proofs.Prelude.{◌≡◌, ◌≢◌, refl, sym, ap, ◌∙◌, true, false, Option, Some, None, get, same_map}
use Rattle.trade_cross.proofs.Prelude.{LedgerEntry, LedgerKey, key_of, keys_total, keys_exact, EntryMap, put}
use Rattle.trade_cross.proofs.Prelude.{same_itself, is_key, IsKeyed, keyed_put, put_elsewhere, put_there, same_keys}

abbrev pub mapped : (LedgerEntry → LedgerEntry) → Option LedgerEntry → Option LedgerEntry
mapped h None = None
mapped h (Some e) = Some (h e)

abbrev pub altered_by : (LedgerEntry → LedgerEntry) → EntryMap → Option LedgerEntry → EntryMap
altered_by h m None = m
altered_by h m (Some e) = put m (h e)

-- the map, in which what is under a key is changed
abbrev pub altered : LedgerKey → (LedgerEntry → LedgerEntry) → EntryMap → EntryMap
altered k h m = altered_by h m (get m k)

abbrev pub KeepsKeys : (LedgerEntry → LedgerEntry) → Type 0
KeepsKeys h = (e : LedgerEntry) → key_of (h e) ≡ key_of e

same_or_other_key : (P : Type 0) (q k : LedgerKey) → (q ≡ k → P) → (q ≢ k → P) → P
same_or_other_key P q k same apart = elim (is_key q k) as (λ b. is_key q k ≡ b → P) [
  | true ↦ λ tied. same (same_keys q k tied)
  | false ↦ λ is. apart (λ e. let tied : is_key q k ≡ true = ap (λ x. is_key x k) e ∙ same_itself k in absurd (cc))
] refl

module _ (m : EntryMap) (keyed : IsKeyed m) (k : LedgerKey) (h : LedgerEntry → LedgerEntry) (keeps : KeepsKeys h) where
  at_by : (o : Option LedgerEntry) → get m k ≡ o → get (altered_by h m o) k ≡ mapped h o
  at_by None none = none
  at_by (Some e) there =
      let its = keeps e ∙ keyed k e there in
      ap (get (put m (h e))) (sym its) ∙ put_there m (h e)

  pub altered_at : get (altered k h m) k ≡ mapped h (get m k)
  altered_at = at_by (get m k) refl

  elsewhere_by : (q : LedgerKey) → q ≢ k → (o : Option LedgerEntry) → get m k ≡ o
      → get (altered_by h m o) q ≡ get m q
  elsewhere_by q apart None none = refl
  elsewhere_by q apart (Some e) there =
      put_elsewhere m (h e) q (λ same. apart (same ∙ keeps e ∙ keyed k e there))

  pub altered_elsewhere : (q : LedgerKey) → q ≢ k → get (altered k h m) q ≡ get m q
  altered_elsewhere q apart = elsewhere_by q apart (get m k) refl

  keyed_by : (o : Option LedgerEntry) → IsKeyed (altered_by h m o)
  keyed_by None = keyed
  keyed_by (Some e) = keyed_put m (h e) keyed

  pub altered_keyed : IsKeyed (altered k h m)
  altered_keyed = keyed_by (get m k)

-- ---- one change after another

pub keeps_both : (g h : LedgerEntry → LedgerEntry) → KeepsKeys g → KeepsKeys h → KeepsKeys (λ e. g (h e))
keeps_both g h first second e = first (h e) ∙ second e

module _ (m : EntryMap) (keyed : IsKeyed m) where
  -- two changes under one key are one
  module _ (k : LedgerKey) (g h : LedgerEntry → LedgerEntry) (keeps : KeepsKeys g) (also : KeepsKeys h) where
    abbrev now : EntryMap
    now = altered k h m

    abbrev joined : LedgerEntry → LedgerEntry
    joined e = g (h e)

    now_keyed : IsKeyed now
    now_keyed = altered_keyed m keyed k h also

    both_of : (o : Option LedgerEntry) → mapped g (mapped h o) ≡ mapped joined o
    both_of None = refl
    both_of (Some e) = refl

    both_at : (q : LedgerKey) → q ≡ k → get (altered k g now) q ≡ get (altered k joined m) q
    both_at q same =
        ap (get (altered k g now)) same ∙ altered_at now now_keyed k g keeps
        ∙ ap (mapped g) (altered_at m keyed k h also)
        ∙ both_of (get m k) ∙ sym (altered_at m keyed k joined (keeps_both g h keeps also))
        ∙ ap (get (altered k joined m)) (sym same)

    both_beside : (q : LedgerKey) → q ≢ k → get (altered k g now) q ≡ get (altered k joined m) q
    both_beside q apart =
        altered_elsewhere now now_keyed k g keeps q apart ∙ altered_elsewhere m keyed k h also q apart
        ∙ sym (altered_elsewhere m keyed k joined (keeps_both g h keeps also) q apart)

    pub altered_both : altered k g (altered k h m) ≡ altered k (λ e. g (h e)) m
    altered_both = same_map keys_total keys_exact (altered k g now) (altered k joined m)
        (λ q. same_or_other_key (get (altered k g now) q ≡ get (altered k joined m) q) q k (both_at q) (both_beside q))

  -- changes under two keys may be swapped
  module _ (k l : LedgerKey) (g h : LedgerEntry
      → LedgerEntry) (keeps : KeepsKeys g) (also : KeepsKeys h) (apart : k ≢ l)
    where
      abbrev with_h : EntryMap
      with_h = altered l h m

      abbrev with_g : EntryMap
      with_g = altered k g m

      abbrev one : EntryMap
      one = altered k g with_h

      abbrev two : EntryMap
      two = altered l h with_g

      h_keyed : IsKeyed with_h
      h_keyed = altered_keyed m keyed l h also

      g_keyed : IsKeyed with_g
      g_keyed = altered_keyed m keyed k g keeps

      at_first : (q : LedgerKey) → q ≡ k → get one q ≡ get two q
      at_first q same =
          ap (get one) same ∙ altered_at with_h h_keyed k g keeps
          ∙ ap (mapped g) (altered_elsewhere m keyed l h also k apart) ∙ sym (altered_at m keyed k g keeps)
          ∙ sym (altered_elsewhere with_g g_keyed l h also k apart) ∙ ap (get two) (sym same)

      at_second : (q : LedgerKey) → q ≡ l → get one q ≡ get two q
      at_second q same =
          ap (get one) same ∙ altered_elsewhere with_h h_keyed k g keeps l (λ is. apart (sym is))
          ∙ altered_at m keyed l h also
          ∙ ap (mapped h) (sym (altered_elsewhere m keyed k g keeps l (λ is. apart (sym is))))
          ∙ sym (altered_at with_g g_keyed l h also) ∙ ap (get two) (sym same)

      further : (q : LedgerKey) → q ≢ k → q ≢ l → get one q ≡ get two q
      further q beside also_beside =
          altered_elsewhere with_h h_keyed k g keeps q beside ∙ altered_elsewhere m keyed l h also q also_beside
          ∙ sym (altered_elsewhere m keyed k g keeps q beside)
          ∙ sym (altered_elsewhere with_g g_keyed l h also q also_beside)

      pub altered_swapped : altered k g (altered l h m) ≡ altered l h (altered k g m)
      altered_swapped = same_map keys_total keys_exact one two
          (λ q. same_or_other_key (get one q ≡ get two q) q k (at_first q) (λ beside.
          same_or_other_key (get one q ≡ get two q) q l (at_second q)
          (further q beside)))

-- changes that yield the same for what is there
module _ (m : EntryMap) (k : LedgerKey) (g h : LedgerEntry → LedgerEntry)
    (same : (e : LedgerEntry) → get m k ≡ Some e → g e ≡ h e) where
  as_by : (o : Option LedgerEntry) → get m k ≡ o → altered_by g m o ≡ altered_by h m o
  as_by None there = refl
  as_by (Some e) there = ap (put m) (same e there)

  pub altered_as : altered k g m ≡ altered k h m
  altered_as = as_by (get m k) refl

-- ---- under a key that may be none

abbrev pub altered_opt : Option LedgerKey → (LedgerEntry → LedgerEntry) → EntryMap → EntryMap
altered_opt None h m = m
altered_opt (Some k) h m = altered k h m

-- no key is both
abbrev pub AreApart : (k l : Option LedgerKey) → Type 0
AreApart k l = (x : LedgerKey) → k ≡ Some x → l ≢ Some x

module _ (m : EntryMap) (keyed : IsKeyed m) where
  pub opt_keyed : (k : Option LedgerKey) (h : LedgerEntry → LedgerEntry) → KeepsKeys h → IsKeyed (altered_opt k h m)
  opt_keyed None h keeps = keyed
  opt_keyed (Some k) h keeps = altered_keyed m keyed k h keeps

  pub opt_elsewhere : (k : Option LedgerKey) (h : LedgerEntry → LedgerEntry) → KeepsKeys h → (q : LedgerKey)
      → k ≢ Some q → get (altered_opt k h m) q ≡ get m q
  opt_elsewhere None h keeps q apart = refl
  opt_elsewhere (Some k) h keeps q apart =
      altered_elsewhere m keyed k h keeps q (λ same. apart (ap Some (sym same)))

  pub opt_both : (k : Option LedgerKey) (g h : LedgerEntry → LedgerEntry) → KeepsKeys g → KeepsKeys h
      → altered_opt k g (altered_opt k h m) ≡ altered_opt k (λ e. g (h e)) m
  opt_both None g h keeps also = refl
  opt_both (Some k) g h keeps also = altered_both m keyed k g h keeps also

  pub opt_swapped : (k l : Option LedgerKey) (g h : LedgerEntry → LedgerEntry) → KeepsKeys g → KeepsKeys h
      → AreApart k l → altered_opt k g (altered_opt l h m) ≡ altered_opt l h (altered_opt k g m)
  opt_swapped None l g h keeps also apart = refl
  opt_swapped (Some k) None g h keeps also apart = refl
  opt_swapped (Some k) (Some l) g h keeps also apart =
      altered_swapped m keyed k l g h keeps also (λ same. apart k refl (ap Some (sym same)))

pub opt_as : (m : EntryMap) (k : Option LedgerKey) (g h : LedgerEntry → LedgerEntry)
    → ((x : LedgerKey) → k ≡ Some x → (e : LedgerEntry) → get m x ≡ Some e → g e ≡ h e)
    → altered_opt k g m ≡ altered_opt k h m
opt_as m None g h same = refl
opt_as m (Some k) g h same = altered_as m k g h (same k refl)

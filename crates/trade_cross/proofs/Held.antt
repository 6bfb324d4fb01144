-- What is under the keys under which accounts have their assets, and what changes leave of it.
use Rattle.trade_cross.proofs.Prelude as prelude
use prelude.{◌≡◌, ◌≢◌, refl, sym, ap, subst, ◌∙◌, ◌%◌, true, false, Option, Some, None, get, AccountId, TrustLineAsset}
use prelude.{AccountEntry, TrustLineEntry, LedgerKey, EntryMap, same_itself, account_of, account_at, with_account}
use prelude.{line_of, line_at, with_line, is_key, account_after, account_elsewhere, kept_elsewhere, is_same_account}
use prelude.{same_account, apart_accounts, IsHeld, Related, IsKeyed, same_keys, option_map, own_key, of_any}
use prelude.{with_beside, with_there, lines_exact, keyed_after}
use Rattle.ledger_types.specs.declared.key.LedgerKey.TheVariants as key

-- ---- one thing before and after

pub related_same : {X : Type 0} (R : X → X → Type 0) → ((a : X) → R a a) → (o p : Option X) → o ≡ p → Related R o p
related_same {X} R same o p is = subst (Related R o) is (itself o)
  where
    itself : (o : Option X) → Related R o o
    itself None = tt
    itself (Some a) = same a

pub related_some : {X : Type 0} (R : X → X → Type 0) (o p : Option X) (a b : X) → o ≡ Some a → p ≡ Some b → R a b
    → Related R o p
related_some {X} R o p a b is also h =
    subst (λ x. Related R x p) (sym is) (subst (λ x. Related R (Some a) x) (sym also) h)

-- ---- all accounts and lines before and after

pub record Relates (R : AccountEntry → AccountEntry → Type 0) (S : TrustLineEntry → TrustLineEntry → Type 0)
    (m new : EntryMap) : Type 0 where
  pub accounts : (id : AccountId) → Related R (account_at m id) (account_at new id)
  pub lines : (id : AccountId) (held : TrustLineAsset) → Related S (line_at m id held) (line_at new id held)

-- ---- an account that is changed

module _ (R : AccountEntry → AccountEntry → Type 0) (S : TrustLineEntry → TrustLineEntry → Type 0)
    (same_a : (a : AccountEntry) → R a a) (same_t : (t : TrustLineEntry) → S t t) (m : EntryMap)
    (keyed : IsKeyed m) where
  module _ (id : AccountId) (f : AccountEntry → AccountEntry) (a : AccountEntry) (exists : account_at m id ≡ Some a)
      (named : (f a).account_id ≡ a.account_id) (h : R a (f a)) where
    account_by : (other : AccountId) → Related R (account_at m other) (account_at (with_account m id f) other)
    account_by other = elim (is_same_account other id) as (λ t. is_same_account other id ≡ t
        → Related R (account_at m other) (account_at (with_account m id f) other)) [
          | true ↦ λ is.
              let same = same_account other id is in
              related_some R _ _ a (f a) (ap (account_at m) same ∙ exists)
              (ap (account_at (with_account m id f)) same ∙ account_after m id f a keyed exists named) h
          | false ↦ λ is. related_same R same_a _ _
              (sym (account_elsewhere m id f a keyed exists named other (apart_accounts other id is)))
        ] refl

    pub line_beside : (other : AccountId) (held : TrustLineAsset)
        → line_at (with_account m id f) other held ≡ line_at m other held
    unfolding line_at
    line_beside other held = ap line_of (kept_elsewhere m id f a keyed exists named (key.TrustLine other held)
        (λ same. absurd (cc)))

    pub account_relates : Relates R S m (with_account m id f)
    account_relates = record {
      accounts = account_by;
      lines = λ other held. related_same S same_t _ _ (sym (line_beside other held));
    }

  -- ---- a line that is changed

  module _ (id : AccountId) (held : TrustLineAsset) (g : TrustLineEntry → TrustLineEntry) (t : TrustLineEntry)
      (exists : line_at m id held ≡ Some t) (owned : (g t).account_id ≡ t.account_id) (its : (g t).asset ≡ t.asset)
      (h : S t (g t)) where
    abbrev now : EntryMap
    now = with_line m id held g

    abbrev its_key : LedgerKey
    its_key = key.TrustLine id held

    line_key : key.TrustLine (g t).account_id (g t).asset ≡ its_key
    unfolding line_at
    line_key = (λ i. key.TrustLine (owned i) (its i)) ∙ own_key lines_exact m its_key t (keyed its_key) exists

    stays : (x : TrustLineEntry) → line_at m id held ≡ Some x
        → key.TrustLine (g x).account_id (g x).asset ≡ its_key
    stays = of_any (λ x. key.TrustLine (g x).account_id (g x).asset ≡ its_key) (line_at m id held) t exists line_key

    pub line_keeps : (k : LedgerKey) → k ≢ its_key → get now k ≡ get m k
    unfolding line_at with_line
    line_keeps k apart = with_beside lines_exact m its_key g k (λ x there same. apart (same ∙ stays x there))

    line_there : line_at now id held ≡ Some (g t)
    unfolding line_at with_line
    line_there = with_there lines_exact m its_key g stays ∙ ap (option_map g) exists

    pub line_elsewhere : (other : AccountId) (x : TrustLineAsset) → key.TrustLine other x ≢ its_key
        → line_at now other x ≡ line_at m other x
    unfolding line_at
    line_elsewhere other x apart = ap line_of (line_keeps (key.TrustLine other x) apart)

    pub account_beside : (other : AccountId) → account_at now other ≡ account_at m other
    unfolding account_at
    account_beside other = ap account_of (line_keeps (key.Account other) (λ same. absurd (cc)))

    line_by : (other : AccountId) (x : TrustLineAsset) → Related S (line_at m other x) (line_at now other x)
    unfolding line_at
    line_by other x = elim (is_key (key.TrustLine other x) its_key) as (λ b. is_key (key.TrustLine other x) its_key ≡ b
        → Related S (line_at m other x) (line_at now other x)) [
          | true ↦ λ is.
              let same = same_keys _ _ is in
              related_some S _ _ t (g t) (at m same ∙ exists) (at now same ∙ line_there) h
          | false ↦ λ is. related_same S same_t _ _ (sym (line_elsewhere other x (λ same.
              let tied : is_key (key.TrustLine other x) its_key ≡ true = ap (λ k. is_key k its_key) same
              ∙ same_itself its_key in absurd (cc))))
        ] refl
      where
        at : (n : EntryMap) → key.TrustLine other x ≡ its_key → line_at n other x ≡ line_at n id held
        at n same = ap (λ k. line_of (get n k)) same

    pub line_relates : Relates R S m now
    line_relates = record {
      accounts = λ other. related_same R same_a _ _ (sym (account_beside other));
      lines = line_by;
    }

    pub line_still_keyed : IsKeyed now
    unfolding with_line
    line_still_keyed = keyed_after lines_exact m its_key g keyed

-- ---- what is held is held still

abbrev pub AnyAccount : AccountEntry → AccountEntry → Type 0
AnyAccount a b = Unit {0}

abbrev pub SameFlags : TrustLineEntry → TrustLineEntry → Type 0
SameFlags t u = u.flags ≡ t.flags

account_still : (o p : Option AccountEntry) → Related AnyAccount o p → (a : AccountEntry) × (o ≡ Some a)
    → (b : AccountEntry) × (p ≡ Some b)
account_still None p h held = let is = held.1 in absurd (cc)
account_still (Some a) None h held = absurd h
account_still (Some a) (Some b) h held = (b, refl)

line_still : (o p : Option TrustLineEntry) → Related SameFlags o p
    → (t : TrustLineEntry) × (o ≡ Some t) × (t.flags % 4 ≢ 0) → (u : TrustLineEntry) × (p ≡ Some u) × (u.flags % 4 ≢ 0)
line_still None p h held = let is = held.1 in absurd (cc)
line_still (Some t) None h held = absurd h
line_still (Some t) (Some u) h held =
    let is = held.1 in
    let same : t ≡ held.0 = cc in
    (u, refl, λ none. held.2 (ap (λ (x : TrustLineEntry). x.flags % 4) (sym same) ∙ ap (λ n. n % 4) (sym h) ∙ none))

pub held_still : (m new : EntryMap) → Relates AnyAccount SameFlags m new → (k : Option LedgerKey) → IsHeld m k
    → IsHeld new k
held_still m new rel None held = tt
held_still m new rel (Some (key.Account id)) held =
    account_still (account_at m id) (account_at new id) (rel.accounts id) held
held_still m new rel (Some (key.TrustLine id x)) held =
    line_still (line_at m id x) (line_at new id x) (rel.lines id x) held
held_still m new rel (Some other) held = held

-- The keys with an encoding that are above one with a long name.
use Rattle.bucket_core.proofs.Prelude.{◌≡◌, ◌≤◌, ℕ, zero, suc, List, [], ◌∷◌, length, refl, sym, subst, arith}
use Rattle.bucket_core.proofs.Prelude.{ledger_key, LedgerKey}
use Rattle.std.proofs.Common.{◌↔◌, take}
use Rattle.std.specs.Ordering.{nat_cmp, ordering_then}
use Rattle.std.specs.declared.cmp.Ordering.{Ordering}
use Rattle.std.specs.declared.cmp.Ordering.TheVariants.{Less, Equal, Greater}
use Rattle.ledger_types.specs.Bytes.{bytes_cmp}
use Rattle.ledger_types.specs.KeyOrder.{account_cmp}
use Rattle.ledger_types.specs.declared.ids.AccountId.{AccountId}
use Rattle.ledger_types.specs.declared.key.LedgerKey.TheVariants as key
use Rattle.xdr_core.specs.Leaves.{var}
use Rattle.bucket_core.specs.Encoded.{IsEncoded}
use Rattle.bucket_core.specs.EncodedKey.{HasLongName, HaveSameAbove}

-- no key with a long name has an encoding
pub long_unencoded : (k : LedgerKey) (account : AccountId) (name : List ℕ) → HasLongName k account name
    → IsEncoded ledger_key k → ⊥
unfolding ledger_key var
long_unencoded k account name h encoded =
    let here : IsEncoded ledger_key (key.Data account name) = subst (IsEncoded ledger_key) h.key encoded in
    let short : length name ≤ 64 = here.within.1 in
    omega (arith, short, h.long)

abbrev AreBothLess : Ordering → Ordering → Type 0
AreBothLess a b = (a ≡ Less) ↔ (b ≡ Less)

decided_first : (o a b : Ordering) → AreBothLess a b → AreBothLess (ordering_then o a) (ordering_then o b)
decided_first Less a b h = (λ _. refl, λ _. refl)
decided_first Equal a b h = h
decided_first Greater a b h = (λ e. absurd (cc (e)), λ e. absurd (cc (e)))

-- a text is below one of at most n bytes as its first n bytes are
cut_below : (n : ℕ) (a b : List ℕ) → length b ≤ n → AreBothLess (bytes_cmp a b) (bytes_cmp (take n a) b)
cut_below zero a [] h = never_below a
  where
    never_below : (a : List ℕ) → AreBothLess (bytes_cmp a []) (bytes_cmp [] [])
    never_below [] = (λ e. e, λ e. e)
    never_below (x ∷ a) = (λ e. absurd (cc (e)), λ e. absurd (cc (e)))
cut_below zero a (y ∷ b) h = absurd (omega (arith, h))
cut_below (suc n) [] b h = (λ e. e, λ e. e)
cut_below (suc n) (x ∷ a) [] h = (λ e. e, λ e. e)
cut_below (suc n) (x ∷ a) (y ∷ b) h =
    decided_first (nat_cmp x y) (bytes_cmp a b) (bytes_cmp (take n a) b) (cut_below n a b (omega (arith, h)))

short_name : (account : AccountId) (name : List ℕ) → IsEncoded ledger_key (key.Data account name) → length name ≤ 64
unfolding ledger_key var
short_name account name h = h.within.1

same_above : (account : AccountId) (name : List ℕ)
    → HaveSameAbove (key.Data account name) (key.Data account (take 64 name))
same_above account name (key.Account a) h = (λ e. e, λ e. e)
same_above account name (key.TrustLine a l) h = (λ e. e, λ e. e)
same_above account name (key.Offer a n) h = (λ e. e, λ e. e)
same_above account name (key.Data a n) h =
    decided_first (account_cmp account a) (bytes_cmp name n) (bytes_cmp (take 64 name) n)
    (cut_below 64 name n (short_name a n h))
same_above account name (key.ClaimableBalance b) h = (λ e. e, λ e. e)
same_above account name (key.LiquidityPool p) h = (λ e. e, λ e. e)

pub cut_same_above : (k : LedgerKey) (account : AccountId) (name : List ℕ) → HasLongName k account name
    → HaveSameAbove k (key.Data account (take 64 name))
cut_same_above k account name h =
    subst (λ (m : LedgerKey). HaveSameAbove m (key.Data account (take 64 name))) (sym h.key) (same_above account name)

pub itself_above : (k : LedgerKey) → HaveSameAbove k k
itself_above k = λ q h. (λ e. e, λ e. e)

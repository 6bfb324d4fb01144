-- Keys in texts are ordered as the keys that they are, and a text that begins with a key reads as the key.
use Rattle.bucket_items.proofs.Prelude.{◌≡◌, ℕ, ◌+◌, List, [], length, Ok, Err, refl, sym, ap, ◌∙◌, append-nil}
use Rattle.bucket_items.proofs.Prelude.{ordering_then, XdrFault, Position, start_of, LedgerKey, account_cmp, key_cmp}
use Rattle.bucket_items.proofs.Prelude.{ledger_key, ledger_key_laws, key_seen, BeginsWithKey, IsKeyText}
use Rattle.ledger_types.proofs.KeyOrdering.{lines_compared}
use Rattle.bucket_items.specs.declared.key_ref.KeyRef.{KeyRef}
use Rattle.bucket_items.specs.declared.key_ref.KeyRef.TheVariants as here
use Rattle.bucket_items.specs.contracts.key_ref.KeyRefOrd.TheImpl as refs

pub refs_compared : (a b : KeyRef) → (refs.cmp-value).it a b ≡ key_cmp (key_seen a) (key_seen b)
refs_compared (here.TrustLine a l) (here.TrustLine b m) = ap (ordering_then (account_cmp a b)) (lines_compared l m)
refs_compared (here.Account a) (here.Account b) = refl
refs_compared (here.Offer a n) (here.Offer b m) = refl
refs_compared (here.Data a n) (here.Data b m) = refl
refs_compared (here.ClaimableBalance a) (here.ClaimableBalance b) = refl
refs_compared (here.LiquidityPool a) (here.LiquidityPool b) = refl
refs_compared a b = refl

-- a text of a key begins with it
pub begins : (text : List ℕ) (k : LedgerKey) → IsKeyText text k → BeginsWithKey text k
begins text k h = record {
  tail = [];
  parts = h.encoded ∙ sym (append-nil (ledger_key.encoding k));
  within = h.within;
  sized = h.sized;
}

-- where reading a text ends that begins with a key's encoding
abbrev pub after_key : LedgerKey → List ℕ → Position
after_key k tail = record { at = 0 + length (ledger_key.encoding k); rest = tail }

pub key_is_read : (text : List ℕ) (k : LedgerKey) → (h : BeginsWithKey text k)
    → ledger_key.read (start_of text) ≡ Ok (k, after_key k h.tail)
key_is_read text k h =
    ap (λ (t : List ℕ). ledger_key.read (start_of t)) h.parts
    ∙ ledger_key_laws.lawful.again 0 k h.tail h.within h.sized

-- what is seen at the start of a text is the key
pub seen_key : (text : List ℕ) (k : LedgerKey) (x : KeyRef) (p q : Position) → BeginsWithKey text k → p ≡ start_of text
    → ledger_key.read p ≡ Ok (key_seen x, q) → key_seen x ≡ k
seen_key text k x p q h a e =
    let t : (key_seen x, q) ≡ (k, after_key k h.tail) = cc (key_is_read text k h, a, e) in
    ap (λ (y : LedgerKey × Position). y.0) t

-- a text that begins with a key has no fault there
pub no_fault : {A : Type 0} (text : List ℕ) (k : LedgerKey) (f : XdrFault) (p : Position) → BeginsWithKey text k
    → p ≡ start_of text → ledger_key.read p ≡ Err f → A
no_fault text k f p h a e = absurd (cc (key_is_read text k h, a, e))

-- What is counted in an aggregate is what it owes and what is stated.
use Rattle.legal_rules.proofs.Prelude.{◌≡◌, ◌≢◌, refl, sym, ap, ◌∙◌, Option, Some, None, ℤ, pos, ◌+ℤ◌, if◌then◌else◌}
use Rattle.legal_rules.proofs.Prelude.{get, LedgerEntry, LedgerKey, key_of, EntryMap, same_itself, Weight, total, part}
use Rattle.legal_rules.proofs.Prelude.{EachEntry, total_plus, total_only, is_key, Kind, View, counted, stated}
use Rattle.legal_rules.proofs.Prelude.{stated_at, weight, Owed, IsLegalWith, apart_keys}
use Rattle.legal_rules.proofs.Numbers.{split}

-- what an entry states in the aggregate of a key
abbrev states_for : Kind → LedgerKey → Weight
states_for kind k e = if is_key (key_of e) k then stated kind e.body else pos 0

states_elsewhere : (kind : Kind) (m : EntryMap) (k : LedgerKey) → EachEntry (λ q e. key_of e ≡ q) m
    → EachEntry (λ q e. q ≢ k → states_for kind k e ≡ pos 0) m
states_elsewhere kind m k keyed q e there apart = ap (λ b. if b then stated kind e.body else pos 0)
    (apart_keys (key_of e) k (λ same. apart (sym (keyed q e there) ∙ same)))

states_here : (kind : Kind) (k : LedgerKey) (o : Option LedgerEntry) → ((e : LedgerEntry) → o ≡ Some e → key_of e ≡ k)
    → part (states_for kind k) o ≡ stated_at kind o
states_here kind k None own = refl
states_here kind k (Some e) own = ap (λ b. if b then stated kind e.body else pos 0)
    (ap (λ q. is_key q k) (own e refl) ∙ same_itself k)

total_stated : (kind : Kind) (m : EntryMap) (k : LedgerKey) → EachEntry (λ q e. key_of e ≡ q) m
    → total (states_for kind k) m ≡ stated_at kind (get m k)
total_stated kind m k keyed = total_only (states_for kind k) m k (states_elsewhere kind m k keyed)
    ∙ states_here kind k (get m k) (keyed k)

pub total_weight : (v : View) (kind : Kind) (m : EntryMap) (k : LedgerKey) → EachEntry (λ q e. key_of e ≡ q) m
    → total (counted v kind k) m ≡ (total (weight v kind k) m +ℤ stated_at kind (get m k))
total_weight v kind m k keyed =
    total_plus (counted v kind k) (weight v kind k) (states_for kind k) m
    (λ e. split (counted v kind k e) (states_for kind k e))
    ∙ ap (λ n. total (weight v kind k) m +ℤ n) (total_stated kind m k keyed)

pub total_of : (v : View) (P : LedgerEntry → Type 0) (owed : Owed) (sum : ℤ) (m : EntryMap) → IsLegalWith v P owed sum m
    → (kind : Kind) (k : LedgerKey) → total (counted v kind k) m ≡ (owed kind k +ℤ stated_at kind (get m k))
total_of v P owed sum m legal kind k = total_weight v kind m k legal.keyed
    ∙ ap (λ n. n +ℤ stated_at kind (get m k)) (legal.aggregates kind k)

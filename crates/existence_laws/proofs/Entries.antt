-- What is asked of each entry of a map is decided entry by entry.
use Rattle.existence_laws.proofs.Prelude.{◌≡◌, ◌≢◌, inl, inr, Option, Some, None, refl, subst, get, keys, LedgerEntry}
use Rattle.existence_laws.proofs.Prelude.{LedgerKey, EntryMap, EachEntry, same_Some}
use Rattle.existence_laws.proofs.Maps.{no_value}
use Rattle.existence_laws.proofs.Decided.{Decided, decided_as, all_keys}

abbrev HoldsAt : (LedgerKey → LedgerEntry → Type 0) → LedgerKey → Option LedgerEntry → Type 0
HoldsAt P k o = (e : LedgerEntry) → o ≡ Some e → P k e

at_value : (P : LedgerKey → LedgerEntry → Type 0) (k : LedgerKey) (o : Option LedgerEntry)
    → ((e : LedgerEntry) → o ≡ Some e → Decided (P k e)) → Decided (HoldsAt P k o)
at_value P k None one = inl (λ e there. absurd (cc (there)))
at_value P k (Some x) one =
    decided_as (λ h e there. subst (P k) (same_Some x e there) h) (λ all. all x refl) (one x refl)

pub each_entry : (P : LedgerKey → LedgerEntry → Type 0) (m : EntryMap)
    → ((k : LedgerKey) (e : LedgerEntry) → get m k ≡ Some e → Decided (P k e)) → Decided (EachEntry P m)
each_entry P m one =
    all_keys (λ k. HoldsAt P k (get m k)) (keys m)
    (λ k out e there. absurd (cc (there, no_value m k out)))
    (λ k. at_value P k (get m k) (one k))

pub exists : (m : EntryMap) (k : LedgerKey) → Decided (get m k ≢ None)
exists m k = there (get m k)
  where
    there : (o : Option LedgerEntry) → Decided (o ≢ None)
    there None = inr (λ n. n refl)
    there (Some e) = inl (λ n. cc)

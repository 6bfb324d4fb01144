-- Settled entries stay settled, whatever the ledgers of their last changes are.
use Rattle.close_laws.proofs.Prelude.{◌≡◌, ℕ, refl, sym, ap, subst, ◌∙◌, Option, Some, None, pos, ◌≤ℤ◌, get, AccountId}
use Rattle.close_laws.proofs.Prelude.{LedgerEntry, LedgerEntryBody, LedgerEntryExtensionV1, LedgerKey, key_of_body}
use Rattle.close_laws.proofs.Prelude.{EntryMap, parts_of, account_at, account_in, total, Subentries, Selling, Buying}
use Rattle.close_laws.proofs.Prelude.{Shares, ShareLines, Uses, View, held, view, params_of, weight, IsEntryLegal}
use Rattle.close_laws.proofs.Prelude.{IsSettled}
use Rattle.close_rules.specs.legal_rules.OfferIds.{offer_with}
use Rattle.close_rules.specs.ledger_types.declared.asset.Asset.TheVariants as asset
use Rattle.close_rules.specs.ledger_types.declared.key.LedgerKey.TheVariants as key
use Rattle.close_rules.specs.entry_slots.Accounts.{account_of}
use Rattle.close_rules.specs.legal_rules.Aggregates.{Kind, Sponsoring, Sponsored}
use Rattle.close_rules.proofs.legal_rules_proofs.Legality.{entries_legal}
use Rattle.close_laws.proofs.Unmarked.{AreAlike, AreMapsAlike, unmarked, existed, total_alike}

-- ---- entries

abbrev Parts : Type 0
Parts = LedgerEntryBody × Option LedgerEntryExtensionV1

abbrev made_of : Parts → LedgerEntry
made_of parts = record { last_modified_ledger_seq = 0; body = parts.0; ext = parts.1 }

legal_unmarked : (id_pool : ℕ) (e : LedgerEntry) → IsEntryLegal id_pool e → IsEntryLegal id_pool (made_of (parts_of e))
legal_unmarked id_pool e legal = record {
  range = record { body = legal.range.body; paid = legal.range.paid };
  bound = legal.bound;
  few = legal.few;
  fits = legal.fits;
  filled = legal.filled;
}

legal_marked : (id_pool : ℕ) (e : LedgerEntry) → IsEntryLegal id_pool (made_of (parts_of e)) → IsEntryLegal id_pool e
legal_marked id_pool e legal = record {
  range = record { body = legal.range.body; paid = legal.range.paid };
  bound = legal.bound;
  few = legal.few;
  fits = legal.fits;
  filled = legal.filled;
}

legal_by_parts : (id_pool : ℕ) (x e : LedgerEntry) → parts_of x ≡ parts_of e → IsEntryLegal id_pool x
    → IsEntryLegal id_pool e
legal_by_parts id_pool x e same legal =
    legal_marked id_pool e
    (subst (λ parts. IsEntryLegal id_pool (made_of parts)) same (legal_unmarked id_pool x legal))

-- ---- maps

same_params : (a b : Option LedgerEntry) → AreAlike a b → params_of a ≡ params_of b
same_params None None alike = refl
same_params (Some a) (Some b) alike = ap (λ (parts : Parts). params_of (Some (made_of parts))) alike
same_params None (Some b) alike = absurd alike
same_params (Some a) None alike = absurd alike

same_account : (a b : Option LedgerEntry) → AreAlike a b → account_of a ≡ account_of b
same_account None None alike = refl
same_account (Some a) (Some b) alike = ap (λ (parts : Parts). account_in parts.0) alike
same_account None (Some b) alike = absurd alike
same_account (Some a) None alike = absurd alike

-- the same accounts exist
pub accounts_alike : (m n : EntryMap) (id : AccountId) → AreMapsAlike m n → account_at m id ≡ account_at n id
unfolding account_at
accounts_alike m n id alike = same_account (get m (key.Account id)) (get n (key.Account id)) (alike (key.Account id))

weight_by_parts : (v : View) (kind : Kind) (k : LedgerKey) (e : LedgerEntry)
    → weight v kind k (unmarked e) ≡ weight v kind k e
weight_by_parts v Subentries k e = refl
weight_by_parts v Sponsoring k e = refl
weight_by_parts v Sponsored k e = refl
weight_by_parts v Selling k e = refl
weight_by_parts v Buying k e = refl
weight_by_parts v Shares k e = refl
weight_by_parts v ShareLines k e = refl
weight_by_parts v Uses k e = refl

pub settled_alike : (id_pool : ℕ) (m n : EntryMap) → AreMapsAlike m n → IsSettled id_pool m → IsSettled id_pool n
settled_alike id_pool m n alike settled = record {
  legal = entries_legal (view m) id_pool (total (held asset.Native) m) n record {
    params = λ id. sym (same_params (get m (key.LiquidityPool id)) (get n (key.LiquidityPool id))
        (alike (key.LiquidityPool id)));
    keyed = λ k e there.
        let x = existed (get m k) (get n k) e (alike k) there in
        ap (λ (parts : Parts). key_of_body parts.0) (sym x.2) ∙ settled.legal.keyed k x.0 x.1;
    entries = λ k e there.
        let x = existed (get m k) (get n k) e (alike k) there in
        legal_by_parts id_pool x.0 e x.2 (settled.legal.entries k x.0 x.1);
    offers = λ id. subst (λ n. n ≤ℤ pos 1) (total_alike (offer_with id) m n alike (λ e. refl))
        (settled.legal.offers id);
    aggregates = λ kind k. sym (total_alike (weight (view m) kind k) m n alike (weight_by_parts (view m) kind k))
        ∙ settled.legal.aggregates kind k;
    supply = sym (total_alike (held asset.Native) m n alike (λ e. refl));
  };
}

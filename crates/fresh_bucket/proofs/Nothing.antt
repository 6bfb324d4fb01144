-- A batch of nothing says that nothing changed.
use Rattle.fresh_bucket.proofs.Prelude.{◌≡◌, ℕ, [], Some, IfSome, sym, subst, ◌∙◌, get, empty, get-empty, LedgerKey}
use Rattle.fresh_bucket.proofs.Prelude.{LedgerEntry, key_cmp, key_of, Batch, EntryMap, IsKeyed, IsExactBatch}
use Rattle.fresh_bucket.proofs.Prelude.{AreEncodable, nil_contains_nothing}
use Rattle.entry_map.specs.Noting.{no_changes}

none_there : (k : LedgerKey) (e : LedgerEntry) → get (empty {X = LedgerEntry} {R = key_cmp}) k ≡ Some e → ⊥
none_there k e h = cc (h, get-empty {X = LedgerEntry} key_cmp k)

exact : IsExactBatch empty empty no_changes
exact = record {
  batch = record {
    init_rises = tt;
    init = λ e. (λ h. absurd (nil_contains_nothing e h), λ h. absurd (none_there (key_of e) e h.0));
    live_rises = tt;
    live = λ e. (λ h. absurd (nil_contains_nothing e h), λ h. absurd (none_there (key_of e) e h.0));
    dead_rises = tt;
    dead = λ k. (λ h. absurd (nil_contains_nothing k h), λ h. absurd (h.0 (get-empty {X = LedgerEntry} key_cmp k)));
  };
  others = λ k was e h there same. absurd (none_there k e there);
}

keyed : IsKeyed empty
keyed k = subst (λ o. IfSome o (λ e. key_of e ≡ k)) (sym (get-empty {X = LedgerEntry} key_cmp k)) tt

encodable : AreEncodable empty
encodable k e h = absurd (none_there k e h)

pub nothing_stated : (batch : Batch) → batch ≡ no_changes → (before : EntryMap) × (after : EntryMap)
    × IsExactBatch before after batch × IsKeyed before × AreEncodable before × AreEncodable after
nothing_stated batch is =
    (empty, empty, subst (IsExactBatch empty empty) (sym is) exact, keyed, encodable, encodable)

use Rattle.level_entries.proofs.Prelude.{List, ◌∷◌, sym, subst, option_map, IfOk-weaker, LedgerKey, Contents}
use Rattle.level_entries.proofs.Prelude.{AreMarkedWell, changes_of, IsRowOf}
use Rattle.level_entries.proofs.Newest.{row_in, none_in, fewer_marked}
use Rattle.level_entries.proofs.levels.with_pair.Goals as goal

pub with_file-requires-in-Some : goal.with_file-requires-in-Some
with_file-requires-in-Some c =
    let r = c.requires in (
      c.deref.result.now ∷ r.0,
      row_in (λ v. v.items) (c.deref.result.now ∷ r.0) c.in_ok-with_file.field-0 c.in-Some.row
          (c.in_ok-with_file.ensures r.0 r.1) c.in-Some.is,
    )

pub returns-in-None : goal.returns-in-None
returns-in-None c files n marks =
    none_in (λ v. v.items) (c.deref.result.now ∷ files) c.in_ok-with_file.field-0 (c.in_ok-with_file.ensures files n)
    c.in-None.is (fewer_marked c.args.pair.now.curr.value (c.deref.result.now ∷ files)
    (subst (λ (s : Contents). (k : LedgerKey) → AreMarkedWell (changes_of (c.args.pair.now.curr.value ∷ s ∷ files) k))
    (sym c.deref.ensures) marks))

pub returns-in-Some : goal.returns-in-Some
returns-in-Some c files n =
    IfOk-weaker c.with_file-in-Some.result _ _ (λ next h.
    subst (λ (fs : List Contents). IsRowOf fs (option_map (λ v. v.items) next))
    (λ i. c.deref-in-Some.ensures i ∷ c.deref.ensures i ∷ files) h)
    (c.with_file-in-Some.ensures (c.deref.result.now ∷ files)
    (row_in (λ v. v.items) (c.deref.result.now ∷ files) c.in_ok-with_file.field-0 c.in-Some.row
    (c.in_ok-with_file.ensures files n) c.in-Some.is))

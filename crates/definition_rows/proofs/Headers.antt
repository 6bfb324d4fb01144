-- Skip lists and upgrades with known answers. The contracts of `finish` and `apply_upgrades` name these definitions.
use Rattle.definition_rows.proofs.Prelude.{◌≡◌, refl, sym, ap, ◌∙◌, ℕ, List, [], ◌∷◌, Option, Some, None, Result, Ok}
use Rattle.definition_rows.proofs.Prelude.{Err, slice_get, Hash, LedgerHeader, u32, i32, ledger_upgrade}
use Rattle.ledger_types.specs.declared.header.LedgerUpgrade.{LedgerUpgrade}
use Rattle.header_chain.specs.declared.upgrades.UpgradeFault.{UpgradeFault}
use Rattle.header_chain.specs.declared.upgrades.UpgradeFault.TheVariants.{Bad, OutOfProfile}
use Rattle.header_chain.specs.SkipList.{skip_list_after}
use Rattle.header_chain.specs.Upgrades.{upgrade_in, is_bad_at, is_out_of_profile, first_index, all_upgraded, IsUpgraded}
use Rattle.definition_rows.proofs.Rows.{hex}

-- ---- skip lists

-- `own` is the hash of the header's own levels, and the four others are the skip list of the header before it.
skip_lists_take_a_hash_every_fifty_ledgers : (own first second third fourth : Hash)
    → let before = first ∷ second ∷ third ∷ fourth ∷ [] in
    (skip_list_after 49 own before ≡ before)
    × (skip_list_after 50 own before ≡ own ∷ second ∷ third ∷ fourth ∷ [])
    × (skip_list_after 5000 own before ≡ own ∷ second ∷ third ∷ fourth ∷ [])
    × (skip_list_after 5050 own before ≡ own ∷ first ∷ third ∷ fourth ∷ [])
    × (skip_list_after 55050 own before ≡ own ∷ first ∷ second ∷ fourth ∷ [])
    × (skip_list_after 555050 own before ≡ own ∷ first ∷ second ∷ third ∷ [])
skip_lists_take_a_hash_every_fifty_ledgers own first second third fourth = (refl, refl, refl, refl, refl, refl)

-- ---- upgrades

abbrev answer_of : (bad out : Option ℕ) → Result (Unit {0}) UpgradeFault
answer_of (Some index) out = Err (Bad index)
answer_of None (Some index) = Err (OutOfProfile index)
answer_of None None = Ok tt

-- what a list of upgrades is answered
abbrev answer : LedgerHeader → List (Option LedgerUpgrade) → Result (Unit {0}) UpgradeFault
answer header asked =
    answer_of (first_index (is_bad_at asked) asked)
    (first_index (λ i. is_out_of_profile header (slice_get asked i)) asked)

-- by the contract of apply_upgrades
upgrades_answer : (asked : List (Option LedgerUpgrade)) (old new : LedgerHeader)
    (result : Result (Unit {0}) UpgradeFault) → IsUpgraded asked old new result → result ≡ answer old asked
upgrades_answer asked old new (Ok done) (none_bad, none_out, upgraded) =
    sym (ap (λ bad. answer_of bad (first_index (λ i. is_out_of_profile old (slice_get asked i)) asked)) none_bad
    ∙ ap (answer_of None) none_out)
upgrades_answer asked old new (Err (Bad index)) (some_bad, stays) =
    sym (ap (λ bad. answer_of bad (first_index (λ i. is_out_of_profile old (slice_get asked i)) asked)) some_bad)
upgrades_answer asked old new (Err (OutOfProfile index)) (none_bad, some_out, stays) =
    sym (ap (λ bad. answer_of bad (first_index (λ i. is_out_of_profile old (slice_get asked i)) asked)) none_bad
    ∙ ap (answer_of None) some_out)

-- two upgrades, each a type and a number
abbrev two : (first second : List ℕ) → List (Option LedgerUpgrade)
two first second = upgrade_in first ∷ upgrade_in second ∷ []

-- a header of a version
abbrev of_version : (version : ℕ) → LedgerHeader → LedgerHeader
of_version version header = record header { ledger_version = version }

-- the versions 19 and 20, a base fee of 200 and of 0, a set of 50 transactions at most
upgrades_are_judged_by_their_types_and_values : (header : LedgerHeader)
    → (answer (of_version 18 header) (two (hex "0000000100000013") (hex "00000002000000c8")) ≡ Ok tt)
    × (answer (of_version 19 header) (two (hex "0000000100000013") (hex "00000002000000c8")) ≡ Err (OutOfProfile 0))
    × (answer (of_version 18 header) (two (hex "0000000100000014") (hex "00000002000000c8")) ≡ Err (OutOfProfile 0))
    × (answer header (two (hex "00000002000000c8") (hex "0000000100000013")) ≡ Err (Bad 1))
    × (answer header (two (hex "0000000300000032") (hex "00000002000000c8")) ≡ Err (Bad 1))
    × (answer header (two (hex "0000000200000000") (hex "0000000300000032")) ≡ Err (Bad 0))
unfolding ledger_upgrade u32 i32 hex
upgrades_are_judged_by_their_types_and_values header = (refl, refl, refl, refl, refl, refl)

-- the flags 7
flags_add_an_extension : (header : LedgerHeader)
    → (answer header (upgrade_in (hex "0000000500000007") ∷ []) ≡ Ok tt)
    × (all_upgraded header (upgrade_in (hex "0000000500000007") ∷ []) ≡ record header {
      ext = Some (record { flags = 7 });
    })
unfolding ledger_upgrade u32 i32 hex
flags_add_an_extension header = (refl, refl)

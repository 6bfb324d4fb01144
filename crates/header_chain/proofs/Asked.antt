-- What is asked for at an index of a list.
use Rattle.header_chain.proofs.Prelude.{◌≡◌, ℕ, ◌+◌, ◌<◌, Bool, false, List, length, map, get_or, Option, Some}
use Rattle.header_chain.proofs.Prelude.{option_map, refl, sym, ap, ◌∙◌, arith, slice_get, upgrade_in, type_at}
use Rattle.header_chain.proofs.Prelude.{is_bad_after, type_before, is_bad_at, is_out_of_profile, add-one}
use Rattle.std.proofs.lemmas.Option.{slice_get-map, slice_get_read}
use Rattle.ledger_types.specs.declared.header.LedgerHeader.{LedgerHeader}
use Rattle.ledger_types.specs.declared.header.LedgerUpgrade.{LedgerUpgrade}

asked_at : (texts : List (List ℕ)) (i : ℕ) (bytes : List ℕ) → i < length texts → bytes ≡ get_or texts i bytes
    → slice_get (map upgrade_in texts) i ≡ Some (upgrade_in bytes)
asked_at texts i bytes within e =
    slice_get-map upgrade_in texts i
    ∙ ap (option_map upgrade_in) (slice_get_read texts (length texts) i bytes refl within e)

pub not_bad : (texts : List (List ℕ)) (i : ℕ) (bytes : List ℕ) (before : ℕ) (asked : Option LedgerUpgrade) (bad : Bool)
    → i < length texts → bytes ≡ get_or texts i bytes → before ≡ type_before (map upgrade_in texts) i
    → asked ≡ upgrade_in bytes → bad ≡ is_bad_after before (Some asked) → bad ≡ false
    → is_bad_at (map upgrade_in texts) i ≡ false
not_bad texts i bytes before asked bad within e was reads is fails =
    ap (is_bad_after (type_before (map upgrade_in texts) i)) (asked_at texts i bytes within e ∙ ap Some (sym reads))
    ∙ ap (λ (t : ℕ). is_bad_after t (Some asked)) (sym was) ∙ sym is ∙ fails

pub next_type : (texts : List (List ℕ)) (i : ℕ) (bytes : List ℕ) (asked : Option LedgerUpgrade) (written : ℕ)
    → i < length texts → bytes ≡ get_or texts i bytes → asked ≡ upgrade_in bytes → written ≡ type_at (Some asked)
    → written ≡ type_before (map upgrade_in texts) (i + 1)
next_type texts i bytes asked written within e reads is =
    is ∙ ap type_at (ap Some reads ∙ sym (asked_at texts i bytes within e))
    ∙ ap (type_before (map upgrade_in texts)) (sym (add-one i))

pub not_out : (header : LedgerHeader) (texts : List (List ℕ)) (i : ℕ) (bytes : List ℕ) (asked : Option LedgerUpgrade)
    (out : Bool) → i < length texts → bytes ≡ get_or texts i bytes → asked ≡ upgrade_in bytes
    → out ≡ is_out_of_profile header (Some asked) → out ≡ false
    → is_out_of_profile header (slice_get (map upgrade_in texts) i) ≡ false
not_out header texts i bytes asked out within e reads is fails =
    ap (is_out_of_profile header) (asked_at texts i bytes within e ∙ ap Some (sym reads)) ∙ sym is ∙ fails

pub within_map : (texts : List (List ℕ)) (i n : ℕ) → i < length texts → n ≡ length texts → i < n
within_map texts i n within same = omega arith

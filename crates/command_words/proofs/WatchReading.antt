-- What `clap` reads of words that ask something of `watch`: each option has its value.
use Rattle.command_words.proofs.Prelude.{◌≡◌, ◌<◌, ◌^◌, ◌∙◌, refl, sym, subst, inl, inr, arith, true, List, [], ◌++◌}
use Rattle.command_words.proofs.Prelude.{codes, Row, Text, any_u32}
use Rattle.std.specs.Prelude.{fold}
use Rattle.clap.specs.Simple.{is_simple}
use Rattle.clap.specs.Walk.{with_default}
use Rattle.command_words.specs.Parser.{watch_app}
use Rattle.command_words.specs.WatchWords.{Watch, ParsesWatch}
use Rattle.command_words.specs.WatchOptions.{IsKeyText}
use Rattle.command_words.specs.WatchFound.{FindsWatch}
use Rattle.command_words.proofs.Forms.{form_of}
use Rattle.command_words.proofs.Reading.{number_taken, number_finds}
use Rattle.command_words.proofs.WatchTexts.{key_in}
use Rattle.command_words.proofs.WatchWalk.{IsWatchRead, account, network, passes_once, readers, rules, three_read}
use Rattle.command_words.proofs.WatchWalk.{with_option}

pub is_simple_watch : is_simple (watch_app any_u32) ≡ true
is_simple_watch = refl

abbrev pub WatchReads : List Text → Watch → Type 0
WatchReads words asked = (rows : List Row) × IsWatchRead any_u32 words rows × FindsWatch asked rows

in_turn : (a a' b b' c c' : List Text) → a ≡ a' → b ≡ b' → c ≡ c' → a ++ b ++ c ≡ a' ++ b' ++ c'
in_turn a a' b b' c c' e f g = λ i. e i ++ f i ++ g i

pub watch_read : (words : List Text) (asked : Watch) → ParsesWatch words asked → WatchReads words asked
watch_read words asked p =
    let few : asked.readers < 2 ^ 32 = let most = p.few in omega arith in
    let digits = p.account.digits in
    let value = p.readers.value in
    let key : IsKeyText asked.account digits = key_in words asked p in
    let n = form_of (codes "network") asked.passphrase p.network_words p.network in
    let a = form_of (codes "account") digits p.account_words p.account.option in
    let r = form_of (codes "readers") value p.readers_words p.readers.option in
    let accepted = (number_taken (codes "readers") asked.readers p.readers_words p.readers few).accepted in
    let finds = number_finds (codes "readers") asked.readers p.readers_words p.readers few in
    elim p.any [
      | inl e ↦
          let one = with_option any_u32 network asked.passphrase [] in
          let two = with_option any_u32 account digits one in
          let all = fold with_default (with_option any_u32 readers value two) (rules any_u32) in
          let read = three_read any_u32 network account readers n.0 a.0 r.0 asked.passphrase digits value n.2 a.2 r.2
          (passes_once any_u32 network asked.passphrase [] tt refl) (passes_once any_u32 account digits one tt refl)
          (passes_once any_u32 readers value two accepted refl) in
          subst (λ ws. WatchReads ws asked) (sym (e ∙ in_turn _ _ _ _ _ _ n.1 a.1 r.1))
          (all, read, (refl, (digits, refl, key), finds all refl))
      | inr (inl e) ↦
          let one = with_option any_u32 network asked.passphrase [] in
          let two = with_option any_u32 readers value one in
          let all = fold with_default (with_option any_u32 account digits two) (rules any_u32) in
          let read = three_read any_u32 network readers account n.0 r.0 a.0 asked.passphrase value digits n.2 r.2 a.2
          (passes_once any_u32 network asked.passphrase [] tt refl)
          (passes_once any_u32 readers value one accepted refl)
          (passes_once any_u32 account digits two tt refl) in
          subst (λ ws. WatchReads ws asked) (sym (e ∙ in_turn _ _ _ _ _ _ n.1 r.1 a.1))
          (all, read, (refl, (digits, refl, key), finds all refl))
      | inr (inr (inl e)) ↦
          let one = with_option any_u32 account digits [] in
          let two = with_option any_u32 network asked.passphrase one in
          let all = fold with_default (with_option any_u32 readers value two) (rules any_u32) in
          let read = three_read any_u32 account network readers a.0 n.0 r.0 digits asked.passphrase value a.2 n.2 r.2
          (passes_once any_u32 account digits [] tt refl) (passes_once any_u32 network asked.passphrase one tt refl)
          (passes_once any_u32 readers value two accepted refl) in
          subst (λ ws. WatchReads ws asked) (sym (e ∙ in_turn _ _ _ _ _ _ a.1 n.1 r.1))
          (all, read, (refl, (digits, refl, key), finds all refl))
      | inr (inr (inr (inl e))) ↦
          let one = with_option any_u32 account digits [] in
          let two = with_option any_u32 readers value one in
          let all = fold with_default (with_option any_u32 network asked.passphrase two) (rules any_u32) in
          let read = three_read any_u32 account readers network a.0 r.0 n.0 digits value asked.passphrase a.2 r.2 n.2
          (passes_once any_u32 account digits [] tt refl) (passes_once any_u32 readers value one accepted refl)
          (passes_once any_u32 network asked.passphrase two tt refl) in
          subst (λ ws. WatchReads ws asked) (sym (e ∙ in_turn _ _ _ _ _ _ a.1 r.1 n.1))
          (all, read, (refl, (digits, refl, key), finds all refl))
      | inr (inr (inr (inr (inl e)))) ↦
          let one = with_option any_u32 readers value [] in
          let two = with_option any_u32 network asked.passphrase one in
          let all = fold with_default (with_option any_u32 account digits two) (rules any_u32) in
          let read = three_read any_u32 readers network account r.0 n.0 a.0 value asked.passphrase digits r.2 n.2 a.2
          (passes_once any_u32 readers value [] accepted refl)
          (passes_once any_u32 network asked.passphrase one tt refl)
          (passes_once any_u32 account digits two tt refl) in
          subst (λ ws. WatchReads ws asked) (sym (e ∙ in_turn _ _ _ _ _ _ r.1 n.1 a.1))
          (all, read, (refl, (digits, refl, key), finds all refl))
      | inr (inr (inr (inr (inr e)))) ↦
          let one = with_option any_u32 readers value [] in
          let two = with_option any_u32 account digits one in
          let all = fold with_default (with_option any_u32 network asked.passphrase two) (rules any_u32) in
          let read = three_read any_u32 readers account network r.0 a.0 n.0 value digits asked.passphrase r.2 a.2 n.2
          (passes_once any_u32 readers value [] accepted refl) (passes_once any_u32 account digits one tt refl)
          (passes_once any_u32 network asked.passphrase two tt refl) in
          subst (λ ws. WatchReads ws asked) (sym (e ∙ in_turn _ _ _ _ _ _ r.1 a.1 n.1))
          (all, read, (refl, (digits, refl, key), finds all refl))
    ]

-- What is asked of `watch`, and the texts of its options.
use Rattle.command_words.proofs.Prelude.{◌≡◌, ◌∙◌, ℕ, ap, refl, sym, List, Result, Ok, Err, Bool, IsTrue, true≢false}
use Rattle.command_words.proofs.Prelude.{arith, length, codes, digits_value, []}
use Rattle.std.proofs.Common.{◌*◌}
use Rattle.std.specs.Result.{is_ok, result_unwrap_or}
use Rattle.hex.specs.Hex.{decode_of, decode_sized}
use Rattle.hex.specs.declared.error.FromHexError.{FromHexError}
use Rattle.hex.proofs.HexLemmas.{decode_of-ok, decode_sized-ok, decode_sized-twice}
use Rattle.command_words.specs.WatchWords.{Watch, ParsesWatch, WatchesAreOne}
use Rattle.command_words.specs.WatchOptions.{AreWatchTexts, IsCountText, IsKeyText}
use Rattle.command_words.proofs.Ordered.{DifferAll, three_one}

-- ---- keys

pub key_sized : (text key : List ℕ) → IsKeyText key text → decode_sized text 32 ≡ Ok key
key_sized text key h =
    let long = (decode_of-ok text key h.0).2 in
    let len : length text ≡ 2 * 32 = long ∙ ap (λ n. 2 * n) h.1 in
    decode_sized-twice text 32 len ∙ h.0

sized_key : (text key : List ℕ) → decode_sized text 32 ≡ Ok key → IsKeyText key text
sized_key text key h =
    let len = decode_sized-ok text 32 key h in
    let decodes = sym (decode_sized-twice text 32 len) ∙ h in
    let long = (decode_of-ok text key decodes).2 in
    (decodes, omega (arith, len, long))

pub key_iff : (text : List ℕ) (r : Result (List ℕ) FromHexError) (b : Bool) → r ≡ decode_sized text 32 → b ≡ is_ok r
    → (IsTrue b → (key : List ℕ) × IsKeyText key text) × (((key : List ℕ) × IsKeyText key text) → IsTrue b)
key_iff text (Ok key) b e is = ((λ t. (key, sized_key text key (sym e))), (λ it. is))
key_iff text (Err wrong) b e is = (
  (λ t. absurd (true≢false (sym t ∙ is))),
  (λ it. absurd (let bad = e ∙ key_sized text it.0 it.1 in cc)),
)

ok_of : Result (List ℕ) FromHexError → List ℕ
ok_of r = result_unwrap_or r []

-- ---- what is asked

pub asked_by : (network account readers key : List ℕ) (number : ℕ) (words : List (List ℕ))
    → AreWatchTexts network account readers words → IsKeyText key account → IsCountText number readers
    → ParsesWatch words (record { passphrase = network; account = key; readers = number })
asked_by network account readers key number words (a, b, c, one, two, three, any) is count = record {
  network_words = a;
  network = one;
  account_words = b;
  account = record { digits = account; option = two; is = is.0; len = is.1 };
  readers_words = c;
  readers = record { value = readers; option = three; numeral = count.0; short = count.1; is = count.2 };
  some = count.3;
  few = count.4;
  any = any;
}

pub texts_in : (words : List (List ℕ)) (asked : Watch) (p : ParsesWatch words asked)
    → AreWatchTexts asked.passphrase p.account.digits p.readers.value words
texts_in words asked p =
    (p.network_words, p.account_words, p.readers_words, p.network, p.account.option, p.readers.option, p.any)

pub key_in : (words : List (List ℕ)) (asked : Watch) (p : ParsesWatch words asked)
    → IsKeyText asked.account p.account.digits
key_in words asked p = (p.account.is, p.account.len)

pub count_in : (words : List (List ℕ)) (asked : Watch) (p : ParsesWatch words asked)
    → IsCountText asked.readers p.readers.value
count_in words asked p = (p.readers.numeral, p.readers.short, p.readers.is, p.some, p.few)

-- ---- they are one

differ_all : DifferAll (codes "network") (codes "account") (codes "readers")
differ_all = record {
  nm = λ a b. refl;
  mn = λ a b. refl;
  nk = λ a b. refl;
  kn = λ a b. refl;
  mk = λ a b. refl;
  km = λ a b. refl;
}

pub texts_one : (n n' a a' r r' : List ℕ) (words : List (List ℕ)) → AreWatchTexts n a r words
    → AreWatchTexts n' a' r' words → (n ≡ n') × (a ≡ a') × (r ≡ r')
texts_one n n' a a' r r' words one other =
    three_one (codes "network") n n' (codes "account") a a' (codes "readers") r r' words differ_all one other

key_of : List ℕ → List ℕ
key_of text = ok_of (decode_of text)

pub watches_are_one : WatchesAreOne
unfolding key_of ok_of
watches_are_one words one other p q =
    let same = texts_one one.passphrase other.passphrase p.account.digits q.account.digits p.readers.value
    q.readers.value words (texts_in words one p) (texts_in words other q) in
    let keys : one.account ≡ other.account =
    ap ok_of (sym p.account.is) ∙ ap key_of same.1 ∙ ap ok_of q.account.is in
    let counts : one.readers ≡ other.readers =
    p.readers.is ∙ ap (λ t. digits_value 10 t) same.2 ∙ sym q.readers.is in
    λ i. record { passphrase = same.0 i; account = keys i; readers = counts i }

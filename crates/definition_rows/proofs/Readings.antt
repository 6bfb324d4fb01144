-- What reading makes of bytes, as truths that rows are made of.
use Rattle.definition_rows.proofs.Prelude.{◌≡◌, refl, ℕ, Bool, true, false, ◌&&◌, List, Ok, Err, arith, nat_eq}
use Rattle.definition_rows.proofs.Prelude.{eqb-true, XdrFault, XdrKind, Short, Padding, BadEnum, BadFlag, TooLong}
use Rattle.definition_rows.proofs.Prelude.{BadMark, Trailing, TooDeep, Reading, start_of, IsBytes, Lawful, Xdr}
use Rattle.std.proofs.Common.{length, ◌++◌}
use Rattle.std.specs.Prelude.{bytes_eq}

-- the kinds of faults, numbered
abbrev pub kind_number : XdrKind → ℕ
kind_number Short = 0
kind_number Padding = 1
kind_number BadEnum = 2
kind_number BadFlag = 3
kind_number TooLong = 4
kind_number BadMark = 5
kind_number Trailing = 6
kind_number TooDeep = 7

-- The bytes are the value's encoding.
unfoldable pub is_encoding : {V : Type 0} → Xdr V → V → List ℕ → Bool
is_encoding format value bytes = bytes_eq (format.encoding value) bytes

-- a value was read, and the offset after it is n
abbrev pub is_value : {V : Type 0} → ℕ → Reading XdrFault V → Bool
is_value n (Ok read) = nat_eq read.1.at n
is_value n (Err fault) = false

-- a fault of the kind was met at the offset
abbrev pub is_fault : {V : Type 0} → XdrKind → ℕ → Reading XdrFault V → Bool
is_fault kind offset (Ok read) = false
is_fault kind offset (Err fault) = nat_eq (kind_number fault.kind) (kind_number kind) && nat_eq fault.at offset

-- The bytes begin with the encoding of a value, which has n bytes.
unfoldable pub has_value : {V : Type 0} → Xdr V → ℕ → List ℕ → Bool
has_value format n bytes = is_value n (format.read (start_of bytes))

-- Reading the bytes meets a fault of this kind at this offset.
unfoldable pub has_fault : {V : Type 0} → Xdr V → XdrKind → ℕ → List ℕ → Bool
has_fault format kind offset bytes = is_fault kind offset (format.read (start_of bytes))

-- ---- what a row of `has_value` says of the value

-- The first n bytes are the encoding of a value.
pub record BeginsWithEncoding {V : Type 0} (format : Xdr V) (n : ℕ) (bytes : List ℕ) : Type 0 where
  pub value : V
  pub rest : List ℕ
  pub prefix : bytes ≡ format.encoding value ++ rest
  pub len : length (format.encoding value) ≡ n

encoded_as : {V : Type 0} (format : Xdr V) → Lawful format → (n : ℕ) (bytes : List ℕ) → IsBytes bytes
    → (reading : Reading XdrFault V) → format.read (start_of bytes) ≡ reading → is_value n reading ≡ true
    → BeginsWithEncoding format n bytes
encoded_as format lawful n bytes are (Ok (v, q)) read ends =
    let taken = (lawful.takes (start_of bytes) q v are read).taken in
    let at : q.at ≡ n = eqb-true q.at n ends in
    let len : length (format.encoding v) ≡ n = omega (arith, taken.at, at) in
    record { value = v; rest = q.rest; prefix = taken.parts; len = len }
encoded_as format lawful n bytes are (Err fault) read ends = absurd (cc)

-- Of a lawful format.
pub encoded : {V : Type 0} (format : Xdr V) → Lawful format → (n : ℕ) (bytes : List ℕ) → IsBytes bytes
    → has_value format n bytes ≡ true → BeginsWithEncoding format n bytes
unfolding has_value
encoded format lawful n bytes are row =
    encoded_as format lawful n bytes are (format.read (start_of bytes)) refl row

-- A text in base64 can be in a line.
use Rattle.base64.proofs.Tables.{are_tables_alphabet, is_alphabet_printable}
use Rattle.base64.specs.{Engines.standard, GeneralPurpose.{IsBytes, encode_of}}
use Rattle.base64.specs.{Rfc4648.{encode_symbols, padding_len}, Tables.is_printable}
use Rattle.irc_line.specs.{Line.is_line_byte, Writing.is_clean}
use Rattle.std.proofs.Common.{List, [], arith, drop, length, refl, suc, true, zero, ℕ, ◌%◌, ◌*◌, ◌+◌, ◌/◌}
use Rattle.std.proofs.Common.{◌<◌, ◌∷◌, ◌≡◌}
use Rattle.std.proofs.Common.{take}
use Rattle.std.proofs.lemmas.{Bool.{Decides.nat_tests, and_parts}, List.Folds.list_all-append}
use Rattle.std.specs.Prelude.{replicate, slice_index}

printable_is_clean : (b : ℕ) → is_printable b ≡ true → is_line_byte b ≡ true
printable_is_clean b h = grind (arith, nat_tests)

-- the symbols of some bytes
module _ (t : List ℕ) (each : (i : ℕ) → i < 64 → is_line_byte (slice_index t i) ≡ true) where
  clean_symbols : (m : List ℕ) → IsBytes m → is_clean (encode_symbols t m) ≡ true
  unfolding encode_symbols
  clean_symbols [] h = refl
  clean_symbols (a ∷ []) h =
      let p : a < 256 = h 0 in
      rw (each (a / 4) (omega arith), each (a % 4 * 16) (omega arith))
  clean_symbols (a ∷ b ∷ []) h =
      let p : a < 256 = h 0 in
      let q : b < 256 = h 1 in
      rw (
        each (a / 4) (omega arith),
        each (a % 4 * 16 + b / 16) (omega arith),
        each (b % 16 * 4) (omega arith),
      )
  clean_symbols (a ∷ b ∷ c ∷ rest) h =
      let p : a < 256 = h 0 in
      let q : b < 256 = h 1 in
      let r : c < 256 = h 2 in
      rw (
        each (a / 4) (omega arith),
        each (a % 4 * 16 + b / 16) (omega arith),
        each (b % 16 * 4 + c / 64) (omega arith),
        each (c % 64) (omega arith),
        clean_symbols rest (λ i. h (suc (suc (suc i)))),
      )

clean_padding : (n : ℕ) → is_clean (replicate n 61) ≡ true
clean_padding zero = refl
clean_padding (suc n) = clean_padding n

standard_symbol : (i : ℕ) → i < 64 → is_line_byte (slice_index standard.encode_table i) ≡ true
standard_symbol i within =
    printable_is_clean (slice_index standard.encode_table i)
    (is_alphabet_printable standard.encode_table 61 i
    (are_tables_alphabet standard.encode_table standard.decode_table 61 standard.tables) within)

-- a part of what is clean
pub clean_drop : (k : ℕ) (text : List ℕ) → is_clean text ≡ true → is_clean (drop k text) ≡ true
clean_drop zero text h = h
clean_drop (suc k) [] h = refl
clean_drop (suc k) (b ∷ bs) h = clean_drop k bs (and_parts (is_line_byte b) _ h).1

pub clean_take : (k : ℕ) (text : List ℕ) → is_clean text ≡ true → is_clean (take k text) ≡ true
clean_take zero text h = refl
clean_take (suc k) [] h = refl
clean_take (suc k) (b ∷ bs) h =
    let p = and_parts (is_line_byte b) _ h in
    rw (p.0, clean_take k bs p.1)

pub base64_is_clean : (m : List ℕ) → IsBytes m → is_clean (encode_of standard m) ≡ true
base64_is_clean m h =
    rw (
      list_all-append is_line_byte (encode_symbols standard.encode_table m)
          (replicate (padding_len (length m)) 61),
      clean_symbols standard.encode_table standard_symbol m h,
      clean_padding (padding_len (length m)),
    )

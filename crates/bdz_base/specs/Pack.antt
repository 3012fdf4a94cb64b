-- Words of a width, packed low bits first. The table is one number: the words are its digits in base 2^width, and the bytes
-- its digits in base 2^8. Assumes nothing.
use Rattle.std.specs.Prelude.{◌≡◌, ℕ, zero, suc, ◌+◌, ◌*◌, ◌/◌, ◌%◌, ◌^◌, min, ◌||◌, List, [], ◌∷◌, length, ◌==◌, nat_lt}
use Rattle.bdz_base.specs.Buffer.{written}
use Rattle.bdz_base.specs.Refusal.{refuse}
use Rattle.bdz_base.specs.Sizes.{table_bytes}

-- the number whose digits in base 2^w, lowest first, are the words; "A word wider than the width is masked"
unfoldable pub value_of : ℕ → List ℕ → ℕ
value_of w [] = 0
value_of w (x ∷ xs) = value_of w xs * 2 ^ w + x % 2 ^ w

-- the n lowest bytes of a number, lowest first: "All fields little-endian"
unfoldable pub bytes_of : ℕ → ℕ → List ℕ
bytes_of zero v = []
bytes_of (suc n) v = v % 2 ^ 8 ∷ bytes_of n (v / 2 ^ 8)

-- "the table, low bits first, last byte padded with zeros"
unfoldable pub pack_of : ℕ → List ℕ → List ℕ
pack_of w xs = bytes_of (table_bytes w (length xs)) (value_of w xs)

-- k bits of a number, from the bit s on
abbrev pub bits : ℕ → ℕ → ℕ → ℕ
bits number s k = number / 2 ^ s % 2 ^ k

-- k bits of a table's bytes, from the bit s on; a byte that is not there counts as 0
unfoldable pub bits_at : ℕ → List ℕ → ℕ → ℕ
bits_at k bytes s = bits (value_of 8 bytes) s k

-- the word at v of a table's bytes; no word has over 32 bits
unfoldable pub word_at : ℕ → List ℕ → ℕ → ℕ
word_at w bytes v = bits_at (min w 32) bytes (v * w)

-- ---- the packer

-- "10 (width 0 or over 32)"; 14 "a lent buffer is shorter than its stated need"
unfoldable pub pack_no : ℕ → List ℕ → List ℕ → ℕ
pack_no w words body =
    refuse 10 (w == 0 || nat_lt 32 w)
    (refuse 14 (nat_lt (length body) (table_bytes w (length words)))
    0)

unfoldable pub after_pack : ℕ → List ℕ → List ℕ → List ℕ
after_pack w words body = written (pack_no w words body) (pack_of w words) body

-- the packer's whole promise: its number, and the body afterwards
pub record Packed (w : ℕ) (words body : List ℕ) (number : ℕ) (after : List ℕ) : Type 0 where
  pub number_is : number ≡ pack_no w words body
  pub after_is : after ≡ after_pack w words body

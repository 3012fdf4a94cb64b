-- The pages of a packed table, and what a slot holds once some of them have come. Assumes nothing.
use Rattle.bdz_table.specs.Graph.{has}
use Rattle.bdz_base.specs.Pages.{first_page}
use Rattle.std.specs.Prelude.{cond, Bool, List, [], ◌∷◌, ℕ, ◌+◌, ◌-◌, ◌*◌, ◌/◌, ◌%◌, ◌^◌, min, eqb, take, drop}
use Rattle.bdz_base.specs.Pack.{bits_at}

-- ---- pages: 4,096 bytes, 32,768 bits

-- the bytes of a page of a body
unfoldable pub page_of : List ℕ → ℕ → List ℕ
page_of body p = take 4096 (drop (p * 4096) body)

-- the page in which the word at v begins, and how many of its bits lie there; the others lie in the next
abbrev pub at_of : ℕ → ℕ → ℕ
at_of w v = v * w % 32768

abbrev pub cut_of : ℕ → ℕ → ℕ
cut_of w v = min w (32768 - v * w % 32768)

-- its bits
abbrev pub word_in : ℕ → List ℕ → ℕ → ℕ
word_in w body v = bits_at w body (v * w)

-- ---- a slot: the word so far, and above it, from bit 32 on, the bits still missing

abbrev pub slot : ℕ → ℕ → ℕ
slot missing word = missing * 2 ^ 32 + word

-- the k lowest bits of old, or those above, replaced by x
abbrev pub put_low : ℕ → ℕ → ℕ → ℕ
put_low old x k = old / 2 ^ k * 2 ^ k + x

abbrev pub put_high : ℕ → ℕ → ℕ → ℕ
put_high old x k = x * 2 ^ k + old % 2 ^ k

-- a slot after the k lowest bits of its word came, which these bytes have from the bit `at` on
abbrev pub taken_bits : ℕ → List ℕ → ℕ → ℕ → ℕ
taken_bits k bytes at s = slot (put_low (s / 2 ^ 32) 0 k) (put_low (s % 2 ^ 32) (bits_at k bytes at) k)

-- a slot of the word at v, after page p came with these bytes
unfoldable pub taken_low : ℕ → List ℕ → ℕ → ℕ → ℕ
taken_low w bytes v s = taken_bits (cut_of w v) bytes (at_of w v) s

unfoldable pub taken_high : ℕ → List ℕ → ℕ → ℕ → ℕ
taken_high w bytes v s =
    slot (put_high (s / 2 ^ 32) 0 (cut_of w v)) (put_high (s % 2 ^ 32) (bits_at (w - cut_of w v) bytes 0) (cut_of w v))

unfoldable pub taken_of : ℕ → ℕ → List ℕ → ℕ → ℕ → ℕ
taken_of w p bytes v s = cond (eqb p (first_page w v)) (taken_low w bytes v s) (cond (eqb p (first_page w v + 1)) (taken_high w bytes v s) s)

-- ---- what it holds, told by whether the first page came and whether the next did

unfoldable pub so_far : ℕ → ℕ → Bool → Bool → ℕ
so_far cut word s t = cond t (word / 2 ^ cut) 0 * 2 ^ cut + cond s (word % 2 ^ cut) 0

unfoldable pub missing_of : ℕ → ℕ → Bool → Bool → ℕ
missing_of w cut s t = cond t 0 (2 ^ (w - cut) - 1) * 2 ^ cut + cond s 0 (2 ^ cut - 1)

-- the slot of the word at v of a body, where `given` tells the pages that came
unfoldable pub slot_of : ℕ → List ℕ → (ℕ → Bool) → ℕ → ℕ
slot_of w body given v =
    slot (missing_of w (cut_of w v) (given (first_page w v)) (given (first_page w v + 1)))
    (so_far (cut_of w v) (word_in w body v) (given (first_page w v)) (given (first_page w v + 1)))

-- whether a page is in a list
abbrev pub among : List ℕ → ℕ → Bool
among ps p = has p ps

-- a slot after pages of a body came, the last of the list first
unfoldable pub fed : ℕ → List ℕ → ℕ → List ℕ → ℕ → ℕ
fed w body v [] s = s
fed w body v (p ∷ ps) s = taken_of w p (page_of body p) v (fed w body v ps s)

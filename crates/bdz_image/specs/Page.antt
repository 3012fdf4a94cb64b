-- What a feed answers to a page. Assumes nothing.
use Rattle.bdz_base.specs.Pages.{first_page}
use Rattle.std.specs.Prelude.{cond, List, ℕ, ◌+◌, ◌-◌, ◌*◌, ◌/◌, ◌%◌, ◌^◌, min, eqb, ltb, length, get_or, drop}
use Rattle.bdz_base.specs.Sizes.{table_bytes}
use Rattle.bdz_image.specs.Feed.{cut_of}
use Rattle.bdz_image.specs.Sweep.{vertex_in, slot_in, place_of, sweep_of}

-- the bits of page p that a slot of the word at v still misses
unfoldable pub missing_in : ℕ → ℕ → ℕ → ℕ → ℕ
missing_in w p v s = cond (eqb p (first_page w v)) (s / 2 ^ 32 % 2 ^ cut_of w v) (cond (eqb p (first_page w v + 1)) (s / 2 ^ 32 / 2 ^ cut_of w v) 0)

-- "Pages are 4,096 bytes of the packed table; the last has what is left": how many bytes page p of so many has
abbrev pub page_length : ℕ → ℕ → ℕ
page_length bytes p = min 4096 (bytes - p * 4096)

abbrev pub need_of : ℕ → ℕ → ℕ → ℕ
need_of w m p = page_length (table_bytes w m) p

abbrev pub from_at : ℕ → ℕ → List ℕ → ℕ
from_at w p order = place_of (length order) order (p * 32768 / w) 0 (length order)

-- 15: no word has bits in the page. 16: its bits are no longer missing. 17: wrong length
unfoldable pub entry_no : ℕ → ℕ → ℕ → ℕ → List ℕ → ℕ → ℕ
entry_no w m p len slots e =
    cond (ltb (vertex_in e * w) ((p + 1) * 32768))
    (cond (eqb (missing_in w p (vertex_in e) (get_or slots (slot_in e) 0)) 0) 16 (cond (eqb len (need_of w m p)) 0 17)) 15

unfoldable pub page_no : ℕ → ℕ → ℕ → ℕ → List ℕ → List ℕ → ℕ
page_no w m p len slots order = cond (ltb (from_at w p order) (length order)) (entry_no w m p len slots (get_or order (from_at w p order) 0)) 15

unfoldable pub page_slots : ℕ → ℕ → ℕ → List ℕ → List ℕ → List ℕ → List ℕ
page_slots w m p bytes slots order = cond (eqb (page_no w m p (length bytes) slots order) 0) (sweep_of w p bytes (drop (from_at w p order) order) slots) slots

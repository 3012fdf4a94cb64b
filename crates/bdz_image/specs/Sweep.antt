-- What a page does to the slots of its words. An entry of the order is a vertex, above bit 32, and the number of its slot below.
-- Assumes nothing.
use Rattle.std.specs.Prelude.{cond, List, [], ◌∷◌, ℕ, zero, suc, ◌+◌, ◌-◌, ◌*◌, ◌/◌, ◌%◌, ◌^◌, ltb, get_or, set}
use Rattle.bdz_image.specs.Feed.{taken_of}

abbrev pub vertex_in : ℕ → ℕ
vertex_in e = e / 2 ^ 32

abbrev pub slot_in : ℕ → ℕ
slot_in e = e % 2 ^ 32

-- the slot of one entry takes the page
unfoldable pub touch_of : ℕ → ℕ → List ℕ → ℕ → List ℕ → List ℕ
touch_of w p bytes e slots = set slots (slot_in e) (taken_of w p bytes (vertex_in e) (get_or slots (slot_in e) 0))

-- so do the slots of all entries up to the first whose word begins behind the page
unfoldable pub sweep_of : ℕ → ℕ → List ℕ → List ℕ → List ℕ → List ℕ
sweep_of w p bytes [] slots = slots
sweep_of w p bytes (e ∷ es) slots =
    cond (ltb (vertex_in e * w) ((p + 1) * 32768)) (sweep_of w p bytes es (touch_of w p bytes e slots)) slots

-- ---- the place of the first entry whose vertex is x or more, by halving

unfoldable pub place_of : ℕ → List ℕ → ℕ → ℕ → ℕ → ℕ
place_of zero es x lo hi = lo
place_of (suc k) es x lo hi =
    cond (ltb lo hi)
    (cond (ltb (vertex_in (get_or es (lo + (hi - lo) / 2) 0)) x) (place_of k es x (lo + (hi - lo) / 2 + 1) hi) (place_of k es x lo (lo + (hi - lo) / 2))) lo

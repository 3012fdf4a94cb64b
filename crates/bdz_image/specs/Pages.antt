-- The pages that a feed lists. Assumes nothing.
use Rattle.std.specs.Prelude.{◌≡◌, cond, List, [], ◌∷◌, ◌++◌, ℕ, zero, suc, ◌+◌, ◌-◌, ◌*◌, ◌/◌, ◌%◌, ◌≤◌, ltb, length, get_or, take, drop, replicate}
use Rattle.bdz_image.specs.Sweep.{vertex_in}

-- of the words of an order's entries, the first page and the last, entry by entry
unfoldable pub own_page : ℕ → List ℕ → ℕ → ℕ
own_page w es i = (vertex_in (get_or es (i / 2) 0) * w + i % 2 * (w - 1)) / 32768

-- k numbers of a rising row from its i-th on, each once, those below next left out
unfoldable pub once_of : (ℕ → ℕ) → ℕ → ℕ → ℕ → List ℕ
once_of f zero i next = []
once_of f (suc k) i next = cond (ltb (f i) next) (once_of f k (i + 1) next) (f i ∷ once_of f k (i + 1) (f i + 1))

-- in the middle of n numbers of a row: `count` of them are listed, with zeros behind, and the others are those from the
-- i-th on that are not below next
pub record Listing (f : ℕ → ℕ) (n count next i : ℕ) (pages : List ℕ) : Type 0 where
  pub few : count ≤ i
  pub within : i ≤ n
  pub long : length pages ≡ n
  pub listed : take count pages ++ once_of f (n - i) i next ≡ once_of f n 0 0
  pub clear : drop count pages ≡ replicate (n - count) 0

unfoldable pub list_of : ℕ → List ℕ → List ℕ
list_of w es = once_of (own_page w es) (2 * length es) 0 0

-- a list, with zeros behind it up to n
abbrev pub padded : ℕ → List ℕ → List ℕ
padded n xs = xs ++ replicate (n - length xs) 0

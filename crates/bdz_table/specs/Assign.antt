-- The words of the table, assigned from the newest cut to the oldest: "Assign in reverse". Assumes nothing.
use Rattle.std.specs.Prelude.{◌≡◌, ℕ, ◌+◌, ◌-◌, ◌*◌, ◌/◌, ◌%◌, cond, List, [], ◌∷◌, nat_lt, slice_index, slice_set}
use Rattle.bdz_table.specs.Peel.{Cut}

-- "s sums the already assigned words of the key's vertices"; what is not assigned is 0
unfoldable pub sum_at : List ℕ → List ℕ → ℕ
sum_at g [] = 0
sum_at g (u ∷ us) = slice_index g u + sum_at g us

-- "word = (value + modulus - s mod modulus) mod modulus", and with 3 for the modulus and the part i for the value
-- "word = (i + 3 - s mod 3) mod 3"
unfoldable pub word_for : ℕ → ℕ → ℕ → ℕ
word_for modulus value s = (value + modulus - s % modulus) % modulus

-- each cut's vertex gets the word by which its key comes to the cut's value; "All else stays 0"
unfoldable pub assign : (ℕ → List ℕ) → ℕ → (Cut → ℕ) → List Cut → List ℕ → List ℕ
assign vs modulus val [] g = g
assign vs modulus val (p ∷ older) g =
    assign vs modulus val older (slice_set g p.at (word_for modulus (val p) (sum_at g (vs p.key))))

-- "i the vertex's part": which third of m it lies in
unfoldable pub part_of : ℕ → ℕ → ℕ
part_of m v = cond (nat_lt v (m / 3)) 0 (cond (nat_lt v (2 * (m / 3))) 1 2)

-- "sum mod 3 picks the vertex"
unfoldable pub looked : (ℕ → List ℕ) → ℕ → List ℕ → ℕ → ℕ
looked vs k g e = slice_index (vs e) (sum_at g (vs e) % k)

-- every cut's key comes to its value
unfoldable pub Sums : (ℕ → List ℕ) → ℕ → (Cut → ℕ) → List ℕ → List Cut → Type 0
Sums vs modulus val g [] = Unit {0}
Sums vs modulus val g (p ∷ ps) = (sum_at g (vs p.key) % modulus ≡ val p) × Sums vs modulus val g ps

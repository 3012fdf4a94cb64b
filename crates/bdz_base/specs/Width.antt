-- The width of a table's words. Assumes nothing.
use Rattle.std.specs.Prelude.{ℕ, zero, suc, ◌/◌}

-- how many bits n has, looking at k of them
unfoldable pub bits_of : ℕ → ℕ → ℕ
bits_of zero n = 0
bits_of (suc k) zero = 0
bits_of (suc k) (suc n) = suc (bits_of k (suc n / 2))

-- "Width is 1 for modulus up to 1, else the bits of modulus-1"
unfoldable pub width_of : ℕ → ℕ
width_of zero = 1
width_of (suc zero) = 1
width_of (suc (suc n)) = bits_of 32 (suc n)

-- How large the tables are. Assumes nothing.
use Rattle.std.specs.Prelude.{ℕ, ◌+◌, ◌-◌, ◌*◌, ◌/◌, max}

-- ceil(x/d)
abbrev pub ceil_div : ℕ → ℕ → ℕ
ceil_div x d = (x + (d - 1)) / d

-- "Assigned m = max(ceil(123n/100), n+3) for n of 2 or more"
unfoldable pub assigned_size : ℕ → ℕ
assigned_size n = max (ceil_div (123 * n) 100) (n + 3)

-- "Compact m is that, raised to a multiple of 3"
unfoldable pub compact_size : ℕ → ℕ
compact_size n = ceil_div (assigned_size n) 3 * 3

-- the bytes of m words of w bits, the "last byte padded"
abbrev pub table_bytes : ℕ → ℕ → ℕ
table_bytes w m = ceil_div (m * w) 8

-- "compact occupancy ceil(m/8) bytes"
abbrev pub occupancy_bytes : ℕ → ℕ
occupancy_bytes m = ceil_div m 8

-- "ceil(m/512)+1 super counts"
abbrev pub super_count : ℕ → ℕ
super_count m = ceil_div m 512 + 1

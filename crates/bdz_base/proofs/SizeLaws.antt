-- What the sizes are to one another, and the words that they fit. Assumes nothing.
use Rattle.std.proofs.Common.{◌≡◌, ℕ, ◌+◌, ◌*◌, ◌/◌, ◌^◌, ◌<◌, ◌≤◌, arith}
use Rattle.bdz_base.specs.Sizes.{assigned_size, compact_size}

-- more vertices than keys, and three at least
pub assigned_more : (n : ℕ) → n + 3 ≤ assigned_size n
unfolding assigned_size
assigned_more n = omega arith

-- for up to 2^30 keys the size fits 31 bits, raised to a multiple of 3 too
pub assigned_room : (n : ℕ) → n ≤ 2 ^ 30 → assigned_size n + 3 ≤ 2 ^ 31
unfolding assigned_size
assigned_room n h = omega arith

-- for every 32-bit n the size fits 64 bits
pub assigned_wide : (n : ℕ) → n < 2 ^ 32 → assigned_size n < 2 ^ 33
unfolding assigned_size
assigned_wide n h = omega arith

-- the compact size is the next multiple of 3
pub compact_thirds : (n : ℕ) → compact_size n / 3 * 3 ≡ compact_size n
unfolding compact_size
compact_thirds n = omega arith

pub compact_from_lem : (n : ℕ) → assigned_size n ≤ compact_size n
unfolding compact_size
compact_from_lem n = omega arith

pub compact_to : (n : ℕ) → compact_size n < assigned_size n + 3
unfolding compact_size
compact_to n = omega arith

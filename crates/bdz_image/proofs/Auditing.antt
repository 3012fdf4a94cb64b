-- The ones of an occupancy, counted in two halves. Assumes nothing.
use mathlib.Core.Path.{◌≡◌, ◌∙◌}
use mathlib.Core.List.{List}
use Prim.Native.Nat.{ℕ, ◌+◌, ◌*◌, ◌%◌, ◌^◌, ◌≤◌}
use native.Mathlib.Nat.{mod-eq_of_lt}
use native.Mathlib.Omega.{arith}
use Rattle.bdz_table.specs.Rank.{ones_below, ones_between}
use Rattle.bdz_table.proofs.Ones.{between_le}
use Rattle.bdz_table.proofs.Ranks.{below_none, below_add}

-- neither half has 2^32 ones, so neither count wraps
pub halves : (occ : List ℕ) (bytes : ℕ) {low high : ℕ} → bytes ≤ 2 ^ 29 → low ≡ ones_between occ 0 (bytes * 4) % 2 ^ 32 → high ≡ ones_between occ (bytes * 4) (bytes * 8) % 2 ^ 32 → low + high ≡ ones_below occ (bytes * 8)
halves occ bytes {low} {high} h p q =
    let a : low ≡ ones_between occ 0 (bytes * 4) = p ∙ mod-eq_of_lt (omega (arith, between_le occ 0 (bytes * 4))) in
    let b : high ≡ ones_between occ (bytes * 4) (bytes * 8) = q ∙ mod-eq_of_lt (omega (arith, between_le occ (bytes * 4) (bytes * 8))) in
    omega (arith, below_none occ, below_add occ 0 (bytes * 4) (omega arith), below_add occ (bytes * 4) (bytes * 8) (omega arith))

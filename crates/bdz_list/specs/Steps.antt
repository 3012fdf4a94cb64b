-- What the steps of the count promise one another of the lent bits. No public promise cites it. Assumes nothing.
use Rattle.std.specs.Prelude.{◌≡◌, Bool, not, cond, ◌&&◌, List, ℕ, eqb, ltb}
use Rattle.bdz_base.specs.Pack.{bits_at}
use Rattle.bdz_table.specs.Graph.{only_if}
use Rattle.bdz_table.specs.Occupancy.{with_bit}

-- x is below n, and its bit is not set yet
abbrev pub is_new : ℕ → ℕ → List ℕ → Bool
is_new n x seen = ltb x n && not (eqb (bits_at 1 seen x) 1)

-- it counts 1 and its bit is set, or it counts nothing
pub record Counted (n x : ℕ) (seen : List ℕ) (r : ℕ) (seen' : List ℕ) : Type 0 where
  pub count_is : r ≡ only_if (is_new n x seen) 1
  pub seen_is : seen' ≡ cond (is_new n x seen) (with_bit x seen) seen

-- The peel order's entries: "each an edge number with its vertex". Assumes nothing.
use Rattle.std.specs.Prelude.{ℕ, List, replicate}
use Rattle.bdz_table.specs.declared.pairs.Pair.{Pair}

abbrev pub pair_of : ℕ → ℕ → Pair
pair_of edge vert = record { edge = edge; vert = vert }

-- a pair of zeros
abbrev pub no_pair : Pair
no_pair = pair_of 0 0

-- the pairs that a build for at most 1,000 keys lends itself
abbrev pub own_pairs : List Pair
own_pairs = replicate 1000 no_pair

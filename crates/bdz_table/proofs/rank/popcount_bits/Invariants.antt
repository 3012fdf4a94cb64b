-- `bdz_table::rank::popcount_bits` meets its contract. Assumes nothing.
use Rattle.std.proofs.Common.{◌-◌}
use Rattle.bdz_table.proofs.Ones.{Walked}
use Rattle.bdz_table.proofs.rank.popcount_bits.Given as goal

abbrev pub invariant-loop-b : goal.invariant-loop-b
invariant-loop-b l = Walked l.occ l.lo l.end l.b l.n

abbrev pub decreases-loop-b : goal.decreases-loop-b
decreases-loop-b l = l.end - l.b

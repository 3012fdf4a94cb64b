-- `bdz_table::assign::sum_marked` meets its contract. Assumes nothing.
use Rattle.bdz_table.proofs.Words.{Summing}
use Rattle.bdz_table.proofs.assign.sum_marked.Given as goal

abbrev pub invariant-loop-w : goal.invariant-loop-w
invariant-loop-w l = Summing l.modulus l.us l.g l.s l.w-index

-- `bdz_table::peel::leave` meets its contract. Assumes nothing.
use Rattle.bdz_table.proofs.Leaving.{Leaving}
use Rattle.bdz_table.proofs.peel.leave.Given as goal

abbrev pub invariant-loop-w : goal.invariant-loop-w
invariant-loop-w l = Leaving l.us l.e l.initial.deg l.initial.xor_e l.initial.q l.qn l.deg l.xor_e l.q l.n l.w-index

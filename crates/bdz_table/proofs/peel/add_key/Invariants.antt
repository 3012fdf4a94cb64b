-- `bdz_table::peel::add_key` meets its contract. Assumes nothing.
use Rattle.bdz_table.proofs.AddKey.{Partly}
use Rattle.bdz_table.proofs.peel.add_key.Given as goal

abbrev pub invariant-loop-w : goal.invariant-loop-w
invariant-loop-w l = Partly l.us l.e l.initial.deg l.initial.xor_e l.deg l.xor_e l.w-index

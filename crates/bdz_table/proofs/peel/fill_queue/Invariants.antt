-- `bdz_table::peel::fill_queue` meets its contract. Assumes nothing.
use Rattle.bdz_table.proofs.Counting.{Filling}
use Rattle.bdz_table.proofs.peel.fill_queue.Given as goal

abbrev pub invariant-loop-v : goal.invariant-loop-v
invariant-loop-v l = Filling l.deg l.initial.q l.q l.n l.v

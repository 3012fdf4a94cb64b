-- `bdz_list::list::read_values` meets its contract. The loop's invariant: i words stand in values. Assumes nothing.
use Rattle.bdz_base.proofs.Buffers.{Filled}
use Rattle.bdz_list.specs.List.{list_value}
use Rattle.bdz_list.proofs.list.read_values.Given as goal

abbrev pub invariant-loop-i : goal.invariant-loop-i
invariant-loop-i l = Filled (list_value l.bytes) l.n l.i l.initial.values l.values

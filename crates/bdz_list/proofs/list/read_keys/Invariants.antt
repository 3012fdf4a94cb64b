-- `bdz_list::list::read_keys` meets its contract. The loop's invariant: i words stand in keys. Assumes nothing.
use Rattle.bdz_base.proofs.Buffers.{Filled}
use Rattle.bdz_list.specs.List.{list_key}
use Rattle.bdz_list.proofs.list.read_keys.Given as goal

abbrev pub invariant-loop-i : goal.invariant-loop-i
invariant-loop-i l = Filled (list_key l.kind l.bytes) l.n l.i l.initial.keys l.keys

-- `bdz_table::peel::count_keys` meets its contract. The loop's invariant: the tables are those of the first e keys. Assumes nothing.
use Rattle.bdz_table.proofs.Counting.{Counted}
use Rattle.bdz_table.specs.Keys.{graph_at}
use Rattle.std.proofs.Common.{length}
use Rattle.bdz_table.proofs.peel.count_keys.Given as goal

abbrev pub invariant-loop-e : goal.invariant-loop-e
invariant-loop-e l = Counted (graph_at l.graph) (length l.graph.keys.now) l.graph.m l.deg l.xor_e l.e

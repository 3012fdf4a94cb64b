-- The loop's invariant: the words of the pairs that are left are still to be assigned.
use Rattle.std.proofs.Common.{length}
use Rattle.bdz_table.specs.Keys.{graph_at}
use Rattle.bdz_table.proofs.Pairing.{Pairing, FrontOf}
use Rattle.bdz_table.proofs.pairs.assign_all.Given as goal

abbrev pub invariant-loop-p : goal.invariant-loop-p
invariant-loop-p g l =
    FrontOf l.order l.p-iterator.iter.rest.now
    × Pairing (graph_at l.graph) (length l.graph.keys.now) l.n l.graph.m l.modulus (goal.F-post g l.value) l.order l.initial.marks l.initial.g (length l.p-iterator.iter.rest.now) l.marks l.g

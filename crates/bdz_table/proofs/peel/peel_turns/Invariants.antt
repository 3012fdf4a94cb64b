-- `bdz_table::peel::peel_turns` meets its contract. The loop's invariant: what is left to run of the queue is what was to run at first.
-- Assumes nothing.
use Rattle.std.proofs.Common.{◌-◌, length}
use Rattle.bdz_table.specs.Keys.{graph_at}
use Rattle.bdz_table.proofs.Turning.{Turning}
use Rattle.bdz_table.proofs.peel.peel_turns.Given as goal

abbrev pub invariant-loop-qi : goal.invariant-loop-qi
invariant-loop-qi l = Turning (graph_at l.graph) (length l.graph.keys.now) l.graph.m l.deg l.xor_e l.q l.qn l.qi l.c

abbrev pub decreases-loop-qi : goal.decreases-loop-qi
decreases-loop-qi l = l.graph.m - l.qi

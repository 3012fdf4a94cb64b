-- `bdz_table::graph::Graph::vertices` meets its contract. Assumes nothing.
use Rattle.bdz_table.specs.Keys.{graph_of}
use Rattle.bdz_table.proofs.graph.Graph.vertices.Goals as goal

pub returns : goal.returns
unfolding graph_of
returns c = cc

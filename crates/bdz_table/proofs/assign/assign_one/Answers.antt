-- `bdz_table::assign::assign_one` meets its contract. Assumes nothing.
use Rattle.std.proofs.Common.{ap, ◌∙◌, arith}
use Rattle.bdz_table.specs.Assign.{sum_at}
use Rattle.bdz_table.proofs.Words.{reach_of, word_of}
use Rattle.bdz_table.proofs.assign.assign_one.Goals as goal

pub sum_marked-s-requires : goal.sum_marked-s-requires
sum_marked-s-requires c =
    let a = c.args in
    record { marked = c.requires.marked; reach = rw c.vertices-us.ensures (reach_of a.graph.kind a.graph.keys.now a.graph.seed a.graph.m a.p.edge a.g.now (omega arith) (omega arith)) }

pub returns : goal.returns
returns c =
    let a = c.args in
    word_of _ _ _ _ _ _ _ (c.sum_marked-s.ensures ∙ ap (sum_at a.g.now) c.vertices-us.ensures)

-- `bdz_table::lookup::compact_answer` meets its contract. Assumes nothing.
use Rattle.std.proofs.Common.{length, arith}
use Rattle.bdz_base.proofs.VertexLaws.{vertices_below}
use Rattle.bdz_base.specs.declared.verts.Kind.TheVariants.{Compact}
use Rattle.bdz_table.specs.Lookup.{compact_answer}
use Rattle.bdz_table.proofs.Passed.{words_there}
use Rattle.bdz_table.proofs.lookup.compact_answer.Goals as goal

pub sum_words-requires : goal.sum_words-requires
sum_words-requires c =
    let a = c.args in
    rw c.hash_verts-v.ensures (words_there Compact a.key a.seed a.m (length a.table.now) (omega arith) (omega arith))

pub compact_finish-requires : goal.compact_finish-requires
compact_finish-requires c =
    let a = c.args in
    (omega arith, rw c.hash_verts-v.ensures (vertices_below Compact a.key a.seed a.m (omega arith)), omega arith, omega arith)

pub returns : goal.returns
unfolding compact_answer
returns c = rw (c.compact_finish.ensures, c.sum_words.ensures, c.hash_verts-v.ensures)

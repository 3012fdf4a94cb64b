-- `bdz_table::lookup::assigned_answer` meets its contract. Assumes nothing.
use Rattle.std.proofs.Common.{length, arith}
use Rattle.bdz_base.specs.declared.verts.Kind.TheVariants.{Assigned}
use Rattle.bdz_table.specs.Lookup.{assigned_answer}
use Rattle.bdz_table.proofs.Passed.{words_there}
use Rattle.bdz_table.proofs.lookup.assigned_answer.Goals as goal

pub sum_words-requires : goal.sum_words-requires
sum_words-requires c =
    let a = c.args in
    rw c.hash_verts-v.ensures (words_there Assigned a.key a.seed a.m (length a.table.now) (omega arith) (omega arith))

pub returns : goal.returns
unfolding assigned_answer
returns c = rw (c.sum_words.ensures, c.hash_verts-v.ensures)

-- `bdz_table::lookup::answer_each` meets its contract. The loop's invariant: i answers stand in out. Assumes nothing.
use Rattle.std.proofs.Common.{arith}
use Rattle.bdz_base.proofs.Buffers.{filled_none, filled_more}
use Rattle.bdz_table.proofs.lookup.answer_each.Goals as goal

pub loop-i-init : goal.loop-i-init
loop-i-init g c = λ of h. filled_none of _ _

pub loop-i-preserved : goal.loop-i-preserved
loop-i-preserved g c = λ of h.
    filled_more (c.loop-i.invariant of h) (omega arith) (omega arith) (h c.loop-i.i _ (omega arith) c.answer.ensures)

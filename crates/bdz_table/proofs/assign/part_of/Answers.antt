-- `bdz_table::assign::part_of` meets its contract. Assumes nothing.
use Rattle.std.proofs.Common.{arith, le-ltb, lt-ltb}
use Rattle.bdz_table.specs.Assign.{part_of}
use Rattle.bdz_table.proofs.assign.part_of.Goals as goal

pub returns-then-v-part : goal.returns-then-v-part
unfolding part_of
returns-then-v-part c = (simp (lt-ltb _ _ c.if-v-part.true), omega arith)

pub returns-then-v-part-2 : goal.returns-then-v-part-2
unfolding part_of
returns-then-v-part-2 c = (simp (le-ltb _ _ c.if-v-part.false, lt-ltb _ _ c.if-v-part-2.true), omega arith)

pub returns : goal.returns
unfolding part_of
returns c = (simp (le-ltb _ _ c.if-v-part.false, le-ltb _ _ c.if-v-part-2.false), omega arith)

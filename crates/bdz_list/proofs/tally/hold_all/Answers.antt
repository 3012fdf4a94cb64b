-- `bdz_list::tally::hold_all` meets its contract. The loop's invariant: so many answers were looked at, and each bit
-- tells whether its number came. Assumes nothing.
use Rattle.std.proofs.Common.{arith}
use Rattle.bdz_list.proofs.Counts.{holding_none, holding_more, holding_all}
use Rattle.bdz_list.proofs.tally.hold_all.Goals as goal

pub loop-answer-init : goal.loop-answer-init
loop-answer-init c = holding_none _ _ c.requires

pub loop-answer-preserved : goal.loop-answer-preserved
loop-answer-preserved c = holding_more c.loop-answer.invariant (omega arith) c.hold-count.ensures

pub returns : goal.returns
returns c = holding_all c.loop-answer.invariant (omega arith)

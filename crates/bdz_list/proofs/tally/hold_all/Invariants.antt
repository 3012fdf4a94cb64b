-- `bdz_list::tally::hold_all` meets its contract. The loop's invariant: so many answers were looked at, and each bit tells whether its
-- number came. Assumes nothing.
use Rattle.bdz_list.proofs.Counts.{Holding}
use Rattle.bdz_list.proofs.tally.hold_all.Given as goal

abbrev pub invariant-loop-answer : goal.invariant-loop-answer
invariant-loop-answer l = Holding l.n l.answers l.seen l.count l.answer-index

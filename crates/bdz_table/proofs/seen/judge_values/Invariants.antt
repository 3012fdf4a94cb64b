-- `bdz_table::seen::judge_values` meets its contract. The loop's invariant: so many values were judged, and none refused. The
-- measure is how many are left. Assumes nothing.
use Rattle.bdz_table.proofs.Judging.{Judging}
use Rattle.bdz_table.proofs.seen.judge_values.Given as goal

abbrev pub invariant-loop-x : goal.invariant-loop-x
invariant-loop-x l = Judging l.modulus l.values l.seen l.x-index

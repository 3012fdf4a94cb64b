-- `bdz_list::tally::same_values` meets its contract. The loop's invariant: i places were compared. Assumes nothing.
use Rattle.bdz_list.proofs.Counts.{Comparing}
use Rattle.bdz_list.proofs.tally.same_values.Given as goal

abbrev pub invariant-loop-i : goal.invariant-loop-i
invariant-loop-i l = Comparing l.values l.answers l.same l.i

-- The loop's invariant: what is left to note of the first n pairs is what was to note at first.
use Rattle.bdz_table.proofs.Pairing.{Ordering}
use Rattle.bdz_table.proofs.pairs.note_order.Given as goal

abbrev pub invariant-loop-i : goal.invariant-loop-i
invariant-loop-i l = Ordering l.xor_e l.q l.n l.initial.order l.i l.order

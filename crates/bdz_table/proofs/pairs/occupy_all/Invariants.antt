-- The loop's invariant: the bits of the pairs that are left are still to be set.
use Rattle.std.proofs.Common.{length}
use Rattle.bdz_table.proofs.Pairing.{Setting, FrontOf}
use Rattle.bdz_table.proofs.pairs.occupy_all.Given as goal

abbrev pub invariant-loop-p : goal.invariant-loop-p
invariant-loop-p l =
    FrontOf l.order l.p-iterator.iter.rest.now
    × Setting l.n l.m l.bytes l.order l.initial.occ (length l.p-iterator.iter.rest.now) l.occ

-- `bdz_image::write::copy` meets its contract. The loop's invariant: i bytes are copied. Assumes nothing.
use lib.ListN.{length, get_or}
use Rattle.bdz_base.proofs.Buffers.{Filled}
use Rattle.bdz_image.proofs.write.copy.Given as goal

abbrev pub invariant-loop-i : goal.invariant-loop-i
invariant-loop-i l = Filled (λ k. get_or l.src k 0) (length l.src) l.i l.initial.dst l.dst

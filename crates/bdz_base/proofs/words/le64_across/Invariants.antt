-- `bdz_base::words::le64_across` meets its contract. The loop's invariant: the accumulator has the first i bytes. Assumes nothing.
use Rattle.std.proofs.Common.{◌≡◌, ◌-◌, ◌*◌, ◌≤◌}
use Rattle.bdz_base.specs.Pack.{bits_at}
use Rattle.bdz_base.proofs.words.le64_across.Given as goal

abbrev pub invariant-loop-i : goal.invariant-loop-i
invariant-loop-i l = (l.i ≤ 8) × (l.acc ≡ bits_at (l.i * 8) l.part 0)

abbrev pub decreases-loop-i : goal.decreases-loop-i
decreases-loop-i l = 8 - l.i

-- No more bytes came than there is room for. Each turn leaves less room, or is the last.
use Rattle.std.proofs.Common.{length, ◌-◌, ◌≤◌}
use Rattle.recorded.proofs.read_full.Given as goal

abbrev pub invariant-loop-done : goal.invariant-loop-done
invariant-loop-done g l = l.done ≤ length l.out

abbrev pub decreases-loop-done : goal.decreases-loop-done
decreases-loop-done g l = length l.initial.out - l.done

-- A record has at most 100 numbers.
use Rattle.std.proofs.Common.{◌≤◌}
use Rattle.recorded.proofs.lines.read_record.Given as goal

abbrev pub invariant-loop-byte : goal.invariant-loop-byte
invariant-loop-byte l = l.record.1.1.0 ≤ 100

-- The name is ASCII before each digit.
use Rattle.std.specs.Str.{IsAscii}
use Rattle.build_index.proofs.name_of.Given as goal

abbrev pub invariant-loop-i : goal.invariant-loop-i
invariant-loop-i l = IsAscii l.name

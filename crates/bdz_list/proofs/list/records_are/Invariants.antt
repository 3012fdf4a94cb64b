-- `bdz_list::list::records_are` meets its contract. The loop's invariant: i records start as they should. Assumes nothing.
use Prim.Native.Nat.{◌≤◌}
use mathlib.Core.Path.{◌≡◌}
use mathlib.Core.Bool.{true}
use Rattle.bdz_list.specs.List.{records_are}
use Rattle.bdz_list.proofs.list.records_are.Given as goal

abbrev pub invariant-loop-i : goal.invariant-loop-i
invariant-loop-i l = (l.i ≤ l.n) × (records_are l.kind l.bytes l.i ≡ true)

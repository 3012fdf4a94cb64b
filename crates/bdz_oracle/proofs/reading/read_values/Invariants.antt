-- `bdz_oracle::reading::read_values` meets its contract. The loop's invariant: i words stand in out. Assumes nothing.
use Rattle.bdz_oracle.specs.Building.{value_at}
use Rattle.bdz_base.specs.Buffer.{tab, over}
use lib.ListN.{length}
use Prim.Native.Nat.{◌≤◌}
use mathlib.Core.Path.{◌≡◌}
use Rattle.bdz_oracle.proofs.reading.read_values.Given as goal

abbrev pub invariant-loop-i : goal.invariant-loop-i
invariant-loop-i l = (l.i ≤ l.n) × (length l.out ≡ length l.initial.out) × (l.out ≡ over (tab (value_at l.values) l.i) l.initial.out)

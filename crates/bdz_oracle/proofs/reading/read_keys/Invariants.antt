-- `bdz_oracle::reading::read_keys` meets its contract. The loop's invariant: i words stand in out. Assumes nothing.
use Rattle.bdz_oracle.specs.Keys.{key_at}
use Rattle.bdz_base.specs.Buffer.{tab, over}
use lib.ListN.{length}
use Prim.Native.Nat.{◌≤◌}
use mathlib.Core.Path.{◌≡◌}
use Rattle.bdz_oracle.proofs.reading.read_keys.Given as goal

abbrev pub invariant-loop-i : goal.invariant-loop-i
invariant-loop-i l = (l.i ≤ l.n) × (length l.out ≡ length l.initial.out) × (l.out ≡ over (tab (key_at l.keys) l.i) l.initial.out)

-- `bdz_oracle::hashing::hash_all` meets its contract. The loop's invariant: the words of i keys stand in out. Assumes nothing.
use Rattle.bdz_oracle.specs.Keys.{vertex_at}
use Rattle.bdz_base.specs.Buffer.{tab, over}
use lib.ListN.{length}
use Prim.Native.Nat.{◌*◌, ◌≤◌}
use mathlib.Core.Path.{◌≡◌}
use Rattle.bdz_oracle.proofs.hashing.hash_all.Given as goal

abbrev pub invariant-loop-i : goal.invariant-loop-i
invariant-loop-i l =
    (l.i ≤ l.n) × (length l.out ≡ length l.initial.out) × (l.out ≡ over (tab (vertex_at l.kind l.keys l.seed l.m) (3 * l.i)) l.initial.out)

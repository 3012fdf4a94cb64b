-- `bdz_oracle::packing::bdz_unpack_g` meets its contract. The loop's invariant: v words stand in out. Assumes nothing.
use Rattle.bdz_base.specs.Pack.{word_at}
use Rattle.bdz_base.specs.Buffer.{tab, over}
use lib.ListN.{length}
use Prim.Native.Nat.{◌^◌, ◌≤◌, min}
use mathlib.Core.Path.{◌≡◌}
use Rattle.bdz_oracle.proofs.packing.bdz_unpack_g.Given as goal

abbrev pub invariant-loop-v : goal.invariant-loop-v
invariant-loop-v l =
    (l.v ≤ l.n) × (l.n ≡ min (length l.initial.out) (2 ^ 32)) × (length l.out ≡ length l.initial.out) × (l.out ≡ over (tab (word_at l.width l.body) l.v) l.initial.out)

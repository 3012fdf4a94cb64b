-- `bdz_base::pack::give_bytes` meets its contract. The loop's invariant: some bytes have gone out. Assumes nothing.
use Rattle.bdz_base.proofs.Packing.{Giving}
use Rattle.std.proofs.Common.{◌-◌, ◌*◌}
use Rattle.bdz_base.proofs.pack.give_bytes.Given as goal

abbrev pub invariant-loop-at : goal.invariant-loop-at
invariant-loop-at l =
    Giving l.carry l.initial.body (record { acc = l.acc; bits = l.carry.bits - (l.at - l.carry.at) * 8; at = l.at }) l.body

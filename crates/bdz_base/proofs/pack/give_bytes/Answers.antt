-- `bdz_base::pack::give_bytes` meets its contract. The loop's invariant: some bytes have gone out. Assumes nothing.
use Rattle.bdz_base.proofs.Packing.{giving_none, giving_more}
use Rattle.std.proofs.Common.{◌≡◌, ◌+◌, ◌-◌, ◌*◌, arith}
use Rattle.bdz_base.proofs.pack.give_bytes.Goals as goal

pub loop-at-init : goal.loop-at-init
loop-at-init c =
    let a = c.args in
    let none : a.carry.bits - (a.carry.at - a.carry.at) * 8 ≡ a.carry.bits = omega arith in
    rw none (giving_none a.carry a.body.now)

pub loop-at-preserved : goal.loop-at-preserved
loop-at-preserved c =
    let a = c.args in
    let l = c.loop-at in
    let k = a.carry.bits in
    let at = a.carry.at in
    let less : k - (l.at - at) * 8 - 8 ≡ k - (l.at + 1 - at) * 8 = omega arith in
    rw less at (giving_more l.invariant (omega arith) (omega arith) c.low_byte.ensures)

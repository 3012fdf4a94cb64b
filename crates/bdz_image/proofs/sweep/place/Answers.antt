-- `bdz_image::sweep::place` meets its contract. Assumes nothing.
use Rattle.std.proofs.Common.{arith}
use Rattle.bdz_image.proofs.Place.{halving_right, halving_left, halving_end}
use Rattle.bdz_image.proofs.sweep.place.Goals as goal

pub loop-lo-preserved-then-order-mid : goal.loop-lo-preserved-then-order-mid
loop-lo-preserved-then-order-mid c =
    let a = c.args in
    halving_right a.order.now a.x c.loop-lo.invariant (omega arith) (omega arith)

pub loop-lo-preserved : goal.loop-lo-preserved
loop-lo-preserved c =
    let a = c.args in
    halving_left a.order.now a.x c.loop-lo.invariant (omega arith) (omega arith)

pub returns : goal.returns
returns c =
    let a = c.args in
    halving_end a.order.now a.x c.loop-lo.invariant (omega arith)
